-- What is said of a refusal: its number, its name, and its fields, from which its text is made.
use Rattle.std.specs.Prelude.{ℕ, List, [], ◌∷◌, ◌++◌, codes}
use Rattle.std.specs.Fmt.{decimal}
use Rattle.std.specs.List.{flat_map}
use Rattle.hex.specs.Hex.{encode_lower}
use Rattle.room_base.specs.declared.numbers.Ssid.{Ssid}
use Rattle.room_base.specs.declared.refusal.Refusal.{Refusal}
use Rattle.room_base.specs.declared.refusal.Refusal.TheVariants as refusals
use Rattle.room_base.specs.declared.refusal_fields.Field.{Field}
use Rattle.room_base.specs.declared.refusal_fields.FieldValue.{FieldValue}
use Rattle.room_base.specs.declared.refusal_fields.FieldValue.TheVariants as values
use Rattle.room_base.specs.declared.refusal_fields.Fields.{Fields}
use Rattle.room_base.specs.declared.refusal_fields.Fields.TheVariants as fields

-- what a field says
pub data Value : Type 0 where
  OfNumber : ℕ → Value
  OfText : List ℕ → Value
  OfDigest : List ℕ → Value
  OfSsids : List Ssid → Value

-- a field with its name
pub record NamedValue : Type 0 where
  pub name : List ℕ
  pub value : Value

abbrev pub refusal_number : Refusal → ℕ
refusal_number (refusals.Malformed field) = 1
refusal_number (refusals.NoSuch kind name) = 2
refusal_number (refusals.Exists kind name) = 3
refusal_number (refusals.InUse kind name) = 4
refusal_number (refusals.Skipped day) = 5
refusal_number (refusals.SetBusy ssid) = 6
refusal_number (refusals.NeedVolume pool) = 7
refusal_number (refusals.SessionsFull limit) = 8
refusal_number (refusals.NotOpen ssid) = 9
refusal_number (refusals.Gap expected) = 10
refusal_number (refusals.PieceTooLong limit) = 11
refusal_number (refusals.BadStream offset) = 12
refusal_number (refusals.NotEnded offset) = 13
refusal_number (refusals.WrongLength kept) = 14
refusal_number (refusals.WrongDigest kept) = 15
refusal_number (refusals.SlotEmpty slot) = 16
refusal_number (refusals.DriveBusy drive volid) = 17
refusal_number (refusals.Unlabelled cart) = 18
refusal_number (refusals.Strange volid) = 19
refusal_number (refusals.LabelPending volid found) = 20
refusal_number (refusals.Mounted drive) = 21
refusal_number (refusals.Needed ssid) = 22
refusal_number (refusals.Offsite volid) = 23
refusal_number (refusals.DamagedBlock volid block) = 24
refusal_number (refusals.Purged ssid) = 25
refusal_number (refusals.BaseGone ssid) = 26
refusal_number (refusals.HasCopy volid) = 27
refusal_number (refusals.NoFile path) = 28
refusal_number (refusals.TooMany limit) = 29
refusal_number (refusals.DeviceFault file closed) = 30
refusal_number refusals.JournalFault = 31
refusal_number refusals.NoMemory = 32

abbrev pub refusal_name : Refusal → List ℕ
refusal_name (refusals.Malformed field) = codes "Malformed"
refusal_name (refusals.NoSuch kind name) = codes "NoSuch"
refusal_name (refusals.Exists kind name) = codes "Exists"
refusal_name (refusals.InUse kind name) = codes "InUse"
refusal_name (refusals.Skipped day) = codes "Skipped"
refusal_name (refusals.SetBusy ssid) = codes "SetBusy"
refusal_name (refusals.NeedVolume pool) = codes "NeedVolume"
refusal_name (refusals.SessionsFull limit) = codes "SessionsFull"
refusal_name (refusals.NotOpen ssid) = codes "NotOpen"
refusal_name (refusals.Gap expected) = codes "Gap"
refusal_name (refusals.PieceTooLong limit) = codes "PieceTooLong"
refusal_name (refusals.BadStream offset) = codes "BadStream"
refusal_name (refusals.NotEnded offset) = codes "NotEnded"
refusal_name (refusals.WrongLength kept) = codes "WrongLength"
refusal_name (refusals.WrongDigest kept) = codes "WrongDigest"
refusal_name (refusals.SlotEmpty slot) = codes "SlotEmpty"
refusal_name (refusals.DriveBusy drive volid) = codes "DriveBusy"
refusal_name (refusals.Unlabelled cart) = codes "Unlabelled"
refusal_name (refusals.Strange volid) = codes "Strange"
refusal_name (refusals.LabelPending volid found) = codes "LabelPending"
refusal_name (refusals.Mounted drive) = codes "Mounted"
refusal_name (refusals.Needed ssid) = codes "Needed"
refusal_name (refusals.Offsite volid) = codes "Offsite"
refusal_name (refusals.DamagedBlock volid block) = codes "DamagedBlock"
refusal_name (refusals.Purged ssid) = codes "Purged"
refusal_name (refusals.BaseGone ssid) = codes "BaseGone"
refusal_name (refusals.HasCopy volid) = codes "HasCopy"
refusal_name (refusals.NoFile path) = codes "NoFile"
refusal_name (refusals.TooMany limit) = codes "TooMany"
refusal_name (refusals.DeviceFault file closed) = codes "DeviceFault"
refusal_name refusals.JournalFault = codes "JournalFault"
refusal_name refusals.NoMemory = codes "NoMemory"

abbrev pub number_named : List ℕ → ℕ → NamedValue
number_named name number = record { name = name; value = OfNumber number }

abbrev pub text_named : List ℕ → List ℕ → NamedValue
text_named name text = record { name = name; value = OfText text }

-- a kind of thing and a name of one
abbrev pub kind_and_name : List ℕ → List ℕ → List NamedValue
kind_and_name kind name = text_named (codes "kind") kind ∷ text_named (codes "name") name ∷ []

abbrev pub refusal_fields : Refusal → List NamedValue
refusal_fields (refusals.Malformed field) = text_named (codes "field") field ∷ []
refusal_fields (refusals.NoSuch kind name) = kind_and_name kind name
refusal_fields (refusals.Exists kind name) = kind_and_name kind name
refusal_fields (refusals.InUse kind name) = kind_and_name kind name
refusal_fields (refusals.Skipped day) = number_named (codes "day") day ∷ []
refusal_fields (refusals.SetBusy ssid) = number_named (codes "ssid") ssid.0 ∷ []
refusal_fields (refusals.NeedVolume pool) = text_named (codes "pool") pool ∷ []
refusal_fields (refusals.SessionsFull limit) = number_named (codes "limit") limit ∷ []
refusal_fields (refusals.NotOpen ssid) = number_named (codes "ssid") ssid.0 ∷ []
refusal_fields (refusals.Gap expected) = number_named (codes "expected") expected ∷ []
refusal_fields (refusals.PieceTooLong limit) = number_named (codes "limit") limit ∷ []
refusal_fields (refusals.BadStream offset) = number_named (codes "offset") offset ∷ []
refusal_fields (refusals.NotEnded offset) = number_named (codes "offset") offset ∷ []
refusal_fields (refusals.WrongLength kept) = number_named (codes "kept") kept ∷ []
refusal_fields (refusals.WrongDigest kept) =
    record { name = codes "kept"; value = OfDigest kept } ∷ []
refusal_fields (refusals.SlotEmpty slot) = number_named (codes "slot") slot ∷ []
refusal_fields (refusals.DriveBusy drive volid) =
    number_named (codes "drive") drive ∷ number_named (codes "volid") volid.0 ∷ []
refusal_fields (refusals.Unlabelled cart) = number_named (codes "cart") cart.0 ∷ []
refusal_fields (refusals.Strange volid) = number_named (codes "volid") volid.0 ∷ []
refusal_fields (refusals.LabelPending volid found) =
    number_named (codes "volid") volid.0 ∷ number_named (codes "found") found.0 ∷ []
refusal_fields (refusals.Mounted drive) = number_named (codes "drive") drive ∷ []
refusal_fields (refusals.Needed ssid) = number_named (codes "ssid") ssid.0 ∷ []
refusal_fields (refusals.Offsite volid) = number_named (codes "volid") volid.0 ∷ []
refusal_fields (refusals.DamagedBlock volid block) =
    number_named (codes "volid") volid.0 ∷ number_named (codes "block") block ∷ []
refusal_fields (refusals.Purged ssid) = number_named (codes "ssid") ssid.0 ∷ []
refusal_fields (refusals.BaseGone ssid) = number_named (codes "ssid") ssid.0 ∷ []
refusal_fields (refusals.HasCopy volid) = number_named (codes "volid") volid.0 ∷ []
refusal_fields (refusals.NoFile path) = text_named (codes "path") path ∷ []
refusal_fields (refusals.TooMany limit) = number_named (codes "limit") limit ∷ []
refusal_fields (refusals.DeviceFault file closed) =
    number_named (codes "file") file ∷ record { name = codes "closed"; value = OfSsids closed } ∷ []
refusal_fields refusals.JournalFault = []
refusal_fields refusals.NoMemory = []

-- ---- the text

-- a session behind another one
abbrev pub ssid_behind : Ssid → List ℕ
ssid_behind ssid = codes "," ++ decimal ssid.0

-- sessions with commas between
abbrev pub ssids_text : List Ssid → List ℕ
ssids_text [] = []
ssids_text (first ∷ others) = decimal first.0 ++ flat_map ssid_behind others

-- a digest in hexadecimal digits
abbrev pub value_text : Value → List ℕ
value_text (OfNumber number) = decimal number
value_text (OfText text) = text
value_text (OfDigest digest) = encode_lower digest
value_text (OfSsids ssids) = ssids_text ssids

-- what stands before a field's value
abbrev pub field_label : List ℕ → List ℕ
field_label name = codes " " ++ (name ++ codes "=")

abbrev pub field_text : NamedValue → List ℕ
field_text field = field_label field.name ++ value_text field.value

abbrev pub title_text : Refusal → List ℕ
title_text refusal = decimal (refusal_number refusal) ++ (codes " " ++ refusal_name refusal)

-- its number, its name, and ` field=value` for each of its fields
abbrev pub refusal_text : Refusal → List ℕ
refusal_text refusal = title_text refusal ++ flat_map field_text (refusal_fields refusal)

-- ---- fields as a refusal lends them

abbrev pub value_of : FieldValue → Value
value_of (values.Number number) = OfNumber number
value_of (values.Text text) = OfText text.now
value_of (values.Digest digest) = OfDigest digest.now
value_of (values.Ssids ssids) = OfSsids ssids.now

abbrev pub named_value : Field → NamedValue
named_value field = record { name = field.name.now; value = value_of field.value }

abbrev pub list_of_fields : Fields → List NamedValue
list_of_fields fields.None = []
list_of_fields (fields.One field) = named_value field ∷ []
list_of_fields (fields.Two first second) = named_value first ∷ named_value second ∷ []
