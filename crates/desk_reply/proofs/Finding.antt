-- What is found by its key in the object of a refusal.
use Rattle.std.proofs.Common.{◌≡◌, Some, codes, refl}
use Rattle.std.specs.List.{AllByRecursion}
use Rattle.json.specs.Find.{get}
use Rattle.json.specs.Json.{string}
use Rattle.room_base.specs.Refusals.{refusal_number, refusal_name, refusal_fields}
use Rattle.room_base.specs.declared.refusal.Refusal.{Refusal}
use Rattle.room_base.specs.declared.refusal.Refusal.TheVariants as refusals
use Rattle.desk_reply.specs.Refused.{field_json, refusal_json}
use Rattle.desk_reply.specs.Values.{whole}

pub number_found : (refusal : Refusal)
    → get (codes "no") (refusal_json refusal) ≡ Some (whole (refusal_number refusal))
number_found (refusals.Malformed field) = refl
number_found (refusals.NoSuch kind name) = refl
number_found (refusals.Exists kind name) = refl
number_found (refusals.InUse kind name) = refl
number_found (refusals.Skipped day) = refl
number_found (refusals.SetBusy ssid) = refl
number_found (refusals.NeedVolume pool) = refl
number_found (refusals.SessionsFull limit) = refl
number_found (refusals.NotOpen ssid) = refl
number_found (refusals.Gap expected) = refl
number_found (refusals.PieceTooLong limit) = refl
number_found (refusals.BadStream offset) = refl
number_found (refusals.NotEnded offset) = refl
number_found (refusals.WrongLength kept) = refl
number_found (refusals.WrongDigest kept) = refl
number_found (refusals.SlotEmpty slot) = refl
number_found (refusals.DriveBusy drive volid) = refl
number_found (refusals.Unlabelled cart) = refl
number_found (refusals.Strange volid) = refl
number_found (refusals.LabelPending volid found) = refl
number_found (refusals.Mounted drive) = refl
number_found (refusals.Needed ssid) = refl
number_found (refusals.Offsite volid) = refl
number_found (refusals.DamagedBlock volid block) = refl
number_found (refusals.Purged ssid) = refl
number_found (refusals.BaseGone ssid) = refl
number_found (refusals.HasCopy volid) = refl
number_found (refusals.NoFile path) = refl
number_found (refusals.TooMany limit) = refl
number_found (refusals.DeviceFault file closed) = refl
number_found refusals.JournalFault = refl
number_found refusals.NoMemory = refl

pub name_found : (refusal : Refusal)
    → get (codes "refusal") (refusal_json refusal) ≡ Some (string (refusal_name refusal))
name_found (refusals.Malformed field) = refl
name_found (refusals.NoSuch kind name) = refl
name_found (refusals.Exists kind name) = refl
name_found (refusals.InUse kind name) = refl
name_found (refusals.Skipped day) = refl
name_found (refusals.SetBusy ssid) = refl
name_found (refusals.NeedVolume pool) = refl
name_found (refusals.SessionsFull limit) = refl
name_found (refusals.NotOpen ssid) = refl
name_found (refusals.Gap expected) = refl
name_found (refusals.PieceTooLong limit) = refl
name_found (refusals.BadStream offset) = refl
name_found (refusals.NotEnded offset) = refl
name_found (refusals.WrongLength kept) = refl
name_found (refusals.WrongDigest kept) = refl
name_found (refusals.SlotEmpty slot) = refl
name_found (refusals.DriveBusy drive volid) = refl
name_found (refusals.Unlabelled cart) = refl
name_found (refusals.Strange volid) = refl
name_found (refusals.LabelPending volid found) = refl
name_found (refusals.Mounted drive) = refl
name_found (refusals.Needed ssid) = refl
name_found (refusals.Offsite volid) = refl
name_found (refusals.DamagedBlock volid block) = refl
name_found (refusals.Purged ssid) = refl
name_found (refusals.BaseGone ssid) = refl
name_found (refusals.HasCopy volid) = refl
name_found (refusals.NoFile path) = refl
name_found (refusals.TooMany limit) = refl
name_found (refusals.DeviceFault file closed) = refl
name_found refusals.JournalFault = refl
name_found refusals.NoMemory = refl

pub fields_found : (refusal : Refusal)
    → AllByRecursion (λ field. get field.name (refusal_json refusal) ≡ Some (field_json field.value)) (refusal_fields refusal)
fields_found (refusals.Malformed field) = (refl, tt)
fields_found (refusals.NoSuch kind name) = (refl, (refl, tt))
fields_found (refusals.Exists kind name) = (refl, (refl, tt))
fields_found (refusals.InUse kind name) = (refl, (refl, tt))
fields_found (refusals.Skipped day) = (refl, tt)
fields_found (refusals.SetBusy ssid) = (refl, tt)
fields_found (refusals.NeedVolume pool) = (refl, tt)
fields_found (refusals.SessionsFull limit) = (refl, tt)
fields_found (refusals.NotOpen ssid) = (refl, tt)
fields_found (refusals.Gap expected) = (refl, tt)
fields_found (refusals.PieceTooLong limit) = (refl, tt)
fields_found (refusals.BadStream offset) = (refl, tt)
fields_found (refusals.NotEnded offset) = (refl, tt)
fields_found (refusals.WrongLength kept) = (refl, tt)
fields_found (refusals.WrongDigest kept) = (refl, tt)
fields_found (refusals.SlotEmpty slot) = (refl, tt)
fields_found (refusals.DriveBusy drive volid) = (refl, (refl, tt))
fields_found (refusals.Unlabelled cart) = (refl, tt)
fields_found (refusals.Strange volid) = (refl, tt)
fields_found (refusals.LabelPending volid found) = (refl, (refl, tt))
fields_found (refusals.Mounted drive) = (refl, tt)
fields_found (refusals.Needed ssid) = (refl, tt)
fields_found (refusals.Offsite volid) = (refl, tt)
fields_found (refusals.DamagedBlock volid block) = (refl, (refl, tt))
fields_found (refusals.Purged ssid) = (refl, tt)
fields_found (refusals.BaseGone ssid) = (refl, tt)
fields_found (refusals.HasCopy volid) = (refl, tt)
fields_found (refusals.NoFile path) = (refl, tt)
fields_found (refusals.TooMany limit) = (refl, tt)
fields_found (refusals.DeviceFault file closed) = (refl, (refl, tt))
fields_found refusals.JournalFault = tt
fields_found refusals.NoMemory = tt
