-- What was refused is told by the text.
use Rattle.std.proofs.Common.{◌≡◌, ◌<◌, ◌^◌, Some, codes, sym, ap, ◌∙◌, arith}
use Rattle.std.proofs.lemmas.Fmt.{decimal_injective}
use Rattle.json.specs.Find.{get}
use Rattle.json.specs.Json.{Json}
use Rattle.room_base.specs.Refusals.{refusal_number}
use Rattle.room_base.specs.declared.refusal.Refusal.{Refusal}
use Rattle.room_base.specs.declared.refusal.Refusal.TheVariants as refusals
use Rattle.room_command.specs.declared.answer.Answer.{Answer}
use Rattle.room_command.specs.declared.reply.Reply.TheVariants.{Done, Refused}
use Rattle.std.specs.Fmt.{decimal}
use Rattle.desk_reply.specs.Refused.{status_of_number, refusal_json}
use Rattle.desk_reply.specs.Replies.{IsReadable, reply_bytes}
use Rattle.desk_reply.specs.Values.{whole}
use Rattle.desk_reply.proofs.Finding.{number_found}
use Rattle.desk_reply.proofs.Framing.{same_status, same_value}

number_small : (refusal : Refusal) → refusal_number refusal < 2 ^ 64
number_small (refusals.Malformed field) = omega arith
number_small (refusals.NoSuch kind name) = omega arith
number_small (refusals.Exists kind name) = omega arith
number_small (refusals.InUse kind name) = omega arith
number_small (refusals.Skipped day) = omega arith
number_small (refusals.SetBusy ssid) = omega arith
number_small (refusals.NeedVolume pool) = omega arith
number_small (refusals.SessionsFull limit) = omega arith
number_small (refusals.NotOpen ssid) = omega arith
number_small (refusals.Gap expected) = omega arith
number_small (refusals.PieceTooLong limit) = omega arith
number_small (refusals.BadStream offset) = omega arith
number_small (refusals.NotEnded offset) = omega arith
number_small (refusals.WrongLength kept) = omega arith
number_small (refusals.WrongDigest kept) = omega arith
number_small (refusals.SlotEmpty slot) = omega arith
number_small (refusals.DriveBusy drive volid) = omega arith
number_small (refusals.Unlabelled cart) = omega arith
number_small (refusals.Strange volid) = omega arith
number_small (refusals.LabelPending volid found) = omega arith
number_small (refusals.Mounted drive) = omega arith
number_small (refusals.Needed ssid) = omega arith
number_small (refusals.Offsite volid) = omega arith
number_small (refusals.DamagedBlock volid block) = omega arith
number_small (refusals.Purged ssid) = omega arith
number_small (refusals.BaseGone ssid) = omega arith
number_small (refusals.HasCopy volid) = omega arith
number_small (refusals.NoFile path) = omega arith
number_small (refusals.TooMany limit) = omega arith
number_small (refusals.DeviceFault file closed) = omega arith
number_small refusals.JournalFault = omega arith
number_small refusals.NoMemory = omega arith

not_done : (refusal : Refusal) → 200 ≡ status_of_number (refusal_number refusal) → ⊥
not_done (refusals.Malformed field) same = omega arith
not_done (refusals.NoSuch kind name) same = omega arith
not_done (refusals.Exists kind name) same = omega arith
not_done (refusals.InUse kind name) same = omega arith
not_done (refusals.Skipped day) same = omega arith
not_done (refusals.SetBusy ssid) same = omega arith
not_done (refusals.NeedVolume pool) same = omega arith
not_done (refusals.SessionsFull limit) same = omega arith
not_done (refusals.NotOpen ssid) same = omega arith
not_done (refusals.Gap expected) same = omega arith
not_done (refusals.PieceTooLong limit) same = omega arith
not_done (refusals.BadStream offset) same = omega arith
not_done (refusals.NotEnded offset) same = omega arith
not_done (refusals.WrongLength kept) same = omega arith
not_done (refusals.WrongDigest kept) same = omega arith
not_done (refusals.SlotEmpty slot) same = omega arith
not_done (refusals.DriveBusy drive volid) same = omega arith
not_done (refusals.Unlabelled cart) same = omega arith
not_done (refusals.Strange volid) same = omega arith
not_done (refusals.LabelPending volid found) same = omega arith
not_done (refusals.Mounted drive) same = omega arith
not_done (refusals.Needed ssid) same = omega arith
not_done (refusals.Offsite volid) same = omega arith
not_done (refusals.DamagedBlock volid block) same = omega arith
not_done (refusals.Purged ssid) same = omega arith
not_done (refusals.BaseGone ssid) same = omega arith
not_done (refusals.HasCopy volid) same = omega arith
not_done (refusals.NoFile path) same = omega arith
not_done (refusals.TooMany limit) same = omega arith
not_done (refusals.DeviceFault file closed) same = omega arith
not_done refusals.JournalFault same = omega arith
not_done refusals.NoMemory same = omega arith

pub done_or_refused : (answer : Answer) (refusal : Refusal)
    → reply_bytes (Done answer) ≡ reply_bytes (Refused refusal) → ⊥
done_or_refused answer refusal same = not_done refusal (same_status (Done answer) (Refused refusal) same)

same_digits : (one other : Refusal) → refusal_json one ≡ refusal_json other
    → decimal (refusal_number one) ≡ decimal (refusal_number other)
same_digits one other same =
    let found : Some (whole (refusal_number one)) ≡ Some (whole (refusal_number other)) =
    sym (number_found one) ∙ ap (λ (value : Json). get (codes "no") value) same ∙ number_found other in
    cc

pub same_number : (one other : Refusal) → IsReadable (Refused one) → IsReadable (Refused other)
    → reply_bytes (Refused one) ≡ reply_bytes (Refused other) → refusal_number one ≡ refusal_number other
same_number one other readable other_readable same =
    decimal_injective _ _ (number_small one) (number_small other)
    (same_digits one other (same_value (Refused one) (Refused other) readable other_readable same))
