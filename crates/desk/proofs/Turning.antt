-- One turn of a desk, over the objects that its calls take.
use Rattle.std.proofs.Common.{◌≡◌, ◌⊎◌, ℕ, ◌+◌, ◌≤◌, inl, inr, false, IsTrue, List, length, sym, subst}
use Rattle.std.specs.Prelude.{Ok}
use Rattle.room_base.specs.Faults.{Rose}
use Rattle.room_base.specs.Outside.{ClockView, SinkView, SourceView, Told}
use Rattle.room_command.specs.declared.reply.Reply.{Reply}
use Rattle.room_disk.specs.Disk.{DiskView, IsDisk}
use Rattle.room_effects.specs.View.{RoomView}
use Rattle.room_core.specs.Opening.{IsOpenedBy}
use Rattle.desk_request.specs.Requests.{RequestText}
use Rattle.desk.specs.Exchanges.{Called, Exchange, Refused}
use Rattle.desk.specs.Next.{ReadsNext}
use Rattle.desk.specs.Runs.{Around, FailsToOpen, Serves, around}
use Rattle.desk.specs.Steps.{IsCalled, IsRefused, OpensQuietly}
use Rattle.desk.specs.Taken.{AsksCommand}
use Rattle.desk.specs.declared.end.DeskEnd.{DeskEnd}
use Rattle.desk.specs.declared.end.DeskEnd.TheVariants as ends
use Rattle.desk.proofs.Ending.{ended_closed, ended_untimed}
use Rattle.desk.proofs.SoFar.{Going, SomeAnswered, SomeWritten, answered_call, answered_refusal, going_closed, going_open, open_or_closed, read_only}

-- a request is read, and answered
module _ {D C : Type 0} (disk_of : D → DiskView) (clock_of : C → ClockView) (count : ℕ) (old room : RoomView) (before : Around) (was input : SourceView) (out : SinkView)
    (disk new_disk : D) (clock new_clock : C) (bytes : List ℕ) (allowed : ℕ) (going : Going count old room before (around was out (clock_of clock) (disk_of disk)) bytes allowed)
    (rest : List ℕ) (after : ℕ) (request : RequestText) (later : was.faults ≤ input.faults) (tells : input.tells ≡ was.tells)
    (read : Told was.tells (ReadsNext was input bytes rest allowed after (Ok request))) (new : RoomView)
    (clock_later : (clock_of clock).faults ≤ (clock_of new_clock).faults) (clock_tells : (clock_of new_clock).tells ≡ (clock_of clock).tells) where
  abbrev mid : Around
  mid = around was out (clock_of clock) (disk_of disk)

  pub answered_some : (reply : Reply) → IsDisk (disk_of disk)
      → (IsRefused request reply × (new ≡ room) × (new_disk ≡ disk) × (new_clock ≡ clock))
      ⊎ IsCalled request reply room new (disk_of disk) (disk_of new_disk) (clock_of clock) (clock_of new_clock)
      → SomeAnswered going.exchanges reply old new before (around input out (clock_of new_clock) (disk_of new_disk)) rest after
  answered_some reply is_disk (inl refused) =
      let R : RoomView → Type 0 = λ one. SomeAnswered going.exchanges reply old one before (around input out (clock_of new_clock) (disk_of new_disk)) rest after in
      let M : D → Type 0 = λ one. SomeAnswered going.exchanges reply old room before (around input out (clock_of new_clock) (disk_of one)) rest after in
      let K : C → Type 0 = λ one. SomeAnswered going.exchanges reply old room before (around input out (clock_of one) (disk_of disk)) rest after in
      subst R (sym refused.1) (subst M (sym refused.2) (subst K (sym refused.3) (record {
        last = Refused request refused.0.refusal;
        answered = answered_refusal going.exchanges old room before mid bytes allowed going.so_far going.opens input rest after request later tells read reply refused.0;
      })))
  answered_some reply is_disk (inr called) = record {
    last = Called request _;
    answered = answered_call going.exchanges old room before mid bytes allowed going.so_far going.opens input rest after request later tells read reply new
        (clock_of new_clock) (disk_of new_disk) clock_later clock_tells is_disk called;
  }

  pub untimed_some : (new ≡ room) × (new_disk ≡ disk) × AsksCommand request × Rose (clock_of clock).faults (clock_of new_clock).faults
      × Told (clock_of clock).tells ((clock_of new_clock).moments ≡ (clock_of clock).moments)
      → Serves ends.ClockFault old new before (around input out (clock_of new_clock) (disk_of new_disk))
  untimed_some failed =
      let R : RoomView → Type 0 = λ one. Serves ends.ClockFault old one before (around input out (clock_of new_clock) (disk_of new_disk)) in
      let M : D → Type 0 = λ one. Serves ends.ClockFault old room before (around input out (clock_of new_clock) (disk_of one)) in
      subst R (sym failed.0) (subst M (sym failed.1)
      (ended_untimed going.exchanges old room before mid bytes allowed going.so_far input (clock_of new_clock) rest after request failed.2 going.opens later tells
      (read_only going.exchanges old room before mid bytes allowed going.so_far going.opens input rest after request later tells read)
      clock_later clock_tells failed.3 failed.4))

-- the reply was written, and the room is opened again where it is closed
module _ {D : Type 0} (disk_of : D → DiskView) (count : ℕ) (others : List Exchange) (counted : length others ≡ count) (old shut room : RoomView) (before : Around)
    (input : SourceView) (out : SinkView) (clock : ClockView) (disk new_disk : D) (bytes : List ℕ) (allowed : ℕ)
    (some : SomeWritten others old shut before (around input out clock (disk_of disk)) bytes allowed) (stays : IsTrue shut.is_open → (room ≡ shut) × (new_disk ≡ disk)) where
  pub going_on : IsDisk (disk_of disk) → (shut.is_open ≡ false → IsOpenedBy room (disk_of disk) (disk_of new_disk) × OpensQuietly (disk_of disk) (disk_of new_disk))
      → Going (count + 1) old room before (around input out clock (disk_of new_disk)) bytes allowed
  going_on is_disk reopens = elim (open_or_closed shut.is_open) [
    | inl opens ↦
        let same = stays opens in
        let R : RoomView → Type 0 = λ one. Going (count + 1) old one before (around input out clock (disk_of new_disk)) bytes allowed in
        let M : D → Type 0 = λ one. Going (count + 1) old shut before (around input out clock (disk_of one)) bytes allowed in
        subst R (sym same.0) (subst M (sym same.1) (going_open count others old shut before (around input out clock (disk_of disk)) bytes allowed counted opens some))
    | inr closed ↦
        let done = reopens closed in
        going_closed count others old shut before (around input out clock (disk_of disk)) bytes allowed counted closed room (disk_of new_disk) is_disk done.0 done.1 some
  ]

  pub ended_shut : (end : DeskEnd) → (IsTrue shut.is_open → ⊥)
      → (shut.is_open ≡ false → ((room ≡ shut) × FailsToOpen end (disk_of disk) (disk_of new_disk)) × OpensQuietly (disk_of disk) (disk_of new_disk))
      → Serves end old room before (around input out clock (disk_of new_disk))
  ended_shut end never reopens = elim (open_or_closed shut.is_open) [
    | inl opens ↦ absurd (never opens)
    | inr closed ↦
        let done = reopens closed in
        let R : RoomView → Type 0 = λ one. Serves end old one before (around input out clock (disk_of new_disk)) in
        subst R (sym done.0.0)
        (ended_closed _ old shut before (around input out clock (disk_of disk)) bytes allowed some.so_far end (disk_of new_disk) closed done.0.1 done.1)
  ]
