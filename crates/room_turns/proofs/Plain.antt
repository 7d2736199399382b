-- Effects that neither write a label nor put a volume in.
use Rattle.std.proofs.Common.{◌≡◌, ℕ, ◌+◌, ◌≤◌, List, [], ◌∷◌, ◌++◌, arith}
use Rattle.std.proofs.lemmas.Bool.{cond_both}
use Rattle.std.specs.List.{AllByRecursion}
use Rattle.std.specs.Option.{is_some}
use Rattle.std.specs.Prelude.{true}
use Rattle.catalog_spelling.specs.Snapshots.{snapshot_text}
use Rattle.room_catalog.specs.Held.{catalogue_of}
use Rattle.room_command.specs.declared.answer.Answer.{Answer}
use Rattle.room_command.specs.declared.reply.Reply.TheVariants as replies
use Rattle.room_effects.specs.View.{RoomView}
use Rattle.room_effects.specs.Effects.{Close, Commit, Done, Effect, Enter, EnterPart, Look, Open, Push, PutIn, Take, TakeOut, TurnOver, WriteLabel, after_done}
use Rattle.room_effects.specs.Running.{Known, known_behind}
use Rattle.room_effects.specs.Entering.{with_first_file}
use Rattle.room_effects.specs.Plans.{Do}
use Rattle.room_turns.specs.Orderly.{AreFoundedIn, IsOrderly, entries_in}

abbrev pub IsPlain : Effect → Type 0
IsPlain (WriteLabel label) = ⊥
IsPlain (PutIn drive volume) = ⊥
IsPlain _ = Unit {0}

abbrev pub ArePlain : List Effect → Type 0
ArePlain effects = AllByRecursion IsPlain effects

pub plain_append : (first more : List Effect) → ArePlain first → ArePlain more → ArePlain (first ++ more)
plain_append [] more are next = next
plain_append (effect ∷ first) more are next = (are.0, plain_append first more are.1 next)

pub plain_founded : (known : Known) (effects : List Effect) (room : RoomView) → ArePlain effects → AreFoundedIn known effects room
plain_founded known [] room are = tt
plain_founded known (Enter m change ∷ effects) room are = (tt, plain_founded (known_behind known (Done (Enter m change)) room) effects (after_done (Enter m change) room) are.1)
plain_founded known (EnterPart m ssid part index ∷ effects) room are = (tt, plain_founded (known_behind known (Done (EnterPart m ssid part index)) room) effects (after_done (EnterPart m ssid part index) room) are.1)
plain_founded known (TurnOver snapshot ∷ effects) room are = (tt, plain_founded (known_behind known (Done (TurnOver snapshot)) room) effects (after_done (TurnOver snapshot) room) are.1)
plain_founded known (Commit drive asking ∷ effects) room are = (tt, plain_founded (known_behind known (Done (Commit drive asking)) room) effects (after_done (Commit drive asking) room) are.1)
plain_founded known (Look cart seen ∷ effects) room are = (tt, plain_founded (known_behind known (Done (Look cart seen)) room) effects (after_done (Look cart seen) room) are.1)
plain_founded known (WriteLabel label ∷ effects) room are = absurd are.0
plain_founded known (Push drive ssid copy offset bytes ∷ effects) room are = (tt, plain_founded (known_behind known (Done (Push drive ssid copy offset bytes)) room) effects (after_done (Push drive ssid copy offset bytes) room) are.1)
plain_founded known (PutIn drive volume ∷ effects) room are = absurd are.0
plain_founded known (TakeOut drive ∷ effects) room are = (tt, plain_founded (known_behind known (Done (TakeOut drive)) room) effects (after_done (TakeOut drive) room) are.1)
plain_founded known (Open head ∷ effects) room are = (tt, plain_founded (known_behind known (Done (Open head)) room) effects (after_done (Open head) room) are.1)
plain_founded known (Take ssid piece ∷ effects) room are = (tt, plain_founded (known_behind known (Done (Take ssid piece)) room) effects (after_done (Take ssid piece) room) are.1)
plain_founded known (Close ssid ∷ effects) room are = (tt, plain_founded (known_behind known (Done (Close ssid)) room) effects (after_done (Close ssid) room) are.1)

pub entries_append : (first more : List Effect) → entries_in (first ++ more) ≡ entries_in first + entries_in more
entries_append [] more = omega arith
entries_append (Enter m change ∷ first) more = omega (arith, entries_append first more)
entries_append (EnterPart m ssid part index ∷ first) more = entries_append first more
entries_append (TurnOver snapshot ∷ first) more = entries_append first more
entries_append (Commit drive asking ∷ first) more = entries_append first more
entries_append (Look cart seen ∷ first) more = entries_append first more
entries_append (WriteLabel label ∷ first) more = entries_append first more
entries_append (Push drive ssid copy offset bytes ∷ first) more = entries_append first more
entries_append (PutIn drive volume ∷ first) more = entries_append first more
entries_append (TakeOut drive ∷ first) more = entries_append first more
entries_append (Open head ∷ first) more = entries_append first more
entries_append (Take ssid piece ∷ first) more = entries_append first more
entries_append (Close ssid ∷ first) more = entries_append first more

-- what is known of a list of effects: they are plain, and enter so many changes
pub record IsPlainWith (count : ℕ) (effects : List Effect) : Type 0 where
  pub plain : ArePlain effects
  pub entries : entries_in effects ≤ count

pub both_plain : (one other : ℕ) (first more : List Effect) → IsPlainWith one first → IsPlainWith other more → IsPlainWith (one + other) (first ++ more)
both_plain one other first more are next = record {
  plain = plain_append first more are.plain next.plain;
  entries = omega (arith, are.entries, next.entries, entries_append first more);
}

pub first_file_plain : (count : ℕ) (room : RoomView) (effects : List Effect) → IsPlainWith count effects → IsPlainWith count (with_first_file room effects)
first_file_plain count room effects are =
    let snapshot = snapshot_text true (catalogue_of room.catalogue) in
    cond_both (is_some room.journal.current) effects (TurnOver snapshot ∷ effects) (λ (list : List Effect). IsPlainWith count list) (λ some. are)
    (λ none. record { plain = (tt, are.plain); entries = are.entries })

pub plain_orderly : (known : Known) (effects : List Effect) (answer : Answer) (room : RoomView) → IsPlainWith 2 effects → IsOrderly known (Do effects (replies.Done answer)) room
plain_orderly known effects answer room are = record { founded = plain_founded known effects room are.plain; few = are.entries; replied = tt }
