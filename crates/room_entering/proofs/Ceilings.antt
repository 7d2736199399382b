-- Whether a number is left.
use Rattle.std.proofs.Common.{◌≡◌, Bool, true, false, List, ◌∷◌, if◌then◌else◌, ◌++◌, refl, sym, ◌∙◌}
use Rattle.room_base.specs.declared.refusal.Refusal.TheVariants.{TooMany}
use Rattle.room_command.specs.declared.reply.Reply.{Reply}
use Rattle.room_disk.specs.Disk.{DiskView}
use Rattle.room_effects.specs.View.{RoomView}
use Rattle.room_effects.specs.Effects.{Effect, TurnOver}
use Rattle.catalog_spelling.specs.Snapshots.{snapshot_text}
use Rattle.room_catalog.specs.Held.{catalogue_of}
use Rattle.std.specs.Option.{is_some}
use Rattle.room_effects.specs.Entering.{ceiling, entering, is_at_ceiling, with_first_file}
use Rattle.room_effects.specs.Plans.{Plan, Do, Follows, refused_behind}

module _ (looks effects : List Effect) (reply answer : Reply) (room new : RoomView) (before now : DiskView) where
  -- the plan of one of two cases
  follows_case : (test : Bool) (one other : Plan) → (test ≡ true → Follows one answer room new before now) → (test ≡ false → Follows other answer room new before now)
      → Follows (if test then one else other) answer room new before now
  follows_case true one other first second = first refl
  follows_case false one other first second = second refl

  -- none is left
  pub follows_at_ceiling : is_at_ceiling room.catalogue ≡ true → Follows (refused_behind looks (TooMany ceiling)) answer room new before now
      → Follows (entering looks effects reply room) answer room new before now
  follows_at_ceiling at follows = follows_case (is_at_ceiling room.catalogue) (refused_behind looks (TooMany ceiling)) (Do (looks ++ with_first_file room effects) reply)
      (λ same. follows) (λ other. absurd (let no : ◌≡◌ {A = Bool} true false = sym at ∙ other in cc))

  -- one is left
  pub follows_below_ceiling : is_at_ceiling room.catalogue ≡ false → Follows (Do (looks ++ with_first_file room effects) reply) answer room new before now
      → Follows (entering looks effects reply room) answer room new before now
  follows_below_ceiling below follows = follows_case (is_at_ceiling room.catalogue) (refused_behind looks (TooMany ceiling)) (Do (looks ++ with_first_file room effects) reply)
      (λ same. absurd (let no : ◌≡◌ {A = Bool} true false = sym same ∙ below in cc)) (λ other. follows)

-- the first file comes before all effects that begin with an entry
pub first_file_append : (room : RoomView) (effects more : List Effect) → with_first_file room (effects ++ more) ≡ with_first_file room effects ++ more
first_file_append room effects more = by (is_some room.journal.current)
  where
    by : (test : Bool) → (if test then effects ++ more else (TurnOver (snapshot_text true (catalogue_of room.catalogue)) ∷ (effects ++ more)))
        ≡ (if test then effects else (TurnOver (snapshot_text true (catalogue_of room.catalogue)) ∷ effects)) ++ more
    by true = refl
    by false = refl
