-- Plans behind checks, and behind reads.
use Rattle.std.specs.Prelude.{◌≡◌, ◌⊎◌, Bool, List, [], ◌∷◌, Result, Ok, Err, if◌then◌else◌}
use Rattle.room_base.specs.declared.refusal.Refusal.{Refusal}
use Rattle.room_base.specs.declared.refusal.Refusal.TheVariants.{NoMemory}
use Rattle.room_command.specs.declared.reply.Reply.TheVariants.{Refused}
use Rattle.room_effects.specs.Effects.{Effect}
use Rattle.room_effects.specs.Plans.{Plan, Refuse, Do}

-- refused unless the test holds; else what the checks behind it come to
abbrev pub unless : {X : Type 0} → Bool → Refusal → Result X Refusal → Result X Refusal
unless test refusal next = if test then next else Err refusal

-- one check behind another
abbrev pub behind_check : {X Y : Type 0} → Result X Refusal → (X → Result Y Refusal)
    → Result Y Refusal
behind_check (Ok value) next = next value
behind_check (Err refusal) next = Err refusal

-- refused, or what is planned with what the checks come to
abbrev pub checked : {X : Type 0} → Result X Refusal → (X → Plan) → Plan
checked (Ok value) next = next value
checked (Err refusal) next = Refuse refusal

-- what is planned behind a read
abbrev pub behind : Effect → Plan → Plan
behind look (Refuse refusal) = Do (look ∷ []) (Refused refusal)
behind look (Do effects reply) = Do (look ∷ effects) reply

-- A call answers what checks come to, or that there is no memory.
abbrev pub ComesTo : {X : Type 0} → Result X Refusal → Result X Refusal → Type 0
ComesTo expected result = (result ≡ expected) ⊎ (result ≡ Err NoMemory)
