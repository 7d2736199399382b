-- How a write through a lent list comes back.
use Rattle.std.specs.Borrow.{Lends, MutBor, Fml, RattleType}
use Rattle.std.specs.contracts.alloc.Global as global
use Rattle.std.specs.contracts.vec.Vec as vec
use Rattle.std.specs.contracts.impls.GlobalAllocator.TheImpl.{ghosts}
use Rattle.room_base.specs.contracts.items.Items as items

-- a list as the logic holds it
abbrev pub list_row : RattleType → RattleType
list_row T = vec.the_row T global.the_row ghosts

-- the lender ends as the items of the list that was left behind r
abbrev pub LendsItems : (T : RattleType) → MutBor (items.the_row T).Denot
    → MutBor (list_row T).Denot → Fml
LendsItems T s r = Lends (items.the_row T) (list_row T) s r (λ v. v.items)
