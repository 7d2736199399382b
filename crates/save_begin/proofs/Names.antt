-- The name without bytes.
use Rattle.std.proofs.Common.{rules, []}
use Rattle.room_base.specs.Text.{IsName}

pub none_is : IsName []
none_is = search rules
