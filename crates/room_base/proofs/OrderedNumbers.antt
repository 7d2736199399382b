-- What the comparison of numbers says.
use Rattle.std.proofs.Common.{◌≡◌, ◌≢◌, ℕ, ◌<◌, true, false, sym, ap, arith}
use Rattle.std.specs.Cmp.{nat_cmp_is}
use Rattle.std.specs.Ordering.{nat_cmp, eq_by_cmp, is_eq}
use Rattle.std.specs.declared.cmp.Ordering.TheVariants.{Less, Equal}
use Rattle.std.proofs.lemmas.Bool.Decides.{nat_tests}
use Rattle.std.proofs.lemmas.Cmp.{ranked, tied_itself, nat_cmp_total}

pub equal_numbers : (x y : ℕ) → nat_cmp x y ≡ Equal → x ≡ y
equal_numbers x y is = ranked x y Equal (sym is)

pub lesser_number : (x y : ℕ) → nat_cmp x y ≡ Less → x < y
lesser_number x y is = ranked x y Less (sym is)

pub compares_less : (x y : ℕ) → x < y → nat_cmp x y ≡ Less
compares_less x y below = sym (nat_cmp_is x y Less below)

pub same_number : (x : ℕ) → eq_by_cmp nat_cmp x x ≡ true
same_number x = ap is_eq (tied_itself nat_cmp_total x)

pub other_number : (x y : ℕ) → x ≢ y → eq_by_cmp nat_cmp x y ≡ false
other_number x y differs = grind (arith, nat_tests)
