-- Takes of a source of which so many bytes may be taken: none, and one behind another.
use Rattle.std.specs.Prelude.{ℕ, ◌+◌, Bool, IsTrue, [], ◌++◌, length, refl}
use Rattle.std.proofs.Common.{sym, ap, ◌∙◌, subst, add_assoc, zero-add, append-nil, length-append}
use Rattle.room_base.specs.Outside.{SourceView}
use Rattle.desk_request.proofs.Filling.{took_then}
use Rattle.desk.specs.Limits.{TakesAllowed, TakesOfAllowed}

pub takes_of_none : (source : SourceView) (allowed : ℕ)
    → TakesOfAllowed source source allowed allowed
takes_of_none source allowed = record {
  tells = refl;
  told = λ told. record {
    more = [];
    took = record { taken = sym (append-nil source.taken); left = refl };
    allowed = zero-add allowed;
  };
}

takes_then : (old mid new : SourceView) (before between after : ℕ)
    → TakesAllowed old mid before between → TakesAllowed mid new between after
    → TakesAllowed old new before after
takes_then old mid new before between after one other = record {
  more = one.more ++ other.more;
  took = took_then old mid new one.more other.more one.took other.took;
  allowed = ap (λ (n : ℕ). n + after) (length-append one.more other.more)
      ∙ add_assoc (length one.more) (length other.more) after
      ∙ ap (λ (n : ℕ). length one.more + n) other.allowed ∙ one.allowed;
}

pub takes_of_then : (old mid new : SourceView) (before between after : ℕ)
    → TakesOfAllowed old mid before between → TakesOfAllowed mid new between after
    → TakesOfAllowed old new before after
takes_of_then old mid new before between after first second = record {
  tells = second.tells ∙ first.tells;
  told = λ told. (let T : Bool → Type 0 = λ tells. IsTrue tells in
      takes_then old mid new before between after (first.told told)
      (second.told (subst T (sym first.tells) told)));
}
