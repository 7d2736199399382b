use Rattle.std.proofs.Common.{◌≡◌, sym, ap, subst, ◌∙◌, List, ℕ, length, cond, Bool, true, ◌||◌, ◌==◌, arith, Err}
use Rattle.std.proofs.lemmas.List.Sorted.{searched}
use Rattle.std.specs.List.{insert}
use Rattle.std.specs.Prelude.{is_ok}
use Rattle.std.specs.Vec.{vec_len}
use Rattle.chunk_mux.specs.Ssids.{SsidsView, has_number}
use Rattle.chunk_mux.proofs.Members.{IsSearched, Ascend, search_has, ascend_far, ascend_inserted, has_inserted, has_known}
use Rattle.chunk_mux.proofs.ssids.SsidSet.add.Goals as goal

-- the number goes where the search ended, and there is room for it
items_are : (c : goal.After-insert-added) → c.insert-added.new.self.items ≡ insert c.self.inside.numbers.items c.in-Err.place c.args.ssid.0
items_are c =
    let long : length c.self.inside.numbers.items ≡ vec_len c.self.inside.numbers = ap length (sym c.deref.ensures.value) ∙ c.deref.ensures.len in
    let short : length c.self.inside.numbers.items ≡ length c.args.self.now.numbers = ap (λ (view : SsidsView). length view.numbers) c.self.view_is in
    let done : is_ok c.insert-added.result ≡ true = c.insert-added.ensures.succeeds (omega (arith, c.self.invariant.room, long, short, ap (λ (view : SsidsView). view.most) c.self.view_is)) in
    c.insert-added.ensures.items
    ∙ ap (λ (b : Bool). cond b (insert c.self.inside.numbers.items c.in-Err.place c.args.ssid.0) c.self.inside.numbers.items) done

searched_for : (c : goal.After-insert-added) → IsSearched c.args.ssid.0 c.self.inside.numbers.items (Err c.in-Err.place)
searched_for c =
    let found : IsSearched c.args.ssid.0 c.self.inside.numbers.items c.binary_search.result =
    searched c.self.inside.numbers.items c.args.ssid.0 c.binary_search.result (rw (sym c.deref.ensures.value) c.binary_search.ensures.position)
    (ascend_far c.self.inside.numbers.items c.self.invariant.ascend) in
    subst (IsSearched c.args.ssid.0 c.self.inside.numbers.items) c.in-Err.is found

pub invariant_of-self : goal.invariant_of-self
invariant_of-self c =
    let at = searched_for c in
    record {
      ascend = subst Ascend (sym (items_are c))
          (ascend_inserted c.self.inside.numbers.items c.in-Err.place c.args.ssid.0 c.self.invariant.ascend at.0 at.1 at.2);
      room = omega (arith, c.self.invariant.room, c.insert-added.ensures.capacity);
    }

pub returns-in-Err-clause-has : goal.returns-in-Err-clause-has
returns-in-Err-clause-has c = λ other.
    ap (has_number other) (items_are c) ∙ has_inserted other c.self.inside.numbers.items c.in-Err.place c.args.ssid.0
    ∙ ap (λ (numbers : List ℕ). has_number other numbers || (c.args.ssid.0 == other)) (ap (λ (view : SsidsView). view.numbers) c.self.view_is)

pub returns-in_default-clause-has : goal.returns-in_default-clause-has
returns-in_default-clause-has c = λ other.
    let found : IsSearched c.args.ssid.0 c.self.inside.numbers.items c.binary_search.result =
    searched c.self.inside.numbers.items c.args.ssid.0 c.binary_search.result (rw (sym c.deref.ensures.value) c.binary_search.ensures.position)
    (ascend_far c.self.inside.numbers.items c.self.invariant.ascend) in
    let known : has_number c.args.ssid.0 c.args.self.now.numbers ≡ true =
    ap (λ (view : SsidsView). has_number c.args.ssid.0 view.numbers) (sym c.self.view_is) ∙ search_has c.args.ssid.0 c.self.inside.numbers.items c.binary_search.result found
    ∙ ap is_ok c.in_default.is in
    has_known other c.args.ssid.0 c.args.self.now.numbers known
