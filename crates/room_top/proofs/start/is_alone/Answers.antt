use Rattle.std.proofs.Common.{◌≡◌, ◌∙◌, ◌∷◌, [], ◌≤◌, ◌<◌, List, length, get_or, map, sym, ap, arith}
use Rattle.std.specs.Prelude.{string_bytes}
use Rattle.std.proofs.lemmas.Bool.Decides.{Decides-eqb}
use Rattle.std.proofs.lemmas.Slice.Eq.{slice_eq-Decides}
use Rattle.room_top.proofs.start.is_alone.Goals as goal

one_item : {X : Type 0} (items : List X) (item : X) → 1 ≤ length items → length items < 2 → item ≡ get_or items 0 item → items ≡ item ∷ []
one_item [] item some few is = absurd (omega (arith, some))
one_item (first ∷ []) item some few is = ap (λ one. one ∷ []) (sym is)
one_item (first ∷ second ∷ more) item some few is = absurd (omega (arith, few))

same_head : {X : Type 0} (one other : X) → one ∷ [] ≡ other ∷ [] → one ≡ other
same_head one other same = cc same

pub returns-in-len1 : goal.returns-in-len1
returns-in-len1 c =
    let one : map string_bytes c.args.words.now ≡ string_bytes c.only-item.result ∷ [] =
    ap (map string_bytes) (one_item c.args.words.now c.only-item.result (omega (arith, c.in-len1.len_at_least)) (omega (arith, c.in-len1.len_below)) c.only-item.is) in
    let same = slice_eq-Decides Decides-eqb c.as_str.result.now c.args.word.now c.eq.result c.eq.ensures in (
      λ true. one ∙ ap (λ word. word ∷ []) (sym c.as_str.ensures.value ∙ same.0 true),
      λ alone. same.1 (c.as_str.ensures.value ∙ same_head (string_bytes c.only-item.result) c.args.word.now (sym one ∙ alone)),
    )
