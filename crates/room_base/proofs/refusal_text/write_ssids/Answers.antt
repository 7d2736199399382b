use Rattle.std.proofs.Common.{◌≡◌, ◌≤◌, ◌-◌, List, [], ◌∷◌, ◌++◌, length, take, drop, get_or, Err, ap, take_all, arith}
use Rattle.std.specs.Fmt.{decimal}
use Rattle.std.specs.List.{flat_map}
use Rattle.std.proofs.lemmas.Result.{err_from_is_err_and}
use Rattle.room_base.specs.declared.numbers.Ssid.{Ssid}
use Rattle.room_base.specs.Refusals.{ssids_text, ssid_behind}
use Rattle.room_base.proofs.Writing.{text_then, text_stopped, text_same}
use Rattle.room_base.proofs.refusal_text.write_ssids.Goals as goal

abbrev others_of : List Ssid → List Ssid
others_of ssids = take (length ssids - 1) (drop 1 ssids)

-- the first, and the others behind it
first_and_others : (ssids : List Ssid) → 1 ≤ length ssids
    → decimal (get_or ssids 0 record { 0 = 0 }).0 ++ flat_map ssid_behind (others_of ssids) ≡ ssids_text ssids
first_and_others [] some = absurd (omega (arith, some))
first_and_others (first ∷ others) some =
    ap (λ (list : List Ssid). decimal first.0 ++ flat_map ssid_behind list) (take_all (length (first ∷ others) - 1) others (omega arith))

pub returns-in_err-write_number-in-len1-up : goal.returns-in_err-write_number-in-len1-up
returns-in_err-write_number-in-len1-up g c =
    let p = err_from_is_err_and c.from_residual.result c.from_residual.ensures.1 in
    let ssids = c.args.ssids.now in
    rw p.1 (text_same _ _ _ _ (Err p.0) (first_and_others ssids c.in-len1-up.len_at_least)
    (text_stopped _ (flat_map ssid_behind (others_of ssids)) _ _ c.in_err-write_number-in-len1-up.field-0.0 p.0
    c.in_err-write_number-in-len1-up.ensures))

pub returns-in_ok-write_number-in-len1-up : goal.returns-in_ok-write_number-in-len1-up
returns-in_ok-write_number-in-len1-up g c =
    text_same _ _ _ _ _ (first_and_others c.args.ssids.now c.in-len1-up.len_at_least)
    (text_then _ _ _ _ _ tt _ c.in_ok-write_number-in-len1-up.ensures c.write_other_ssids.ensures)
