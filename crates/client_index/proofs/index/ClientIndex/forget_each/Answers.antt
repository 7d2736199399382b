use Rattle.std.proofs.Common.{rules, ◌≡◌, List, not, ◌∙◌, ap, subst, sym}
use Rattle.std.proofs.lemmas.Fn.{filter_same}
use Rattle.client_index.specs.declared.index.SetIndex.{SetIndex}
use Rattle.client_index.specs.Sets.{AreOrdered, Indexes, forget_each, is_one_of}
use Rattle.client_index.proofs.Forgetting.{each_filtered, each_ordered}
use Rattle.client_index.proofs.index.ClientIndex.forget_each.Goals as goal

pub invariant_of-self : goal.invariant_of-self
invariant_of-self c =
    let is = ap (λ (index : Indexes). index.sets) c.self.view_is in
    let kept = filter_same _ (λ (set : SetIndex). not (is_one_of c.args.ssids.now set.ssid)) _
    (λ x b f' called. (search (rules, c.requires), search rules)) _ _ c.retain.ensures.filtered in
    let each : c.retain.new.self.items ≡ forget_each c.args.ssids.now c.args.self.now.sets = rw (← is) (kept ∙ sym (each_filtered c.args.ssids.now _)) in
    subst AreOrdered (sym each) (each_ordered c.args.ssids.now c.args.self.now.sets (subst AreOrdered is c.self.invariant))

pub returns-clause-sets : goal.returns-clause-sets
returns-clause-sets c =
    let is = ap (λ (index : Indexes). index.sets) c.self.view_is in
    let kept = filter_same _ (λ (set : SetIndex). not (is_one_of c.args.ssids.now set.ssid)) _
    (λ x b f' called. (search (rules, c.requires), search rules)) _ _ c.retain.ensures.filtered in
    rw (← is) (kept ∙ sym (each_filtered c.args.ssids.now _))
