use Rattle.std.proofs.Common.{◌≡◌, ◌∙◌, ap, List, ◌∷◌, [], reverse}
use Rattle.std.proofs.lemmas.List.{reverse-append}
use Rattle.room_disk.specs.declared.disk_event.DiskEvent.{DiskEvent}
use Rattle.room_disk.specs.declared.disk_event.DiskEvent.TheVariants.{Cut}
use Rattle.room_disk.specs.Past.{listed}
use Rattle.room_disk.specs.Kept.{first_bytes, IsFirst, NoneHas}
use Rattle.room_disk.proofs.Keeping.{keeps_whole, keeps_first, cut_here, cut_elsewhere, cut_blank}
use Rattle.room_disk.proofs.history.History.cut.Goals as goal

pub invariant_of-self-in-Some : goal.invariant_of-self-in-Some
invariant_of-self-in-Some c =
    let files = c.self.inside.files.items in
    let before = c.index_mut-kept.result.now in
    let events = reverse c.self.inside.events.items in
    let first : IsFirst c.args.file files c.in-Some.index = rw (← c.deref.ensures.value) c.in-Some.ensures in
    let pushed : reverse c.push.new.self.items ≡ Cut c.args.file c.args.to ∷ events =
    ap (λ (l : List DiskEvent). reverse l) c.in_ok-push.ensures.items ∙ reverse-append c.self.inside.events.items (Cut c.args.file c.args.to ∷ []) in
    rw pushed (keeps_whole events (Cut c.args.file c.args.to ∷ events) files c.args.file c.in-Some.index before (record before { now = c.cut.new.self })
    c.self.invariant.each first c.index_mut-kept.ensures.value
    (λ is. cut_here (listed (first_bytes files)) events c.args.file c.args.to before c.cut.new.self is c.cut.ensures.bytes c.cut.ensures.room)
    c.self.invariant.distinct
    (λ other kept apart is. cut_elsewhere (listed (first_bytes files)) events c.args.file other c.args.to kept apart is))

pub invariant_of-self-in_default : goal.invariant_of-self-in_default
invariant_of-self-in_default c =
    let files = c.self.inside.files.items in
    let events = reverse c.self.inside.events.items in
    let none : NoneHas c.args.file files = rw (← c.deref.ensures.value) c.in_default.ensures in
    let pushed : reverse c.push.new.self.items ≡ Cut c.args.file c.args.to ∷ events =
    ap (λ (l : List DiskEvent). reverse l) c.in_ok-push.ensures.items ∙ reverse-append c.self.inside.events.items (Cut c.args.file c.args.to ∷ []) in
    rw pushed (record { each = cut_blank (first_bytes files) events files c.args.file c.args.to c.self.invariant.each none; distinct = c.self.invariant.distinct })

pub returns-in-Some-clause-done : goal.returns-in-Some-clause-done
returns-in-Some-clause-done c =
    let files = c.self.inside.files.items in
    let before = c.index_mut-kept.result.now in
    let events = reverse c.self.inside.events.items in
    let first : IsFirst c.args.file files c.in-Some.index = rw (← c.deref.ensures.value) c.in-Some.ensures in
    let pushed : reverse c.push.new.self.items ≡ Cut c.args.file c.args.to ∷ events =
    ap (λ (l : List DiskEvent). reverse l) c.in_ok-push.ensures.items ∙ reverse-append c.self.inside.events.items (Cut c.args.file c.args.to ∷ []) in
    let same = keeps_first events (Cut c.args.file c.args.to ∷ events) files c.args.file c.in-Some.index before (record before { now = c.cut.new.self })
    c.self.invariant.each first c.index_mut-kept.ensures.value
    (λ is. cut_here (listed (first_bytes files)) events c.args.file c.args.to before c.cut.new.self is c.cut.ensures.bytes c.cut.ensures.room) in
    rw (← c.self.view_is) (cc (same, pushed))
