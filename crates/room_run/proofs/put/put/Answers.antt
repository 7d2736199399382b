use Rattle.std.proofs.Common.{rules, ◌≡◌, ◌∙◌, ◌++◌, List, ℕ, Err, length, refl, sym, ap, subst}
use Rattle.room_base.specs.Outside.{AddsFront}
use Rattle.volume_store.specs.Writes.{cart_file}
use Rattle.room_run.specs.Put.{kept_line, site_number}
use Rattle.room_run.specs.Run.{world, AreInput, TakesAll, WritesOn, Keeps}
use Rattle.room_run.specs.Stages.{JudgesSite}
use Rattle.room_run.proofs.Endings.{takes_all, rose_behind, site_ends, may_ask, writes_behind, keeps_behind}
use Rattle.room_run.proofs.put.put.Goals as goal

pub returns-in-Err-find_site-clause-ends : goal.returns-in-Err-find_site-clause-ends
returns-in-Err-find_site-clause-ends g c =
    let before = world (g.S.Source.view c.args.input.now) (g.W.Sink.view c.args.out.now) (g.D.Store.view c.args.disk.now) (g.C.Clock.view c.args.clock.now) in
    let now = world (g.S.Source.view c.take_input.new.input) (g.W.Sink.view c.args.out.now) (g.D.Store.view c.find_site.new.disk) (g.C.Clock.view c.find_site.new.clock) in
    let cart = c.args.cart.0 in
    let fault = c.in-Err-find_site.fault in
    let found = c.in-Err-find_site.ensures in
    let bytes = c.in-Ok.bytes.items in
    let size : c.len.result ≡ length bytes = search rules in
    let Judged : ℕ → Type 0 = λ (count : ℕ). JudgesSite count (before.disk.reads (cart_file cart)) fault in
    site_ends cart before now bytes fault c.site_status_of.result (record { out = λ told. refl; disk = found.quiet; clock = found.asked })
    (takes_all before now bytes c.in-Ok.ensures.size c.in-Ok.ensures.judged) (λ told. (c.in-Ok.ensures.judged told).0)
    (λ same. found.disk_cause.cause (ap Err same)) (λ same. found.clock_cause (ap Err same)) (λ told. subst Judged size (found.judged told))
    c.site_status_of.ensures

pub returns-in-Err-Failed-clause-ends : goal.returns-in-Err-Failed-clause-ends
returns-in-Err-Failed-clause-ends g c =
    let before = world (g.S.Source.view c.args.input.now) (g.W.Sink.view c.args.out.now) (g.D.Store.view c.args.disk.now) (g.C.Clock.view c.args.clock.now) in
    let mid = g.D.Store.view c.find_site.new.disk in
    let now = world (g.S.Source.view c.take_input.new.input) (g.W.Sink.view c.args.out.now) (g.D.Store.view c.store_file.new.disk) (g.C.Clock.view c.find_site.new.clock) in
    let cart = c.args.cart.0 in
    let site = c.in-Ok-find_site.site in
    let bytes = c.deref.result.now in
    let found = c.in-Ok-find_site.ensures in
    let stored = c.in-Err-Failed.ensures in
    let are : AreInput before bytes = λ told. c.deref.ensures.value ∙ (c.in-Ok.ensures.judged told).0 in
    let taken : TakesAll before now = takes_all before now c.in-Ok.bytes.items c.in-Ok.ensures.size c.in-Ok.ensures.judged in
    let writes : WritesOn cart before now =
    writes_behind cart before now mid bytes site taken (may_ask cart before now site taken found.asked found.judged) are
    found.quiet found.settled found.judged found.disk_tells stored.others stored.moments in
    let file = cart_file cart in (
      rose_behind (before.disk.faults file) (mid.faults file) (now.disk.faults file) (found.disk_cause.later file)
          (stored.cause.cause (ap Err c.in-Err-Failed.field-0-is)),
      writes,
      λ told. refl,
    )

pub returns-in-Ok-write_all-clause-ends : goal.returns-in-Ok-write_all-clause-ends
returns-in-Ok-write_all-clause-ends g c =
    let before = world (g.S.Source.view c.args.input.now) (g.W.Sink.view c.args.out.now) (g.D.Store.view c.args.disk.now) (g.C.Clock.view c.args.clock.now) in
    let mid = g.D.Store.view c.find_site.new.disk in
    let now = world (g.S.Source.view c.take_input.new.input) (g.W.Sink.view c.write_all.new.sink) (g.D.Store.view c.store_file.new.disk) (g.C.Clock.view c.find_site.new.clock) in
    let cart = c.args.cart.0 in
    let site = c.in-Ok-find_site.site in
    let bytes = c.deref.result.now in
    let found = c.in-Ok-find_site.ensures in
    let stored = c.in-Ok-store_file.ensures in
    let are : AreInput before bytes = λ told. c.deref.ensures.value ∙ (c.in-Ok.ensures.judged told).0 in
    let taken : TakesAll before now = takes_all before now c.in-Ok.bytes.items c.in-Ok.ensures.size c.in-Ok.ensures.judged in
    let writes : WritesOn cart before now =
    writes_behind cart before now mid bytes site taken (may_ask cart before now site taken found.asked found.judged) are
    found.quiet found.settled found.judged found.disk_tells stored.others stored.moments in
    let kept : Keeps cart before now bytes (site_number site) =
    keeps_behind cart (site_number site) before now mid bytes site are found.quiet found.judged found.disk_tells stored.stored stored.settled in
    let size : c.len-2.result ≡ length c.in-Ok.bytes.items = search rules in
    let line : c.as_bytes.result.now ≡ kept_line (length bytes) (site_number site) cart =
    c.as_bytes.ensures.value ∙ c.in-Ok-kept_line_text.ensures ∙ ap (λ count. kept_line count c.number.result cart) (size ∙ ap length (sym c.deref.ensures.value))
    ∙ ap (λ number. kept_line (length bytes) number cart) c.number.ensures in
    let Printed : List ℕ → Type 0 = λ (text : List ℕ). now.out.written ≡ before.out.written ++ text in
    (writes, (bytes, (site_number site, kept, λ told. subst Printed line (c.in-Ok-write_all.ensures.written told))))

pub returns-clause-ends : goal.returns-clause-ends
returns-clause-ends g c =
    let before = world (g.S.Source.view c.args.input.now) (g.W.Sink.view c.args.out.now) (g.D.Store.view c.args.disk.now) (g.C.Clock.view c.args.clock.now) in
    let mid = g.D.Store.view c.find_site.new.disk in
    let now = world (g.S.Source.view c.take_input.new.input) (g.W.Sink.view c.write_all.new.sink) (g.D.Store.view c.store_file.new.disk) (g.C.Clock.view c.find_site.new.clock) in
    let cart = c.args.cart.0 in
    let site = c.in-Ok-find_site.site in
    let bytes = c.deref.result.now in
    let found = c.in-Ok-find_site.ensures in
    let stored = c.in-Ok-store_file.ensures in
    let are : AreInput before bytes = λ told. c.deref.ensures.value ∙ (c.in-Ok.ensures.judged told).0 in
    let taken : TakesAll before now = takes_all before now c.in-Ok.bytes.items c.in-Ok.ensures.size c.in-Ok.ensures.judged in
    let writes : WritesOn cart before now =
    writes_behind cart before now mid bytes site taken (may_ask cart before now site taken found.asked found.judged) are
    found.quiet found.settled found.judged found.disk_tells stored.others stored.moments in
    let kept : Keeps cart before now bytes (site_number site) =
    keeps_behind cart (site_number site) before now mid bytes site are found.quiet found.judged found.disk_tells stored.stored stored.settled in
    let size : c.len-2.result ≡ length c.in-Ok.bytes.items = search rules in
    let line : c.as_bytes.result.now ≡ kept_line (length bytes) (site_number site) cart =
    c.as_bytes.ensures.value ∙ c.in-Ok-kept_line_text.ensures ∙ ap (λ count. kept_line count c.number.result cart) (size ∙ ap length (sym c.deref.ensures.value))
    ∙ ap (λ number. kept_line (length bytes) number cart) c.number.ensures in
    let Printed : List ℕ → Type 0 = AddsFront before.out.written now.out.written in (
      c.in-Err-write_all.ensures.cause.cause,
      writes,
      (bytes, (site_number site, kept, λ told. subst Printed line (c.in-Err-write_all.ensures.written told))),
    )
