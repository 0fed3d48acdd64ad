use Rattle.std.proofs.Common.{◌∙◌, ◌+◌, List, length, drop, ap, arith}
use Rattle.std.specs.declared.alloc.Global.{Global}
use Rattle.std.specs.declared.vec.Vec.{Vec}
use Rattle.std.proofs.lemmas.List.{drop_all, length-map}
use Rattle.wd_frame.specs.declared.extent.IndexRange.{IndexRange}
use Rattle.wd_frame.specs.IndexRanges.{lists_of, places_along, range_at}
use Rattle.wd_calls.proofs.FramePlaces.{along_next, length_next}
use Rattle.wd_calls.proofs.places.count_at.Goals as goal

pub loop-list-preserved : goal.loop-list-preserved
loop-list-preserved c =
    let lists = c.args.lists.now in
    let i = c.loop-list.list-index in
    let p = c.args.place in
    let s = c.range_at-range.result in
    let next = along_next lists i p c.list-item.result s c.loop-list-test.true c.list-item.is (c.range_at-range.ensures ∙ ap (λ (items : List IndexRange). range_at items p) c.deref.ensures.value) in
    let long = ap length next ∙ length_next s (places_along (drop (i + 1) (lists_of lists)) p) in
    let sub = c.saturating_sub.ensures in
    let sum = c.saturating_add-count.ensures in
    let total = c.loop-list.invariant.total in
    let fits = c.loop-list.invariant.fits in
    record { total = omega arith; fits = omega arith }

pub returns : goal.returns
returns c =
    let lists = c.args.lists.now in
    let many = length-map lists (λ (v : Vec IndexRange Global). v.items) in
    let past = c.loop-list-test.false in
    let none = ap (λ ls. length (places_along ls c.args.place)) (drop_all c.loop-list.list-index (lists_of lists) (omega arith)) in
    let total = c.loop-list.invariant.total in
    let fits = c.loop-list.invariant.fits in
    omega arith
