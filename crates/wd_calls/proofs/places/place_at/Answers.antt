use Rattle.std.proofs.lemmas.Grind.{common_steps}
use Rattle.std.proofs.Common.{◌∙◌, ◌+◌, ◌-◌, List, drop, ap, sym, arith}
use Rattle.std.specs.List.{slice_get}
use Rattle.wd_frame.specs.declared.extent.IndexRange.{IndexRange}
use Rattle.wd_frame.specs.IndexRanges.{lists_of, places_along, range_at}
use Rattle.wd_calls.proofs.FramePlaces.{along_next, get_later, get_next}
use Rattle.wd_calls.proofs.places.place_at.Goals as goal

pub returns-then-left-length : goal.returns-then-left-length
returns-then-left-length c =
    let lists = c.args.lists.now in
    let i = c.loop-list.list-index in
    let p = c.args.place in
    let s = c.range_at-range.result in
    let next = along_next lists i p c.list-item.result s c.loop-list-test.true c.list-item.is (c.range_at-range.ensures ∙ ap (λ (items : List IndexRange). range_at items p) c.deref.ensures.value) in
    let sub = c.saturating_sub-length.ensures in
    let less = c.if-left-length.true in
    sym (get_next s (places_along (drop (i + 1) (lists_of lists)) p) c.loop-list.left (omega arith)) ∙ sym (ap (λ ps. slice_get ps c.loop-list.left) next) ∙ c.loop-list.invariant

pub loop-list-preserved : goal.loop-list-preserved
loop-list-preserved c =
    let lists = c.args.lists.now in
    let i = c.loop-list.list-index in
    let p = c.args.place in
    let s = c.range_at-range.result in
    let next = along_next lists i p c.list-item.result s c.loop-list-test.true c.list-item.is (c.range_at-range.ensures ∙ ap (λ (items : List IndexRange). range_at items p) c.deref.ensures.value) in
    let rest = places_along (drop (i + 1) (lists_of lists)) p in
    let sub = c.saturating_sub-length.ensures in
    let more = c.if-left-length.false in
    ap (λ n. slice_get rest (c.loop-list.left - n)) sub ∙ sym (get_later s rest c.loop-list.left (omega arith)) ∙ sym (ap (λ ps. slice_get ps c.loop-list.left) next) ∙ c.loop-list.invariant

pub returns : goal.returns
returns c = grind (arith, common_steps)
