use Rattle.std.proofs.lemmas.Grind.{common_steps}
use Rattle.std.proofs.Common.{◌∙◌, ◌-◌, Bor, drop, ap, subst, sym, arith}
use Rattle.std.proofs.lemmas.List.{length-map}
use Rattle.wd_value.specs.declared.value.Value.{Value}
use Rattle.wd_frame.specs.Slides.{seen}
use Rattle.wd_frame.specs.IndexRanges.{AreRising, range_at, values_in}
use Rattle.wd_frame.proofs.Sliding.{in_drop, one_more}
use Rattle.wd_frame.proofs.over.slid.Goals as goal

pub loop-range-preserved : goal.loop-range-preserved
loop-range-preserved g c =
    let vs = seen c.args.values.now in
    let long = length-map c.args.values.now (λ (r : Bor Value). r.now) in
    let all = c.args.ranges.now in
    let i = c.loop-range.range-index in
    let so_far = c.loop-range.invariant in
    let there = c.loop-range-test.true in
    let until = c.min-until.ensures in
    let start = so_far.next_start i (omega arith) there in
    let end = so_far.next_end i (omega arith) there in
    let begun = so_far.ordered in
    rw (c.in_ok-push.ensures.items, c.min-until.ensures)
    (one_more g.S.Slide.plain vs all i c.loop-range.answers.items c.loop-range.first c.loop-range.next (g.S.Slide.values c.loop-range.slide) (g.S.Slide.values c.drain.new.slide) c.answer.result
    so_far (subst (λ n. AreRising n all) (sym long) c.requires.rising) there
    (c.drain.ensures ∙ ap (drop (c.min-until.result - c.loop-range.first)) c.in_ok-fill.ensures
    ∙ in_drop vs c.loop-range.first c.min-until.result (range_at all i).end (omega arith) (omega arith)
    ∙ ap (λ n. values_in vs n (range_at all i).end) until)
    (record { exact = c.answer.ensures.exact; small = c.answer.ensures.small }))

pub returns : goal.returns
returns g c = grind (arith, common_steps)
