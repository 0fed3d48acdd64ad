use Rattle.std.proofs.Common.{◌∙◌, ap, subst, length}
use Rattle.wd_frame.specs.Places.{part_of}
use Rattle.wd_frame.specs.Slides.{seen}
use Rattle.wd_frame.specs.IndexRanges.{AreAnswers, picked, places_in, range_at}
use Rattle.wd_frame.proofs.Sliding.{IfOk-on, frame_answers}
use Rattle.wd_frame.proofs.over.over_frames.Goals as goal

pub returns : goal.returns
returns g c =
    IfOk-on c.over_ranges.result c.over_ranges.ensures
    (λ v are. frame_answers g.S.Slide.plain (part_of c.args.part.now) c.args.frame.now c.args.values.now c.in_ok-ranges.ranges.items v.items c.in_ok-ranges.ensures
    (subst (λ vs. AreAnswers g.S.Slide.plain (λ p. picked vs (places_in (range_at c.in_ok-ranges.ranges.items p))) (length c.in_ok-ranges.ranges.items) v.items) (ap seen c.deref-2.ensures.value ∙ c.in_ok-references.ensures)
    (subst (λ all. AreAnswers g.S.Slide.plain (λ p. picked (seen c.deref-2.result.now) (places_in (range_at all p))) (length all) v.items) c.deref.ensures.value are))
    c.requires.whole)
