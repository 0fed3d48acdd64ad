use Rattle.std.proofs.Common.{◌≡◌, [], length, take}
use Rattle.wd_frame.specs.Slides.{seen}
use Rattle.wd_frame.specs.IndexRanges.{AreAnswers, lists_of, picked, places_along}
use Rattle.wd_frame.proofs.over.over_lists.Given as goal

abbrev pub invariant-loop-number : goal.invariant-loop-number
invariant-loop-number g l = record {
  answers : AreAnswers g.S.Slide.plain (λ p. picked (seen l.values) (places_along (take l.number (lists_of l.lists)) p)) (length l.values) l.answers.items;
  empty : g.S.Slide.values l.slide ≡ [];
}
