use Rattle.wd_frame.specs.Slides.{seen}
use Rattle.wd_frame.proofs.Sliding.{AreSoFar}
use Rattle.wd_frame.proofs.over.slid.Given as goal

abbrev pub invariant-loop-range : goal.invariant-loop-range
invariant-loop-range g l = AreSoFar g.S.Slide.plain (seen l.values) l.ranges l.range-index l.answers.items l.first l.next (g.S.Slide.values l.slide)
