use Rattle.std.proofs.Common.{◌∙◌, ap}
use Rattle.wd_frame.specs.Slides.{first_over}
use Rattle.wd_frame.proofs.extreme.ExtremeSlide.answer.Goals as goal

pub returns-clause-exact : goal.returns-clause-exact
returns-clause-exact g c = c.answer.ensures.first g.D.Direction.order g.met.D.Direction.nulls_last c.self.invariant ∙ ap (first_over g.D.Direction.order) c.self.view_is
