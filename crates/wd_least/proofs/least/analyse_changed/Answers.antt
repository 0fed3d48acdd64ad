use Rattle.std.proofs.Common.{refl, inr}
use Rattle.wd_analyse.specs.declared.analysis.Analysis.TheVariants.{Certified, Open}
use Rattle.wd_least.specs.First.{IsCertified, IsOpen}
use Rattle.wd_least.proofs.Analysed.{analyses}
use Rattle.wd_least.proofs.least.analyse_changed.Goals as goal

pub returns-in-Certified : goal.returns-in-Certified
returns-in-Certified c = λ schema read. (refl, analyses IsCertified schema _ c.args.planned _ (Certified c.in-Certified.field-0) read c.in_ok-analyse.ensures c.in-Certified.is tt)

pub returns : goal.returns
returns c = λ schema read. inr (analyses IsOpen schema _ c.args.planned _ (Open c.in-Open.field-0 c.in-Open.field-1) read c.in_ok-analyse.ensures c.in-Open.is tt)
