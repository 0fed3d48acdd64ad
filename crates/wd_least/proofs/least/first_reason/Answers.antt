use Rattle.std.proofs.Common.{◌∙◌, ap, slice_get, inr}
use Rattle.wd_analyse.specs.declared.analysis.Analysis.TheVariants.{Certified}
use Rattle.wd_least.specs.First.{IsCertified}
use Rattle.wd_least.proofs.Analysed.{analyses, first_open}
use Rattle.wd_least.proofs.least.first_reason.Goals as goal

pub returns-in-Certified : goal.returns-in-Certified
returns-in-Certified c = λ schema query read. inr (analyses IsCertified schema query c.args.planned _ (Certified c.in-Certified.field-0) read c.in_ok-analyse.ensures c.in-Certified.is tt)

pub returns : goal.returns
returns c = λ schema query read.
    let at = c.copied.ensures ∙ c.first.ensures.value ∙ ap (λ reasons. slice_get reasons 0) c.deref.ensures.value in
    first_open schema query c.args.planned _ c.in-Open.reasons c.in-Open.field-1 c.copied.result read c.in_ok-analyse.ensures c.in-Open.is at
