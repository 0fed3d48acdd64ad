use Rattle.wd_analyse.specs.Analysis.{IsAnswer}
use Rattle.wd_analyse.specs.declared.analysis.Analysis.{Analysis}
use Rattle.wd_resolve.specs.Answers.{resolved_of}
use Rattle.wd_query.proofs.ForReadings.{for_reading}
use Rattle.wd_decide.specs.Verdicts.{IsVerdictOf}
use Rattle.wd_decide.proofs.verdict.decide.Goals as goal

pub returns-clause-verdict : goal.returns-clause-verdict
returns-clause-verdict c =
    let examined = c.in_ok-examined.examined in
    for_reading c.args.schema.now c.args.query.now examined.planned c.in_ok-examined.ensures.examined.read
    (λ tables plan. (analysis : Analysis) × IsAnswer tables plan analysis × IsVerdictOf tables plan analysis c.in_ok-verdict.field-0)
    (examined.analysis, c.in_ok-examined.ensures.examined.analysed, c.in_ok-verdict.ensures)

pub returns-clause-meaning : goal.returns-clause-meaning
returns-clause-meaning c =
    let is = c.in_ok-examined.ensures.examined.read in
    record { read = resolved_of c.in_ok-examined.examined.planned.resolved; reads = is.reads; limits = is.limits }

pub returns-clause-plain : goal.returns-clause-plain
returns-clause-plain c = c.plain_are_decided.ensures c.args.schema.now c.args.query.now c.in_ok-verdict.field-0 (returns-clause-verdict c)
