use Rattle.wd_resolve.specs.Answers.{resolved_of}
use Rattle.wd_query.proofs.ForReadings.{for_answer}
use Rattle.wd_decide.specs.Lists.{IsListVerdictOf}
use Rattle.wd_decide.proofs.list.decide_list.Goals as goal

pub returns-clause-verdict : goal.returns-clause-verdict
returns-clause-verdict c =
    let examined = c.in_ok-examined.examined in
    for_answer c.args.schema.now c.args.query.now examined.planned c.in_ok-examined.ensures.examined.read
    (λ tables read. IsListVerdictOf tables read c.in_ok-list_verdict.field-0) c.in_ok-list_verdict.ensures

pub returns-clause-meaning : goal.returns-clause-meaning
returns-clause-meaning c =
    let is = c.in_ok-examined.ensures.examined.read in
    record { read = resolved_of c.in_ok-examined.examined.planned.resolved; reads = is.reads; limits = is.limits }
