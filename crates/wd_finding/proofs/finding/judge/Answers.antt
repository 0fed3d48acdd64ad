use Rattle.wd_finding.proofs.Found.{Shown, finding_is}
use Rattle.wd_finding.proofs.finding.judge.Goals as goal

pub returns-clause-found : goal.returns-clause-found
returns-clause-found c =
    finding_is c.args.schema.now c.args.query.now c.in_ok-verdict.verdict c.in_ok-certain.certain c.in_ok-further.further c.in_ok-examined.examined c.in_ok-with_evidence.field-0 c.in_ok-verdict.ensures.verdict
    c.in_ok-examined.ensures.examined shown c.in_ok-further.ensures c.in_ok-with_evidence.ensures.verdict c.in_ok-with_evidence.ensures.certain c.in_ok-with_evidence.ensures.further c.in_ok-with_evidence.ensures.planned
    c.in_ok-with_evidence.ensures.reasons c.in_ok-with_evidence.ensures.answers c.in_ok-with_evidence.ensures.ties
  where
    shown : Shown c.args.schema.now c.args.query.now c.in_ok-verdict.verdict c.in_ok-certain.certain
    shown = record { unknown = c.in_ok-certain.ensures.unknown; certain = c.in_ok-certain.ensures.certain; one_answer = c.in_ok-certain.ensures.one_answer }
