use Rattle.std.proofs.Common.{rules}
use Rattle.wd_report.proofs.plan.explain.Goals as goal

pub returns : goal.returns
returns c = record { verdict = c.in_ok-verdict.verdict; given = c.in_ok-verdict.ensures; is = search rules; ends = c.verdict_status.ensures }
