use Rattle.std.proofs.Common.{◌∙◌, Some, ap}
use Rattle.wd_baseline.specs.Findings.{said}
use Rattle.wd_baseline.proofs.read.line_of.Goals as goal

pub returns-clause-ok : goal.returns-clause-ok
returns-clause-ok c =
    (said c.in_ok-known.known, (c.in_ok-value.ensures.ok.0, c.in_ok-value.ensures.ok.1 ∙ ap (λ d. Some d) c.in_ok-known.ensures.ok), c.in_ok-line.ensures.text)
