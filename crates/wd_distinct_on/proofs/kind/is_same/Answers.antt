use Rattle.std.proofs.Common.{◌∙◌}
use Rattle.wd_distinct_on.proofs.TokenFacts.{same_codes}
use Rattle.wd_distinct_on.proofs.kind.is_same.Goals as goal

pub returns-in-Terminal-other : goal.returns-in-Terminal-other
returns-in-Terminal-other c = rw (c.in-Terminal.is, c.in-Terminal-other.is) (c.eq.ensures ∙ same_codes c.in-Terminal.terminal c.in-Terminal-other.second)
