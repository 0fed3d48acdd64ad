use Rattle.std.proofs.Common.{drop}
use Rattle.wd_source.proofs.Cutting.{IsCutUpTo}
use Rattle.wd_source.proofs.statement.statements_of.Given as goal

abbrev pub invariant-loop-token : goal.invariant-loop-token
invariant-loop-token l = IsCutUpTo l.end l.tokens (drop l.token-index l.tokens) l.found.items l.start l.begun
