use Rattle.std.proofs.Common.{All}
use Rattle.wd_sites.specs.Sites.{IsSiteOf}
use Rattle.wd_sites.proofs.site.add_limits.Given as goal

abbrev pub invariant-loop-outline : goal.invariant-loop-outline
invariant-loop-outline l = All (IsSiteOf l.brackets.tokens.now) l.found.items
