use Rattle.std.proofs.Common.{All}
use Rattle.wd_sites.specs.Sites.{IsSiteOf}
use Rattle.wd_sites.proofs.site.add_shown.Given as goal

abbrev pub invariant-loop-over : goal.invariant-loop-over
invariant-loop-over l = All (IsSiteOf l.brackets.tokens.now) l.found.items
