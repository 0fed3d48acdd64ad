use Rattle.std.proofs.Common.{◌≡◌, ◌++◌, drop}
use Rattle.wd_analyse.specs.Decisions.{rules_in}
use Rattle.wd_analyse.proofs.decided.rules_of.Given as goal

abbrev pub invariant-loop-one : goal.invariant-loop-one
invariant-loop-one l = l.list.items ++ rules_in (drop l.one-index l.decided) ≡ rules_in l.decided
