use Rattle.std.proofs.Common.{◌≡◌, map}
use Rattle.wd_resolve.specs.Answers.{name_in}
use Rattle.wd_resolve.proofs.query.names_of.Given as goal

abbrev pub invariant-loop-column : goal.invariant-loop-column
invariant-loop-column l = l.names.items ≡ map name_in l.yielded
