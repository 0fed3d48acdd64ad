use Rattle.std.proofs.Common.{drop}
use Rattle.wd_least.proofs.Trying.{Continues}
use Rattle.wd_least.proofs.least.first_mended.Given as goal

abbrev pub invariant-loop-keys : goal.invariant-loop-keys
invariant-loop-keys l = Continues l.schema l.query l.places l.lists (drop l.keys-index l.lists)
