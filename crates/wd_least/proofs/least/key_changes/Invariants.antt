use Rattle.std.proofs.Common.{drop}
use Rattle.wd_least.proofs.Trying.{Adds}
use Rattle.wd_least.proofs.least.key_changes.Given as goal

abbrev pub invariant-loop-place : goal.invariant-loop-place
invariant-loop-place l = Adds l.keys l.places (drop l.place-index l.places) l.changes.items
