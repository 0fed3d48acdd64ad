use Rattle.std.proofs.Common.{◌≡◌, drop}
use Rattle.wd_step_facts.specs.Apart.{differ}
use Rattle.wd_step_facts.proofs.apart.are_unlike.Given as goal

abbrev pub invariant-loop-place : goal.invariant-loop-place
invariant-loop-place l = differ (drop l.place l.marks) (drop l.place l.others) ≡ differ l.marks l.others
