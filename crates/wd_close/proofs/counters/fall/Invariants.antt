use Rattle.std.proofs.Common.{◌≡◌, drop}
use Rattle.wd_close.specs.Reached as spec
use Rattle.wd_close.proofs.counters.fall.Given as goal

abbrev pub invariant-loop-fact : goal.invariant-loop-fact
invariant-loop-fact l = spec.fallen l.counters (drop l.fact-index l.watchers) ≡ spec.fallen l.fn.counters l.watchers
