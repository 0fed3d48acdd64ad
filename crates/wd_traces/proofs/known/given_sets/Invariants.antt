use Rattle.std.proofs.Common.{slice_get}
use Rattle.wd_traces.specs.Known.{AreSets, from_of, to_of}
use Rattle.wd_traces.proofs.known.given_sets.Given as goal

abbrev pub invariant-loop-number : goal.invariant-loop-number
invariant-loop-number l = AreSets (λ n. from_of (slice_get l.list n)) l.from.items × AreSets (λ n. to_of (slice_get l.list n)) l.to.items
