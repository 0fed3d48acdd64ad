use Rattle.wd_traces.specs.Known.{AreSets, kept_side, trace_side}
use Rattle.wd_traces.proofs.known.side_sets.Given as goal

abbrev pub invariant-loop-number : goal.invariant-loop-number
invariant-loop-number l = AreSets (trace_side l.side) l.from.items × AreSets (kept_side l.side) l.to.items
