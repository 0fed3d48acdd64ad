use Rattle.std.proofs.Common.{drop}
use Rattle.wd_verify.specs.Lean.{lean_traces}
use Rattle.wd_node_facts.specs.Seen.{seen_of}
use Rattle.wd_verify.proofs.Followed.{AreFollowedTo}
use Rattle.wd_verify.proofs.evidence.follow_each.Given as goal

abbrev pub invariant-loop-trace : goal.invariant-loop-trace
invariant-loop-trace l = AreFollowedTo l.node (seen_of l.known.facts) (lean_traces l.traces) (lean_traces (drop l.trace-index l.traces)) l.marks l.list.items
