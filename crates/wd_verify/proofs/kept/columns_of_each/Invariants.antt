use Rattle.std.proofs.Common.{drop}
use Rattle.wd_node_facts.specs.Seen.{each_columns, seen_of}
use Rattle.wd_verify.specs.Lean.{lean_traces}
use Rattle.wd_verify.proofs.Good.{HaveColumnsTo}
use Rattle.wd_verify.proofs.kept.columns_of_each.Given as goal

abbrev pub invariant-loop-trace : goal.invariant-loop-trace
invariant-loop-trace l = HaveColumnsTo l.node (seen_of l.facts) l.marks (lean_traces l.traces) (lean_traces (drop l.trace-index l.traces)) (each_columns l.list.items)
