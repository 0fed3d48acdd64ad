use Rattle.std.proofs.Common.{drop}
use Rattle.wd_node_facts.specs.Seen.{each_columns}
use Rattle.wd_verify.specs.Lean.{lean_of}
use Rattle.wd_verify.proofs.Facts.{AreMade}
use Rattle.wd_verify.proofs.kept.kept_list.Given as goal

abbrev pub invariant-loop-kept : goal.invariant-loop-kept
invariant-loop-kept l = AreMade l.columns (lean_of l.entry).traces (each_columns l.traces) l.entry.keep.items (drop l.kept-index l.entry.keep.items) l.list.items
