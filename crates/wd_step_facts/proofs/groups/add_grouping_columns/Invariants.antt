use Rattle.std.proofs.Common.{◌≡◌, ◌+◌, ◌++◌, drop, length, map}
use Rattle.wd_plan.specs.Plans.{group_call_of}
use Rattle.wd_step_facts.specs.Steps.{grouping_columns}
use Rattle.wd_step_facts.proofs.groups.add_grouping_columns.Given as goal

abbrev pub invariant-loop-call : goal.invariant-loop-call
invariant-loop-call l = record {
  at : l.column + length (drop l.call-index l.calls) ≡ l.first + length l.calls;
  columns : l.list.items ++ grouping_columns l.column (map group_call_of (drop l.call-index l.calls)) ≡ l.initial.list.items ++ grouping_columns l.first (map group_call_of l.calls);
}
