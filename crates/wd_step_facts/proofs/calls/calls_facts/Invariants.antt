use Rattle.std.proofs.Common.{◌≡◌, ◌+◌, ◌++◌, drop, length, map}
use Rattle.wd_plan.specs.Plans.{NameBelow, window_of}
use Rattle.wd_step_facts.specs.Facts.{fact_of}
use Rattle.wd_step_facts.specs.Steps.{calls_facts}
use Rattle.wd_step_facts.proofs.calls.calls_facts.Given as goal

abbrev pub invariant-loop-call : goal.invariant-loop-call
invariant-loop-call l = record {
  at : l.column + length (drop l.call-index l.window.calls.items) ≡ l.first + length l.window.calls.items;
  named : NameBelow (length (window_of l.window).classes) (drop l.call-index l.window.calls.items);
  facts : map fact_of l.list.items ++ calls_facts (window_of l.window) l.column (drop l.call-index l.window.calls.items) ≡ calls_facts (window_of l.window) l.first l.window.calls.items;
}
