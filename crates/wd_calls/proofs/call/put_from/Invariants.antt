use Rattle.std.proofs.Common.{ℕ, ◌≤◌, length, take, Result}
use Rattle.wd_value.specs.declared.value.Value.{Value}
use Rattle.wd_value.specs.declared.value.Fault.{Fault}
use Rattle.wd_plan.specs.declared.function.Function.{Function}
use Rattle.wd_plan.specs.declared.window.Frame.{Frame}
use Rattle.wd_plan.specs.Plans.{ClassRule}
use Rattle.wd_frame.specs.Places.{part_of}
use Rattle.wd_calls.specs.CallColumns.{AreCallsAt, ArePut}
use Rattle.wd_calls.specs.Parts.{IsPartOf, partition_of}
use Rattle.wd_calls.specs.Sources.{IsSourceOf}
use Rattle.wd_calls.specs.Values.{IsRising, IsStartBefore}
use Rattle.wd_calls.proofs.call.put_from.Given as goal

abbrev pub invariant-loop-place : goal.invariant-loop-place
invariant-loop-place l = record {
  put : (frame : Frame) (function : Function) → IsSourceOf frame function (partition_of l.partition) (part_of l.part) l.source → (class : ClassRule) (value : ℕ → Result Value Fault) → IsPartOf class frame (partition_of l.partition) (part_of l.part)
      → AreCallsAt class frame function (partition_of l.partition) l.partition.positions.now value → ArePut value (take l.place l.partition.positions.now) l.fn.column l.column;
  start : IsRising l.part.groups.now → l.place ≤ length l.part.groups.now → IsStartBefore l.part.groups.now l.place l.start;
}
