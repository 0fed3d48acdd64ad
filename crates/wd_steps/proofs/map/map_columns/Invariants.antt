use Rattle.std.proofs.Common.{map, take}
use Rattle.wd_value.specs.Rows.{rows_of}
use Rattle.wd_plan.specs.Expressions.{expression_of, value_of}
use Rattle.wd_plan.specs.Faults.{all_ok}
use Rattle.wd_steps.proofs.Results.{IsGathered}
use Rattle.wd_steps.proofs.map.map_columns.Given as goal

abbrev pub invariant-loop-output : goal.invariant-loop-output
invariant-loop-output l = IsGathered (map (λ e. all_ok (map (value_of e) l.rows)) (map expression_of (take l.output-index l.outputs))) (rows_of l.columns.items) l.fault
