use Rattle.std.proofs.Common.{◌≡◌, map, length, vec_len}
use Rattle.wd_resolve_call.specs.References.{bound_expression_of}
use Rattle.wd_resolve_select.specs.Steps.{column_shown}
use Rattle.wd_resolve_list.specs.Outputs.{output_of, expressions_of}
use Rattle.wd_resolve.proofs.select.parts_of.Given as goal

abbrev pub invariant-loop-output : goal.invariant-loop-output
invariant-loop-output l = record {
  columns : l.columns.items ≡ map column_shown (map output_of l.yielded);
  expressions : map bound_expression_of l.expressions.items ≡ expressions_of (map output_of l.yielded);
  as_many : vec_len l.columns ≡ length l.yielded;
}
