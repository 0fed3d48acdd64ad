use Rattle.wd_eval.specs.Columns.{AreFilled}
use Rattle.wd_eval.specs.ClassIndexes.{WhereClassIndex}
use Rattle.wd_eval.proofs.column.column_of.Given as goal

abbrev pub invariant-loop-position : goal.invariant-loop-position
invariant-loop-position l = WhereClassIndex l.call.frame l.rows l.class_index (λ class ordering. AreFilled class l.call l.rows ordering l.position l.column)
