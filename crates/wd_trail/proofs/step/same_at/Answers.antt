use Rattle.std.proofs.Common.{arith, rules}
use Rattle.std.proofs.lemmas.List.{ext_get_or}
use Rattle.wd_value.specs.declared.value.Value.TheVariants.{Null}
use Rattle.wd_value.specs.Rows.{row_at}
use Rattle.wd_trail.proofs.step.same_at.Goals as goal

pub returns : goal.returns
returns c = λ true.
    ext_get_or Null (row_at c.args.rows.now c.args.position) (row_at c.args.others.now c.args.position) (search rules) (λ column h. c.loop-column.invariant column (omega arith))
