use Rattle.std.proofs.lemmas.Grind.{common_steps}
use Rattle.std.proofs.Common.{◌++◌, ◌+◌, ap, ◌∙◌, arith}
use Rattle.wd_analyse.specs.Evidence.{closing_of}
use Rattle.wd_analyse.proofs.New.{new_from, new_step, new_none}
use Rattle.wd_analyse.proofs.kept.new_columns.Goals as goal

pub loop-column-preserved : goal.loop-column-preserved
loop-column-preserved c =
    ap (λ l. l ++ new_from (closing_of c.args.closed.now) (c.loop-column.column + 1) c.args.width) c.in_ok-add_new.ensures
    ∙ new_step c.loop-column.list.items (closing_of c.args.closed.now) c.loop-column.column c.args.width c.loop-column-test.true
    ∙ c.loop-column.invariant

pub returns : goal.returns
returns c = grind (arith, common_steps, new_step, new_none)
