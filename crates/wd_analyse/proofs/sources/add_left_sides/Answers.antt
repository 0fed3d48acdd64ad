use Rattle.std.proofs.Common.{◌++◌, map, vec_items, ap, ◌∙◌}
use Rattle.std.proofs.lemmas.Result.{IfOk-weaker}
use Rattle.wd_plan.specs.Expressions.{expression_of}
use Rattle.wd_step_facts.specs.Facts.{fact_of}
use Rattle.wd_analyse.specs.Steps.{copy_in}
use Rattle.wd_analyse.proofs.Outputs.{left_sides_same}
use Rattle.wd_analyse.proofs.sources.add_left_sides.Goals as goal

pub returns : goal.returns
returns c =
    IfOk-weaker c.add_left_sides_by.result _ _
    (λ _ is. is ∙ ap (λ sides. map vec_items c.args.list.now.items ++ sides) (left_sides_same (copy_in c.in_ok-copies.copies) (map expression_of c.args.outputs.now) c.args.width (map fact_of c.args.facts.now) c.in_ok-copies.ensures))
    c.add_left_sides_by.ensures
