use Rattle.std.proofs.Common.{◌∙◌, ap, sym}
use Rattle.wd_value.specs.declared.value.Value.TheVariants.{Bool}
use Rattle.wd_candidates.specs.Candidates.{value_of_type}
use Rattle.wd_candidates.proofs.Cells.{alternating_is}
use Rattle.wd_candidates.proofs.rows.value_of_type.Goals as goal

pub returns-in-Boolean : goal.returns-in-Boolean
returns-in-Boolean c = ap Bool (alternating_is c.args.number) ∙ ap (λ k. value_of_type k c.args.number) (sym c.in-Boolean.is)
