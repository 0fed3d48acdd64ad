-- One step over rows under its own sorted orderings.
use Rattle.std.proofs.Common.{◌≡◌, ℕ, false, nat_lt, List, [], drop, take, length, Option, Ok, sym, ap, ◌∙◌, arith}
use Rattle.std.proofs.lemmas.List.{take_all}
use Rattle.wd_value.specs.Rows.{Row}
use Rattle.wd_plan.specs.Outcomes.{RowsOrFault, step_outcome}
use Rattle.wd_plan.specs.Plans.{Step, step_classes}
use Rattle.wd_join.specs.Joins.{has_more_rows}
use Rattle.wd_nodes.specs.Relation.{most_rows}
use Rattle.wd_eval.specs.Ties.{IsStableStep}
use Rattle.wd_eval.specs.Turning.{IsStepUnder}
use Rattle.wd_eval.specs.Walks.{IsFew}
use Rattle.wd_eval.specs.declared.turned.Turned.{Turned}
use Rattle.wd_eval.proofs.Putting.{lawful_all}
use Rattle.wd_eval.proofs.Sizes.{fewer_step}

pub step_under : (step : Step) (rows : List Row) (turned : Option Turned) (more : List (List ℕ)) (found : RowsOrFault) → nat_lt most_rows (length rows) ≡ false → IsFew most_rows step (Ok rows) → IsStableStep step (Ok rows) turned [] more found
    → IsStepUnder step rows turned found
step_under step rows turned more found small few x =
    let classes = step_classes step in
    let own = x.put.own in
    let long = x.put.sorted.long in
    let taken : take (length classes) (drop 0 more) ≡ own = (λ i. take (sym long i) (x.put.grown i)) ∙ take_all (length own) own (omega arith) in
    let is : found ≡ step_outcome step own rows = x.stepped.is ∙ ap (λ os. step_outcome step os rows) taken in
    record {
      own = own;
      sorted = x.put.sorted;
      small = ap (has_more_rows most_rows) is ∙ fewer_step most_rows step own (Ok rows) few (lawful_all classes (Ok rows) turned 0 own x.put.sorted) small;
      is = is;
    }
