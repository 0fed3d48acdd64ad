-- What is kept of the first evaluation tells of the others.
use Rattle.std.proofs.Common.{◌≡◌, ℕ, ◌+◌, List, Some, None, Ok, sym, ◌∙◌, subst, zero-add}
use Rattle.wd_value.specs.Rows.{Row, Instance}
use Rattle.wd_plan.specs.Outcomes.{Agree, RowsOrFault}
use Rattle.wd_plan.specs.Plans.{PlanTree}
use Rattle.wd_partition.specs.declared.turn.Turn.{Turn}
use Rattle.wd_eval.specs.Tied.{AreTied, turned_at}
use Rattle.wd_eval.proofs.SomeTied.{has_one_stable_outcome}
use Rattle.wd_trail.specs.Trails.{Gives, IsTrail, rows_in}
use Rattle.wd_trail.specs.declared.trail.Trail.{Trail}
use Rattle.wd_trail.proofs.Trails.{trail_gives}
use Rattle.wd_seek.specs.Probed.{IsAgreeing, IsFirst, IsStableOutcome}
use Rattle.wd_seek.proofs.Passing.{agree_self}

module _ (turn : Turn) (plan : PlanTree) (instance : Instance) (o : RowsOrFault) (number : ℕ) where
  pub rows_agree : (rows : List Row) → Gives plan instance (Some (turned_at turn (0 + number))) 0 rows → Agree o (Ok rows) → IsAgreeing turn plan instance o number
  rows_agree rows g agree = record {
    choice = g.choice;
    valid = record { tied = record { number = g.valid.number; tied = subst (λ n. AreTied plan instance (Some (turned_at turn n)) 0 g.choice) (zero-add number) g.tied }; valid = g.valid; small = g.small };
    agree = subst (Agree o) (sym g.is) agree;
  }

  -- the first outcome is that of the trail
  first_is : (trail : Trail) → IsTrail trail plan instance → IsFirst plan instance o → o ≡ Ok (rows_in trail)
  first_is trail kept first =
      let g = trail_gives trail plan instance kept in
      first.tied.is ∙ has_one_stable_outcome plan instance None first.choice g.choice first.tied.valid.tied (record { number = g.valid.number; tied = g.tied }) ∙ g.is

  pub same_agree : (trail : Trail) → IsTrail trail plan instance → IsFirst plan instance o → Gives plan instance (Some (turned_at turn (0 + number))) 0 (rows_in trail) → IsAgreeing turn plan instance o number
  same_agree trail kept first g = rows_agree (rows_in trail) g (subst (λ r. Agree r (Ok (rows_in trail))) (sym (first_is trail kept first)) (agree_self (Ok (rows_in trail))))

-- the rows of a trail's last node are the first outcome
pub first_gives : (plan : PlanTree) (instance : Instance) (trail : Trail) → IsTrail trail plan instance → IsFirst plan instance (Ok (rows_in trail))
first_gives plan instance trail kept =
    let g = trail_gives trail plan instance kept in
    record { choice = g.choice; tied = record { valid = record { tied = record { number = g.valid.number; tied = g.tied }; valid = g.valid; small = g.small }; is = sym g.is } }

-- it is the outcome under each choice that keeps tied rows in their order
pub first_under : (plan : PlanTree) (instance : Instance) (o other : RowsOrFault) (choice : List (List ℕ)) → IsFirst plan instance o → IsStableOutcome plan instance None choice other → IsStableOutcome plan instance None choice o
first_under plan instance o other choice first under = record {
  valid = under.valid;
  is = first.tied.is ∙ has_one_stable_outcome plan instance None first.choice choice first.tied.valid.tied under.valid.tied;
}
