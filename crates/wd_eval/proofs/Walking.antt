-- A plan whose last node is a step.
use Rattle.std.proofs.Common.{◌≡◌, ℕ, ◌+◌, ◌∙◌, Option, sym, ap, Result, Ok, Err}
use Rattle.std.specs.Prelude.{OnOk}
use Rattle.wd_plan.specs.Expressions.{Expression}
use Rattle.wd_plan.specs.Plans.{Step, Distinct, PlanTree, Scan, Join, Over}

abbrev pub height : PlanTree → ℕ
height (Scan table columns) = 0
height (Join condition left right) = 1 + (height left + height right)
height (Over step input) = 1 + height input

-- its last node is a step over this input
abbrev pub IsStepOver : PlanTree → PlanTree → Type 0
IsStepOver plan input = (step : Step) × (plan ≡ Over step input)

last_step : PlanTree → Step
last_step (Scan table columns) = Distinct
last_step (Join condition left right) = Distinct
last_step (Over step input) = step

-- a plan has one last step
pub one_step : (plan : PlanTree) (step other : Step) (input below : PlanTree) → plan ≡ Over step input → plan ≡ Over other below → other ≡ step
unfolding last_step
one_step plan step other input below is also = ap last_step (sym also ∙ is)

pub no_scan : (table columns : ℕ) (step : Step) (input : PlanTree) → Scan table columns ≡ Over step input → ⊥
no_scan table columns step input e = absurd (cc)

pub no_join : (condition : Option Expression) (left right : PlanTree) (step : Step) (input : PlanTree) → Join condition left right ≡ Over step input → ⊥
no_join condition left right step input e = absurd (cc)

pub on_ok : {A E : Type 0} {P : Type 0} (r : Result A E) → P → OnOk r P
on_ok (Ok x) p = p
on_ok (Err e) p = tt
