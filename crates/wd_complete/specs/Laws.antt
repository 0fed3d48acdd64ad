-- The plain class: where no rule justifies the call, two answers are found.
use Rattle.std.specs.Prelude.{◌≡◌, ℕ, true, List, [], ◌∷◌, None, ⊤}
use Rattle.wd_value.specs.Rows.{Instance}
use Rattle.wd_schema.specs.Tables.{TableRule}
use Rattle.wd_schema.specs.WellFormed.{IsWellFormed}
use Rattle.wd_plan.specs.Fits.{fits}
use Rattle.wd_plan.specs.Sorting.{class_columns}
use Rattle.wd_rules.specs.Laws.{IsTrueWitness}
use Rattle.wd_analyse.specs.Analysis.{IsAnswer}
use Rattle.wd_analyse.specs.declared.analysis.Analysis.{Analysis}
use Rattle.wd_analyse.specs.declared.analysis.Analysis.TheVariants.{Certified, Open}
use Rattle.wd_candidates.specs.Candidates.{candidate}
use Rattle.wd_candidates.specs.declared.shape.Style.TheVariants.{TiedNull}
use Rattle.wd_partition.specs.declared.turn.Turn.TheVariants.{Reversed}
use Rattle.wd_seek.specs.Sought.{IsSought, reasons_of, to_try}
use Rattle.wd_complete.specs.Plain.{IsPlain, PlainPlan, input_of, plan_by}

-- the table of two rows in which the window's columns hold NULL where they may, else the first value, and each other column
-- another value in each row
abbrev pub two_rows : List TableRule → PlainPlan → Instance
two_rows tables p = candidate tables (plan_by p) (record { node = input_of p; columns = class_columns p.class }) (record { rows = 2; style = TiedNull })

-- a plain plan that fits well formed tables
pub record IsPlainOver (tables : List TableRule) (p : PlainPlan) : Type 0 where
  pub tables_are : IsWellFormed tables
  pub plain : IsPlain p
  pub fitting : fits tables (plan_by p) ≡ true

abbrev pub IsOpen : Analysis → Type 0
IsOpen (Certified certificate) = ⊥
IsOpen (Open reasons marks) = ⊤

-- where no rule justifies the call of a plain plan, the table of two rows is a true witness, under the two orders of its rows
abbrev pub OpenShowsTwo : Type 0
OpenShowsTwo = (tables : List TableRule) (p : PlainPlan) (analysis : Analysis) → IsPlainOver tables p → IsAnswer tables (plan_by p) analysis → IsOpen analysis
    → IsTrueWitness tables (plan_by p) (two_rows tables p) ((0 ∷ 1 ∷ []) ∷ []) ((1 ∷ 0 ∷ []) ∷ [])

-- where no rule justifies the call of a plain plan, the search for a witness finds one
abbrev pub OpenIsFound : Type 0
OpenIsFound = (tables : List TableRule) (p : PlainPlan) (analysis : Analysis) (end : ℕ) → IsPlainOver tables p → IsAnswer tables (plan_by p) analysis → IsOpen analysis
    → IsSought Reversed tables (plan_by p) (to_try tables (plan_by p) (reasons_of analysis)) 0 None end → ⊥
