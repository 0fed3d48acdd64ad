-- What is found once of a plan, and once of a call or a limit, for all its candidates.
use Rattle.std.specs.Prelude.{◌≡◌, ℕ, ◌<◌, Bool, false, List, [], length, map, slice_index_or, Option, Some, None, ⊤}
use Rattle.wd_value.specs.declared.value.Value.{Value}
use Rattle.wd_schema.specs.Tables.{TableRule}
use Rattle.wd_plan.specs.Plans.{PlanTree, is_scanned}
use Rattle.wd_facts.specs.Given.{table_rule}
use Rattle.wd_value.specs.Rows.{Instance}
use Rattle.wd_candidates.specs.Candidates.{candidate}
use Rattle.wd_candidates.specs.Fixed.{fixed_value}
use Rattle.wd_candidates.specs.Tied.{NodeColumns, is_tied}
use Rattle.wd_candidates.specs.declared.outline.Outline.{Outline}
use Rattle.wd_candidates.specs.declared.shape.Shape.{Shape}
use Rattle.wd_candidates.specs.declared.tied.TiedColumns.{TiedColumns}

-- whether a table is scanned, and what a table's column is fixed to, by their numbers
abbrev pub scanned_in : Outline → ℕ → Bool
scanned_in o table = slice_index_or o.scanned.items table false

abbrev pub fixed_in : Outline → ℕ → ℕ → Option Value
fixed_in o table c = slice_index_or (slice_index_or (map (λ columns. columns.items) o.fixed.items) table []) c None

abbrev pub tied_in : TiedColumns → ℕ → ℕ → Bool
tied_in t table c = slice_index_or (slice_index_or (map (λ columns. columns.items) t.tables.items) table []) c false

-- the tables that a plan scans, and the columns that it fixes
pub record IsOutline (tables : List TableRule) (plan : PlanTree) (o : Outline) : Type 0 where
  pub scanned : (table : ℕ) → table < length tables → scanned_in o table ≡ is_scanned plan table
  pub fixed : (table c : ℕ) → table < length tables → c < length (table_rule tables table).columns → fixed_in o table c ≡ fixed_value (table_rule tables table).columns plan table c

-- the table columns that are tied
pub record AreTied (tables : List TableRule) (o : NodeColumns) (t : TiedColumns) : Type 0 where
  pub is : (table c : ℕ) → table < length tables → c < length (table_rule tables table).columns → tied_in t table c ≡ is_tied o table c

-- the tied columns of a call's class or a limit's keys, where the plan has such a call or limit; `None` where it has none
abbrev pub AreTiedBy : List TableRule → Option NodeColumns → Option TiedColumns → Type 0
AreTiedBy tables None None = ⊤
AreTiedBy tables None (Some t) = ⊥
AreTiedBy tables (Some o) None = ⊥
AreTiedBy tables (Some o) (Some t) = AreTied tables o t

-- the instance is the candidate of this shape, of each plan and each call or limit to which the two findings belong
abbrev pub IsCandidate : List TableRule → Outline → TiedColumns → Shape → Instance → Type 0
IsCandidate tables outline tied shape instance = (plan : PlanTree) (o : NodeColumns) → IsOutline tables plan outline → AreTied tables o tied → instance ≡ candidate tables plan o shape
