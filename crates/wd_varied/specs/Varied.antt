-- The candidates of a further search: tables of a given number of rows, filled by a number.
use Rattle.std.specs.Prelude.{◌≡◌, ℕ, ◌+◌, Bool, List, [], ◌∷◌, map, length, if◌then◌else◌, Option}
use Rattle.wd_value.specs.declared.value.Value.{Value}
use Rattle.wd_value.specs.Bags.{positions}
use Rattle.wd_value.specs.Rows.{Instance, Row}
use Rattle.wd_schema.specs.declared.table.Column.{Column}
use Rattle.wd_schema.specs.Tables.{KeyRule, TableRule}
use Rattle.wd_plan.specs.Plans.{PlanTree, is_scanned}
use Rattle.wd_facts.specs.Given.{table_rule}
use Rattle.wd_candidates.specs.Candidates.{cell}
use Rattle.wd_candidates.specs.Fixed.{fixed_value}
use Rattle.wd_candidates.specs.Outlines.{IsOutline}
use Rattle.wd_candidates.specs.declared.outline.Outline.{Outline}
use Rattle.wd_varied.specs.Patterns.{FillingRule, drawn, filled, pattern_by}
use Rattle.wd_varied.specs.Places.{differs, source, suggestions}
use Rattle.wd_varied.specs.Suggested.{Hints, IsSuggested, hints, pool_in}
use Rattle.wd_varied.specs.declared.conditions.Compared.{Compared}
use Rattle.wd_varied.specs.declared.place.Place.{Place}
use Rattle.wd_varied.specs.declared.pools.Suggested.{Suggested}

-- the results of a function of a place and an element for each element, the first of which has this place
abbrev pub by_place : {X Y : Type 0} → (ℕ → X → Y) → ℕ → List X → List Y
by_place f c [] = []
by_place f c (x ∷ xs) = f c x ∷ by_place f (c + 1) xs

-- how a column is filled like one at a place: by the pseudo-random number of that one, and with the values that are suggested for it
abbrev pub filled_as : List Compared → List Value → ℕ → ℕ → Bool → Column → Place → FillingRule
filled_as ones all rows number differ column p = record {
  pattern = pattern_by differ column (drawn rows number p.table p.column);
  kind = column.kind;
  pool = pool_in ones all p.table p.column column.kind;
}

-- how a column of a table with the given number of rows is filled in the try with a number
abbrev pub filling : Hints → List KeyRule → ℕ → ℕ → Column → Place → FillingRule
filling h keys rows number column p = filled_as (suggestions h number) h.all rows number (differs h keys number p) column (source h number p)

-- how all columns of a table are filled
abbrev pub fillings : Hints → TableRule → ℕ → ℕ → ℕ → List FillingRule
fillings h rule table rows number = by_place (λ c column. filling h rule.keys rows number column (record { table = table; column = c })) 0 rule.columns

-- the row with a number, of the given number of rows; a fixed column has its value in every row
abbrev pub filled_row : (ℕ → Option Value) → List FillingRule → ℕ → ℕ → Row
filled_row fixed fs rows row = by_place (λ c f. cell (fixed c) (filled f rows row)) 0 fs

-- the given number of rows if the plan scans the table, else none
abbrev pub rows_in : Bool → (ℕ → Option Value) → List FillingRule → ℕ → List Row
rows_in scanned fixed fs rows = if scanned then map (filled_row fixed fs rows) (positions rows) else []

-- the rows of each table, in order of declaration, by the values that are suggested
abbrev pub varied_by : Hints → List TableRule → PlanTree → ℕ → ℕ → Instance
varied_by h tables plan rows number = map (λ t. rows_in (is_scanned plan t) (fixed_value (table_rule tables t).columns plan t) (fillings h (table_rule tables t) t rows number) rows) (positions (length tables))

-- tables with the given number of rows in the try with a number, by what the plan suggests
abbrev pub varied : List TableRule → PlanTree → ℕ → ℕ → Instance
varied tables plan = varied_by (hints plan) tables plan

-- the instance is this one, for each plan with this outline and these suggestions
abbrev pub IsVaried : List TableRule → Outline → Suggested → ℕ → ℕ → Instance → Type 0
IsVaried tables outline suggested rows number instance = (plan : PlanTree) → IsOutline tables plan outline → IsSuggested plan suggested → instance ≡ varied tables plan rows number
