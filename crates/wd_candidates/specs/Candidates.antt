-- The candidate instances in which a call or a limit may show two answers: small tables whose rows tie.
use Rattle.std.specs.Prelude.{ℕ, zero, suc, ◌+◌, ◌%◌, Bool, false, not, List, [], ◌∷◌, flat_map, map, length, pos, if◌then◌else◌, Option, Some, None}
use Rattle.std.specs.List.{list_any}
use Rattle.wd_value.specs.declared.value.Value.{Value}
use Rattle.wd_value.specs.declared.value.Value.TheVariants.{Null, Int, Text, Bool as Truth}
use Rattle.wd_value.specs.declared.value.ColumnType.{ColumnType}
use Rattle.wd_value.specs.declared.value.ColumnType.TheVariants as type
use Rattle.wd_value.specs.Bags.{positions}
use Rattle.wd_value.specs.Rows.{Row, Instance}
use Rattle.wd_schema.specs.declared.table.Column.{Column}
use Rattle.wd_schema.specs.Tables.{KeyRule, TableRule}
use Rattle.wd_plan.specs.Plans.{PlanTree, has, is_scanned}
use Rattle.wd_facts.specs.Given.{table_rule}
use Rattle.wd_candidates.specs.Fixed.{fixed_value}
use Rattle.wd_candidates.specs.Tied.{NodeColumns, is_tied, ordered_by}
use Rattle.wd_candidates.specs.declared.shape.Shape.{Shape}
use Rattle.wd_candidates.specs.declared.shape.Style.{Style}
use Rattle.wd_candidates.specs.declared.shape.Style.TheVariants.{TiedNull, TiedFirst, KeysApart}

-- ---- values

-- four texts and four truth values in turn
abbrev pub letter : ℕ → List ℕ
letter i = (97 + i % 4) ∷ []

abbrev pub alternating : ℕ → Bool
alternating zero = false
alternating (suc i) = not (alternating i)

-- the values of a type by number, from 0: the whole numbers from 1; 'a', 'b', 'c', 'd'; false, true, false, true
abbrev pub value_of_type : ColumnType → ℕ → Value
value_of_type type.SmallInt i = Int (pos (i + 1))
value_of_type type.Integer i = Int (pos (i + 1))
value_of_type type.BigInt i = Int (pos (i + 1))
value_of_type type.Text i = Text (letter i)
value_of_type type.Boolean i = Truth (alternating i)

-- NULL where the column may hold it, else the type's first value
abbrev pub null_or_first : Column → Value
null_or_first column = if column.not_null then value_of_type column.kind 0 else Null

-- the value in row i of a column, by whether it is tied and whether it is in a key
abbrev pub styled_value : Style → Bool → Bool → Column → ℕ → Value
styled_value TiedNull tied keyed column i = if tied then null_or_first column else value_of_type column.kind i
styled_value TiedFirst tied keyed column i = value_of_type column.kind (if tied then 0 else i)
styled_value KeysApart tied keyed column i = value_of_type column.kind (if keyed then i else 0)

-- a fixed column has its value in every row, another one the styled value
abbrev pub cell : Option Value → Value → Value
cell None v = v
cell (Some fixed) v = fixed

-- ---- tables

abbrev pub is_keyed : List KeyRule → ℕ → Bool
is_keyed keys c = list_any (λ (key : KeyRule). has key.columns c) keys

-- the cells of a row from column c on, by what each column holds
abbrev pub cells : (ℕ → Column → Value) → ℕ → List Column → Row
cells holds c [] = []
cells holds c (column ∷ columns) = holds c column ∷ cells holds (c + 1) columns

-- row i of a table, by which of its columns are fixed and which are tied
abbrev pub candidate_row : TableRule → (ℕ → Option Value) → (ℕ → Bool) → Style → ℕ → Row
candidate_row table fixed tied style i = cells (λ c column. cell (fixed c) (styled_value style (tied c) (is_keyed table.keys c) column i)) 0 table.columns

-- the shape's number of rows where the plan scans the table, else none
abbrev pub candidate_rows : Bool → TableRule → (ℕ → Option Value) → (ℕ → Bool) → Shape → List Row
candidate_rows scanned table fixed tied shape = if scanned then map (candidate_row table fixed tied shape.style) (positions shape.rows) else []

-- the rows of each table, in order of declaration
abbrev pub candidate : List TableRule → PlanTree → NodeColumns → Shape → Instance
candidate tables plan o shape = map (λ t. candidate_rows (is_scanned plan t) (table_rule tables t) (fixed_value (table_rule tables t).columns plan t) (is_tied o t) shape) (positions (length tables))

-- ---- all candidates

abbrev pub styles : List Style
styles = TiedNull ∷ TiedFirst ∷ KeysApart ∷ []

-- 2, 3 and 4 rows, and for each number of rows every style
abbrev pub shapes : List Shape
shapes = flat_map (λ rows. map (λ style. record { rows = rows; style = style }) styles) (2 ∷ 3 ∷ 4 ∷ [])

-- the candidates for a call or a limit, in order; none where the plan has no such call or limit
abbrev pub candidates : List TableRule → PlanTree → ℕ → Option ℕ → List Instance
candidates tables plan node call = over (ordered_by plan node call)
  where
    over : Option NodeColumns → List Instance
    over None = []
    over (Some o) = map (candidate tables plan o) shapes
