-- The slots for what the tables' columns are fixed to, and how fixings fill them.
use Rattle.std.specs.Prelude.{◌≡◌, ℕ, ◌<◌, List, [], find, length, map, slice_index_or, Option, None, option_map}
use Rattle.wd_value.specs.declared.value.Value.{Value}
use Rattle.wd_schema.specs.declared.table.Column.{Column as TableColumnOf}
use Rattle.wd_schema.specs.Tables.{TableRule}
use Rattle.wd_facts.specs.Given.{table_rule}
use Rattle.wd_candidates.specs.declared.fixed.Fixing.{Fixing}
use Rattle.wd_candidates.specs.Fixed.{fixes}

-- the slot of a table's column, both by number
abbrev pub slot_in : List (List (Option Value)) → ℕ → ℕ → Option Value
slot_in slots table c = slice_index_or (slice_index_or slots table []) c None

-- an empty slot for each column of each table
abbrev pub empty_slots : List TableRule → List (List (Option Value))
empty_slots tables = map (λ (t : TableRule). map (λ column. None) t.columns) tables

-- the value to which the first of some fixings fixes a column
abbrev pub first_value : List TableColumnOf → List Fixing → ℕ → ℕ → Option Value
first_value columns fs table c = option_map (λ (f : Fixing). f.value) (find (fixes columns table c) fs)

-- a slot for each column of each table
pub record HasSlots (tables : List TableRule) (slots : List (List (Option Value))) : Type 0 where
  pub rows : length slots ≡ length tables
  pub columns : (table : ℕ) → table < length tables → length (slice_index_or slots table []) ≡ length (table_rule tables table).columns

-- slots that hold what some fixings fix their columns to
pub record AreFilled (tables : List TableRule) (fs : List Fixing) (slots : List (List (Option Value))) : Type 0 where
  pub shape : HasSlots tables slots
  pub values : (table c : ℕ) → table < length tables → c < length (table_rule tables table).columns → slot_in slots table c ≡ first_value (table_rule tables table).columns fs table c
