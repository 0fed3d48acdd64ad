-- A witness over an instance of a schema, which has the tables that a plan scans, by name.
use Rattle.std.specs.Prelude.{◌≡◌, ◌≢◌, ◌↔◌, ℕ, ◌<◌, ◌≤◌, All, AllPairs, Any, List, [], length, find, Some, true, false}
use Rattle.std.specs.Str.{bytes_eq}
use Rattle.wd_value.specs.Rows.{Instance, table_at}
use Rattle.wd_schema.specs.Tables.{TableRule}
use Rattle.wd_plan.specs.Plans.{PlanTree, is_scanned}
use Rattle.wd_facts.specs.Given.{table_rule}
use Rattle.wd_witness_text.specs.Witnesses.{IsOf, TableRows, WitnessRecord, instance_under}
use Rattle.wd_candidates.specs.Outlines.{scanned_in}
use Rattle.wd_candidates.specs.declared.outline.Outline.{Outline}

-- the name of a table that the plan scans
pub record IsNameOf (tables : List TableRule) (plan : PlanTree) (name : List ℕ) : Type 0 where
  pub table : ℕ
  pub within : table < length tables
  pub scanned : is_scanned plan table ≡ true
  pub is : (table_rule tables table).name ≡ name

-- the witness has the instance's rows, under the names of the tables that the plan scans
pub record IsOver (tables : List TableRule) (plan : PlanTree) (instance : Instance) (w : WitnessRecord) : Type 0 where
  pub of_tables : IsOf tables w
  pub named : (name : List ℕ) → Any (λ t. t.name ≡ name) w.tables ↔ IsNameOf tables plan name
  pub is : instance_under tables w ≡ instance

-- no table of the instance has more rows than a witness may have, and a table that the plan does not scan has none
pub record HasFewRows (tables : List TableRule) (plan : PlanTree) (instance : Instance) : Type 0 where
  pub few : (table : ℕ) → table < length tables → length (table_at instance table) ≤ 64
  pub none : (table : ℕ) → table < length tables → is_scanned plan table ≡ false → table_at instance table ≡ []

-- the names of tables differ
abbrev pub NamesDiffer : List TableRule → Type 0
NamesDiffer tables = AllPairs (λ a b. a.name ≢ b.name) tables

-- ---- by an outline

-- the name is that of the table with this number, which is scanned
pub record IsScannedName (tables : List TableRule) (outline : Outline) (table : ℕ) (name : List ℕ) : Type 0 where
  pub within : table < length tables
  pub scanned : scanned_in outline table ≡ true
  pub is : (table_rule tables table).name ≡ name

-- the rows of the scanned table with this number, under its name
pub record IsScannedTable (tables : List TableRule) (outline : Outline) (instance : Instance) (t : TableRows) : Type 0 where
  pub table : ℕ
  pub name : IsScannedName tables outline table t.name
  pub rows : t.rows ≡ table_at instance table

-- each scanned table with its rows under its name, and no other table
pub record HasScannedRows (tables : List TableRule) (outline : Outline) (instance : Instance) (named : List TableRows) : Type 0 where
  pub each : All (IsScannedTable tables outline instance) named
  pub found : (table : ℕ) → table < length tables → scanned_in outline table ≡ true
      → find (λ t. bytes_eq (table_rule tables table).name t.name) named ≡ Some (record { name = (table_rule tables table).name; rows = table_at instance table })
