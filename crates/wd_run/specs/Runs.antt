-- The answers of a query over the data of tables, from the texts alone.
use Rattle.std.specs.Prelude.{◌≡◌, ◌≢◌, ℕ, List, [], map, length, slice_get, Some, All, AllPairs, Any, IsTrue}
use Rattle.std.specs.Borrow.{Bor}
use Rattle.wd_value.specs.Rows.{Row, Instance, table_at}
use Rattle.wd_schema.specs.Meets.{MeetsTable}
use Rattle.wd_schema.specs.Tables.{TableRule}
use Rattle.wd_plan.specs.Outcomes.{RowsOrFault}
use Rattle.wd_plan.specs.Plans.{PlanTree, is_scanned}
use Rattle.wd_eval.specs.Runs.{IsAnswerWithin}
use Rattle.wd_tables.specs.Data.{HoldsRows}
use Rattle.wd_resolve.specs.Answers.{Answer}
use Rattle.wd_resolve.specs.Laws.{Reads}

-- the names and the texts that a slice of pairs shows
abbrev pub data_of : List (Bor (List ℕ) × Bor (List ℕ)) → List (List ℕ × List ℕ)
data_of given = map (λ g. (g.0.now, g.1.now)) given

-- ---- the data of a schema's tables

-- the names of tables differ
abbrev pub NamesDiffer : List TableRule → Type 0
NamesDiffer tables = AllPairs (λ a b. a.name ≢ b.name) tables

-- the table of that number has the name
pub record IsNamed (tables : List TableRule) (name : List ℕ) (number : ℕ) : Type 0 where
  pub table : TableRule
  pub found : slice_get tables number ≡ Some table
  pub name_is : table.name ≡ name

-- a text under the table's name holds the rows, and without a text there are none; the rows meet the table
pub record HoldsTable (table : TableRule) (given : List (List ℕ × List ℕ)) (rows : List Row) : Type 0 where
  pub meets : MeetsTable table rows
  pub held : All (λ g. g.0 ≡ table.name → HoldsRows table g.1 rows) given
  pub empty : All (λ g. g.0 ≢ table.name) given → rows ≡ []

-- each text is given under the name of a table, no name is given twice, and the instance has each table's rows
pub record HoldsData (tables : List TableRule) (given : List (List ℕ × List ℕ)) (instance : Instance) : Type 0 where
  pub lists : length instance ≡ length tables
  pub named : All (λ g. (n : ℕ) × IsNamed tables g.0 n) given
  pub once : AllPairs (λ a b. a.0 ≢ b.0) given
  pub each : (n : ℕ) (table : TableRule) → slice_get tables n ≡ Some table → HoldsTable table given (table_at instance n)

-- ---- the tables that a plan reads

-- the plan scans the table of that number
abbrev pub ReadsTable : PlanTree → ℕ → Type 0
ReadsTable plan number = IsTrue (is_scanned plan number)

-- data is given under the name
abbrev pub IsGiven : List (List ℕ × List ℕ) → List ℕ → Type 0
IsGiven given name = Any (λ g. g.0 ≡ name) given

-- the table of that number has data, if the plan scans it
abbrev pub HasDataAt : List TableRule → List (List ℕ × List ℕ) → PlanTree → ℕ → Type 0
HasDataAt tables given plan number = (table : TableRule) → slice_get tables number ≡ Some table → ReadsTable plan number → IsGiven given table.name

-- each table that the plan scans has data
abbrev pub HasData : List TableRule → List (List ℕ × List ℕ) → PlanTree → Type 0
HasData tables given plan = (number : ℕ) → HasDataAt tables given plan number

-- ---- answers

-- The plan and the names are those of the schema's text and the query's text, each table that the plan scans has data, the data holds the
-- instance, and the answer is one of the plan over it: its outcome under some valid choice of orderings under which no step is larger
-- than allowed.
pub record IsAnswer (schema query : List ℕ) (given : List (List ℕ × List ℕ)) (names : List (List ℕ)) (answer : RowsOrFault) : Type 0 where
  pub read : Answer
  pub reads : Reads schema query read
  pub instance : Instance
  pub has_data : HasData reads.tables given read.plan
  pub data_holds : HoldsData reads.tables given instance
  pub answers : IsAnswerWithin read.plan instance answer
  pub named : names ≡ read.names
