-- How often the Scans of a plan read each table, and tables that are taken for its Scans.
use Rattle.std.specs.Prelude.{◌≡◌, ℕ, ◌+◌, ◌≤◌, Bool, true, false, List, drop, get_or, nat_eq}
use Rattle.wd_value.specs.Rows.{Instance, table_at}
use Rattle.wd_plan.specs.Plans.{PlanTree, Scan, Join, Over}
use Rattle.wd_nodes.specs.Held.{IsHeld, MovedIn, scan_count}

abbrev pub one_if : Bool → ℕ
one_if true = 1
one_if false = 0

-- how many Scans of a plan read the table with a number
abbrev pub scans_of : PlanTree → ℕ → ℕ
scans_of (Scan of columns) table = one_if (nat_eq of table)
scans_of (Join condition left right) table = scans_of left table + scans_of right table
scans_of (Over step input) table = scans_of input table

-- the count of a table; past the last one it is 2, which says: not exactly one
abbrev pub count_at : List ℕ → ℕ → ℕ
count_at counts table = get_or counts table 2

-- the Scans of the plan are counted too: where a count is at most 1 afterwards, they are all in it
abbrev pub AreCounted : PlanTree → List ℕ → List ℕ → Type 0
AreCounted plan old new = (table : ℕ) → count_at new table ≤ 1 → count_at old table + scans_of plan table ≤ count_at new table

-- at most one Scan of the plan reads a table whose count is 1
abbrev pub AreReadOnce : List ℕ → PlanTree → Type 0
AreReadOnce counts plan = (table : ℕ) → count_at counts table ≡ 1 → scans_of plan table ≤ 1

-- tables whose count is 1 are taken out of the tables for the Scans of a plan, and moved in before those that were moved in already
pub record IsTaken (counts : List ℕ) (plan : PlanTree) (old new : Instance) (before after : MovedIn) : Type 0 where
  -- with them the Scans read what they read before
  pub held : AreReadOnce counts plan → IsHeld plan new after old
  pub rest : drop (scan_count plan) after ≡ before
  -- a table of another count, or that the plan does not scan, stays
  pub others : (table : ℕ) → (count_at counts table ≡ 1 → scans_of plan table ≡ 0) → table_at new table ≡ table_at old table
