-- The values that the literals of a plan suggest for the columns of tables.
use Rattle.std.specs.Prelude.{◌≡◌, ℕ, ◌&&◌, Bool, List, ◌++◌, filter, flat_map, map, nat_eq, take}
use Rattle.wd_value.specs.declared.value.Value.{Value}
use Rattle.wd_value.specs.declared.value.ColumnType.{ColumnType}
use Rattle.wd_schema.specs.Meets.{is_of_type}
use Rattle.wd_plan.specs.Plans.{PlanTree}
use Rattle.wd_varied.specs.Literals.{compared, equated, literals}
use Rattle.wd_varied.specs.Values.{near, or_else, small}
use Rattle.wd_varied.specs.declared.conditions.Compared.{Compared}
use Rattle.wd_varied.specs.declared.conditions.Equated.{Equated}
use Rattle.wd_varied.specs.declared.pools.Suggested.{Suggested}

-- the most literals, comparisons and equations of a plan that are looked at
abbrev pub most_literals : ℕ
most_literals = 64

-- a column that is compared with a literal, with each value near the literal
abbrev pub at_column : ℕ → ℕ → Value → Compared
at_column table c v = record { table = table; column = c; value = v }

abbrev pub around : Compared → List Compared
around one = map (at_column one.table one.column) (near one.value)

-- a few small values, and those near the literals
abbrev pub all_near : List Value → List Value
all_near vs = small ++ flat_map near vs

-- a suggestion of a comparison for a column, of its type
abbrev pub is_for : ℕ → ℕ → ColumnType → Compared → Bool
is_for table c kind one = nat_eq one.table table && (nat_eq one.column c && is_of_type kind one.value)

abbrev pub values_for : ℕ → ℕ → ColumnType → List Compared → List Value
values_for table c kind ones = map (λ (one : Compared). one.value) (filter (is_for table c kind) ones)

-- the pool of a column of a type: the values that comparisons with the column suggest, or else those of all values
abbrev pub pool_in : List Compared → List Value → ℕ → ℕ → ColumnType → List Value
pool_in ones all table c kind = or_else (values_for table c kind ones) (filter (is_of_type kind) all)

-- ---- of a plan

-- what a plan suggests: the columns that are compared with literals, with these and with the values near them; the columns that are
-- equated; and all values
pub record Hints : Type 0 where
  pub exact : List Compared
  pub near : List Compared
  pub equated : List Equated
  pub all : List Value

abbrev pub hints : PlanTree → Hints
hints plan = record {
  exact = take most_literals (compared plan);
  near = flat_map around (take most_literals (compared plan));
  equated = take most_literals (equated plan);
  all = all_near (take most_literals (literals plan));
}

-- the suggestions of a plan, found once for all its columns
abbrev pub hints_of : Suggested → Hints
hints_of s = record { exact = s.exact.items; near = s.near.items; equated = s.equated.items; all = s.all.items }

abbrev pub IsSuggested : PlanTree → Suggested → Type 0
IsSuggested plan s = hints_of s ≡ hints plan
