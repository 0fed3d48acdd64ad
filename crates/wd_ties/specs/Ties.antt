-- The columns of tables on which rows tie that two choices order differently.
use Rattle.std.specs.Prelude.{◌≡◌, ℕ, ◌&&◌, Bool, List, [], flat_map, nat_eq, option_to_list, slice_get, take, Option, Some, None}
use Rattle.std.specs.List.{list_any}
use Rattle.wd_plan.specs.Plans.{PlanTree}
use Rattle.wd_candidates.specs.Origins.{origin}
use Rattle.wd_candidates.specs.Tied.{NodeColumns}
use Rattle.wd_candidates.specs.declared.origins.TableColumn.{TableColumn}
use Rattle.wd_ties.specs.Orderings.{orderings}

-- the number of the first ordering in which two choices differ, or one past the last where they don't
pub record IsFirstDifference (first second : List (List ℕ)) (n : ℕ) : Type 0 where
  pub alike : take n first ≡ take n second
  pub differ : slice_get first n ≡ slice_get second n → slice_get first n ≡ None

-- the table columns that some columns of a node copy
abbrev pub copied : NodeColumns → List TableColumn
copied o = flat_map (λ k. option_to_list (origin o.node k)) o.columns

abbrev pub copied_in : Option NodeColumns → List TableColumn
copied_in None = []
copied_in (Some o) = copied o

-- the table columns of a plan's first ordering in which two choices differ: the rows below it are the same under both, so rows that
-- change places tie, and are equal in these columns
abbrev pub AreTies : PlanTree → List (List ℕ) → List (List ℕ) → List TableColumn → Type 0
AreTies plan first second ties = (n : ℕ) × IsFirstDifference first second n × (ties ≡ copied_in (slice_get (orderings plan) n))

-- whether a column of a table is among some
abbrev pub is_among : List TableColumn → ℕ → ℕ → Bool
is_among ties table c = list_any (λ (tie : TableColumn). nat_eq tie.table table && nat_eq tie.column c) ties
