-- The table columns that the conditions of a plan fix to one value.
use Rattle.std.specs.Prelude.{ℕ, Bool, false, ◌&&◌, List, [], ◌++◌, flat_map, find, nat_eq, slice_get, if◌then◌else◌, Option, Some, None, option_and_then, option_map, option_to_list}
use Rattle.wd_value.specs.declared.value.Value.{Value}
use Rattle.wd_value.specs.declared.value.Value.TheVariants.{Null}
use Rattle.wd_schema.specs.declared.table.Column.{Column as TableColumnOf}
use Rattle.wd_schema.specs.Meets.{is_of_type}
use Rattle.wd_plan.specs.declared.expression.ComparisonOp.{ComparisonOp}
use Rattle.wd_plan.specs.declared.expression.ComparisonOp.TheVariants as op
use Rattle.wd_plan.specs.Expressions.{Expression, Compare, IsNull, is_null}
use Rattle.wd_plan.specs.Plans.{PlanTree, Scan, Join, Over, Filter}
use Rattle.wd_step_facts.specs.Steps.{Side, Plain, Fixed, Other, side_of, conjuncts, conjuncts_of}
use Rattle.wd_candidates.specs.declared.origins.TableColumn.{TableColumn}
use Rattle.wd_candidates.specs.declared.fixed.Fixing.{Fixing}
use Rattle.wd_candidates.specs.declared.fixed.Setting.{Setting}
use Rattle.wd_candidates.specs.Origins.{origin}

-- ---- what a conjunct sets

-- the column equals the literal, which is not NULL
abbrev pub set_to : ℕ → Value → Option Setting
set_to c v = if is_null v then None else Some (record { column = c; value = v })

abbrev pub set_to_side : ℕ → Side → Option Setting
set_to_side c (Plain d) = None
set_to_side c (Fixed v) = set_to c v
set_to_side c Other = None

abbrev pub side_set_to : Value → Side → Option Setting
side_set_to v (Plain c) = set_to c v
side_set_to v (Fixed w) = None
side_set_to v Other = None

-- `column = literal`, or `literal = column`
abbrev pub equality_sets : Side → Side → Option Setting
equality_sets (Plain c) b = set_to_side c b
equality_sets (Fixed v) b = side_set_to v b
equality_sets Other b = None

abbrev pub comparison_sets : ComparisonOp → Side → Side → Option Setting
comparison_sets op.Equal a b = equality_sets a b
comparison_sets op.NotEqual a b = None
comparison_sets op.Less a b = None
comparison_sets op.LessOrEqual a b = None
comparison_sets op.Greater a b = None
comparison_sets op.GreaterOrEqual a b = None

-- `column IS NULL`
abbrev pub null_sets : Side → Option Setting
null_sets (Plain c) = Some (record { column = c; value = Null })
null_sets (Fixed v) = None
null_sets Other = None

-- the column of a node's input that a conjunct sets, and to what
abbrev pub sets : Expression → Option Setting
sets (Compare o a b) = comparison_sets o (side_of a) (side_of b)
sets (IsNull a) = null_sets (side_of a)
sets e = None

-- ---- what a plan fixes

abbrev pub at_column : Value → TableColumn → Fixing
at_column v place = record { table = place.table; column = place.column; value = v }

-- the table column that the set column copies
abbrev pub fixing : (ℕ → Option TableColumn) → Expression → Option Fixing
fixing origins e = option_and_then (λ (s : Setting). option_map (at_column s.value) (origins s.column)) (sets e)

abbrev pub fixings_in : (ℕ → Option TableColumn) → List Expression → List Fixing
fixings_in origins es = flat_map (λ e. option_to_list (fixing origins e)) es

-- what is fixed by all conjuncts of Filters and Joins, the nodes in postorder, a condition's conjuncts in text order
abbrev pub fixings : PlanTree → List Fixing
fixings (Scan table columns) = []
fixings (Join condition left right) = (fixings left ++ fixings right) ++ fixings_in (origin (Join condition left right)) (conjuncts_of condition)
fixings (Over (Filter condition) input) = fixings input ++ fixings_in (origin input) (conjuncts condition)
fixings (Over step input) = fixings input

-- whether a column of the table with this number is fixed to a value of its type and range
abbrev pub fixes : List TableColumnOf → ℕ → ℕ → Fixing → Bool
fixes columns table c f = (nat_eq f.table table && nat_eq f.column c) && of_column (slice_get columns c)
  where
    of_column : Option TableColumnOf → Bool
    of_column None = false
    of_column (Some column) = is_of_type column.kind f.value

-- the value to which the first such conjunct fixes the column
abbrev pub fixed_value : List TableColumnOf → PlanTree → ℕ → ℕ → Option Value
fixed_value columns plan table c = option_map (λ (f : Fixing). f.value) (find (fixes columns table c) (fixings plan))
