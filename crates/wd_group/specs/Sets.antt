-- A grouping set's groups as partitions of the rows by its columns.
use Rattle.std.specs.Prelude.{◌≡◌, ℕ, ◌+◌, ◌<◌, Bool, false, not, List, [], ◌∷◌, ◌++◌, filter, flat_map, length, map, nat_eq, Ok, Result, if◌then◌else◌}
use Rattle.std.specs.List.{list_any}
use Rattle.wd_value.specs.declared.value.Value.{Value}
use Rattle.wd_value.specs.declared.value.Value.TheVariants.{Null}
use Rattle.wd_value.specs.declared.value.Fault.{Fault}
use Rattle.wd_value.specs.Bags.{positions}
use Rattle.wd_value.specs.Rows.{Row, column_of, row_at}
use Rattle.wd_plan.specs.Faults.{all_ok, and_then}
use Rattle.wd_plan.specs.Outcomes.{group_row, group_value, shown}
use Rattle.wd_plan.specs.Partitions.{members}
use Rattle.wd_plan.specs.Plans.{ClassRule, GroupRule, has}
use Rattle.wd_plan.specs.Sorting.{same_partition}
use Rattle.wd_group.specs.declared.groups.Groups.{Groups}
use Rattle.wd_group.specs.Groups.{own_list}

-- what a set shows of a row in a grouping column
abbrev pub shown_in : List ℕ → Row → ℕ → Value
shown_in set row c = if has set c then column_of row c else Null

-- what is shown of the grouping columns, and after that the values of the calls over its rows
abbrev pub row_over : GroupRule → List ℕ → List Row → Row → Result Row Fault
row_over rule set rows group = and_then (all_ok (map (group_value set rows) rule.calls)) (λ values. Ok (group ++ values))

-- how many values the row of a group has
abbrev pub row_width : GroupRule → ℕ
row_width rule = rule.columns + length rule.calls

-- the grouping columns that a set has, among the first `columns`
abbrev pub set_columns : ℕ → List ℕ → List ℕ
set_columns columns set = filter (has set) (positions columns)

-- the class whose partitions are a set's groups
abbrev pub set_class : ℕ → List ℕ → ClassRule
set_class columns set = record { partition = set_columns columns set; order = [] }

-- for each row the positions of the rows of its group, in order
abbrev pub AreGroups : ClassRule → List Row → Groups → Type 0
AreGroups class rows groups = (p : ℕ) → p < length rows → own_list groups p ≡ members class rows (positions (length rows)) p

-- whether a position is the first of a list
abbrev pub begins_at : List ℕ → ℕ → Bool
begins_at [] p = false
begins_at (q ∷ qs) p = nat_eq q p

-- whether one of the first n rows is of the group of the row at p
abbrev pub is_met : ClassRule → List Row → ℕ → ℕ → Bool
is_met class rows n p = list_any (λ q. same_partition class (row_at rows p) (row_at rows q)) (positions n)

-- whether the row at a position is the first of its group
abbrev pub is_first : ℕ → List ℕ → List Row → ℕ → Bool
is_first columns set rows p = not (is_met (set_class columns set) rows p p)

-- the row of the group whose first row is at a position, where there is one
abbrev pub row_from : GroupRule → List ℕ → List Row → ℕ → List (Result Row Fault)
row_from rule set rows p = if is_first rule.columns set rows p then group_row rule rows set (shown rule.columns set (row_at rows p)) ∷ [] else []

-- the rows of the groups whose first rows are among the first n positions
abbrev pub rows_from : GroupRule → List ℕ → List Row → ℕ → List (Result Row Fault)
rows_from rule set rows n = flat_map (row_from rule set rows) (positions n)
