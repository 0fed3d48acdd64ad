-- What a plan and a schema say of a node's rows: columns that are not null, nullable keys, and the given facts.
use Rattle.std.specs.Prelude.{ℕ, ◌+◌, ◌-◌, Bool, true, false, not, ◌&&◌, ◌||◌, List, [], ◌∷◌, ◌++◌, map, filter, flat_map, length, nat_eq, nat_lt, slice_get, Option, Some, None, if◌then◌else◌}
use Rattle.std.specs.List.{list_any, list_all, range_with_len}
use Rattle.wd_value.specs.declared.value.Value.{Value}
use Rattle.wd_schema.specs.declared.table.Column.{Column as TableColumn}
use Rattle.wd_schema.specs.Tables.{KeyRule, TableRule}
use Rattle.wd_plan.specs.declared.expression.ComparisonOp.{ComparisonOp}
use Rattle.wd_plan.specs.declared.expression.ComparisonOp.TheVariants as op
use Rattle.wd_plan.specs.declared.function.FrameFunction.{FrameFunction}
use Rattle.wd_plan.specs.declared.function.FrameFunction.TheVariants.{ValueAt, Aggregate}
use Rattle.wd_plan.specs.declared.function.Function.{Function}
use Rattle.wd_plan.specs.declared.function.Function.TheVariants.{Ranking as Ranked, Shift as Shifted, OfFrame}
use Rattle.wd_plan.specs.declared.function.Ranking.{Ranking}
use Rattle.wd_plan.specs.declared.function.Ranking.TheVariants.{RowNumber, Rank, Ntile}
use Rattle.wd_plan.specs.declared.window.Call.{Call}
use Rattle.wd_plan.specs.declared.window.Exclusion.{Exclusion}
use Rattle.wd_plan.specs.declared.window.Exclusion.TheVariants as exclude
use Rattle.wd_plan.specs.declared.window.Frame.{Frame}
use Rattle.wd_plan.specs.Expressions.{Expression, Column, Literal, Negate, Arithmetic, Compare, Not, And, Or, IsNull, IsNotNull, Case, is_null}
use Rattle.wd_plan.specs.Fits.{step_width, width}
use Rattle.wd_plan.specs.Frames.{is_stable}
use Rattle.wd_plan.specs.Functions.{name_of, name_of_aggregate, signature}
use Rattle.wd_plan.specs.Outcomes.{class_at}
use Rattle.wd_plan.specs.Plans.{Step, Filter, Map, Group, Window, Distinct, Limit, PlanTree, Scan, Join, Over, has}
use Rattle.wd_plan.specs.Sorting.{class_columns, order_columns}
use Rattle.wd_step_facts.specs.declared.facts.Member.{Member}
use Rattle.wd_step_facts.specs.declared.facts.Member.TheVariants as member
use Rattle.wd_step_facts.specs.Facts.{Fact, FactList, columns_named, is_column, is_plain, key_fact, moved_facts}
use Rattle.wd_step_facts.specs.Steps.{Fixed, Other, Plain, Side, all_columns, are_told_apart, both_copied, call_facts, calls_facts, column_fact, comparison_facts, conjunct_facts, conjuncts, conjuncts_of, copied_keys, copies, copy_facts, copy_from, restrict_fact, differ_in, equality_facts, facts_of_conjuncts, facts_of_equal, facts_of_fixed, facts_of_group, fixed_fact, frame_facts, goes_by_key, group_key, group_key_facts, grouping_arguments, grouping_arguments_of, grouping_columns, if_copied, is_call_not_null, is_group_call_not_null, is_output_not_null, is_side, is_side_not_null, keeps_peers_whole, null_facts, output_facts, outputs_facts, over_frame, rank_fact, ranking_facts, rules_out_null, side_of, some_rules_out_null, used, used_fact, value_fact}

-- ---- tables

abbrev pub no_table : TableRule
no_table = record { name = []; columns = []; keys = [] }

abbrev pub table_rule : List TableRule → ℕ → TableRule
table_rule tables table = of_option (slice_get tables table)
  where
    of_option : Option TableRule → TableRule
    of_option None = no_table
    of_option (Some t) = t

abbrev pub is_not_null_column : List TableColumn → ℕ → Bool
is_not_null_column columns c = of_option (slice_get columns c)
  where
    of_option : Option TableColumn → Bool
    of_option None = false
    of_option (Some column) = column.not_null

-- a key that determines the row: NULLs are not distinct in it, or there are none; in a primary key there are none
abbrev pub gives_row : TableRule → KeyRule → Bool
gives_row t key = not key.nulls_distinct || list_all (is_not_null_column t.columns) key.columns

-- the key names columns of the table; in a schema that was read each key does
abbrev pub names_columns : TableRule → KeyRule → Bool
names_columns t key = list_all (λ c. nat_lt c (length t.columns)) key.columns

-- the columns of the keys that determine the row, in text order
abbrev pub row_keys : TableRule → List (List ℕ)
row_keys t = map (λ (key : KeyRule). key.columns) (filter (λ (key : KeyRule). names_columns t key && gives_row t key) t.keys)

-- the columns of the keys that do not determine the row
abbrev pub null_keys : TableRule → List (List ℕ)
null_keys t = map (λ (key : KeyRule). key.columns) (filter (λ (key : KeyRule). names_columns t key && not (gives_row t key)) t.keys)

-- ---- nodes

-- whether a column of a step's rows is known not null, over an input with so many columns of which so much is known
abbrev pub step_not_null : Step → ℕ → (ℕ → Bool) → ℕ → Bool
step_not_null (Filter condition) columns not_null c = not_null c || some_rules_out_null (conjuncts condition) c
step_not_null (Map outputs) columns not_null c = is_output_not_null not_null (slice_get outputs c)
step_not_null (Group g) columns not_null c = if nat_lt c g.columns then (not_null c && list_all (λ set. has set c) g.sets) else is_group_call_not_null (slice_get g.calls (c - g.columns))
step_not_null (Window w) columns not_null c = if nat_lt c columns then not_null c else is_call_not_null (slice_get w.calls (c - columns))
step_not_null step columns not_null c = not_null c

-- whether a column of a node's rows is known not null
abbrev pub is_not_null : List TableRule → PlanTree → ℕ → Bool
is_not_null tables (Scan table columns) c = is_not_null_column (table_rule tables table).columns c
is_not_null tables (Join condition left right) c = (if nat_lt c (width left) then is_not_null tables left c else is_not_null tables right (c - width left)) || some_rules_out_null (conjuncts_of condition) c
is_not_null tables (Over step input) c = step_not_null step (width input) (is_not_null tables input) c

-- what a step leaves of the nullable keys of its input
abbrev pub step_keys : Step → List (List ℕ) → List (List ℕ)
step_keys (Map outputs) keys = copied_keys outputs keys
step_keys (Group g) keys = []
step_keys step keys = keys

abbrev pub nullable_keys : List TableRule → PlanTree → List (List ℕ)
nullable_keys tables (Scan table columns) = null_keys (table_rule tables table)
nullable_keys tables (Join condition left right) = []
nullable_keys tables (Over step input) = step_keys step (nullable_keys tables input)

-- the keys all of whose columns are not null
abbrev pub full_keys : (ℕ → Bool) → List (List ℕ) → List (List ℕ)
full_keys not_null keys = filter (list_all not_null) keys

abbrev pub keys_facts : Member → List (List ℕ) → List Fact
keys_facts row keys = map (key_fact row) keys

-- the given facts of a step, over an input with so many columns, of which so much is known not null, with these nullable keys,
-- that keeps these facts
abbrev pub step_facts : Step → ℕ → (ℕ → Bool) → List (List ℕ) → List Fact → List Fact
step_facts (Filter condition) columns not_null keys kept =
    (kept ++ facts_of_conjuncts (conjuncts condition)) ++ keys_facts member.Row (full_keys (step_not_null (Filter condition) columns not_null) keys)
step_facts (Map outputs) columns not_null keys kept = moved_facts (λ c. length outputs + c) member.Row kept ++ outputs_facts (length outputs) 0 outputs
step_facts (Group g) columns not_null keys kept = group_key_facts g ++ facts_of_group g kept
step_facts (Window w) columns not_null keys kept = kept ++ calls_facts w columns w.calls
step_facts Distinct columns not_null keys kept = kept ++ key_fact member.Row (all_columns columns) ∷ []
step_facts (Limit limit) columns not_null keys kept = kept

-- the columns that these facts are about: a Map's outputs beside its input's
abbrev pub columns_described : Step → ℕ → ℕ
columns_described (Map outputs) columns = length outputs + columns
columns_described step columns = step_width step columns

-- the given facts of a node whose children keep these; a node with one child has the first list
abbrev pub given : List TableRule → PlanTree → List Fact → List Fact → FactList
given tables (Scan table columns) kept more = record { columns = columns; split = None; list = keys_facts member.Row (row_keys (table_rule tables table)) }
given tables (Join condition left right) kept more = record {
  columns = width left + width right;
  split = Some (width left);
  list = (((moved_facts (λ c. c) member.Left kept
      ++ moved_facts (λ c. width left + c) member.Right more)
      ++ facts_of_conjuncts (conjuncts_of condition))
      ++ keys_facts member.Left (full_keys (is_not_null tables (Join condition left right)) (nullable_keys tables left)))
      ++ keys_facts member.Right (full_keys (is_not_null tables (Join condition left right)) (map (map (λ c. width left + c)) (nullable_keys tables right)));
}
given tables (Over step input) kept more = record {
  columns = columns_described step (width input);
  split = None;
  list = step_facts step (width input) (is_not_null tables input) (nullable_keys tables input) kept;
}
