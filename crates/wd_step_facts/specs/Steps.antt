-- The facts that the steps of a plan give: conditions, the outputs of a Map, the calls of a Window, and Groups.
use Rattle.std.specs.Prelude.{ℕ, ◌+◌, Bool, true, false, not, ◌&&◌, ◌||◌, List, [], ◌∷◌, ◌++◌, map, filter, flat_map, length, nat_eq, nat_lt, Option, Some, None, if◌then◌else◌}
use Rattle.std.specs.List.{list_any, list_all, range_with_len}
use Rattle.wd_value.specs.declared.value.Value.{Value}
use Rattle.wd_plan.specs.declared.expression.ComparisonOp.{ComparisonOp}
use Rattle.wd_plan.specs.declared.expression.ComparisonOp.TheVariants as op
use Rattle.wd_plan.specs.declared.function.FrameFunction.{FrameFunction}
use Rattle.wd_plan.specs.declared.function.FrameFunction.TheVariants.{ValueAt, Aggregate}
use Rattle.wd_plan.specs.declared.function.Function.{Function}
use Rattle.wd_plan.specs.declared.function.Function.TheVariants.{Ranking as Ranked, Shift as Shifted, OfFrame}
use Rattle.wd_plan.specs.declared.function.Ranking.{Ranking}
use Rattle.wd_plan.specs.declared.function.Ranking.TheVariants.{RowNumber, Rank, DenseRank, Ntile}
use Rattle.wd_plan.specs.declared.window.Call.{Call}
use Rattle.wd_plan.specs.declared.window.Exclusion.{Exclusion}
use Rattle.wd_plan.specs.declared.window.Exclusion.TheVariants as exclude
use Rattle.wd_plan.specs.declared.window.Frame.{Frame}
use Rattle.wd_plan.specs.Expressions.{Expression, Column, Literal, Negate, Arithmetic, Compare, Not, And, Or, IsNull, IsNotNull, Case, is_null}
use Rattle.wd_plan.specs.Frames.{is_stable}
use Rattle.wd_plan.specs.Functions.{name_of, name_of_aggregate, signature}
use Rattle.wd_plan.specs.Outcomes.{class_at}
use Rattle.wd_plan.specs.Plans.{ClassRule, GroupCall, OfRows, Grouping, GroupRule, WindowRule, has}
use Rattle.wd_plan.specs.Sorting.{class_columns, order_columns}
use Rattle.wd_step_facts.specs.declared.facts.Member.TheVariants as member
use Rattle.wd_step_facts.specs.Facts.{Fact, columns_named, is_column, is_plain, key_fact}

-- ---- expressions

-- what an expression is, for facts: a column, a literal, or anything else
pub data Side : Type 0 where
  Plain : ℕ → Side
  Fixed : Value → Side
  Other : Side

abbrev pub side_of : Expression → Side
side_of (Column c) = Plain c
side_of (Literal v kind) = Fixed v
side_of e = Other

-- the columns that an expression uses
abbrev pub used : Expression → List ℕ
used (Column c) = c ∷ []
used (Literal v kind) = []
used (Negate a) = used a
used (Arithmetic o a b) = used a ++ used b
used (Compare o a b) = used a ++ used b
used (Not a) = used a
used (And a b) = used a ++ used b
used (Or a b) = used a ++ used b
used (IsNull a) = used a
used (IsNotNull a) = used a
used (Case k a b c) = used a ++ (used b ++ used c)

-- the parts of a condition between its top ANDs
abbrev pub conjuncts : Expression → List Expression
conjuncts (Column c) = Column c ∷ []
conjuncts (Literal v kind) = Literal v kind ∷ []
conjuncts (Negate a) = Negate a ∷ []
conjuncts (Arithmetic o a b) = Arithmetic o a b ∷ []
conjuncts (Compare o a b) = Compare o a b ∷ []
conjuncts (Not a) = Not a ∷ []
conjuncts (And a b) = conjuncts a ++ conjuncts b
conjuncts (Or a b) = Or a b ∷ []
conjuncts (IsNull a) = IsNull a ∷ []
conjuncts (IsNotNull a) = IsNotNull a ∷ []
conjuncts (Case k a b c) = Case k a b c ∷ []

abbrev pub conjuncts_of : Option Expression → List Expression
conjuncts_of None = []
conjuncts_of (Some condition) = conjuncts condition

-- ---- conjuncts

abbrev pub fixed_fact : ℕ → Fact
fixed_fact c = record { from = []; to = member.Column c ∷ [] }

abbrev pub column_fact : ℕ → ℕ → Fact
column_fact c d = record { from = member.Column c ∷ []; to = member.Column d ∷ [] }

-- from `c = d`: c determines d, and d determines c; from `c = literal`: the empty set determines c
abbrev pub facts_of_equal : ℕ → Side → List Fact
facts_of_equal c (Plain d) = column_fact c d ∷ column_fact d c ∷ []
facts_of_equal c (Fixed v) = fixed_fact c ∷ []
facts_of_equal c Other = []

-- from `literal = c`: the empty set determines c
abbrev pub facts_of_fixed : Side → List Fact
facts_of_fixed (Plain d) = fixed_fact d ∷ []
facts_of_fixed (Fixed w) = []
facts_of_fixed Other = []

abbrev pub equality_facts : Side → Side → List Fact
equality_facts (Plain c) b = facts_of_equal c b
equality_facts (Fixed v) b = facts_of_fixed b
equality_facts Other b = []

abbrev pub comparison_facts : ComparisonOp → Side → Side → List Fact
comparison_facts op.Equal a b = equality_facts a b
comparison_facts op.NotEqual a b = []
comparison_facts op.Less a b = []
comparison_facts op.LessOrEqual a b = []
comparison_facts op.Greater a b = []
comparison_facts op.GreaterOrEqual a b = []

-- from `c IS NULL`: the empty set determines c
abbrev pub null_facts : Side → List Fact
null_facts (Plain c) = fixed_fact c ∷ []
null_facts (Fixed v) = []
null_facts Other = []

abbrev pub conjunct_facts : Expression → List Fact
conjunct_facts (Compare o a b) = comparison_facts o (side_of a) (side_of b)
conjunct_facts (IsNull a) = null_facts (side_of a)
conjunct_facts e = []

abbrev pub facts_of_conjuncts : List Expression → List Fact
facts_of_conjuncts es = flat_map conjunct_facts es

abbrev pub is_side : ℕ → Side → Bool
is_side c (Plain d) = nat_eq c d
is_side c (Fixed v) = false
is_side c Other = false

-- a column is not NULL where it is a side of a true comparison, or of a true IS NOT NULL
abbrev pub rules_out_null : ℕ → Expression → Bool
rules_out_null c (Compare o a b) = is_side c (side_of a) || is_side c (side_of b)
rules_out_null c (IsNotNull a) = is_side c (side_of a)
rules_out_null c e = false

abbrev pub some_rules_out_null : List Expression → ℕ → Bool
some_rules_out_null es c = list_any (rules_out_null c) es

-- ---- outputs of a Map

-- a copy of a column that is not null, or a literal other than NULL
abbrev pub is_side_not_null : (ℕ → Bool) → Side → Bool
is_side_not_null below (Plain c) = below c
is_side_not_null below (Fixed v) = not (is_null v)
is_side_not_null below Other = false

abbrev pub is_output_not_null : (ℕ → Bool) → Option Expression → Bool
is_output_not_null below None = false
is_output_not_null below (Some e) = is_side_not_null below (side_of e)

-- the lowest of the outputs, from number n on, that copies a column
abbrev pub copy_from : ℕ → List Expression → ℕ → Option ℕ
copy_from n [] c = None
copy_from n (e ∷ outputs) c = if is_side c (side_of e) then Some n else copy_from (n + 1) outputs c

abbrev pub both_copied : Option ℕ → Option (List ℕ) → Option (List ℕ)
both_copied None rest = None
both_copied (Some d) None = None
both_copied (Some d) (Some Y) = Some (d ∷ Y)

-- the copies of the columns, if each has one
abbrev pub copies : List Expression → List ℕ → Option (List ℕ)
copies outputs [] = Some []
copies outputs (c ∷ X) = both_copied (copy_from 0 outputs c) (copies outputs X)

abbrev pub if_copied : Option (List ℕ) → List (List ℕ) → List (List ℕ)
if_copied None keys = keys
if_copied (Some Y) keys = Y ∷ keys

abbrev pub copied_keys : List Expression → List (List ℕ) → List (List ℕ)
copied_keys outputs [] = []
copied_keys outputs (X ∷ keys) = if_copied (copies outputs X) (copied_keys outputs keys)

-- the inputs that output j uses determine it; input c has the number m + c
abbrev pub used_fact : ℕ → ℕ → Expression → Fact
used_fact m j e = record { from = columns_named (map (λ c. m + c) (used e)); to = member.Column j ∷ [] }

-- an output that is a column determines the input that it copies
abbrev pub copy_facts : ℕ → ℕ → Side → List Fact
copy_facts m j (Plain c) = column_fact j (m + c) ∷ []
copy_facts m j (Fixed v) = []
copy_facts m j Other = []

abbrev pub output_facts : ℕ → ℕ → Expression → List Fact
output_facts m j e = used_fact m j e ∷ copy_facts m j (side_of e)

abbrev pub outputs_facts : ℕ → ℕ → List Expression → List Fact
outputs_facts m j [] = []
outputs_facts m j (e ∷ outputs) = output_facts m j e ++ outputs_facts m (j + 1) outputs

-- ---- calls of a Window

-- a call whose values are never NULL
abbrev pub is_call_not_null : Option Call → Bool
is_call_not_null None = false
is_call_not_null (Some call) = not (signature (name_of call.function)).nullable

-- the frame has either all of a row's peers or none
abbrev pub keeps_peers_whole : Exclusion → Bool
keeps_peers_whole exclude.NoOthers = true
keeps_peers_whole exclude.CurrentRow = false
keeps_peers_whole exclude.Group = true
keeps_peers_whole exclude.Ties = false

abbrev pub goes_by_key : Frame → Bool
goes_by_key frame = is_stable frame && keeps_peers_whole frame.exclusion

-- of a call with column w: the columns of its class determine w
abbrev pub value_fact : ClassRule → ℕ → Fact
value_fact class w = record { from = columns_named (class_columns class); to = member.Column w ∷ [] }

-- the partition and w determine the order columns
abbrev pub rank_fact : ClassRule → ℕ → Fact
rank_fact class w = record { from = columns_named (class.partition ++ w ∷ []); to = columns_named (order_columns class) }

abbrev pub over_frame : ClassRule → Frame → ℕ → List Fact
over_frame class frame w = if goes_by_key frame then value_fact class w ∷ [] else []

abbrev pub ranking_facts : ClassRule → Ranking → ℕ → List Fact
ranking_facts class RowNumber w = key_fact member.Row (class.partition ++ w ∷ []) ∷ []
ranking_facts class Rank w = value_fact class w ∷ rank_fact class w ∷ []
ranking_facts class DenseRank w = value_fact class w ∷ rank_fact class w ∷ []
ranking_facts class (Ntile n) w = []

abbrev pub frame_facts : ClassRule → Frame → FrameFunction → ℕ → List Fact
frame_facts class frame (ValueAt row c) w = []
frame_facts class frame (Aggregate a) w = over_frame class frame w

abbrev pub call_facts : ClassRule → Frame → Function → ℕ → List Fact
call_facts class frame (Ranked r) w = ranking_facts class r w
call_facts class frame (Shifted s) w = []
call_facts class frame (OfFrame f) w = frame_facts class frame f w

abbrev pub calls_facts : WindowRule → ℕ → List Call → List Fact
calls_facts rule w [] = []
calls_facts rule w (call ∷ calls) = call_facts (class_at rule call.class) call.frame call.function w ++ calls_facts rule (w + 1) calls

-- ---- groups

abbrev pub all_columns : ℕ → List ℕ
all_columns n = range_with_len 0 n

-- exactly one of two sets has the column
abbrev pub differ_in : List ℕ → List ℕ → ℕ → Bool
differ_in set other c = if has set c then not (has other c) else has other c

-- the arguments of all GROUPING calls
abbrev pub grouping_arguments_of : GroupCall → List ℕ
grouping_arguments_of (OfRows a) = []
grouping_arguments_of (Grouping arguments) = arguments

abbrev pub grouping_arguments : List GroupCall → List ℕ
grouping_arguments calls = flat_map grouping_arguments_of calls

-- the columns of the GROUPING calls, where the first call has column w
abbrev pub grouping_columns : ℕ → List GroupCall → List ℕ
grouping_columns w [] = []
grouping_columns w (OfRows a ∷ calls) = grouping_columns (w + 1) calls
grouping_columns w (Grouping arguments ∷ calls) = w ∷ grouping_columns (w + 1) calls

-- every two sets differ in one of the columns; a repeated set differs from its copy in none
abbrev pub are_told_apart : List ℕ → List (List ℕ) → Bool
are_told_apart columns [] = true
are_told_apart columns (set ∷ sets) = list_all (λ other. list_any (differ_in set other) columns) sets && are_told_apart columns sets

-- the grouping columns, and with several sets also the GROUPING columns
abbrev pub group_key : GroupRule → List ℕ
group_key g = all_columns g.columns ++ (if nat_lt 1 (length g.sets) then grouping_columns g.columns g.calls else [])

-- the key determines the row where every two sets differ in an argument of GROUPING, as with one set
abbrev pub group_key_facts : GroupRule → List Fact
group_key_facts g = if are_told_apart (grouping_arguments g.calls) g.sets then key_fact member.Row (group_key g) ∷ [] else []

-- from a fact whose left side is among the first columns, its targets that are such columns or the row
abbrev pub restrict_fact : ℕ → Fact → List Fact
restrict_fact columns fact = if list_all (is_column columns) fact.from then record { from = fact.from; to = filter (is_plain columns) fact.to } ∷ [] else []

-- with one set, the facts of the grouping columns that the child keeps
abbrev pub facts_of_group : GroupRule → List Fact → List Fact
facts_of_group g kept = if nat_eq (length g.sets) 1 then flat_map (restrict_fact g.columns) kept else []

-- a call whose values are never NULL: COUNT and GROUPING
abbrev pub is_group_call_not_null : Option GroupCall → Bool
is_group_call_not_null None = false
is_group_call_not_null (Some (OfRows a)) = not (signature (name_of_aggregate a)).nullable
is_group_call_not_null (Some (Grouping arguments)) = true
