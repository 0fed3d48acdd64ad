-- The given facts of a node name what they may, where what its children keep names columns and the row alone.
use Rattle.std.proofs.Common.{◌≡◌, ℕ, zero, suc, ◌+◌, ◌<◌, ◌≤◌, Bool, true, false, cond, ◌&&◌, List, [], ◌∷◌, ◌++◌, map, filter, flat_map, length, refl, sym, subst, arith, nat_eq, nat_lt, slice_get, is_some, Option, Some, None}
use Rattle.std.specs.List.{AllByRecursion, list_all, range_with_len}
use Rattle.std.proofs.lemmas.Bool.{and_parts, false≢true, le-leb, lt-ltb, ltb-true}
use Rattle.wd_schema.specs.Tables.{KeyRule, TableRule}
use Rattle.wd_plan.specs.declared.expression.ComparisonOp.{ComparisonOp}
use Rattle.wd_plan.specs.declared.expression.ComparisonOp.TheVariants as op
use Rattle.wd_plan.specs.declared.function.FrameFunction.TheVariants.{ValueAt, Aggregate}
use Rattle.wd_plan.specs.declared.function.Function.{Function}
use Rattle.wd_plan.specs.declared.function.Function.TheVariants.{Ranking as Ranked, Shift as Shifted, OfFrame}
use Rattle.wd_plan.specs.declared.function.Ranking.TheVariants.{RowNumber, Rank, DenseRank, Ntile}
use Rattle.wd_plan.specs.declared.window.Call.{Call}
use Rattle.wd_plan.specs.declared.window.Frame.{Frame}
use Rattle.wd_plan.specs.Expressions.{Expression, Column, Literal, Negate, Arithmetic, Compare, Not, And, Or, IsNull, IsNotNull, Case}
use Rattle.wd_plan.specs.Fits.{AreBelow, are_outputs, fits, has_table, is_condition, is_join, is_kind, is_narrow, is_typed, is_window, kind_of, kinds_of, may_join, width}
use Rattle.wd_plan.specs.declared.expression.ValueKind.TheVariants.{Truth}
use Rattle.wd_plan.specs.Outcomes.{class_at}
use Rattle.wd_plan.specs.Plans.{ClassRule, GroupCall, OfRows, Grouping, GroupRule, PlanTree, WindowRule, Scan, Join, Over, Filter, Map, Group, Window, Distinct, Limit}
use Rattle.wd_plan.specs.Sorting.{class_columns, order_columns}
use Rattle.wd_plan.proofs.Ranges.{IsSound, calls_sound, has_the_table, kinds_below, table_columns}
use Rattle.wd_step_facts.specs.declared.facts.Member.{Member}
use Rattle.wd_step_facts.specs.declared.facts.Member.TheVariants as member
use Rattle.wd_step_facts.specs.Facts.{Fact, FactList, columns_named, is_plain, key_fact, moved, moved_facts}
use Rattle.wd_facts.specs.Given.{full_keys, given, gives_row, is_not_null, keys_facts, names_columns, nullable_keys, row_keys, table_rule}
use Rattle.wd_step_facts.specs.Steps.{Side, Plain, Fixed, Other, all_columns, are_told_apart, call_facts, restrict_fact, facts_of_group, group_key, group_key_facts, grouping_arguments, grouping_columns, calls_facts, comparison_facts, conjunct_facts, conjuncts, conjuncts_of, copy_facts, equality_facts, facts_of_conjuncts, goes_by_key, null_facts, output_facts, outputs_facts, over_frame, side_of, used, value_fact, rank_fact}
use Rattle.wd_facts.specs.Laws.{AreOfChildren, ArePlain}
use Rattle.wd_facts.proofs.Embeds.{same_facts}
use Rattle.wd_facts.proofs.Groupings.{cut_named}
use Rattle.wd_facts.proofs.KeyRanges.{nullable_keys_below, wider}
use Rattle.wd_facts.proofs.Lists.{all_append}
use Rattle.wd_facts.proofs.UsedBelow.{below_append, used_below}
use Rattle.wd_close.specs.Closure.{are_named, is_named, is_split_within}

-- a fact that names what it may
pub record IsGiven (facts : FactList) (fact : Fact) : Type 0 where
  pub from : list_all (is_named facts) fact.from ≡ true
  pub to : list_all (is_named facts) fact.to ≡ true

abbrev pub AreGiven : FactList → List Fact → Type 0
AreGiven facts list = AllByRecursion (IsGiven facts) list

below_left : (n : ℕ) (X Y : List ℕ) → AreBelow n (X ++ Y) → AreBelow n X
below_left n [] Y e = refl
below_left n (c ∷ X) Y e = let p = and_parts (nat_lt c n) (list_all (λ c. nat_lt c n) (X ++ Y)) e in λ i. p.0 i && below_left n X Y p.1 i

below_right : (n : ℕ) (X Y : List ℕ) → AreBelow n (X ++ Y) → AreBelow n Y
below_right n [] Y e = e
below_right n (c ∷ X) Y e = below_right n X Y (and_parts (nat_lt c n) (list_all (λ c. nat_lt c n) (X ++ Y)) e).1

below_range : (n a k : ℕ) → a + k ≤ n → AreBelow n (range_with_len a k)
below_range n a zero h = refl
below_range n a (suc k) h = λ i. lt-ltb a n (omega arith) i && below_range n (a + 1) k (omega arith) i

pub below_shifted : (by w n : ℕ) → by + w ≤ n → (X : List ℕ) → AreBelow w X → AreBelow n (map (λ c. by + c) X)
below_shifted by w n h [] e = refl
below_shifted by w n h (c ∷ X) e =
    let p = and_parts (nat_lt c w) (list_all (λ c. nat_lt c w) X) e in
    let l = ltb-true c w p.0 in
    λ i. lt-ltb (by + c) n (omega (arith, l, h)) i && below_shifted by w n h X p.1 i

module _ (facts : FactList) where
  named_columns : (X : List ℕ) → AreBelow facts.columns X → list_all (is_named facts) (columns_named X) ≡ true
  named_columns [] e = refl
  named_columns (c ∷ X) e = let p = and_parts (nat_lt c facts.columns) (list_all (λ c. nat_lt c facts.columns) X) e in λ i. p.0 i && named_columns X p.1 i

  -- ---- keys

  key_given : (row : Member) → is_named facts row ≡ true → (X : List ℕ) → AreBelow facts.columns X → IsGiven facts (key_fact row X)
  key_given row r X e = record { from = named_columns X e; to = λ i. r i && true }

  keys_given : (row : Member) → is_named facts row ≡ true → (keys : List (List ℕ)) → AllByRecursion (AreBelow facts.columns) keys → AreGiven facts (keys_facts row keys)
  keys_given row r [] e = tt
  keys_given row r (X ∷ keys) e = (key_given row r X e.0, keys_given row r keys e.1)

  -- ---- what is kept below

  module _ (f : ℕ → ℕ) (row : Member) (w : ℕ) (within : (c : ℕ) → c < w → f c < facts.columns) (row_named : is_named facts row ≡ true) where
    members_moved : (X : List Member) → list_all (is_plain w) X ≡ true → list_all (is_named facts) (map (moved f row) X) ≡ true
    members_moved [] e = refl
    members_moved (member.Column c ∷ X) e =
        let p = and_parts (nat_lt c w) (list_all (is_plain w) X) e in
        λ i. lt-ltb (f c) facts.columns (within c (ltb-true c w p.0)) i && members_moved X p.1 i
    members_moved (member.Left ∷ X) e = absurd (false≢true e)
    members_moved (member.Right ∷ X) e = absurd (false≢true e)
    members_moved (member.Row ∷ X) e = λ i. row_named i && members_moved X e i

    moved_given : (kept : List Fact) → ArePlain w kept → AreGiven facts (moved_facts f row kept)
    moved_given [] e = tt
    moved_given (fact ∷ kept) e =
        let p = and_parts (list_all (is_plain w) fact.from) (list_all (is_plain w) fact.to) e.0 in
        (record { from = members_moved fact.from p.0; to = members_moved fact.to p.1 }, moved_given kept e.1)

  -- kept as it is
  kept_given : (w : ℕ) → w ≤ facts.columns → (kept : List Fact) → ArePlain w kept → AreGiven facts kept
  kept_given w h kept e = subst (AreGiven facts) (same_facts kept) (moved_given (λ c. c) member.Row w (λ c l. omega (arith, l, h)) refl kept e)

  -- ---- conjuncts

  abbrev SideBelow : Side → Type 0
  SideBelow (Plain c) = nat_lt c facts.columns ≡ true
  SideBelow (Fixed v) = Unit {0}
  SideBelow Other = Unit {0}

  side_below : (a : Expression) → AreBelow facts.columns (used a) → SideBelow (side_of a)
  side_below (Column c) e = (and_parts (nat_lt c facts.columns) true e).0
  side_below (Literal v kind) e = tt
  side_below (Negate a) e = tt
  side_below (Arithmetic o a b) e = tt
  side_below (Compare o a b) e = tt
  side_below (Not a) e = tt
  side_below (And a b) e = tt
  side_below (Or a b) e = tt
  side_below (IsNull a) e = tt
  side_below (IsNotNull a) e = tt
  side_below (Case k a b c) e = tt

  one_column : (c : ℕ) → nat_lt c facts.columns ≡ true → AreBelow facts.columns (c ∷ [])
  one_column c h = λ i. h i && true

  given_one : (X : List ℕ) (c : ℕ) → AreBelow facts.columns X → nat_lt c facts.columns ≡ true → IsGiven facts (record { from = columns_named X; to = member.Column c ∷ [] })
  given_one X c e h = record { from = named_columns X e; to = named_columns (c ∷ []) (one_column c h) }

  equality_given : (a b : Side) → SideBelow a → SideBelow b → AreGiven facts (equality_facts a b)
  equality_given (Plain c) (Plain d) g h = (given_one (c ∷ []) d (one_column c g) h, (given_one (d ∷ []) c (one_column d h) g, tt))
  equality_given (Plain c) (Fixed v) g h = (given_one [] c refl g, tt)
  equality_given (Plain c) Other g h = tt
  equality_given (Fixed v) (Plain d) g h = (given_one [] d refl h, tt)
  equality_given (Fixed v) (Fixed u) g h = tt
  equality_given (Fixed v) Other g h = tt
  equality_given Other b g h = tt

  comparison_given : (o : ComparisonOp) (a b : Side) → SideBelow a → SideBelow b → AreGiven facts (comparison_facts o a b)
  comparison_given op.Equal a b g h = equality_given a b g h
  comparison_given op.NotEqual a b g h = tt
  comparison_given op.Less a b g h = tt
  comparison_given op.LessOrEqual a b g h = tt
  comparison_given op.Greater a b g h = tt
  comparison_given op.GreaterOrEqual a b g h = tt

  null_given : (a : Side) → SideBelow a → AreGiven facts (null_facts a)
  null_given (Plain c) g = (given_one [] c refl g, tt)
  null_given (Fixed v) g = tt
  null_given Other g = tt

  conjunct_given : (e : Expression) → AreBelow facts.columns (used e) → AreGiven facts (conjunct_facts e)
  conjunct_given (Column c) h = tt
  conjunct_given (Literal v kind) h = tt
  conjunct_given (Negate a) h = tt
  conjunct_given (Arithmetic o a b) h = tt
  conjunct_given (Compare o a b) h = comparison_given o (side_of a) (side_of b) (side_below a (below_left facts.columns (used a) (used b) h)) (side_below b (below_right facts.columns (used a) (used b) h))
  conjunct_given (Not a) h = tt
  conjunct_given (And a b) h = tt
  conjunct_given (Or a b) h = tt
  conjunct_given (IsNull a) h = null_given (side_of a) (side_below a h)
  conjunct_given (IsNotNull a) h = tt
  conjunct_given (Case k a b c) h = tt

  abbrev UsesBelow : Expression → Type 0
  UsesBelow e = AreBelow facts.columns (used e)

  conjuncts_below : (e : Expression) → UsesBelow e → AllByRecursion UsesBelow (conjuncts e)
  conjuncts_below (Column c) h = (h, tt)
  conjuncts_below (Literal v kind) h = (h, tt)
  conjuncts_below (Negate a) h = (h, tt)
  conjuncts_below (Arithmetic o a b) h = (h, tt)
  conjuncts_below (Compare o a b) h = (h, tt)
  conjuncts_below (Not a) h = (h, tt)
  conjuncts_below (And a b) h = all_append UsesBelow (conjuncts a) (conjuncts b) (conjuncts_below a (below_left facts.columns (used a) (used b) h)) (conjuncts_below b (below_right facts.columns (used a) (used b) h))
  conjuncts_below (Or a b) h = (h, tt)
  conjuncts_below (IsNull a) h = (h, tt)
  conjuncts_below (IsNotNull a) h = (h, tt)
  conjuncts_below (Case k a b c) h = (h, tt)

  conjuncts_given : (es : List Expression) → AllByRecursion UsesBelow es → AreGiven facts (facts_of_conjuncts es)
  conjuncts_given [] h = tt
  conjuncts_given (e ∷ es) h = all_append (IsGiven facts) (conjunct_facts e) (facts_of_conjuncts es) (conjunct_given e h.0) (conjuncts_given es h.1)

  -- ---- outputs

  module _ (m w : ℕ) (within : m + w ≤ facts.columns) where
    copy_given : (j : ℕ) → j < m → (e : Expression) → AreBelow w (used e) → AreGiven facts (copy_facts m j (side_of e))
    copy_given j h (Column c) e =
        let l = ltb-true c w (and_parts (nat_lt c w) true e).0 in
        (given_one (j ∷ []) (m + c) (one_column j (lt-ltb j facts.columns (omega (arith, h, within)))) (lt-ltb (m + c) facts.columns (omega (arith, l, within))), tt)
    copy_given j h (Literal v kind) e = tt
    copy_given j h (Negate a) e = tt
    copy_given j h (Arithmetic o a b) e = tt
    copy_given j h (Compare o a b) e = tt
    copy_given j h (Not a) e = tt
    copy_given j h (And a b) e = tt
    copy_given j h (Or a b) e = tt
    copy_given j h (IsNull a) e = tt
    copy_given j h (IsNotNull a) e = tt
    copy_given j h (Case k a b c) e = tt

    output_given : (j : ℕ) → j < m → (e : Expression) → AreBelow w (used e) → AreGiven facts (output_facts m j e)
    output_given j h e b = (given_one (map (λ c. m + c) (used e)) j (below_shifted m w facts.columns within (used e) b) (lt-ltb j facts.columns (omega (arith, h, within))), copy_given j h e b)

    outputs_given : (j : ℕ) (es : List Expression) → j + length es ≤ m → AllByRecursion (λ e. AreBelow w (used e)) es → AreGiven facts (outputs_facts m j es)
    outputs_given j [] h b = tt
    outputs_given j (e ∷ es) h b = all_append (IsGiven facts) (output_facts m j e) (outputs_facts m (j + 1) es) (output_given j (omega (arith, h)) e b.0) (outputs_given (j + 1) es (omega (arith, h)) b.1)

  -- ---- calls

  -- a class whose columns are among these
  record IsWithin (class : ClassRule) : Type 0 where
    partition : AreBelow facts.columns class.partition
    order : AreBelow facts.columns (order_columns class)

  module _ (class : ClassRule) (is : IsWithin class) (w : ℕ) (h : nat_lt w facts.columns ≡ true) where
    with_column : AreBelow facts.columns (class.partition ++ w ∷ [])
    with_column = below_append facts.columns class.partition (w ∷ []) is.partition (one_column w h)

    value_given : IsGiven facts (value_fact class w)
    value_given = given_one (class_columns class) w (below_append facts.columns class.partition (order_columns class) is.partition is.order) h

    rank_given : IsGiven facts (rank_fact class w)
    rank_given = record { from = named_columns (class.partition ++ w ∷ []) with_column; to = named_columns (order_columns class) is.order }

    frame_given : (frame : Frame) → AreGiven facts (over_frame class frame w)
    frame_given frame = by (goes_by_key frame) refl
      where
        by : (b : Bool) → goes_by_key frame ≡ b → AreGiven facts (over_frame class frame w)
        by true e = rw e (value_given, tt)
        by false e = rw e tt

    function_given : (frame : Frame) (f : Function) → AreGiven facts (call_facts class frame f w)
    function_given frame (Ranked RowNumber) = (key_given member.Row refl (class.partition ++ w ∷ []) with_column, tt)
    function_given frame (Ranked Rank) = (value_given, (rank_given, tt))
    function_given frame (Ranked DenseRank) = (value_given, (rank_given, tt))
    function_given frame (Ranked (Ntile n)) = tt
    function_given frame (Shifted s) = tt
    function_given frame (OfFrame (ValueAt row c)) = tt
    function_given frame (OfFrame (Aggregate a)) = frame_given frame

  calls_given : (rule : WindowRule) (w : ℕ) (calls : List Call) → w + length calls ≤ facts.columns → AllByRecursion (λ (call : Call). IsWithin (class_at rule call.class)) calls → AreGiven facts (calls_facts rule w calls)
  calls_given rule w [] h b = tt
  calls_given rule w (call ∷ calls) h b =
      all_append (IsGiven facts) (call_facts (class_at rule call.class) call.frame call.function w) (calls_facts rule (w + 1) calls)
      (function_given (class_at rule call.class) b.0 w (lt-ltb w facts.columns (omega (arith, h))) call.frame call.function)
      (calls_given rule (w + 1) calls (omega (arith, h)) b.1)

-- ---- a node's

all_filtered : {X : Type 0} (P : X → Type 0) (t : X → Bool) (xs : List X) → AllByRecursion P xs → AllByRecursion P (filter t xs)
all_filtered P t [] a = tt
all_filtered P t (x ∷ xs) a = by (all_filtered P t xs a.1) (t x) refl
  where
    by : AllByRecursion P (filter t xs) → (b : Bool) → t x ≡ b → AllByRecursion P (filter t (x ∷ xs))
    by later true e = rw e (a.0, later)
    by later false e = rw e later

keys_wider : (a b : ℕ) → a ≤ b → (keys : List (List ℕ)) → AllByRecursion (AreBelow a) keys → AllByRecursion (AreBelow b) keys
keys_wider a b h [] e = tt
keys_wider a b h (X ∷ keys) e = (wider a b h X e.0, keys_wider a b h keys e.1)

keys_shifted : (by w n : ℕ) → by + w ≤ n → (keys : List (List ℕ)) → AllByRecursion (AreBelow w) keys → AllByRecursion (AreBelow n) (map (map (λ c. by + c)) keys)
keys_shifted by w n h [] e = tt
keys_shifted by w n h (X ∷ keys) e = (below_shifted by w n h X e.0, keys_shifted by w n h keys e.1)

row_keys_below : (t : TableRule) (keys : List KeyRule) → AllByRecursion (AreBelow (length t.columns)) (map (λ (key : KeyRule). key.columns) (filter (λ (key : KeyRule). names_columns t key && gives_row t key) keys))
row_keys_below t [] = tt
row_keys_below t (key ∷ keys) = by (row_keys_below t keys) (names_columns t key && gives_row t key) refl
  where
    by : AllByRecursion (AreBelow (length t.columns)) (map (λ (key : KeyRule). key.columns) (filter (λ (key : KeyRule). names_columns t key && gives_row t key) keys)) → (b : Bool) → (names_columns t key && gives_row t key) ≡ b → AllByRecursion (AreBelow (length t.columns)) (map (λ (key : KeyRule). key.columns) (filter (λ (key : KeyRule). names_columns t key && gives_row t key) (key ∷ keys)))
    by later true e = rw e ((and_parts (names_columns t key) (gives_row t key) e).0, later)
    by later false e = rw e later

-- ---- Groups

grouping_below : (n w : ℕ) (calls : List GroupCall) → w + length calls ≤ n → AreBelow n (grouping_columns w calls)
grouping_below n w [] h = refl
grouping_below n w (OfRows aggregate ∷ calls) h = grouping_below n (w + 1) calls (omega arith)
grouping_below n w (Grouping arguments ∷ calls) h = λ i. lt-ltb w n (omega arith) i && grouping_below n (w + 1) calls (omega arith) i

group_key_below : (g : GroupRule) → AreBelow (g.columns + length g.calls) (group_key g)
group_key_below g = by (nat_lt 1 (length g.sets))
  where
    by : (b : Bool) → AreBelow (g.columns + length g.calls) (all_columns g.columns ++ cond b (grouping_columns g.columns g.calls) [])
    by true = below_append (g.columns + length g.calls) (all_columns g.columns) (grouping_columns g.columns g.calls) (below_range (g.columns + length g.calls) 0 g.columns (omega arith)) (grouping_below (g.columns + length g.calls) g.columns g.calls (omega arith))
    by false = below_append (g.columns + length g.calls) (all_columns g.columns) [] (below_range (g.columns + length g.calls) 0 g.columns (omega arith)) refl

group_given : (g : GroupRule) (kept : List Fact) (facts : FactList) → facts.columns ≡ g.columns + length g.calls → AreGiven facts (group_key_facts g ++ facts_of_group g kept)
group_given g kept facts is =
    all_append (IsGiven facts) (group_key_facts g) (facts_of_group g kept) (of_key (are_told_apart (grouping_arguments g.calls) g.sets)) (of_one_set (nat_eq (length g.sets) 1))
  where
    of_key : (b : Bool) → AreGiven facts (cond b (key_fact member.Row (group_key g) ∷ []) [])
    of_key true = (key_given facts member.Row refl (group_key g) (subst (λ n. AreBelow n (group_key g)) (sym is) (group_key_below g)), tt)
    of_key false = tt

    of_one_set : (b : Bool) → AreGiven facts (cond b (flat_map (restrict_fact g.columns) kept) [])
    of_one_set true = kept_given facts g.columns (omega (arith, is)) (flat_map (restrict_fact g.columns) kept) (cut_named g.columns kept)
    of_one_set false = tt

module _ (tables : List TableRule) where
  table_is : (table : ℕ) (t : TableRule) → slice_get tables table ≡ Some t → table_rule tables table ≡ t
  table_is table t e = rw e refl

  scan_keys : (table columns : ℕ) → fits tables (Scan table columns) ≡ true → AllByRecursion (AreBelow columns) (row_keys (table_rule tables table))
  scan_keys table columns f =
      let has = (and_parts (is_narrow columns) (has_table tables table columns) f).1 in
      let t = has_the_table tables table columns has in
      subst (λ (x : TableRule). AllByRecursion (AreBelow columns) (row_keys x)) (sym (table_is table t.0 t.1)) (subst (λ n. AllByRecursion (AreBelow n) (row_keys t.0)) (sym (table_columns tables table columns t.0 t.1 has)) (row_keys_below t.0 t.0.keys))

  -- the columns of a condition
  condition_below : (plan : PlanTree) (n : ℕ) → ((c : ℕ) → is_some (kinds_of tables plan c) ≡ true → c < n) → (e : Expression) → is_condition (kinds_of tables plan) e ≡ true → AreBelow n (used e)
  condition_below plan n below e h = used_below (kinds_of tables plan) n below e (and_parts (is_typed (kinds_of tables plan) e) (is_kind Truth (kind_of (kinds_of tables plan) e)) h).0

  outputs_below : (input : PlanTree) → fits tables input ≡ true → (es : List Expression) → list_all (is_typed (kinds_of tables input)) es ≡ true → AllByRecursion (λ e. AreBelow (width input) (used e)) es
  outputs_below input f [] h = tt
  outputs_below input f (e ∷ es) h =
      let p = and_parts (is_typed (kinds_of tables input) e) (list_all (is_typed (kinds_of tables input)) es) h in
      (used_below (kinds_of tables input) (width input) (kinds_below tables input f) e p.0, outputs_below input f es p.1)

  module _ (w : WindowRule) (input : PlanTree) (f : fits tables input ≡ true) (facts : FactList) (h : width input ≤ facts.columns) where
    within_of : (calls : List Call) → AllByRecursion (IsSound (kinds_of tables input) (width input) (kinds_below tables input f) w) calls → AllByRecursion (λ (call : Call). IsWithin facts (class_at w call.class)) calls
    within_of [] a = tt
    within_of (call ∷ calls) a =
        (record { partition = wider (width input) facts.columns h (class_at w call.class).partition a.0.in_partition; order = wider (width input) facts.columns h (order_columns (class_at w call.class)) a.0.in_order }, within_of calls a.1)

  pub all_given : (plan : PlanTree) (kept more : List Fact) → fits tables plan ≡ true → AreOfChildren plan kept more → AreGiven (given tables plan kept more) (given tables plan kept more).list
  all_given (Scan table columns) kept more f h = keys_given (given tables (Scan table columns) kept more) member.Row refl (row_keys (table_rule tables table)) (scan_keys table columns f)
  all_given (Join condition left right) kept more f h =
      let plan = Join condition left right in
      let facts = given tables plan kept more in
      let p = and_parts (fits tables left && fits tables right) (is_join (kinds_of tables plan) (width left + width right) condition) f in
      let sides = and_parts (fits tables left) (fits tables right) p.0 in
      let ls = moved_facts (λ c. c) member.Left kept in
      let rs = moved_facts (λ c. width left + c) member.Right more in
      let cs = facts_of_conjuncts (conjuncts_of condition) in
      let lk = full_keys (is_not_null tables plan) (nullable_keys tables left) in
      let rk = full_keys (is_not_null tables plan) (map (map (λ c. width left + c)) (nullable_keys tables right)) in
      let P = IsGiven facts in
      all_append P (((ls ++ rs) ++ cs) ++ keys_facts member.Left lk) (keys_facts member.Right rk)
      (all_append P ((ls ++ rs) ++ cs) (keys_facts member.Left lk)
      (all_append P (ls ++ rs) cs
      (all_append P ls rs
      (moved_given facts (λ c. c) member.Left (width left) (λ c l. omega (arith, l)) refl kept h.0)
      (moved_given facts (λ c. width left + c) member.Right (width right) (λ c l. omega (arith, l)) refl more h.1))
      (of_condition condition facts refl (and_parts (is_narrow (width left + width right)) (may_join (kinds_of tables plan) condition) p.1).1))
      (keys_given facts member.Left refl lk (all_filtered (AreBelow facts.columns) (list_all (is_not_null tables plan)) (nullable_keys tables left) (keys_wider (width left) facts.columns (omega arith) (nullable_keys tables left) (nullable_keys_below tables left sides.0)))))
      (keys_given facts member.Right refl rk (all_filtered (AreBelow facts.columns) (list_all (is_not_null tables plan)) (map (map (λ c. width left + c)) (nullable_keys tables right)) (keys_shifted (width left) (width right) facts.columns (omega arith) (nullable_keys tables right) (nullable_keys_below tables right sides.1))))
    where
      of_condition : (o : Option Expression) (facts : FactList) → facts.columns ≡ width left + width right → may_join (kinds_of tables (Join condition left right)) o ≡ true → AreGiven facts (facts_of_conjuncts (conjuncts_of o))
      of_condition None facts e m = tt
      of_condition (Some c) facts e m =
          conjuncts_given facts (conjuncts c) (conjuncts_below facts c (subst (λ n. AreBelow n (used c)) (sym e) (condition_below (Join condition left right) (width left + width right) (kinds_below tables (Join condition left right) f) c m)))
  all_given (Over (Filter condition) input) kept more f h =
      let plan = Over (Filter condition) input in
      let facts = given tables plan kept more in
      let p = and_parts (fits tables input) (is_condition (kinds_of tables input) condition) f in
      let keys = full_keys (is_not_null tables plan) (nullable_keys tables input) in
      all_append (IsGiven facts) (kept ++ facts_of_conjuncts (conjuncts condition)) (keys_facts member.Row keys)
      (all_append (IsGiven facts) kept (facts_of_conjuncts (conjuncts condition))
      (kept_given facts (width input) (omega arith) kept h)
      (conjuncts_given facts (conjuncts condition) (conjuncts_below facts condition (condition_below input (width input) (kinds_below tables input p.0) condition p.1))))
      (keys_given facts member.Row refl keys (all_filtered (AreBelow (width input)) (list_all (is_not_null tables plan)) (nullable_keys tables input) (nullable_keys_below tables input p.0)))
  all_given (Over (Map outputs) input) kept more f h =
      let facts = given tables (Over (Map outputs) input) kept more in
      let p = and_parts (fits tables input) (are_outputs (kinds_of tables input) outputs) f in
      let typed = and_parts (is_narrow (length outputs)) (list_all (is_typed (kinds_of tables input)) outputs) p.1 in
      all_append (IsGiven facts) (moved_facts (λ c. length outputs + c) member.Row kept) (outputs_facts (length outputs) 0 outputs)
      (moved_given facts (λ c. length outputs + c) member.Row (width input) (λ c l. omega (arith, l)) refl kept h)
      (outputs_given facts (length outputs) (width input) (omega arith) 0 outputs (omega arith) (outputs_below input p.0 outputs typed.1))
  all_given (Over (Window w) input) kept more f h =
      let facts = given tables (Over (Window w) input) kept more in
      let p = and_parts (fits tables input) (is_window (kinds_of tables input) (width input) w) f in
      all_append (IsGiven facts) kept (calls_facts w (width input) w.calls)
      (kept_given facts (width input) (omega arith) kept h)
      (calls_given facts w (width input) w.calls (omega arith) (within_of w input p.0 facts (omega arith) w.calls (calls_sound (kinds_of tables input) (width input) (kinds_below tables input p.0) w p.1)))
  all_given (Over (Group g) input) kept more f h = group_given g kept (given tables (Over (Group g) input) kept more) refl
  all_given (Over Distinct input) kept more f h =
      let facts = given tables (Over Distinct input) kept more in
      all_append (IsGiven facts) kept (key_fact member.Row (all_columns (width input)) ∷ [])
      (kept_given facts (width input) (omega arith) kept h)
      (key_given facts member.Row refl (all_columns (width input)) (below_range (width input) 0 (width input) (omega arith)), tt)
  all_given (Over (Limit limit) input) kept more f h = kept_given (given tables (Over (Limit limit) input) kept more) (width input) (omega arith) kept h

-- ---- what the closure asks

pub are_named_from : (facts : FactList) (list : List Fact) → AreGiven facts list → list_all (λ (fact : Fact). list_all (is_named facts) fact.from && list_all (is_named facts) fact.to) list ≡ true
are_named_from facts [] a = refl
are_named_from facts (fact ∷ list) a = λ i. (a.0.from i && a.0.to i) && are_named_from facts list a.1 i

pub given_named : (tables : List TableRule) (plan : PlanTree) (kept more : List Fact) → fits tables plan ≡ true → AreOfChildren plan kept more → are_named (given tables plan kept more) ≡ true
given_named tables plan kept more f h = are_named_from (given tables plan kept more) (given tables plan kept more).list (all_given tables plan kept more f h)

pub given_split : (tables : List TableRule) (plan : PlanTree) (kept more : List Fact) → is_split_within (given tables plan kept more).split (given tables plan kept more).columns ≡ true
given_split tables (Scan table columns) kept more = refl
given_split tables (Join condition left right) kept more = le-leb (width left) (width left + width right) (omega arith)
given_split tables (Over step input) kept more = refl
