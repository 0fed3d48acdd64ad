-- What is known of a node's rows passes from its input: widths, columns that are not null, nullable keys and kept facts.
use Rattle.std.proofs.Common.{◌≡◌, ℕ, suc, ◌+◌, ◌-◌, ◌<◌, Bool, true, false, cond, not, List, [], ◌∷◌, ◌++◌, ◌&&◌, map, filter, length, refl, sym, ◌∙◌, ap, subst, arith, nat_lt, Option, Some, None, Result, Ok, slice_get, ⊎_elim, ext_get_or}
use Rattle.std.specs.List.{AllByRecursion, list_all}
use Rattle.std.proofs.lemmas.Bool.{and_parts, or_cases, false≢true, ltb-true, ltb-false}
use Rattle.wd_value.specs.declared.value.Value.TheVariants.{Null}
use Rattle.wd_value.specs.declared.value.Fault.{Fault as StepFault}
use Rattle.wd_value.specs.Rows.{Row as RowValues, column_of, row_at}
use Rattle.wd_schema.specs.declared.table.Column.{Column as TableColumn}
use Rattle.wd_schema.specs.Meets.{KeepsKey, MeetsTable, fits_columns, may_hold}
use Rattle.wd_schema.specs.Tables.{KeyRule, TableRule}
use Rattle.wd_plan.specs.Expressions.{Expression, is_null, value_of}
use Rattle.wd_plan.specs.Facts.{HasWidth, IsNotNullIn}
use Rattle.wd_plan.specs.Faults.{least_fault, unless}
use Rattle.wd_plan.specs.Fits.{AreBelow, width}
use Rattle.wd_plan.specs.Outcomes.{distinct, filter_outcome, join_outcome, map_outcome, pairs, passes}
use Rattle.wd_plan.specs.Plans.{LimitRule, Filter, Map, Distinct, Limit, PlanTree, Scan, Join, Over}
use Rattle.wd_plan.proofs.Parts.{all_filter}
use Rattle.wd_step_facts.specs.declared.facts.Member.{Member}
use Rattle.wd_step_facts.specs.declared.facts.Member.TheVariants as member
use Rattle.wd_step_facts.specs.Facts.{Fact, Paired, Same, Holds, is_plain, key_fact, moved_facts, unpaired}
use Rattle.wd_facts.specs.Given.{full_keys, given, is_not_null, keys_facts, nullable_keys, names_columns, null_keys, gives_row, row_keys, table_rule}
use Rattle.wd_step_facts.specs.Steps.{all_columns, conjuncts, conjuncts_of, facts_of_conjuncts, some_rules_out_null}
use Rattle.wd_facts.proofs.Conjuncts.{IsTrueAt, conjuncts_hold, conjuncts_true, some_ruled_out}
use Rattle.wd_facts.proofs.Embeds.{Embeds, Embeds-distinct, Embeds-filter, Embeds-refl, HasWidth-from, distinct_once, hold_moved, hold_of, keys_of, not_null_of, passes_at, same_facts, wide_at, width_of}
use Rattle.wd_facts.proofs.Keys.{all_map, column_not_null, full_keys_hold, null_keys_hold, row_keys_hold, all_of}
use Rattle.wd_facts.proofs.Outputs.{copied_keys_hold, in_carries, out_carries, outputs_hold, outs_not_null, outs_wide, both_rows}
use Rattle.wd_facts.proofs.Pairs.{Pairing, left_carries, left_column, left_keys_hold, pair_wide, paired, pairing_among, pairs_pairing, right_carries, right_column, right_keys_hold}
use Rattle.wd_facts.proofs.Lists.{range_pick}
use Rattle.wd_facts.specs.Laws.{AreKept, ArePlain, Known}
use Rattle.wd_facts.proofs.Lists.{all_append}

-- ---- outcomes

rows_are : {X : Type 0} (xs ys : X) → ◌≡◌ {A = Result X StepFault} (Ok xs) (Ok ys) → xs ≡ ys
rows_are xs ys e = cc

unless_is : {X : Type 0} (o : Option StepFault) (xs ys : X) → unless o xs ≡ Ok ys → xs ≡ ys
unless_is None xs ys e = rows_are xs ys e
unless_is (Some f) xs ys e = cc

-- rows that pass
pub filtered_is : (condition : Expression) (xs ys : List RowValues) → filter_outcome condition xs ≡ Ok ys → filter (λ row. passes (value_of condition row)) xs ≡ ys
filtered_is condition xs ys e = unless_is (least_fault (map (value_of condition) xs)) (filter (λ row. passes (value_of condition row)) xs) ys e

-- ---- Scan

fits_long : (columns : List TableColumn) (row : RowValues) → fits_columns columns row ≡ true → length row ≡ length columns
fits_long [] [] e = refl
fits_long [] (v ∷ row) e = absurd (false≢true e)
fits_long (column ∷ columns) [] e = absurd (false≢true e)
fits_long (column ∷ columns) (v ∷ row) e = ap suc (fits_long columns row (and_parts (may_hold column v) (fits_columns columns row) e).1)

module _ (tables : List TableRule) (table columns : ℕ) (t : TableRule) (at : slice_get tables table ≡ Some t) (long : columns ≡ length t.columns) (rows : List RowValues) (meets : MeetsTable t rows) where
  pub rule_is : table_rule tables table ≡ t
  rule_is = rw at refl

  meets_rule : MeetsTable (table_rule tables table) rows
  meets_rule = subst (λ x. MeetsTable x rows) (sym rule_is) meets

  long_rule : columns ≡ length (table_rule tables table).columns
  long_rule = long ∙ ap (λ (x : TableRule). length x.columns) (sym rule_is)

  keys_range : AllByRecursion (AreBelow columns) (null_keys (table_rule tables table))
  keys_range =
      let u = table_rule tables table in
      let test : KeyRule → Bool = λ key. names_columns u key && not (gives_row u key) in
      all_map (AreBelow columns) (λ (key : KeyRule). key.columns) (filter test u.keys)
      (all_filter test (KeepsKey rows) (λ key. AreBelow columns key.columns) (λ key h e. ap (λ n. list_all (λ c. nat_lt c n) key.columns) long_rule ∙ (and_parts (names_columns u key) (not (gives_row u key)) e).0) u.keys (all_of (KeepsKey rows) u.keys meets_rule.keys))

  pub known_scan : Known tables (Scan table columns) rows
  known_scan = record {
    wide = HasWidth-from columns rows (λ p k. fits_long t.columns (row_at rows p) (meets.values p [] k) ∙ sym long);
    not_null = λ c e p k. column_not_null (table_rule tables table).columns (row_at rows p) c (meets_rule.values p [] k) e;
    keys = null_keys_hold (table_rule tables table) rows meets_rule;
    range = keys_range;
  }

  pub given_scan : AllByRecursion (Holds (unpaired rows)) (keys_facts member.Row (row_keys (table_rule tables table)))
  given_scan = row_keys_hold (table_rule tables table) rows meets_rule

-- ---- rows among the input's

module _ (tables : List TableRule) (input : PlanTree) (xs ys : List RowValues) (a : Embeds ys xs) (known : Known tables input xs) where
  pub known_among : (c : ℕ) → is_not_null tables input c ≡ true → IsNotNullIn ys c
  known_among c e = not_null_of ys xs a c (known.not_null c e)

  pub known_distinct : Known tables (Over Distinct input) ys
  known_distinct = record { wide = width_of ys xs a (width input) known.wide; not_null = known_among; keys = keys_of ys xs a (nullable_keys tables input) known.keys; range = known.range }

  pub known_limit : (limit : LimitRule) → Known tables (Over (Limit limit) input) ys
  known_limit limit = record { wide = width_of ys xs a (width input) known.wide; not_null = known_among; keys = keys_of ys xs a (nullable_keys tables input) known.keys; range = known.range }

  pub given_among : (facts : List Fact) → AreKept (width input) facts xs → AllByRecursion (Holds (unpaired ys)) facts
  given_among facts kept = hold_of ys xs a (width input) facts kept.named kept.hold

-- ---- Filter

module _ (tables : List TableRule) (condition : Expression) (input : PlanTree) (xs ys : List RowValues) (known : Known tables input xs) (is : filter_outcome condition xs ≡ Ok ys) where
  filter_test : RowValues → Bool
  filter_test row = passes (value_of condition row)

  filtered : Embeds ys xs
  filtered = subst (λ l. Embeds l xs) (filtered_is condition xs ys is) (Embeds-filter (λ row. passes (value_of condition row)) xs)

  filtered_true : (p : ℕ) → p < length ys → AllByRecursion (λ e. IsTrueAt e (row_at ys p)) (conjuncts condition)
  filtered_true p k = conjuncts_true (row_at ys p) condition (subst (λ l. (i : ℕ) → i < length l → passes (value_of condition (row_at l i)) ≡ true) (filtered_is condition xs ys is) (passes_at (λ row. passes (value_of condition row)) xs) p k)

  pub known_filter : Known tables (Over (Filter condition) input) ys
  known_filter = record {
    wide = width_of ys xs filtered (width input) known.wide;
    not_null = λ c e. ⊎_elim (known_among tables input xs ys filtered known c) (λ f p k. some_ruled_out c (row_at ys p) (conjuncts condition) (filtered_true p k) f) (or_cases (is_not_null tables input c) (some_rules_out_null (conjuncts condition) c) e);
    keys = keys_of ys xs filtered (nullable_keys tables input) known.keys;
    range = known.range;
  }

  pub given_filter : (kept more : List Fact) → AreKept (width input) kept xs → AllByRecursion (Holds (unpaired ys)) (given tables (Over (Filter condition) input) kept more).list
  given_filter kept more k =
      all_append (Holds (unpaired ys)) (kept ++ facts_of_conjuncts (conjuncts condition)) _
      (all_append (Holds (unpaired ys)) kept (facts_of_conjuncts (conjuncts condition)) (hold_of ys xs filtered (width input) kept k.named k.hold) (conjuncts_hold (unpaired ys) (conjuncts condition) filtered_true))
      (full_keys_hold ys (is_not_null tables (Over (Filter condition) input)) (λ p c l e. known_filter.not_null c e p l) (nullable_keys tables input) known_filter.keys)

-- ---- Distinct

pub given_distinct : (tables : List TableRule) (input : PlanTree) (xs : List RowValues) (kept more : List Fact) → Known tables input xs → AreKept (width input) kept xs → AllByRecursion (Holds (unpaired (distinct xs))) (given tables (Over Distinct input) kept more).list
given_distinct tables input xs kept more known k =
    all_append (Holds (unpaired (distinct xs))) kept (key_fact member.Row (all_columns (width input)) ∷ []) (hold_of (distinct xs) xs (Embeds-distinct xs) (width input) kept k.named k.hold) (once, tt)
  where
    wide : HasWidth (width input) (distinct xs)
    wide = width_of (distinct xs) xs (Embeds-distinct xs) (width input) known.wide

    once : Holds (unpaired (distinct xs)) (key_fact member.Row (all_columns (width input)))
    once p q k l a = (
      distinct_once xs p q k l (ext_get_or Null (row_at (distinct xs) p) (row_at (distinct xs) q) (wide_at (width input) (distinct xs) p wide k ∙ sym (wide_at (width input) (distinct xs) q wide l)) (λ c h.
          range_pick (Same (unpaired (distinct xs)) p q) 0 (width input) c a (omega arith) (let m = wide_at (width input) (distinct xs) p wide k in omega arith))),
      tt,
    )

-- ---- Map

module _ (tables : List TableRule) (outputs : List Expression) (input : PlanTree) (xs ys : List RowValues) (known : Known tables input xs) (is : map_outcome outputs xs ≡ Ok ys) where
  pub known_map : Known tables (Over (Map outputs) input) ys
  known_map =
      let copied = copied_keys_hold outputs xs ys is (nullable_keys tables input) known.keys in
      record {
        wide = outs_wide outputs xs ys is;
        not_null = outs_not_null outputs xs ys is (is_not_null tables input) known.not_null;
        keys = copied.0;
        range = copied.1;
      }

  -- the given facts speak of the outputs beside the inputs
  pub given_map : (kept more : List Fact) → AreKept (width input) kept xs → AllByRecursion (Holds (unpaired (both_rows outputs xs ys is))) (given tables (Over (Map outputs) input) kept more).list
  given_map kept more k =
      all_append (Holds (unpaired (both_rows outputs xs ys is))) (moved_facts (λ c. length outputs + c) member.Row kept) _
      (hold_moved xs (unpaired (both_rows outputs xs ys is)) (λ c. length outputs + c) member.Row (width input) (in_carries outputs xs ys is (width input)) kept k.named k.hold)
      (outputs_hold outputs xs ys is)

  -- what the entry keeps holds of the outputs
  pub kept_map : (facts : List Fact) → ArePlain (length outputs) facts → AllByRecursion (Holds (unpaired (both_rows outputs xs ys is))) facts → AllByRecursion (Holds (unpaired ys)) facts
  kept_map facts plain a = subst (AllByRecursion (Holds (unpaired ys))) (same_facts facts) (hold_moved (both_rows outputs xs ys is) (unpaired ys) (λ c. c) member.Row (length outputs) (out_carries outputs xs ys is) facts plain a)

-- ---- facts that name columns and the row alone

module _ (n : Paired) (width : ℕ) (p q : ℕ) where
  plain_up : (X : List Member) → list_all (is_plain width) X ≡ true → AllByRecursion (Same (unpaired n.rows) p q) X → AllByRecursion (Same n p q) X
  plain_up [] e a = tt
  plain_up (member.Column c ∷ X) e a = (a.0, plain_up X (and_parts (nat_lt c width) (list_all (is_plain width) X) e).1 a.1)
  plain_up (member.Left ∷ X) e a = absurd (false≢true e)
  plain_up (member.Right ∷ X) e a = absurd (false≢true e)
  plain_up (member.Row ∷ X) e a = (a.0, plain_up X e a.1)

  plain_down : (X : List Member) → list_all (is_plain width) X ≡ true → AllByRecursion (Same n p q) X → AllByRecursion (Same (unpaired n.rows) p q) X
  plain_down [] e a = tt
  plain_down (member.Column c ∷ X) e a = (a.0, plain_down X (and_parts (nat_lt c width) (list_all (is_plain width) X) e).1 a.1)
  plain_down (member.Left ∷ X) e a = absurd (false≢true e)
  plain_down (member.Right ∷ X) e a = absurd (false≢true e)
  plain_down (member.Row ∷ X) e a = (a.0, plain_down X e a.1)

pub unpaired_hold : (n : Paired) (width : ℕ) (facts : List Fact) → ArePlain width facts → AllByRecursion (Holds n) facts → AllByRecursion (Holds (unpaired n.rows)) facts
unpaired_hold n width [] plain a = tt
unpaired_hold n width (fact ∷ facts) plain a =
    let parts = and_parts (list_all (is_plain width) fact.from) (list_all (is_plain width) fact.to) plain.0 in
    (λ p q k l h. plain_down n width p q fact.to parts.1 (a.0 p q k l (plain_up n width p q fact.from parts.0 h)), unpaired_hold n width facts plain.1 a.1)

-- ---- Join

-- the rows of a Join are pairs on which its condition is true
pub record Joined (condition : Option Expression) (ls rs ys : List RowValues) : Type 0 where
  pub among : Embeds ys (pairs ls rs)
  pub holds : (p : ℕ) → p < length ys → AllByRecursion (λ e. IsTrueAt e (row_at ys p)) (conjuncts_of condition)

pub joined : (condition : Option Expression) (ls rs ys : List RowValues) → join_outcome condition (pairs ls rs) ≡ Ok ys → Joined condition ls rs ys
joined None ls rs ys e = record { among = subst (λ l. Embeds l (pairs ls rs)) (rows_are (pairs ls rs) ys e) (Embeds-refl (pairs ls rs)); holds = λ p k. tt }
joined (Some condition) ls rs ys e = record {
  among = subst (λ l. Embeds l (pairs ls rs)) (filtered_is condition (pairs ls rs) ys e) (Embeds-filter (λ row. passes (value_of condition row)) (pairs ls rs));
  holds = λ p k. conjuncts_true (row_at ys p) condition (subst (λ l. (i : ℕ) → i < length l → passes (value_of condition (row_at l i)) ≡ true) (filtered_is condition (pairs ls rs) ys e) (passes_at (λ row. passes (value_of condition row)) (pairs ls rs)) p k);
}

module _ (tables : List TableRule) (condition : Option Expression) (left right : PlanTree) (ls rs ys : List RowValues) (known_left : Known tables left ls) (known_right : Known tables right rs) (join : Joined condition ls rs ys) where
  pub pairing : Pairing ls rs ys
  pairing = pairing_among ls rs ys (pairs ls rs) join.among (pairs_pairing ls rs)

  abbrev pub join_paired : Paired
  join_paired = paired ls rs ys pairing (width left) (width right) known_left.wide known_right.wide

  side_not_null : (p c : ℕ) → p < length ys → (b : Bool) → nat_lt c (width left) ≡ b → cond b (is_not_null tables left c) (is_not_null tables right (c - width left)) ≡ true → is_null (column_of (row_at ys p) c) ≡ false
  side_not_null p c k true h e =
      let l = ltb-true c (width left) h in
      ap is_null (left_column ls rs ys pairing (width left) (width right) known_left.wide known_right.wide p c k l) ∙ known_left.not_null c e (pairing.left p) (pairing.left_within p k)
  side_not_null p c k false h e =
      let f = ltb-false c (width left) h in
      let d : width left + (c - width left) ≡ c = omega arith in
      ap (λ x. is_null (column_of (row_at ys p) x)) (sym d) ∙ ap is_null (right_column ls rs ys pairing (width left) (width right) known_left.wide known_right.wide p (c - width left) k) ∙ known_right.not_null (c - width left) e (pairing.right p) (pairing.right_within p k)

  join_not_null : (p c : ℕ) → p < length ys → is_not_null tables (Join condition left right) c ≡ true → is_null (column_of (row_at ys p) c) ≡ false
  join_not_null p c k e = ⊎_elim (side_not_null p c k (nat_lt c (width left)) refl) (some_ruled_out c (row_at ys p) (conjuncts_of condition) (join.holds p k)) (or_cases (cond (nat_lt c (width left)) (is_not_null tables left c) (is_not_null tables right (c - width left))) (some_rules_out_null (conjuncts_of condition) c) e)

  pub known_join : Known tables (Join condition left right) ys
  known_join = record {
    wide = HasWidth-from (width left + width right) ys (pair_wide ls rs ys pairing (width left) (width right) known_left.wide known_right.wide);
    not_null = λ c e p k. join_not_null p c k e;
    keys = tt;
    range = tt;
  }

  pub given_join : (kept more : List Fact) → AreKept (width left) kept ls → AreKept (width right) more rs → AllByRecursion (Holds join_paired) (given tables (Join condition left right) kept more).list
  given_join kept more k m =
      let P = Holds join_paired in
      let of_left = moved_facts (λ c. c) member.Left kept in
      let of_right = moved_facts (λ c. width left + c) member.Right more in
      let not_null = is_not_null tables (Join condition left right) in
      let of_condition = facts_of_conjuncts (conjuncts_of condition) in
      let left_keys = keys_facts member.Left (full_keys not_null (nullable_keys tables left)) in
      all_append P (((of_left ++ of_right) ++ of_condition) ++ left_keys) _
      (all_append P ((of_left ++ of_right) ++ of_condition) left_keys
      (all_append P (of_left ++ of_right) of_condition
      (all_append P of_left of_right
      (hold_moved ls join_paired (λ c. c) member.Left (width left) (left_carries ls rs ys pairing (width left) (width right) known_left.wide known_right.wide) kept k.named k.hold)
      (hold_moved rs join_paired (λ c. width left + c) member.Right (width right) (right_carries ls rs ys pairing (width left) (width right) known_left.wide known_right.wide) more m.named m.hold))
      (conjuncts_hold join_paired (conjuncts_of condition) join.holds))
      (left_keys_hold ls rs ys pairing (width left) (width right) known_left.wide known_right.wide not_null join_not_null (nullable_keys tables left) known_left.range known_left.keys))
      (right_keys_hold ls rs ys pairing (width left) (width right) known_left.wide known_right.wide not_null join_not_null (nullable_keys tables right) known_right.keys)
