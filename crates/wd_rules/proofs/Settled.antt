-- The rules of an entry that is not refused settle a Window's calls and a Limit in the rows that the node reads.
use Rattle.std.proofs.Common.{◌≡◌, ℕ, zero, suc, ◌<◌, ◌≤◌, Bool, true, false, not, ◌&&◌, ◌||◌, List, [], ◌∷◌, ◌++◌, length, refl, sym, ◌∙◌, ap, subst, arith, nat_lt, nat_eq, Option, Some, None, is_some, ◌⊎◌, inl, inr, slice_get}
use Rattle.std.specs.List.{AllByRecursion, list_all}
use Rattle.std.proofs.lemmas.Bool.{and_parts, or_cases, false≢true, eqb-true, ltb-true, ltb-false}
use Rattle.wd_value.specs.declared.value.Value.TheVariants.{Null}
use Rattle.wd_value.specs.Rows.{Row as RowValues, column_of, columns_of, row_at}
use Rattle.wd_plan.specs.declared.function.FrameFunction.TheVariants.{ValueAt, Aggregate}
use Rattle.wd_plan.specs.declared.function.Function.{Function}
use Rattle.wd_plan.specs.declared.function.Function.TheVariants.{Ranking as Ranked, Shift as Shifted, OfFrame}
use Rattle.wd_plan.specs.declared.window.Call.{Call}
use Rattle.wd_plan.specs.declared.window.Frame.{Frame}
use Rattle.wd_plan.specs.Facts.{DeterminesAll, HasWidth}
use Rattle.wd_plan.specs.Fits.{AreBelow, Kinds}
use Rattle.wd_plan.specs.Frames.{is_stable}
use Rattle.wd_plan.specs.Outcomes.{class_at}
use Rattle.wd_plan.specs.Plans.{WindowRule, LimitRule}
use Rattle.wd_plan.specs.Settled.{IsByValues, IsSettledCall, IsSettledLimit, is_by_peers}
use Rattle.wd_plan.specs.Sorting.{class_columns, order_columns, limit_class}
use Rattle.wd_plan.proofs.Ranges.{IsSound}
use Rattle.wd_certificate.specs.declared.certificate.Rule.{Rule}
use Rattle.wd_certificate.specs.declared.certificate.Rule.TheVariants as rule
use Rattle.wd_certificate.specs.declared.error.CertError.TheVariants.{SecondExchange, UnjustifiedCall, UnjustifiedLimit}
use Rattle.wd_step_facts.specs.declared.facts.Member.{Member}
use Rattle.wd_step_facts.specs.declared.facts.Member.TheVariants as member
use Rattle.wd_step_facts.specs.Facts.{FactList, Paired, Same, columns_named, unpaired}
use Rattle.wd_step_facts.specs.Steps.{all_columns}
use Rattle.wd_facts.proofs.Embeds.{wide_at}
use Rattle.wd_facts.proofs.Keys.{named_same}
use Rattle.wd_facts.proofs.Lists.{range_pick}
use Rattle.wd_facts.proofs.Sides.{HasSides}
use Rattle.wd_facts.proofs.Windows.{input_column, inputs_shown, shown_long, shown_rows}
use Rattle.wd_sets.specs.Sets.{is_in}
use Rattle.wd_rules.specs.Rules.{EvidenceRecord, call_refusal, calls_refusal, exchange_class, exchange_only, has_one_exchange, is_exchange, is_whole_or_ties, limit_refusal, refuse_unless, refuse_unless_shown, shows, shows_column, shows_value, taken_column, window_refusal}
use Rattle.wd_sets.specs.Reaches.{reaches_each}
use Rattle.wd_rules.specs.Traces.{Traced}
use Rattle.wd_rules.proofs.Kept.{at_number}
use Rattle.wd_rules.proofs.Refused.{first_passed, later_passed, passed, shown_there}
use Rattle.wd_rules.proofs.Traces.{IsTrue, among_same, each_same}

-- ---- what a trace shows

module _ (n : Paired) (facts : FactList) (sides : HasSides n facts.split facts.columns) (shown : List Traced) (hold : AllByRecursion (IsTrue n) shown) where
  -- columns give members
  abbrev Gives : List ℕ → List Member → Type 0
  Gives within members = (p q : ℕ) → p < length n.rows → q < length n.rows → AllByRecursion (Same n p q) (columns_named within) → AllByRecursion (Same n p q) members

  gives : (within : List ℕ) (members : List Member) (i : ℕ) (t : Traced) → slice_get shown i ≡ Some t → shows facts (is_in within) members t ≡ true → Gives within members
  gives within members i t at e p q k l a =
      let parts = and_parts (list_all (is_in within) t.from) (reaches_each facts t.has members) e in
      each_same n p q k l facts sides t.has members (at_number (IsTrue n) shown i t hold at p q k l (among_same (Same n p q) within t.from a parts.0)) parts.1

-- ---- a Limit

-- no count
count_none : (o : Option ℕ) → not (is_some o) ≡ true → o ≡ None
count_none None e = refl
count_none (Some n) e = absurd (false≢true e)

module _ (rows : List RowValues) (facts : FactList) (sides : HasSides (unpaired rows) facts.split facts.columns) (shown : List Traced) (hold : AllByRecursion (IsTrue (unpaired rows)) shown) where
  -- a trace of it shows that its sort keys give every column
  pub keys_give : (node width : ℕ) (limit : LimitRule) (trace : Option ℕ) → is_some trace ≡ true → limit_refusal (record { node = node; facts = facts; shown = shown }) width limit trace ≡ None → DeterminesAll rows width (order_columns (limit_class limit))
  keys_give node width limit None t e = absurd (false≢true t)
  keys_give node width limit (Some i) t e =
      let keys = order_columns (limit_class limit) in
      let all = columns_named (all_columns width) in
      let there = shown_there (λ fact. Gives (unpaired rows) facts sides shown hold keys all) node (UnjustifiedLimit node) (shows facts (is_in keys) all) (slice_get shown i) e (gives (unpaired rows) facts sides shown hold keys all i) in
      λ c l p q k m same. range_pick (Same (unpaired rows) p q) 0 width c (there.1 p q k m (named_same (unpaired rows) p q keys same)) (omega arith) (omega arith)

  pub limit_settled : (node width : ℕ) (limit : LimitRule) (trace : Option ℕ) → limit_refusal (record { node = node; facts = facts; shown = shown }) width limit trace ≡ None → IsSettledLimit limit width rows
  limit_settled node width limit None e =
      let parts = and_parts (nat_eq limit.offset 0) (not (is_some limit.count) || limit.ties) (passed (is_whole_or_ties limit) (UnjustifiedLimit node) e) in
      by (eqb-true limit.offset 0 parts.0) (or_cases (not (is_some limit.count)) limit.ties parts.1)
    where
      by : limit.offset ≡ 0 → (not (is_some limit.count) ≡ true) ⊎ (limit.ties ≡ true) → IsSettledLimit limit width rows
      by offset (inl f) = inl (count_none limit.count f, offset)
      by offset (inr f) = inr (inl (f, offset))
  limit_settled node width limit (Some i) e = inr (inr (keys_give node width limit (Some i) refl e))

-- ---- a Window's calls

-- FIRST_VALUE, LAST_VALUE and NTH_VALUE over a stable frame
taken_is : (frame : Frame) (function : Function) (c : ℕ) → is_stable frame ≡ true → taken_column function ≡ Some c → IsByValues frame function c
taken_is frame (Ranked r) c s e = cc
taken_is frame (Shifted d) c s e = cc
taken_is frame (OfFrame (ValueAt row d)) c s e = let f : d ≡ c = cc in (s, row, ap (λ x. OfFrame (ValueAt row x)) f)
taken_is frame (OfFrame (Aggregate a)) c s e = cc

below_append : (width : ℕ) (X Y : List ℕ) → AreBelow width X → AreBelow width Y → AreBelow width (X ++ Y)
below_append width [] Y a b = b
below_append width (c ∷ X) Y a b =
    let parts = and_parts (nat_lt c width) (list_all (λ c. nat_lt c width) X) a in
    λ i. parts.0 i && below_append width X Y parts.1 b i

-- the column that a call takes, by a trace
pub record IsTaken (facts : FactList) (among : ℕ → Bool) (call : Call) (fact : Traced) : Type 0 where
  pub column : ℕ
  pub stable : is_stable call.frame ≡ true
  pub takes : taken_column call.function ≡ Some column
  pub shown : shows facts among (member.Column column ∷ []) fact ≡ true

is_taken : (facts : FactList) (among : ℕ → Bool) (call : Call) (fact : Traced) → shows_value facts among call fact ≡ true → IsTaken facts among call fact
is_taken facts among call fact e = by (taken_column call.function) refl (and_parts (is_stable call.frame) (shows_column facts among (taken_column call.function) fact) e)
  where
    by : (o : Option ℕ) → taken_column call.function ≡ o → (is_stable call.frame ≡ true) × (shows_column facts among (taken_column call.function) fact ≡ true) → IsTaken facts among call fact
    by None h parts = let g : shows_column facts among None fact ≡ true = subst (λ o. shows_column facts among o fact ≡ true) h parts.1 in absurd (false≢true g)
    by (Some c) h parts = record { column = c; stable = parts.0; takes = h; shown = subst (λ o. shows_column facts among o fact ≡ true) h parts.1 }

-- past a row's end there is NULL
past : (row : RowValues) (c : ℕ) → length row ≤ c → column_of row c ≡ Null
past [] c h = refl
past (v ∷ row) zero h = absurd (omega arith)
past (v ∷ row) (suc c) h = past row c (omega arith)

module _ (w : WindowRule) (rows : List RowValues) (os : List (List ℕ)) (width : ℕ) (wide : HasWidth width rows) (facts : FactList) (sides : HasSides (unpaired (shown_rows w rows os)) facts.split facts.columns) (shown : List Traced) (hold : AllByRecursion (IsTrue (unpaired (shown_rows w rows os))) shown) (node : ℕ) where
  abbrev n : Paired
  n = unpaired (shown_rows w rows os)

  abbrev evidence : EvidenceRecord
  evidence = record { node = node; facts = facts; shown = shown }

  -- what the class's columns of the input give
  abbrev ClassGives : List ℕ → List Member → Type 0
  ClassGives within members = (p q : ℕ) → p < length rows → q < length rows → columns_of within (row_at rows p) ≡ columns_of within (row_at rows q) → AllByRecursion (Same n p q) members

  class_gives : (within : List ℕ) (members : List Member) → AreBelow width within → Gives n facts sides shown hold within members → ClassGives within members
  class_gives within members range h p q k l same = h p q (subst (λ n. p < n) (sym (shown_long w rows os)) k) (subst (λ n. q < n) (sym (shown_long w rows os)) l) (inputs_shown w rows os width wide p q k l within range same)

  -- a column that is the same in the shown rows is the same in the input's
  input_same : (p q c : ℕ) → p < length rows → q < length rows → Same n p q (member.Column c) → column_of (row_at rows p) c ≡ column_of (row_at rows q) c
  input_same p q c k l e = by (nat_lt c width) refl
    where
      by : (b : Bool) → nat_lt c width ≡ b → column_of (row_at rows p) c ≡ column_of (row_at rows q) c
      by true h = let m = ltb-true c width h in sym (input_column w rows os width wide p c k m) ∙ e ∙ input_column w rows os width wide q c l m
      by false h =
          let m = ltb-false c width h in
          past (row_at rows p) c (let d = wide_at width rows p wide k in omega arith) ∙ sym (past (row_at rows q) c (let d = wide_at width rows q wide l in omega arith))

  -- what a rule's trace shows
  by_trace : (within : List ℕ) (members : List Member) (i : ℕ) → AreBelow width within → refuse_unless_shown node (UnjustifiedCall node) (shows facts (is_in within) members) (slice_get shown i) ≡ None → ClassGives within members
  by_trace within members i range e =
      (shown_there (λ fact. ClassGives within members) node (UnjustifiedCall node) (shows facts (is_in within) members) (slice_get shown i) e (λ fact at f. class_gives within members range (gives n facts sides shown hold within members i fact at f))).1

  abbrev Taken : List ℕ → Call → Type 0
  Taken within call = (c : ℕ) × IsByValues call.frame call.function c × ClassGives within (member.Column c ∷ [])

  by_value : (within : List ℕ) (call : Call) (i : ℕ) → AreBelow width within → refuse_unless_shown node (UnjustifiedCall node) (shows_value facts (is_in within) call) (slice_get shown i) ≡ None → Taken within call
  by_value within call i range e =
      (shown_there (λ fact. Taken within call) node (UnjustifiedCall node) (shows_value facts (is_in within) call) (slice_get shown i) e (λ fact at f.
      (let t = is_taken facts (is_in within) call fact f in
      (t.column, taken_is call.frame call.function t.column t.stable t.takes, class_gives within (member.Column t.column ∷ []) range (gives n facts sides shown hold within (member.Column t.column ∷ []) i fact at t.shown))))).1

  call_settled : (exchange : ℕ) (call : Call) (r : Rule) → AreBelow width (class_columns (class_at w call.class)) → call_refusal evidence width (is_in (class_columns (class_at w call.class))) call r ≡ None → (not (is_exchange r) || nat_eq call.class exchange) ≡ true → IsSettledCall w exchange width rows call
  call_settled exchange call rule.Peers range e f = inl (inl (passed (is_by_peers call.frame call.function) (UnjustifiedCall node) e))
  call_settled exchange call (rule.Unique i) range e f = inl (inr (inl (λ p q k l same. (by_trace (class_columns (class_at w call.class)) (member.Row ∷ []) i range e p q k l same).0)))
  call_settled exchange call (rule.Values i) range e f =
      let v = by_value (class_columns (class_at w call.class)) call i range e in
      inl (inr (inr (v.0, v.1, λ p q k l same. input_same p q v.0 k l (v.2 p q k l same).0)))
  call_settled exchange call (rule.Exchange i) range e f =
      let all = by_trace (class_columns (class_at w call.class)) (columns_named (all_columns width)) i range e in
      inr (eqb-true call.class exchange f, λ c m p q k l same. input_same p q c k l (range_pick (Same n p q) 0 width c (all p q k l same) (omega arith) (omega arith)))

  abbrev HasRange : Call → Type 0
  HasRange call = AreBelow width (class_columns (class_at w call.class))

  calls_settled : (exchange : ℕ) (calls : List Call) (rules : List Rule) → AllByRecursion HasRange calls → calls_refusal evidence width w calls rules ≡ None → exchange_only exchange calls rules ≡ true → AllByRecursion (IsSettledCall w exchange width rows) calls
  calls_settled exchange [] rules range e f = tt
  calls_settled exchange (call ∷ calls) [] range e f = cc
  calls_settled exchange (call ∷ calls) (r ∷ rules) range e f =
      let own = call_refusal evidence width (is_in (class_columns (class_at w call.class))) call r in
      let later = calls_refusal evidence width w calls rules in
      let only = and_parts (not (is_exchange r) || nat_eq call.class exchange) (exchange_only exchange calls rules) f in
      (call_settled exchange call r range.0 (first_passed own later e) only.0, calls_settled exchange calls rules range.1 (later_passed own later e) only.1)

  pub window_settled : (rules : List Rule) → AllByRecursion HasRange w.calls → window_refusal evidence width w rules ≡ None → AllByRecursion (IsSettledCall w (exchange_class w.calls rules) width rows) w.calls
  window_settled rules range e =
      let own = calls_refusal evidence width w w.calls rules in
      let one = refuse_unless (has_one_exchange w.calls rules) (SecondExchange node) in
      calls_settled (exchange_class w.calls rules) w.calls rules range (first_passed own one e) (passed (has_one_exchange w.calls rules) (SecondExchange node) (later_passed own one e))

-- the columns of the classes of a plan that fits
pub in_range : (kinds : Kinds) (width : ℕ) (below : (c : ℕ) → is_some (kinds c) ≡ true → c < width) (w : WindowRule) (calls : List Call) → AllByRecursion (IsSound kinds width below w) calls → AllByRecursion (λ (call : Call). AreBelow width (class_columns (class_at w call.class))) calls
in_range kinds width below w [] a = tt
in_range kinds width below w (call ∷ calls) a = (below_append width (class_at w call.class).partition (order_columns (class_at w call.class)) a.0.in_partition a.0.in_order, in_range kinds width below w calls a.1)
