-- A Window's rows with NULL for a fault: facts of its input hold in them, its calls' facts hold in them, and what they give of
-- the input's columns holds in the input, also where the Window has a fault.
use Rattle.std.proofs.Common.{◌≡◌, ℕ, zero, suc, ◌+◌, ◌<◌, Bool, true, false, cond, not, List, [], ◌∷◌, ◌++◌, map, length, get_or, refl, sym, ◌∙◌, ap, subst, arith, nat_lt, Option, Some, None, Result, Ok, Err, slice_get}
use Rattle.std.specs.List.{AllByRecursion, list_any, list_all, range_with_len}
use Rattle.std.proofs.lemmas.Bool.{and_parts, false≢true, ltb-true}
use Rattle.std.proofs.lemmas.List.{length-map, get_or-map, get_or_append_left, get_or-append-add, length-append, same_lists}
use Rattle.std.proofs.lemmas.Option.{get_or_from_slice_get, slice_get_within}
use Rattle.wd_value.specs.Bags.{positions}
use Rattle.wd_value.specs.declared.value.Value.{Value}
use Rattle.wd_value.specs.declared.value.Value.TheVariants.{Null}
use Rattle.wd_value.specs.declared.value.Fault.{Fault}
use Rattle.wd_value.specs.Rows.{Row as RowValues, column_of, columns_of, row_at}
use Rattle.wd_plan.specs.Calls.{value_at}
use Rattle.wd_plan.specs.Choices.{AreOrderings}
use Rattle.wd_plan.specs.Expressions.{is_null}
use Rattle.wd_plan.specs.Facts.{HasWidth, IsNotNullIn, IsNullableKey}
use Rattle.wd_plan.specs.Faults.{all_ok, and_then, least_fault, values_among}
use Rattle.wd_plan.specs.Fits.{AreBelow}
use Rattle.wd_plan.specs.Functions.{name_of, name_of_direction, signature}
use Rattle.wd_plan.specs.Outcomes.{call_at, class_at, extended, ordering_at, window_outcome}
use Rattle.wd_plan.specs.Plans.{ClassRule, WindowRule}
use Rattle.wd_plan.specs.Sorting.{IsOrdering, order_columns}
use Rattle.wd_plan.specs.declared.function.Aggregate.TheVariants.{CountRows, Count, Sum, Min, Max}
use Rattle.wd_plan.specs.declared.function.Direction.{Direction}
use Rattle.wd_plan.specs.declared.function.Direction.TheVariants.{Lag, Lead}
use Rattle.wd_plan.specs.declared.function.FrameFunction.{FrameFunction}
use Rattle.wd_plan.specs.declared.function.FrameFunction.TheVariants.{ValueAt, Aggregate}
use Rattle.wd_plan.specs.declared.function.FrameRow.TheVariants.{First, Last, Nth}
use Rattle.wd_plan.specs.declared.function.Function.{Function}
use Rattle.wd_plan.specs.declared.function.Function.TheVariants.{Ranking as Ranked, Shift as Shifted, OfFrame}
use Rattle.wd_plan.specs.declared.function.Ranking.{Ranking}
use Rattle.wd_plan.specs.declared.function.Ranking.TheVariants.{RowNumber, Rank, DenseRank, Ntile}
use Rattle.wd_plan.specs.declared.window.Call.{Call}
use Rattle.wd_plan.specs.declared.window.Frame.{Frame}
use Rattle.wd_step_facts.specs.declared.facts.Member.{Member}
use Rattle.wd_step_facts.specs.declared.facts.Member.TheVariants as member
use Rattle.wd_step_facts.specs.Facts.{Paired, Same, Holds, columns_named, key_fact, unpaired}
use Rattle.wd_step_facts.specs.Steps.{call_facts, calls_facts, frame_facts, goes_by_key, is_call_not_null, over_frame, rank_fact, ranking_facts, value_fact}
use Rattle.wd_facts.proofs.CallFacts.{dense_rank_gives_order, order_gives_aggregate, order_gives_dense_rank, order_gives_rank, rank_gives_order, row_number_gives_row}
use Rattle.wd_facts.proofs.Embeds.{Carries, HasWidth-from, wide_at}
use Rattle.wd_laws.proofs.AllValues.{AllOk, all_ok_each}
use Rattle.wd_facts.proofs.Outputs.{fault_first, first_value, none_left}
use Rattle.wd_facts.proofs.Lists.{all_append}

abbrev pub or_null : Result Value Fault → Value
or_null (Ok v) = v
or_null (Err fault) = Null

abbrev pub shown_row : WindowRule → List RowValues → List (List ℕ) → ℕ → RowValues
shown_row w rows os p = row_at rows p ++ map (λ (call : Call). or_null (call_at w rows os p call)) w.calls

pub shown_rows : WindowRule → List RowValues → List (List ℕ) → List RowValues
shown_rows w rows os = map (shown_row w rows os) (positions (length rows))

range_at : (a n k d : ℕ) → k < n → get_or (range_with_len a n) k d ≡ a + k
range_at a zero k d h = absurd (omega arith)
range_at a (suc n) zero d h = omega arith
range_at a (suc n) (suc k) d h = range_at (a + 1) n k d (omega arith) ∙ omega arith

range_long : (a n : ℕ) → length (range_with_len a n) ≡ n
range_long a zero = refl
range_long a (suc n) = ap suc (range_long (a + 1) n)

named_append : (P : Member → Type 0) (X Y : List ℕ) → AllByRecursion P (columns_named (X ++ Y)) → AllByRecursion P (columns_named X) × AllByRecursion P (columns_named Y)
named_append P [] Y a = (tt, a)
named_append P (c ∷ X) Y a = let r = named_append P X Y a.1 in ((a.0, r.0), r.1)

module _ (w : WindowRule) (rows : List RowValues) (os : List (List ℕ)) where
  pub shown_long : length (shown_rows w rows os) ≡ length rows
  unfolding shown_rows
  shown_long = length-map (positions (length rows)) (shown_row w rows os) ∙ range_long 0 (length rows)

  pub shown_at : (p : ℕ) → p < length rows → row_at (shown_rows w rows os) p ≡ shown_row w rows os p
  unfolding shown_rows
  shown_at p h =
      let l : p < length (positions (length rows)) = omega (arith, range_long 0 (length rows)) in
      get_or-map (shown_row w rows os) (positions (length rows)) p 0 [] l ∙ ap (shown_row w rows os) (range_at 0 (length rows) p 0 h ∙ omega arith)

  shown_in : (p : ℕ) → p < length (shown_rows w rows os) → p < length rows
  shown_in p k = subst (λ n. p < n) shown_long k

  -- ---- without a fault a Window gives these rows

  values_cons : {A : Type 0} (f : A → Result Value Fault) (a : A) (as' : List A) (r : Result Value Fault) → f a ≡ r → (xs : List Value) → all_ok (r ∷ map f as') ≡ Ok xs → ((ys : List Value) → all_ok (map f as') ≡ Ok ys → ys ≡ map (λ x. or_null (f x)) as') → xs ≡ map (λ x. or_null (f x)) (a ∷ as')
  values_cons f a as' (Err d) is xs e rest = absurd (fault_first d (map f as') xs e)
  values_cons f a as' (Ok x) is xs e rest =
      let v = first_value (least_fault (map f as')) x (values_among (map f as')) xs e in
      v.0 ∙ (λ i. or_null (sym is i) ∷ rest (values_among (map f as')) v.1 i)

  -- where all are values, they are what is shown
  values_are : {A : Type 0} (f : A → Result Value Fault) (as' : List A) (xs : List Value) → all_ok (map f as') ≡ Ok xs → xs ≡ map (λ x. or_null (f x)) as'
  values_are f [] xs e = none_left xs e
  values_are f (a ∷ as') xs e = values_cons f a as' (f a) refl xs e (λ ys g. values_are f as' ys g)

  row_is : (p : ℕ) (values : Result (List Value) Fault) → all_ok (map (call_at w rows os p) w.calls) ≡ values → (r : RowValues) → and_then values (λ vs. Ok (row_at rows p ++ vs)) ≡ Ok r → r ≡ shown_row w rows os p
  row_is p (Err f) is r e = cc
  row_is p (Ok vs) is r e =
      let same : row_at rows p ++ vs ≡ r = cc in
      sym same ∙ ap (λ l. row_at rows p ++ l) (values_are (call_at w rows os p) w.calls vs is)

  module _ (out : List RowValues) (is : window_outcome w rows os ≡ Ok out) where
    out_each : AllOk (extended w rows os) (positions (length rows)) out
    out_each = all_ok_each (extended w rows os) (positions (length rows)) out is

    pub out_long : length out ≡ length rows
    out_long = out_each.long ∙ range_long 0 (length rows)

    pub out_at : (p : ℕ) → p < length rows → row_at out p ≡ shown_row w rows os p
    out_at p k =
        let l : p < length (positions (length rows)) = omega (arith, range_long 0 (length rows)) in
        let here : extended w rows os (get_or (positions (length rows)) p 0) ≡ Ok (row_at out p) = out_each.each p 0 [] l in
        let at : get_or (positions (length rows)) p 0 ≡ p = range_at 0 (length rows) p 0 k ∙ omega arith in
        row_is p (all_ok (map (call_at w rows os p) w.calls)) refl (row_at out p) (ap (extended w rows os) (sym at) ∙ here)

    pub out_is : out ≡ shown_rows w rows os
    out_is = same_lists out (shown_rows w rows os) (out_long ∙ sym shown_long) (λ p d m.
        let k : p < length rows = subst (λ n. p < n) out_long m in
        default_of out p d [] m ∙ out_at p k ∙ sym (shown_at p k) ∙ default_of (shown_rows w rows os) p [] d (subst (λ n. p < n) (sym shown_long) k))
      where
        default_of : (xs : List RowValues) (i : ℕ) (d e : RowValues) → i < length xs → get_or xs i d ≡ get_or xs i e
        default_of [] i d e h = absurd (omega arith)
        default_of (x ∷ xs) zero d e h = refl
        default_of (x ∷ xs) (suc i) d e h = default_of xs i d e (omega arith)

  module _ (width : ℕ) (wide : HasWidth width rows) where
    -- the input's columns are as they were
    pub input_column : (p c : ℕ) → p < length rows → c < width → column_of (row_at (shown_rows w rows os) p) c ≡ column_of (row_at rows p) c
    input_column p c h l = ap (λ (r : RowValues). column_of r c) (shown_at p h) ∙ get_or_append_left (row_at rows p) (map (λ (call : Call). or_null (call_at w rows os p call)) w.calls) Null c (let e = wide_at width rows p wide h in omega arith)

    -- the call's column is its value
    pub call_column : (p n : ℕ) (call : Call) → p < length rows → n < length w.calls → get_or w.calls n call ≡ call → column_of (row_at (shown_rows w rows os) p) (width + n) ≡ or_null (call_at w rows os p call)
    call_column p n call h l e =
        ap (λ (r : RowValues). column_of r (width + n)) (shown_at p h)
        ∙ ap (λ k. column_of (shown_row w rows os p) (k + n)) (sym (wide_at width rows p wide h))
        ∙ get_or-append-add (row_at rows p) (map (λ (c : Call). or_null (call_at w rows os p c)) w.calls) n Null
        ∙ get_or-map (λ (c : Call). or_null (call_at w rows os p c)) w.calls n call Null l ∙ ap (λ (c : Call). or_null (call_at w rows os p c)) e

    pub shown_wide : HasWidth (width + length w.calls) (shown_rows w rows os)
    shown_wide = HasWidth-from (width + length w.calls) (shown_rows w rows os) (λ p k. (let h = shown_in p k in
        ap length (shown_at p h) ∙ length-append (row_at rows p) (map (λ (c : Call). or_null (call_at w rows os p c)) w.calls) ∙ (λ i. wide_at width rows p wide h i + length-map w.calls (λ (c : Call). or_null (call_at w rows os p c)) i)))

    pub shown_carries : Carries rows (unpaired (shown_rows w rows os)) (λ c. c) member.Row width
    shown_carries = record {
      at = λ p. p;
      within = shown_in;
      column = λ p c k l. input_column p c (shown_in p k) l;
      up = λ p q k l e. e;
      down = λ p q k l e. e;
    }

    -- what they give of the input's columns holds in the input: also where the Window has a fault
    pub input_carries : Carries (shown_rows w rows os) (unpaired rows) (λ c. c) member.Row width
    input_carries = record {
      at = λ p. p;
      within = λ p k. subst (λ n. p < n) (sym shown_long) k;
      column = λ p c k l. sym (input_column p c k l);
      up = λ p q k l e. e;
      down = λ p q k l e. e;
    }

    abbrev shown : Paired
    shown = unpaired (shown_rows w rows os)

    pub inputs_same : (p q : ℕ) → p < length rows → q < length rows → (X : List ℕ) → AreBelow width X → AllByRecursion (Same shown p q) (columns_named X) → columns_of X (row_at rows p) ≡ columns_of X (row_at rows q)
    inputs_same p q k l [] e a = refl
    inputs_same p q k l (c ∷ X) e a =
        let parts = and_parts (nat_lt c width) (list_all (λ c. nat_lt c width) X) e in
        let h = ltb-true c width parts.0 in
        λ i. (sym (input_column p c k h) ∙ a.0 ∙ input_column q c l h) i ∷ inputs_same p q k l X parts.1 a.1 i

    pub inputs_shown : (p q : ℕ) → p < length rows → q < length rows → (X : List ℕ) → AreBelow width X → columns_of X (row_at rows p) ≡ columns_of X (row_at rows q) → AllByRecursion (Same shown p q) (columns_named X)
    inputs_shown p q k l [] e a = tt
    inputs_shown p q k l (c ∷ X) e a =
        let parts = and_parts (nat_lt c width) (list_all (λ c. nat_lt c width) X) e in
        let h = ltb-true c width parts.0 in
        let head : column_of (row_at rows p) c ≡ column_of (row_at rows q) c = cc in
        let tail : columns_of X (row_at rows p) ≡ columns_of X (row_at rows q) = cc in
        (input_column p c k h ∙ head ∙ sym (input_column q c l h), inputs_shown p q k l X parts.1 tail)

    -- ---- the facts of a call with column v
    module _ (class : ClassRule) (frame : Frame) (ordering : List ℕ) (v : ℕ) (valid : IsOrdering class rows ordering) (in_partition : AreBelow width class.partition) (in_order : AreBelow width (order_columns class)) where
      abbrev IsColumn : Function → Type 0
      IsColumn function = (p : ℕ) → p < length rows → column_of (row_at (shown_rows w rows os) p) v ≡ or_null (value_at class frame function rows ordering p)

      -- partition and order give the value
      value_holds : (function : Function) → IsColumn function → ((p q : ℕ) → p < length rows → q < length rows → columns_of class.partition (row_at rows p) ≡ columns_of class.partition (row_at rows q) → columns_of (order_columns class) (row_at rows p) ≡ columns_of (order_columns class) (row_at rows q) → value_at class frame function rows ordering p ≡ value_at class frame function rows ordering q) → Holds shown (value_fact class v)
      value_holds function is gives p q k l a =
          let k' = shown_in p k in
          let l' = shown_in q l in
          let parts = named_append (Same shown p q) class.partition (order_columns class) a in
          (is p k' ∙ ap or_null (gives p q k' l' (inputs_same p q k' l' class.partition in_partition parts.0) (inputs_same p q k' l' (order_columns class) in_order parts.1)) ∙ sym (is q l'), tt)

      -- partition and value give
      with_value : (function : Function) → IsColumn function → (p q : ℕ) → p < length rows → q < length rows → AllByRecursion (Same shown p q) (columns_named (class.partition ++ v ∷ [])) → (columns_of class.partition (row_at rows p) ≡ columns_of class.partition (row_at rows q)) × (or_null (value_at class frame function rows ordering p) ≡ or_null (value_at class frame function rows ordering q))
      with_value function is p q k l a =
          let parts = named_append (Same shown p q) class.partition (v ∷ []) a in
          (inputs_same p q k l class.partition in_partition parts.0, sym (is p k) ∙ parts.1.0 ∙ is q l)

      row_number_holds : IsColumn (Ranked RowNumber) → Holds shown (key_fact member.Row (class.partition ++ v ∷ []))
      row_number_holds is p q k l a =
          let k' = shown_in p k in
          let l' = shown_in q l in
          let h = with_value (Ranked RowNumber) is p q k' l' a in
          (row_number_gives_row class frame rows ordering valid.once p q k' l' h.0 (ap (λ x. Ok x) h.1), tt)

      rank_holds : IsColumn (Ranked Rank) → Holds shown (rank_fact class v)
      rank_holds is p q k l a =
          let k' = shown_in p k in
          let l' = shown_in q l in
          let h = with_value (Ranked Rank) is p q k' l' a in
          inputs_shown p q k' l' (order_columns class) in_order (rank_gives_order class frame rows ordering valid.once p q k' l' h.0 (ap (λ x. Ok x) h.1))

      dense_rank_holds : IsColumn (Ranked DenseRank) → Holds shown (rank_fact class v)
      dense_rank_holds is p q k l a =
          let k' = shown_in p k in
          let l' = shown_in q l in
          let h = with_value (Ranked DenseRank) is p q k' l' a in
          inputs_shown p q k' l' (order_columns class) in_order (dense_rank_gives_order class frame rows ordering valid.once p q k' l' h.0 (ap (λ x. Ok x) h.1))

      over_frame_holds : (function : Function) → IsColumn function → ((p q : ℕ) → p < length rows → q < length rows → columns_of class.partition (row_at rows p) ≡ columns_of class.partition (row_at rows q) → goes_by_key frame ≡ true → columns_of (order_columns class) (row_at rows p) ≡ columns_of (order_columns class) (row_at rows q) → value_at class frame function rows ordering p ≡ value_at class frame function rows ordering q) → AllByRecursion (Holds shown) (over_frame class frame v)
      over_frame_holds function is gives = by (goes_by_key frame) refl
        where
          by : (b : Bool) → goes_by_key frame ≡ b → AllByRecursion (Holds shown) (cond b (value_fact class v ∷ []) [])
          by true e = (value_holds function is (λ p q k l s t. gives p q k l s e t), tt)
          by false e = tt

      ranking_holds : (ranking : Ranking) → IsColumn (Ranked ranking) → AllByRecursion (Holds shown) (ranking_facts class ranking v)
      ranking_holds RowNumber is = (row_number_holds is, tt)
      ranking_holds Rank is = (value_holds (Ranked Rank) is (λ p q k l s t. order_gives_rank class frame rows ordering valid.once p q k l s t), (rank_holds is, tt))
      ranking_holds DenseRank is = (value_holds (Ranked DenseRank) is (λ p q k l s t. order_gives_dense_rank class frame rows ordering valid.once p q k l s t), (dense_rank_holds is, tt))
      ranking_holds (Ntile n) is = tt

      frame_function_holds : (function : FrameFunction) → IsColumn (OfFrame function) → AllByRecursion (Holds shown) (frame_facts class frame function v)
      frame_function_holds (ValueAt row c) is = tt
      frame_function_holds (Aggregate a) is = over_frame_holds (OfFrame (Aggregate a)) is (λ p q k l s g t. order_gives_aggregate class frame rows ordering valid.once p q k l s g t a)

      by_function : (function : Function) → IsColumn function → AllByRecursion (Holds shown) (call_facts class frame function v)
      by_function (Ranked ranking) is = ranking_holds ranking is
      by_function (Shifted shift) is = tt
      by_function (OfFrame function) is = frame_function_holds function is

    -- ---- the facts of all calls

    -- the call names a class, whose columns are the input's
    pub record IsWell (call : Call) : Type 0 where
      pub names : call.class < length w.classes
      pub in_partition : AreBelow width (class_at w call.class).partition
      pub in_order : AreBelow width (order_columns (class_at w call.class))

    abbrev Stands : ℕ → List Call → Type 0
    Stands n calls = (i : ℕ) (d : Call) → i < length calls → (n + i < length w.calls) × (get_or w.calls (n + i) d ≡ get_or calls i d)

    calls_hold_from : AreOrderings w.classes rows os → (n : ℕ) (calls : List Call) → AllByRecursion IsWell calls → Stands n calls → AllByRecursion (Holds shown) (calls_facts w (width + n) calls)
    calls_hold_from valid n [] well h = tt
    calls_hold_from valid n (call ∷ calls) well h =
        let here = h 0 call (omega arith) in
        let zero_more : n + 0 ≡ n = omega arith in
        let at : get_or w.calls n call ≡ call = ap (λ i. get_or w.calls i call) (sym zero_more) ∙ here.1 in
        let l : n < length w.calls = omega (arith, here.0) in
        let next : (width + n) + 1 ≡ width + (n + 1) = omega arith in
        all_append (Holds shown) (call_facts (class_at w call.class) call.frame call.function (width + n)) (calls_facts w ((width + n) + 1) calls)
        (by_function (class_at w call.class) call.frame (ordering_at os call.class) (width + n) (valid.each call.class well.0.names) well.0.in_partition well.0.in_order call.function (λ p k. call_column p n call k l at))
        (subst (λ v. AllByRecursion (Holds shown) (calls_facts w v calls)) (sym next) (calls_hold_from valid (n + 1) calls well.1 (λ i d k. let g = h (suc i) d (omega arith) in let m : (n + 1) + i ≡ n + suc i = omega arith in (omega (arith, g.0), ap (λ x. get_or w.calls x d) m ∙ g.1))))

    pub calls_hold : AreOrderings w.classes rows os → AllByRecursion IsWell w.calls → AllByRecursion (Holds shown) (calls_facts w width w.calls)
    calls_hold valid well =
        let zero_more : width + 0 ≡ width = omega arith in
        subst (λ v. AllByRecursion (Holds shown) (calls_facts w v w.calls)) zero_more (calls_hold_from valid 0 w.calls well (λ i d k. (omega arith, ap (λ x. get_or w.calls x d) (omega arith))))

    -- ---- what is not null

    shifts_nullable : (direction : Direction) → not (signature (name_of_direction direction)).nullable ≡ false
    shifts_nullable Lag = refl
    shifts_nullable Lead = refl

    never_null : (class : ClassRule) (frame : Frame) (ordering : List ℕ) (p : ℕ) (function : Function) → not (signature (name_of function)).nullable ≡ true → is_null (or_null (value_at class frame function rows ordering p)) ≡ false
    never_null class frame ordering p (Ranked ranking) e = refl
    never_null class frame ordering p (Shifted shift) e = absurd (false≢true (sym (shifts_nullable shift.direction) ∙ e))
    never_null class frame ordering p (OfFrame (ValueAt First c)) e = absurd (false≢true e)
    never_null class frame ordering p (OfFrame (ValueAt Last c)) e = absurd (false≢true e)
    never_null class frame ordering p (OfFrame (ValueAt (Nth n) c)) e = absurd (false≢true e)
    never_null class frame ordering p (OfFrame (Aggregate CountRows)) e = refl
    never_null class frame ordering p (OfFrame (Aggregate (Count c))) e = refl
    never_null class frame ordering p (OfFrame (Aggregate (Sum c))) e = absurd (false≢true e)
    never_null class frame ordering p (OfFrame (Aggregate (Min c))) e = absurd (false≢true e)
    never_null class frame ordering p (OfFrame (Aggregate (Max c))) e = absurd (false≢true e)

    pub input_not_null : (c : ℕ) → c < width → IsNotNullIn rows c → IsNotNullIn (shown_rows w rows os) c
    input_not_null c l h p k = ap is_null (input_column p c (shown_in p k) l) ∙ h p (shown_in p k)

    pub call_not_null : (n : ℕ) → is_call_not_null (slice_get w.calls n) ≡ true → IsNotNullIn (shown_rows w rows os) (width + n)
    call_not_null n e p k = by (slice_get w.calls n) refl e
      where
        by : (o : Option Call) → slice_get w.calls n ≡ o → is_call_not_null o ≡ true → is_null (column_of (row_at (shown_rows w rows os) p) (width + n)) ≡ false
        by None at f = absurd (false≢true f)
        by (Some call) at f = ap is_null (call_column p n call (shown_in p k) (slice_get_within w.calls n call at) (get_or_from_slice_get w.calls n call call at)) ∙ never_null (class_at w call.class) call.frame (ordering_at os call.class) p call.function f

    input_columns : (p : ℕ) → p < length rows → (X : List ℕ) → AreBelow width X → columns_of X (row_at (shown_rows w rows os) p) ≡ columns_of X (row_at rows p)
    input_columns p k [] e = refl
    input_columns p k (c ∷ X) e =
        let parts = and_parts (nat_lt c width) (list_all (λ c. nat_lt c width) X) e in
        λ i. input_column p c k (ltb-true c width parts.0) i ∷ input_columns p k X parts.1 i

    pub input_keys : (keys : List (List ℕ)) → AllByRecursion (AreBelow width) keys → AllByRecursion (IsNullableKey rows) keys → AllByRecursion (IsNullableKey (shown_rows w rows os)) keys
    input_keys [] r a = tt
    input_keys (X ∷ keys) r a = (
      λ p q k l e n. (let k' = shown_in p k in let l' = shown_in q l in
          a.0 p q k' l' (sym (input_columns p k' X r.0) ∙ e ∙ input_columns q l' X r.0) (ap (list_any is_null) (sym (input_columns p k' X r.0)) ∙ n)),
      input_keys keys r.1 a.1,
    )
