-- The rows of a Map beside those of its input: what the outputs give, and what is not null in them.
use Rattle.std.proofs.Common.{◌≡◌, ℕ, zero, suc, ◌+◌, ◌<◌, Bool, true, false, cond, not, ◌&&◌, List, [], ◌∷◌, ◌++◌, map, length, get_or, refl, sym, ◌∙◌, ap, subst, arith, nat_lt, Option, Some, None, Result, Ok, Err, slice_get}
use Rattle.std.specs.List.{AllByRecursion, list_any, list_all}
use Rattle.std.proofs.lemmas.Option.{get_or_from_slice_get, slice_get_within}
use Rattle.std.proofs.lemmas.Bool.{false≢true, lt-ltb, eqb-true}
use Rattle.std.proofs.lemmas.List.{get_or_append_left, get_or-append-add}
use Rattle.wd_value.specs.declared.value.Value.{Value}
use Rattle.wd_value.specs.declared.value.Value.TheVariants.{Null}
use Rattle.wd_value.specs.declared.value.Fault.{Fault}
use Rattle.wd_value.specs.declared.value.Fault.TheVariants.{DivisionByZero, OutOfRange}
use Rattle.wd_value.specs.Rows.{Row as RowValues, column_of, columns_of, row_at}
use Rattle.wd_plan.specs.Expressions.{Expression, Column, Literal, Negate, Arithmetic, Compare, Not, And, Or, IsNull, IsNotNull, Case, and_result, arithmetic_value, comparison, is_null, is_true, negated, not_value, or_result, value_of}
use Rattle.wd_value.specs.declared.value.Value.TheVariants as value
use Rattle.wd_plan.specs.Facts.{HasWidth, IsNotNullIn, IsNullableKey}
use Rattle.wd_plan.specs.Faults.{all_ok, and_then, has_fault, unless, values_among}
use Rattle.wd_plan.specs.Outcomes.{map_outcome}
use Rattle.wd_step_facts.specs.declared.facts.Member.TheVariants as member
use Rattle.wd_step_facts.specs.Facts.{Same, Holds, beside, columns_named, unpaired}
use Rattle.wd_step_facts.specs.Steps.{Side, Plain, Fixed, Other, column_fact, copied_keys, copies, both_copied, if_copied, copy_from, is_output_not_null, is_side_not_null, is_side, output_facts, outputs_facts, side_of, used, used_fact}
use Rattle.wd_laws.proofs.AllValues.{AllOk, all_ok_each}
use Rattle.wd_facts.proofs.Conjuncts.{Says, says}
use Rattle.wd_facts.proofs.Embeds.{Carries, HasWidth-from}
use Rattle.wd_facts.proofs.Lists.{all_append, all_left, all_right}

-- ---- an expression's value is a matter of the columns that it uses

module _ (a b : RowValues) where
  abbrev Alike : List ℕ → Type 0
  Alike X = AllByRecursion (λ c. column_of a c ≡ column_of b c) X

  pub value_same : (e : Expression) → Alike (used e) → value_of e a ≡ value_of e b
  value_same (Column c) h = ap (λ v. Ok v) h.0
  value_same (Literal v kind) h = refl
  value_same (Negate x) h = ap (λ r. and_then r negated) (value_same x h)
  value_same (Arithmetic o x y) h = λ i. and_then (value_same x (all_left _ (used x) (used y) h) i) (λ v. and_then (value_same y (all_right _ (used x) (used y) h) i) (λ w. arithmetic_value o v w))
  value_same (Compare o x y) h = λ i. and_then (value_same x (all_left _ (used x) (used y) h) i) (λ v. and_then (value_same y (all_right _ (used x) (used y) h) i) (λ w. Ok (comparison o v w)))
  value_same (Not x) h = ap (λ r. and_then r (λ v. Ok (not_value v))) (value_same x h)
  value_same (And x y) h = λ i. and_then (value_same x (all_left _ (used x) (used y) h) i) (λ v. and_result v (value_same y (all_right _ (used x) (used y) h) i))
  value_same (Or x y) h = λ i. and_then (value_same x (all_left _ (used x) (used y) h) i) (λ v. or_result v (value_same y (all_right _ (used x) (used y) h) i))
  value_same (IsNull x) h = ap (λ r. and_then r (λ v. Ok (value.Bool (is_null v)))) (value_same x h)
  value_same (IsNotNull x) h = ap (λ r. and_then r (λ v. Ok (value.Bool (not (is_null v))))) (value_same x h)
  value_same (Case k x y z) h =
      let r = all_right _ (used x) (used y ++ used z) h in
      λ i. and_then (value_same x (all_left _ (used x) (used y ++ used z) h) i) (λ v. cond (is_true v) (value_same y (all_left _ (used y) (used z) r) i) (value_same z (all_right _ (used y) (used z) r) i))

-- ---- all the values of a list of results

pub fault_first : {X : Type 0} (f : Fault) (rs : List (Result X Fault)) (xs : List X) → all_ok (Err f ∷ rs) ≡ Ok xs → ⊥
fault_first DivisionByZero rs xs e = cc
fault_first OutOfRange rs xs e = by (list_any (has_fault DivisionByZero) rs) e
  where
    by : (b : Bool) → unless (cond b (Some DivisionByZero) (Some OutOfRange)) (values_among rs) ≡ Ok xs → ⊥
    by true h = cc
    by false h = cc

pub first_value : {X : Type 0} (o : Option Fault) (x : X) (rest xs : List X) → unless o (x ∷ rest) ≡ Ok xs → (xs ≡ x ∷ rest) × (unless o rest ≡ Ok rest)
first_value None x rest xs e = (let h : xs ≡ x ∷ rest = cc in h, refl)
first_value (Some f) x rest xs e = cc

pub none_left : {X : Type 0} (xs : List X) → ◌≡◌ {A = Result (List X) Fault} (Ok []) (Ok xs) → xs ≡ []
none_left xs e = cc

-- ---- rows beside one another

beside_long : (outs ins : List RowValues) → length outs ≡ length ins → length (beside outs ins) ≡ length outs
beside_long [] ins e = refl
beside_long (o ∷ outs) [] e = absurd (omega arith)
beside_long (o ∷ outs) (i ∷ ins) e = ap suc (beside_long outs ins (omega arith))

beside_at : (outs ins : List RowValues) (p : ℕ) → length outs ≡ length ins → p < length outs → row_at (beside outs ins) p ≡ row_at outs p ++ row_at ins p
beside_at [] ins p e k = absurd (omega arith)
beside_at (o ∷ outs) [] p e k = absurd (omega arith)
beside_at (o ∷ outs) (i ∷ ins) zero e k = refl
beside_at (o ∷ outs) (i ∷ ins) (suc p) e k = beside_at outs ins p (omega arith) (omega arith)

module _ (outputs : List Expression) (ins outs : List RowValues) (is : map_outcome outputs ins ≡ Ok outs) where
  rows_each : AllOk (λ row. all_ok (map (λ output. value_of output row) outputs)) ins outs
  rows_each = all_ok_each (λ row. all_ok (map (λ output. value_of output row) outputs)) ins outs is

  row_each : (p : ℕ) → p < length ins → AllOk (λ output. value_of output (row_at ins p)) outputs (row_at outs p)
  row_each p k = all_ok_each (λ output. value_of output (row_at ins p)) outputs (row_at outs p) (rows_each.each p [] [] k)

  pub outs_long : length outs ≡ length ins
  outs_long = rows_each.long

  pub out_wide : (p : ℕ) → p < length ins → length (row_at outs p) ≡ length outputs
  out_wide p k = (row_each p k).long

  pub outs_wide : HasWidth (length outputs) outs
  outs_wide = HasWidth-from (length outputs) outs (λ p k. out_wide p (subst (λ n. p < n) outs_long k))

  -- the value of an output
  pub out_value : (p j : ℕ) (e : Expression) → p < length ins → j < length outputs → get_or outputs j e ≡ e → value_of e (row_at ins p) ≡ Ok (column_of (row_at outs p) j)
  out_value p j e k l at = ap (λ x. value_of x (row_at ins p)) (sym at) ∙ (row_each p k).each j e Null l

  abbrev pub both_rows : List RowValues
  both_rows = beside outs ins

  both_long : length both_rows ≡ length ins
  both_long = beside_long outs ins outs_long ∙ outs_long

  both_in : (p : ℕ) → p < length both_rows → p < length ins
  both_in p k = subst (λ n. p < n) both_long k

  out_column : (p c : ℕ) → p < length ins → c < length outputs → column_of (row_at both_rows p) c ≡ column_of (row_at outs p) c
  out_column p c k l =
      let e = out_wide p k in
      ap (λ r. column_of r c) (beside_at outs ins p outs_long (subst (λ n. p < n) (sym outs_long) k)) ∙ get_or_append_left (row_at outs p) (row_at ins p) Null c (omega arith)

  in_column : (p c : ℕ) → p < length ins → column_of (row_at both_rows p) (length outputs + c) ≡ column_of (row_at ins p) c
  in_column p c k =
      ap (λ r. column_of r (length outputs + c)) (beside_at outs ins p outs_long (subst (λ n. p < n) (sym outs_long) k))
      ∙ ap (λ w. column_of (row_at outs p ++ row_at ins p) (w + c)) (sym (out_wide p k))
      ∙ get_or-append-add (row_at outs p) (row_at ins p) c Null

  pub in_carries : (width : ℕ) → Carries ins (unpaired both_rows) (λ c. length outputs + c) member.Row width
  in_carries width = record {
    at = λ p. p;
    within = both_in;
    column = λ p c k l. in_column p c (both_in p k);
    up = λ p q k l e. e;
    down = λ p q k l e. e;
  }

  -- what holds of the outputs beside the inputs holds of the outputs
  pub out_carries : Carries both_rows (unpaired outs) (λ c. c) member.Row (length outputs)
  out_carries = record {
    at = λ p. p;
    within = λ p k. subst (λ n. p < n) (sym (beside_long outs ins outs_long)) k;
    column = λ p c k l. sym (out_column p c (subst (λ n. p < n) outs_long k) l);
    up = λ p q k l e. e;
    down = λ p q k l e. e;
  }

  in_columns_same : (p q : ℕ) → p < length ins → q < length ins → (X : List ℕ) → AllByRecursion (Same (unpaired both_rows) p q) (columns_named (map (λ c. length outputs + c) X)) → AllByRecursion (λ c. column_of (row_at ins p) c ≡ column_of (row_at ins q) c) X
  in_columns_same p q k l [] a = tt
  in_columns_same p q k l (c ∷ X) a = (sym (in_column p c k) ∙ a.0 ∙ in_column q c l, in_columns_same p q k l X a.1)

  ok_is : (v w : Value) → ◌≡◌ {A = Result Value Fault} (Ok v) (Ok w) → v ≡ w
  ok_is v w e = cc

  -- the facts of one output
  module _ (j : ℕ) (e : Expression) (l : j < length outputs) (at : get_or outputs j e ≡ e) where
    pub copy_is : (c p : ℕ) → side_of e ≡ Plain c → p < length ins → column_of (row_at outs p) j ≡ column_of (row_at ins p) c
    copy_is c p s k = sym (ok_is (column_of (row_at ins p) c) (column_of (row_at outs p) j) (sym (subst (λ t. Says t e) s (says e) (row_at ins p)) ∙ out_value p j e k l at))

    pub literal_is : (v : Value) (p : ℕ) → side_of e ≡ Fixed v → p < length ins → column_of (row_at outs p) j ≡ v
    literal_is v p s k = sym (ok_is v (column_of (row_at outs p) j) (sym (subst (λ t. Says t e) s (says e) (row_at ins p)) ∙ out_value p j e k l at))

    used_gives : Holds (unpaired both_rows) (used_fact (length outputs) j e)
    used_gives p q k m a =
        let k' = both_in p k in
        let m' = both_in q m in
        let same = value_same (row_at ins p) (row_at ins q) e (in_columns_same p q k' m' (used e) a) in
        let outs_same : column_of (row_at outs p) j ≡ column_of (row_at outs q) j = ok_is _ _ (sym (out_value p j e k' l at) ∙ same ∙ out_value q j e m' l at) in
        (out_column p j k' l ∙ outs_same ∙ sym (out_column q j m' l), tt)

    copy_gives : (c : ℕ) → side_of e ≡ Plain c → Holds (unpaired both_rows) (column_fact j (length outputs + c))
    copy_gives c s p q k m a =
        let k' = both_in p k in
        let m' = both_in q m in
        (in_column p c k' ∙ sym (copy_is c p s k') ∙ sym (out_column p j k' l) ∙ a.0 ∙ out_column q j m' l ∙ copy_is c q s m' ∙ sym (in_column q c m'), tt)

    pub output_holds : (s : Side) → side_of e ≡ s → AllByRecursion (Holds (unpaired both_rows)) (output_facts (length outputs) j e)
    output_holds (Plain c) s = rw s (used_gives, (copy_gives c s, tt))
    output_holds (Fixed v) s = rw s (used_gives, tt)
    output_holds Other s = rw s (used_gives, tt)

  outputs_hold_from : (j : ℕ) (es : List Expression) → ((i : ℕ) (d : Expression) → i < length es → (j + i < length outputs) × (get_or outputs (j + i) d ≡ get_or es i d)) → AllByRecursion (Holds (unpaired both_rows)) (outputs_facts (length outputs) j es)
  outputs_hold_from j [] h = tt
  outputs_hold_from j (e ∷ es) h =
      let here = h 0 e (omega arith) in
      let zero_more : j + 0 ≡ j = omega arith in
      all_append (Holds (unpaired both_rows)) (output_facts (length outputs) j e) (outputs_facts (length outputs) (j + 1) es)
      (output_holds j e (omega (arith, here.0)) (ap (λ i. get_or outputs i e) (sym zero_more) ∙ here.1) (side_of e) refl)
      (outputs_hold_from (j + 1) es (λ i d k. let g = h (suc i) d (omega arith) in let n : (j + 1) + i ≡ j + suc i = omega arith in (omega (arith, g.0), ap (λ x. get_or outputs x d) n ∙ g.1)))

  pub outputs_hold : AllByRecursion (Holds (unpaired both_rows)) (outputs_facts (length outputs) 0 outputs)
  outputs_hold = outputs_hold_from 0 outputs (λ i d k. (omega arith, ap (λ x. get_or outputs x d) (omega arith)))

  -- ---- what is not null

  not_is : (b : Bool) → not b ≡ true → b ≡ false
  not_is true e = absurd (false≢true e)
  not_is false e = refl

  pub outs_not_null : (below : ℕ → Bool) → ((c : ℕ) → below c ≡ true → IsNotNullIn ins c) → (c : ℕ) → is_output_not_null below (slice_get outputs c) ≡ true → IsNotNullIn outs c
  outs_not_null below h c e = by_output (slice_get outputs c) refl e
    where
      by_side : (o : Expression) (s : Side) → side_of o ≡ s → c < length outputs → get_or outputs c o ≡ o → is_side_not_null below s ≡ true → IsNotNullIn outs c
      by_side o (Plain d) s l at f p k = let k' : p < length ins = subst (λ n. p < n) outs_long k in ap is_null (copy_is c o l at d p s k') ∙ h d f p k'
      by_side o (Fixed v) s l at f p k = let k' : p < length ins = subst (λ n. p < n) outs_long k in ap is_null (literal_is c o l at v p s k') ∙ not_is (is_null v) f
      by_side o Other s l at f p k = absurd (false≢true f)

      by_output : (o : Option Expression) → slice_get outputs c ≡ o → is_output_not_null below o ≡ true → IsNotNullIn outs c
      by_output None at f = absurd (false≢true f)
      by_output (Some o) at f = by_side o (side_of o) refl (slice_get_within outputs c o at) (get_or_from_slice_get outputs c o o at) f

  -- ---- keys by their copies

  -- the copy of a column
  record Copy (c d : ℕ) : Type 0 where
    output : Expression
    within : d < length outputs
    at : get_or outputs d output ≡ output
    side : side_of output ≡ Plain c

  plain_is : (c : ℕ) (s : Side) → is_side c s ≡ true → s ≡ Plain c
  plain_is c (Plain d) e = ap Plain (sym (eqb-true c d e))
  plain_is c (Fixed v) e = absurd (false≢true e)
  plain_is c Other e = absurd (false≢true e)

  some_number : (d e : ℕ) → Some d ≡ Some e → d ≡ e
  some_number d e h = cc

  abbrev Stands : ℕ → List Expression → Type 0
  Stands j es = (i : ℕ) (d : Expression) → i < length es → (j + i < length outputs) × (get_or outputs (j + i) d ≡ get_or es i d)

  found_step : (c d j : ℕ) (e : Expression) (es : List Expression) (b : Bool) → is_side c (side_of e) ≡ b → Stands j (e ∷ es) → (copy_from (j + 1) es c ≡ Some d → Copy c d) → cond b (Some j) (copy_from (j + 1) es c) ≡ Some d → Copy c d
  found_step c d j e es true s h later f =
      let here = h 0 e (omega arith) in
      let zero_more : j + 0 ≡ j = omega arith in
      let same : j ≡ d = some_number j d f in
      record {
        output = e;
        within = omega (arith, here.0);
        at = ap (λ i. get_or outputs i e) (sym same ∙ sym zero_more) ∙ here.1;
        side = plain_is c (side_of e) s;
      }
  found_step c d j e es false s h later f = later f

  copy_found : (c d j : ℕ) (es : List Expression) → Stands j es → copy_from j es c ≡ Some d → Copy c d
  copy_found c d j [] h f = cc
  copy_found c d j (e ∷ es) h f = found_step c d j e es (is_side c (side_of e)) refl h (copy_found c d (j + 1) es (λ i x k. let g = h (suc i) x (omega arith) in let n : (j + 1) + i ≡ j + suc i = omega arith in (omega (arith, g.0), ap (λ y. get_or outputs y x) n ∙ g.1))) f

  all_stand : Stands 0 outputs
  all_stand i d k = (omega arith, ap (λ x. get_or outputs x d) (omega arith))

  -- the copies of a list of columns
  record Copied (X Y : List ℕ) : Type 0 where
    range : list_all (λ c. nat_lt c (length outputs)) Y ≡ true
    columns : (p : ℕ) → p < length ins → columns_of Y (row_at outs p) ≡ columns_of X (row_at ins p)

  copied_cons : (c : ℕ) (X Y : List ℕ) (a : Option ℕ) (b : Option (List ℕ)) → ((d : ℕ) → a ≡ Some d → Copy c d) → ((Z : List ℕ) → b ≡ Some Z → Copied X Z) → both_copied a b ≡ Some Y → Copied (c ∷ X) Y
  copied_cons c X Y None b f g e = cc
  copied_cons c X Y (Some d) None f g e = cc
  copied_cons c X Y (Some d) (Some Z) f g e =
      let one = f d refl in
      let rest = g Z refl in
      let is_Y : d ∷ Z ≡ Y = cc in
      subst (Copied (c ∷ X)) is_Y (record {
        range = λ i. lt-ltb d (length outputs) one.within i && rest.range i;
        columns = λ p k i. copy_is d one.output one.within one.at c p one.side k i ∷ rest.columns p k i;
      })

  nothing_copied : (Y : List ℕ) → ◌≡◌ {A = Option (List ℕ)} (Some []) (Some Y) → Copied [] Y
  nothing_copied Y e = let is_Y : [] ≡ Y = cc in subst (Copied []) is_Y (record { range = refl; columns = λ p k. refl })

  copied : (X Y : List ℕ) → copies outputs X ≡ Some Y → Copied X Y
  copied [] Y e = nothing_copied Y e
  copied (c ∷ X) Y e = copied_cons c X Y (copy_from 0 outputs c) (copies outputs X) (λ d f. copy_found c d 0 outputs all_stand f) (λ Z f. copied X Z f) e

  copied_key : (X Y : List ℕ) → Copied X Y → IsNullableKey ins X → IsNullableKey outs Y
  copied_key X Y h key p q k l e n =
      let k' : p < length ins = subst (λ n. p < n) outs_long k in
      let l' : q < length ins = subst (λ n. q < n) outs_long l in
      key p q k' l' (sym (h.columns p k') ∙ e ∙ h.columns q l') (ap (list_any is_null) (sym (h.columns p k')) ∙ n)

  abbrev pub InRange : ℕ → List (List ℕ) → Type 0
  InRange width keys = AllByRecursion (λ X. list_all (λ c. nat_lt c width) X ≡ true) keys

  copied_step : (X : List ℕ) (keys : List (List ℕ)) (o : Option (List ℕ)) → copies outputs X ≡ o → IsNullableKey ins X → AllByRecursion (IsNullableKey outs) keys × InRange (length outputs) keys → AllByRecursion (IsNullableKey outs) (if_copied o keys) × InRange (length outputs) (if_copied o keys)
  copied_step X keys None e key rest = rest
  copied_step X keys (Some Y) e key rest = let h = copied X Y e in ((copied_key X Y h key, rest.0), (h.range, rest.1))

  pub copied_keys_hold : (keys : List (List ℕ)) → AllByRecursion (IsNullableKey ins) keys → AllByRecursion (IsNullableKey outs) (copied_keys outputs keys) × InRange (length outputs) (copied_keys outputs keys)
  copied_keys_hold [] a = (tt, tt)
  copied_keys_hold (X ∷ keys) a = copied_step X (copied_keys outputs keys) (copies outputs X) refl a.0 (copied_keys_hold keys a.1)
