-- Pairs by their positions: conditions that are nothing but equalities, and the pairs that agree.
use Rattle.std.proofs.Common.{◌≡◌, ℕ, zero, suc, ◌+◌, ◌-◌, ◌<◌, ◌≤◌, Bool, true, false, cond, ◌&&◌, ◌||◌, List, [], ◌∷◌, ◌++◌, All, map, filter, take, drop, length, get_or, nat_lt, Some, None, Ok, refl, sym, ap, subst, ◌∙◌, arith}
use Rattle.std.specs.List.{list_any}
use Rattle.std.proofs.lemmas.Bool.{lt-ltb}
use Rattle.std.proofs.lemmas.List.{append-nil, append_assoc, length-append, length-map, map-append, take_all}
use Rattle.std.proofs.lemmas.List.Elements.{All-head, All-tail, filter-append}
use Rattle.wd_value.specs.declared.value.Value.{Value}
use Rattle.wd_value.specs.declared.value.Value.TheVariants.{Null, Int, Text, Bool as Truth}
use Rattle.wd_value.specs.declared.value.Fault.{Fault}
use Rattle.wd_value.specs.declared.value.Fault.TheVariants.{DivisionByZero, OutOfRange}
use Rattle.wd_value.specs.Rows.{Row, row_at, rows_at}
use Rattle.wd_plan.specs.Expressions.{Expression, And, and_result, is_true, value_of}
use Rattle.wd_plan.specs.Faults.{and_then, has_fault, least_fault, unless}
use Rattle.wd_plan.specs.Outcomes.{filter_outcome, pairs, passes}
use Rattle.wd_join.specs.declared.matching.JoinColumns.{JoinColumns}
use Rattle.wd_joined.specs.declared.pairs.Pair.{Pair}
use Rattle.wd_join.specs.declared.walk.RowRange.{RowRange}
use Rattle.wd_join.specs.Matching.{AreAgreeingRanges, Equates, agree, equal, matching}
use Rattle.wd_joined.specs.Pairs.{row_paired, rows_paired}
use Rattle.wd_join.specs.Paired.{AreExact, HasExact, IsExact, with_each}
use Rattle.wd_join.proofs.Agreeing.{any_append, matching_done, value_has}
use Rattle.wd_join.proofs.Joining.{pairs_with}

-- ---- conditions that are nothing but equalities

and_true : (b : Bool) → (b && true) ≡ b
and_true true = refl
and_true false = refl

and_assoc : (a b c : Bool) → (a && (b && c)) ≡ ((a && b) && c)
and_assoc true b c = refl
and_assoc false b c = refl

pub HasExact-one : (left right : ℕ) (e : Expression) (columns : List JoinColumns) (c : JoinColumns) → Equates left right e c → HasExact left right e columns (columns ++ c ∷ [])
HasExact-one left right e columns c is = record {
  own = c ∷ [];
  grown = refl;
  exact = λ l r l-long r-long. (equal c l r, ap (value_of e) (sym (append-nil (l ++ r))) ∙ is l r [] l-long r-long, sym (and_true (is_true (equal c l r))));
}

-- an AND of two values
both : (v w : Value) → (u : Value) × (and_result v (Ok w) ≡ Ok u) × (is_true u ≡ (is_true v && is_true w))
both (Truth false) w = (Truth false, refl, refl)
both (Truth true) (Truth b) = (Truth b, refl, refl)
both (Truth true) Null = (Null, refl, refl)
both (Truth true) (Int n) = (Null, refl, refl)
both (Truth true) (Text t) = (Null, refl, refl)
both Null (Truth true) = (Null, refl, refl)
both Null (Truth false) = (Truth false, refl, refl)
both Null Null = (Null, refl, refl)
both Null (Int n) = (Null, refl, refl)
both Null (Text t) = (Null, refl, refl)
both (Int m) (Truth true) = (Null, refl, refl)
both (Int m) (Truth false) = (Truth false, refl, refl)
both (Int m) Null = (Null, refl, refl)
both (Int m) (Int n) = (Null, refl, refl)
both (Int m) (Text t) = (Null, refl, refl)
both (Text s) (Truth true) = (Null, refl, refl)
both (Text s) (Truth false) = (Truth false, refl, refl)
both (Text s) Null = (Null, refl, refl)
both (Text s) (Int n) = (Null, refl, refl)
both (Text s) (Text t) = (Null, refl, refl)

agree_append : (first second : List JoinColumns) (l r : Row) → agree (first ++ second) l r ≡ (agree first l r && agree second l r)
agree_append [] second l r = refl
agree_append (c ∷ first) second l r = ap (λ b. is_true (equal c l r) && b) (agree_append first second l r) ∙ and_assoc (is_true (equal c l r)) (agree first l r) (agree second l r)

pub HasExact-both : (left right : ℕ) (a b : Expression) (old middle new : List JoinColumns) → HasExact left right a old middle → HasExact left right b middle new → HasExact left right (And a b) old new
HasExact-both left right a b old middle new first second = record {
  own = first.own ++ second.own;
  grown = second.grown ∙ ap (λ cs. cs ++ second.own) first.grown ∙ append_assoc old first.own second.own;
  exact = λ l r l-long r-long. (
      let x = first.exact l r l-long r-long in
      let y = second.exact l r l-long r-long in
      let u = both x.0 y.0 in
      (u.0, (λ i. and_then (x.1 i) (λ v. and_result v (y.1 i))) ∙ u.1, u.2 ∙ (λ i. x.2 i && y.2 i) ∙ sym (agree_append first.own second.own l r)));
}

pub AreExact-wide : (left right : ℕ) (e : Expression) (columns : List JoinColumns) (ls rs : List Row) → All (λ l. length l ≡ left) ls → All (λ r. length r ≡ right) rs
    → HasExact left right e [] columns → AreExact e columns ls rs
AreExact-wide left right e columns ls rs l-wide r-wide told = λ i d i-within j f j-within. (
    subst (λ cs. IsExact e cs (get_or ls i d) (get_or rs j f)) (sym told.grown) (told.exact (get_or ls i d) (get_or rs j f) (l-wide i d i-within) (r-wide j f j-within)))

-- ---- what such a condition gives over all pairs

module _ (e : Expression) (columns : List JoinColumns) where
  abbrev t : Row → Bool
  t row = passes (value_of e row)

  abbrev any : Fault → List Row → Bool
  any f rows = list_any (has_fault f) (map (value_of e) rows)

  abbrev own : Row → List Row → List Row
  own l right = pairs_with l (filter (agree columns l) right)

  exact_passes : (l r : Row) → IsExact e columns l r → passes (value_of e (l ++ r)) ≡ agree columns l r
  exact_passes l r x = ap passes x.1 ∙ x.2

  with_cond : (l r : Row) (rows : List Row) (b : Bool) → cond b ((l ++ r) ∷ pairs_with l rows) (pairs_with l rows) ≡ pairs_with l (cond b (r ∷ rows) rows)
  with_cond l r rows true = refl
  with_cond l r rows false = refl

  passing : (l : Row) (right : List Row) → All (IsExact e columns l) right → filter t (pairs_with l right) ≡ own l right
  passing l [] all = refl
  passing l (r ∷ right) all =
      let here = exact_passes l r (All-head (IsExact e columns l) r right all) in
      let rest = passing l right (All-tail (IsExact e columns l) r right all) in
      (λ i. cond (here i) ((l ++ r) ∷ rest i) (rest i)) ∙ with_cond l r (filter (agree columns l) right) (agree columns l r)

  faultless : (f : Fault) (l : Row) (right : List Row) → All (IsExact e columns l) right → any f (pairs_with l right) ≡ false
  faultless f l [] all = refl
  faultless f l (r ∷ right) all =
      let x = All-head (IsExact e columns l) r right all in
      ap (λ y. has_fault f y || any f (pairs_with l right)) x.1
      ∙ ap (λ b. b || any f (pairs_with l right)) (value_has f x.0)
      ∙ faultless f l right (All-tail (IsExact e columns l) r right all)

  abbrev Row-wise : List Row → Row → Type 0
  Row-wise right l = All (λ r. IsExact e columns l r) right

  all_passing : (left right : List Row) → AreExact e columns left right → filter t (pairs left right) ≡ matching columns left right
  all_passing [] right all = refl
  all_passing (l ∷ left) right all =
      let here = passing l right (All-head (Row-wise right) l left all) in
      let rest = all_passing left right (All-tail (Row-wise right) l left all) in
      filter-append t (pairs_with l right) (pairs left right) ∙ (λ i. here i ++ rest i)

  all_faultless : (f : Fault) (left right : List Row) → AreExact e columns left right → any f (pairs left right) ≡ false
  all_faultless f [] right all = refl
  all_faultless f (l ∷ left) right all =
      let here = faultless f l right (All-head (Row-wise right) l left all) in
      let rest = all_faultless f left right (All-tail (Row-wise right) l left all) in
      ap (list_any (has_fault f)) (map-append (value_of e) (pairs_with l right) (pairs left right))
      ∙ any_append (has_fault f) (map (value_of e) (pairs_with l right)) (map (value_of e) (pairs left right))
      ∙ (λ i. here i || rest i)

  no_fault : (left right : List Row) → AreExact e columns left right → least_fault (map (value_of e) (pairs left right)) ≡ None
  no_fault left right all = λ i. cond (all_faultless DivisionByZero left right all i) (Some DivisionByZero) (cond (all_faultless OutOfRange left right all i) (Some OutOfRange) None)

  pub exact_outcome : (left right : List Row) → AreExact e columns left right → filter_outcome e (pairs left right) ≡ Ok (matching columns left right)
  exact_outcome left right all = λ i. unless (no_fault left right all i) (all_passing left right all i)

-- ---- the pairs that agree

paired_with : (left right : List Row) (i : ℕ) (positions : List ℕ) → rows_paired left right (with_each i positions) ≡ pairs_with (row_at left i) (rows_at right positions)
paired_with left right i [] = refl
paired_with left right i (p ∷ positions) = ap (λ rows. (row_at left i ++ row_at right p) ∷ rows) (paired_with left right i positions)

pub length-with_each : (i : ℕ) (positions : List ℕ) → length (with_each i positions) ≡ length positions
length-with_each i [] = refl
length-with_each i (p ∷ positions) = ap suc (length-with_each i positions)

matching_cut : (columns : List JoinColumns) (left right : List Row) (n : ℕ) → matching columns left right ≡ matching columns (take n left) right ++ matching columns (drop n left) right
matching_cut columns left right zero = refl
matching_cut columns [] right (suc n) = refl
matching_cut columns (l ∷ left) right (suc n) =
    let own = pairs_with l (filter (agree columns l) right) in
    ap (λ rows. own ++ rows) (matching_cut columns left right n) ∙ sym (append_assoc own (matching columns (take n left) right) (matching columns (drop n left) right))

module _ (columns : List JoinColumns) (left right : List Row) (order positions : List ℕ) (ranges : List RowRange) (i : ℕ) (s : RowRange) (pairs : List Pair)
    (found : AreAgreeingRanges columns left right order ranges) (within : i < length left) (at : s ≡ get_or ranges i s) (here : positions ≡ take (s.end - s.start) (drop s.start order))
    (so_far : rows_paired left right pairs ≡ matching columns (take i left) right) where
  -- those of one left row more
  pub paired_more : rows_paired left right (pairs ++ with_each i positions) ≡ matching columns (take (i + 1) left) right
  paired_more =
      let all : length positions ≤ length positions = omega arith in
      map-append (row_paired left right) pairs (with_each i positions)
      ∙ (λ k. so_far k ++ paired_with left right i positions k)
      ∙ ap (λ ps. matching columns (take i left) right ++ pairs_with (row_at left i) (rows_at right ps)) (sym (take_all (length positions) positions all))
      ∙ matching_done columns left right order ranges i (length positions) (row_at left i) positions s found within at here refl all

  -- which are too many
  pub paired_past : (most : ℕ) → most < length pairs + length positions → nat_lt most (length (matching columns left right)) ≡ true
  paired_past most past =
      let rest = matching columns (drop (i + 1) left) right in
      let first = matching columns (take (i + 1) left) right in
      let whole = ap length (matching_cut columns left right (i + 1)) ∙ length-append first rest in
      let some = sym (ap length paired_more) ∙ length-map (pairs ++ with_each i positions) (row_paired left right) ∙ length-append pairs (with_each i positions) in
      let each = length-with_each i positions in
      lt-ltb most (length (matching columns left right)) (omega arith)
