-- Where the pairs that do not agree have no fault and are not true, the others decide.
use Rattle.std.proofs.Common.{◌≡◌, ℕ, ◌+◌, ◌-◌, ◌<◌, ◌≤◌, Bool, true, false, cond, ◌||◌, List, [], ◌∷◌, ◌++◌, All, map, filter, take, drop, length, get_or, Option, Some, None, Result, Ok, refl, sym, ap, subst, ◌∙◌}
use Rattle.std.specs.List.{list_any}
use Rattle.std.proofs.lemmas.List.{append-nil, append_assoc, flat_map_more, map-append, take_all, take_more}
use Rattle.std.proofs.lemmas.List.Elements.{All-head, All-tail, All-take, filter-append}
use Rattle.wd_value.specs.declared.value.Value.{Value}
use Rattle.wd_value.specs.declared.value.Fault.{Fault}
use Rattle.wd_value.specs.declared.value.Fault.TheVariants.{DivisionByZero, OutOfRange}
use Rattle.wd_value.specs.Rows.{Row, row_at, rows_at}
use Rattle.wd_plan.specs.Expressions.{Expression, value_of}
use Rattle.wd_plan.specs.Faults.{has_fault, least_fault, unless}
use Rattle.wd_plan.specs.Outcomes.{filter_outcome, pairs, passes}
use Rattle.wd_join.specs.declared.matching.JoinColumns.{JoinColumns}
use Rattle.wd_join.specs.declared.walk.RowRange.{RowRange}
use Rattle.wd_join.specs.Joins.{AreEnough, AreKept}
use Rattle.wd_join.specs.Matching.{AreSkippable, AreAgreeingRanges, IsAgreeingRange, IsUntrue, agree, matching}
use Rattle.wd_join.proofs.Joining.{pairs_with}
use Rattle.wd_steps.proofs.Results.{map_more}

untrue_passes : (r : Result Value Fault) → IsUntrue r → passes r ≡ false
untrue_passes r u = ap passes u.1 ∙ u.2

pub value_has : (f : Fault) (v : Value) → has_fault f (Ok v) ≡ false
value_has DivisionByZero v = refl
value_has OutOfRange v = refl

untrue_fault : (f : Fault) (r : Result Value Fault) → IsUntrue r → has_fault f r ≡ false
untrue_fault f r u = ap (has_fault f) u.1 ∙ value_has f u.0

pub any_append : {X : Type 0} (t : X → Bool) (xs ys : List X) → list_any t (xs ++ ys) ≡ (list_any t xs || list_any t ys)
any_append t [] ys = refl
any_append t (x ∷ xs) ys = ap (λ b. t x || b) (any_append t xs ys) ∙ or_assoc (t x) (list_any t xs) (list_any t ys)
  where
    or_assoc : (a b c : Bool) → (a || (b || c)) ≡ ((a || b) || c)
    or_assoc true b c = refl
    or_assoc false b c = refl

-- ---- products

pub pairs_append : (xs ys rows : List Row) → pairs (xs ++ ys) rows ≡ pairs xs rows ++ pairs ys rows
pairs_append [] ys rows = refl
pairs_append (x ∷ xs) ys rows = ap (λ ps. pairs_with x rows ++ ps) (pairs_append xs ys rows) ∙ sym (append_assoc (pairs_with x rows) (pairs xs rows) (pairs ys rows))

-- with the row without columns
pairs_alone : (xs : List Row) → pairs xs ([] ∷ []) ≡ xs
pairs_alone [] = refl
pairs_alone (x ∷ xs) = λ i. append-nil x i ∷ pairs_alone xs i

-- ---- rows over which a condition keeps the same and has the same faults

pub record KeepsSame (e : Expression) (all some : List Row) : Type 0 where
  pub kept : filter (λ row. passes (value_of e row)) some ≡ filter (λ row. passes (value_of e row)) all
  pub faults : (f : Fault) → list_any (has_fault f) (map (value_of e) some) ≡ list_any (has_fault f) (map (value_of e) all)

module _ (e : Expression) where
  abbrev t : Row → Bool
  t row = passes (value_of e row)

  abbrev any : Fault → List Row → Bool
  any f rows = list_any (has_fault f) (map (value_of e) rows)

  any_parts : (f : Fault) (xs ys : List Row) → any f (xs ++ ys) ≡ (any f xs || any f ys)
  any_parts f xs ys = ap (list_any (has_fault f)) (map-append (value_of e) xs ys) ∙ any_append (has_fault f) (map (value_of e) xs) (map (value_of e) ys)

  same_all : (rows : List Row) → KeepsSame e rows rows
  same_all rows = record { kept = refl; faults = λ f. refl }

  same_append : (xs ys us vs : List Row) → KeepsSame e xs us → KeepsSame e ys vs → KeepsSame e (xs ++ ys) (us ++ vs)
  same_append xs ys us vs first second = record {
    kept = filter-append t us vs ∙ (λ i. first.kept i ++ second.kept i) ∙ sym (filter-append t xs ys);
    faults = λ f. any_parts f us vs ∙ (λ i. first.faults f i || second.faults f i) ∙ sym (any_parts f xs ys);
  }

  same_to : (xs ys us vs : List Row) → xs ≡ ys → us ≡ vs → KeepsSame e xs us → KeepsSame e ys vs
  same_to xs ys us vs all some same = record {
    kept = sym (ap (filter t) some) ∙ same.kept ∙ ap (filter t) all;
    faults = λ f. sym (ap (any f) some) ∙ same.faults f ∙ ap (any f) all;
  }

  pub least_same : (all some : List Row) → KeepsSame e all some → least_fault (map (value_of e) some) ≡ least_fault (map (value_of e) all)
  least_same all some same = λ i. cond (same.faults DivisionByZero i) (Some DivisionByZero) (cond (same.faults OutOfRange i) (Some OutOfRange) None)

  pub outcome_same : (all some : List Row) → KeepsSame e all some → filter_outcome e some ≡ filter_outcome e all
  outcome_same all some same = λ i. unless (least_same all some same i) (same.kept i)

  -- none of them counts
  untrue_rows : (p : Row) (rows : List Row) → ((x : Row) → IsUntrue (value_of e (p ++ x))) → KeepsSame e (pairs_with p rows) []
  untrue_rows p [] u = same_all []
  untrue_rows p (x ∷ rows) u =
      let rest = untrue_rows p rows u in
      let no = untrue_passes _ (u x) in
      record {
        kept = rest.kept ∙ sym (ap (λ b. cond b ((p ++ x) ∷ filter t (pairs_with p rows)) (filter t (pairs_with p rows))) no);
        faults = λ f. rest.faults f ∙ sym (ap (λ b. b || any f (pairs_with p rows)) (untrue_fault f _ (u x)));
      }

module _ (e : Expression) (columns : List JoinColumns) (rows : List Row) where
  abbrev Skips : Row → Row → Type 0
  Skips l r = agree columns l r ≡ false → (x : Row) → IsUntrue (value_of e ((l ++ r) ++ x))

  same_step : (l r : Row) (right : List Row) (b : Bool) → agree columns l r ≡ b → Skips l r → KeepsSame e (pairs (pairs_with l right) rows) (pairs (pairs_with l (filter (agree columns l) right)) rows)
      → KeepsSame e (pairs (pairs_with l (r ∷ right)) rows) (pairs (pairs_with l (cond b (r ∷ filter (agree columns l) right) (filter (agree columns l) right))) rows)
  same_step l r right true is skips rest = same_append e (pairs_with (l ++ r) rows) (pairs (pairs_with l right) rows) (pairs_with (l ++ r) rows) (pairs (pairs_with l (filter (agree columns l) right)) rows) (same_all e (pairs_with (l ++ r) rows)) rest
  same_step l r right false is skips rest = same_append e (pairs_with (l ++ r) rows) (pairs (pairs_with l right) rows) [] (pairs (pairs_with l (filter (agree columns l) right)) rows) (untrue_rows e (l ++ r) rows (skips is)) rest

  same_of : (l : Row) (right : List Row) → All (Skips l) right → KeepsSame e (pairs (pairs_with l right) rows) (pairs (pairs_with l (filter (agree columns l) right)) rows)
  same_of l [] skips = same_all e []
  same_of l (r ∷ right) skips = same_step l r right (agree columns l r) refl (All-head (Skips l) r right skips) (same_of l right (All-tail (Skips l) r right skips))

  pub same_pairs : (left right : List Row) → AreSkippable e columns left right → KeepsSame e (pairs (pairs left right) rows) (pairs (matching columns left right) rows)
  same_pairs [] right skips = same_all e []
  same_pairs (l ∷ left) right skips =
      let here = same_of l right (All-head (λ l. All (Skips l) right) l left skips) in
      let rest = same_pairs left right (All-tail (λ l. All (Skips l) right) l left skips) in
      let own = pairs_with l (filter (agree columns l) right) in
      same_to e _ _ _ _ (sym (pairs_append (pairs_with l right) (pairs left right) rows)) (sym (pairs_append own (matching columns left right) rows))
      (same_append e (pairs (pairs_with l right) rows) (pairs (pairs left right) rows) (pairs own rows) (pairs (matching columns left right) rows) here rest)

module _ (e : Expression) (columns : List JoinColumns) (left right : List Row) (skips : AreSkippable e columns left right) where
  pub AreEnough-matching : AreEnough e (pairs left right) (matching columns left right)
  AreEnough-matching rows = outcome_same e _ _ (same_pairs e columns rows left right skips)

  same_alone : KeepsSame e (pairs left right) (matching columns left right)
  same_alone = same_to e _ _ _ _ (pairs_alone (pairs left right)) (pairs_alone (matching columns left right)) (same_pairs e columns ([] ∷ []) left right skips)

  pub AreKept-pairs : (most : ℕ) (rows : List Row) (fault : Option Fault) → AreKept e most (matching columns left right) rows fault → AreKept e most (pairs left right) rows fault
  AreKept-pairs most rows fault kept = record {
    rows_are = kept.rows_are ∙ ap (take (most + 1)) same_alone.kept;
    fault_is = kept.fault_is ∙ least_same e _ _ same_alone;
  }

pub AreSkippable-take : (e : Expression) (columns : List JoinColumns) (left right : List Row) (i : ℕ) → AreSkippable e columns left right → AreSkippable e columns (take i left) right
AreSkippable-take e columns left right i skips = All-take (λ l. All (λ r. agree columns l r ≡ false → (x : Row) → IsUntrue (value_of e ((l ++ r) ++ x))) right) i left skips

-- ---- one left row, one matching row on

pub matching_more : (columns : List JoinColumns) (left right : List Row) (i : ℕ) → i < length left
    → matching columns (take i left) right ++ pairs_with (row_at left i) (filter (agree columns (row_at left i)) right) ≡ matching columns (take (i + 1) left) right
matching_more columns left right i within =
    flat_map_more (λ l. pairs_with l (filter (agree columns l) right)) [] (take i left) (row_at left i)
    ∙ ap (λ ls. matching columns ls right) (sym (take_more left i [] within))

-- at the end of the range of a left row
pub matching_done : (columns : List JoinColumns) (left right : List Row) (order : List ℕ) (ranges : List RowRange) (i j : ℕ) (first : Row) (positions : List ℕ) (s : RowRange)
    → AreAgreeingRanges columns left right order ranges → i < length left → s ≡ get_or ranges i s → positions ≡ take (s.end - s.start) (drop s.start order) → first ≡ row_at left i → length positions ≤ j
    → matching columns (take i left) right ++ pairs_with first (rows_at right (take j positions)) ≡ matching columns (take (i + 1) left) right
matching_done columns left right order ranges i j first positions s found within at here is all =
    let range = subst (IsAgreeingRange columns (row_at left i) right order) (sym at) (found.each i s within) in
    let front = matching columns (take i left) right in
    ap (λ ps. front ++ pairs_with first (rows_at right ps)) (take_all j positions all ∙ here)
    ∙ (λ i. front ++ pairs_with (is i) (range.agreeing i))
    ∙ matching_more columns left right i within

pub matching_next : (front : List Row) (l : Row) (rows : List Row) (positions : List ℕ) (j p : ℕ) → j < length positions → p ≡ get_or positions j p
    → (front ++ pairs_with l (rows_at rows (take j positions))) ++ (l ++ row_at rows p) ∷ [] ≡ front ++ pairs_with l (rows_at rows (take (j + 1) positions))
matching_next front l rows positions j p within is =
    append_assoc front (pairs_with l (rows_at rows (take j positions))) ((l ++ row_at rows p) ∷ [])
    ∙ ap (λ ps. front ++ ps) (sym (ap (pairs_with l) (map_more (row_at rows) positions j p within is) ∙ map-append (λ r. l ++ r) (rows_at rows (take j positions)) (row_at rows p ∷ [])))
