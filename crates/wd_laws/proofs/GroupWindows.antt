-- A grouping set's rows are the first rows of the partitions of a window over its columns.
use Rattle.std.proofs.Common.{◌≡◌, ℕ, zero, suc, ◌+◌, ◌<◌, ◌≤◌, Bool, true, false, cond, not, ◌||◌, List, [], ◌∷◌, ◌++◌, map, filter, length, take, refl, sym, ◌∙◌, ap, arith, Ok}
use Rattle.std.specs.List.{AllByRecursion, list_any, range_with_len}
use Rattle.std.proofs.Math.Seq.{take-suc}
use Rattle.std.proofs.lemmas.List.{get_or-map, length-map, map-append, take_all}
use Rattle.std.proofs.lemmas.List.Elements.{filter-append}
use Rattle.wd_value.specs.Bags.{EachOnce, positions}
use Rattle.wd_value.specs.Rows.{Row, row_at, same_row}
use Rattle.wd_plan.specs.Faults.{all_ok, and_then}
use Rattle.wd_plan.specs.Fits.{AreBelow}
use Rattle.wd_plan.specs.Outcomes.{distinct, group_row, group_value, rows_of_group, shown}
use Rattle.wd_plan.specs.Plans.{GroupCall, OfRows, Grouping, GroupRule}
use Rattle.wd_plan.proofs.Parts.{all_filter}
use Rattle.wd_laws.specs.Laws.{SetsAreWindows, is_first, row_beside, value_beside}
use Rattle.wd_laws.proofs.Grouping.{groups_are_windows}
use Rattle.wd_laws.proofs.Parts.{below_all}

-- ---- first occurrences by their positions

abbrev unless_there : Bool → Row → List Row
unless_there b r = cond b [] (r ∷ [])

kept_last : (b c : Bool) (x r : Row) → same_row x r ≡ b → filter (λ q. not (same_row x q)) (unless_there c r) ≡ unless_there (b || c) r
kept_last true true x r e = refl
kept_last false true x r e = refl
kept_last true false x r e = rw e
kept_last false false x r e = rw e

distinct_push : (rows : List Row) (r : Row) → distinct (rows ++ r ∷ []) ≡ distinct rows ++ unless_there (list_any (λ q. same_row q r) rows) r
distinct_push [] r = refl
distinct_push (x ∷ rows) r =
    let other : Row → Bool = λ q. not (same_row x q) in
    ap (λ l. x ∷ l) (ap (filter other) (distinct_push rows r) ∙ filter-append other (distinct rows) (unless_there (list_any (λ q. same_row q r) rows) r) ∙ ap (λ l. filter other (distinct rows) ++ l) (kept_last (same_row x r) (list_any (λ q. same_row q r) rows) x r refl))

range_end : (a n : ℕ) → range_with_len a (suc n) ≡ range_with_len a n ++ ((a + n) ∷ [])
range_end a zero = ap (λ x. x ∷ []) (omega arith)
range_end a (suc n) =
    let e : (a + 1) + n ≡ a + suc n = omega arith in
    ap (λ l. a ∷ l) (range_end (a + 1) n ∙ ap (λ x. range_with_len (a + 1) n ++ (x ∷ [])) e)

module _ (xs : List Row) where
  last_shown : (n : ℕ) (b : Bool) → map (row_at xs) (cond (not b) (n ∷ []) []) ≡ unless_there b (row_at xs n)
  last_shown n true = refl
  last_shown n false = refl

  first_shown : (n : ℕ) → n ≤ length xs → distinct (take n xs) ≡ map (row_at xs) (filter (is_first xs) (positions n))
  first_shown zero h = refl
  first_shown (suc n) h =
      let there = list_any (λ q. same_row q (row_at xs n)) (take n xs) in
      let more : positions (suc n) ≡ positions n ++ (n ∷ []) = range_end 0 n ∙ ap (λ x. positions n ++ (x ∷ [])) (omega arith) in
      ap distinct (take-suc xs n [] (omega arith))
      ∙ distinct_push (take n xs) (row_at xs n)
      ∙ (λ i. first_shown n (omega arith) i ++ sym (last_shown n there) i)
      ∙ sym (map-append (row_at xs) (filter (is_first xs) (positions n)) (filter (is_first xs) (n ∷ [])))
      ∙ ap (map (row_at xs)) (sym (filter-append (is_first xs) (positions n) (n ∷ [])))
      ∙ ap (λ ps. map (row_at xs) (filter (is_first xs) ps)) (sym more)

-- ---- the rows of a set

map_map : {A B C : Type 0} (f : A → B) (g : B → C) (xs : List A) → map g (map f xs) ≡ map (λ x. g (f x)) xs
map_map f g [] = refl
map_map f g (x ∷ xs) = ap (λ l. g (f x) ∷ l) (map_map f g xs)

map_agrees : {A B : Type 0} (f g : A → B) (xs : List A) → AllByRecursion (λ x. f x ≡ g x) xs → map f xs ≡ map g xs
map_agrees f g [] a = refl
map_agrees f g (x ∷ xs) a = λ i. a.0 i ∷ map_agrees f g xs a.1 i

module _ (rule : GroupRule) (set : List ℕ) (rows : List Row) (ordering : List ℕ) (below : AreBelow rule.columns set) (once : EachOnce (length rows) ordering) where
  value_same : (p : ℕ) (call : GroupCall) → group_value set (rows_of_group rule.columns set rows (shown rule.columns set (row_at rows p))) call ≡ value_beside set rows ordering p call
  value_same p (OfRows aggregate) = groups_are_windows rule.columns set aggregate rows ordering p below once
  value_same p (Grouping columns) = refl

  row_same : (p : ℕ) → group_row rule rows set (shown rule.columns set (row_at rows p)) ≡ row_beside rule set rows ordering p
  row_same p =
      let values : group_value set (rows_of_group rule.columns set rows (shown rule.columns set (row_at rows p))) ≡ value_beside set rows ordering p = λ i call. value_same p call i in
      λ i. and_then (all_ok (map (values i) rule.calls)) (λ vs. Ok (shown rule.columns set (row_at rows p) ++ vs))

pub sets_are_windows : SetsAreWindows
sets_are_windows rule [] rows ordering some below once = absurd (omega arith)
sets_are_windows rule (c ∷ set) rows ordering some below once =
    let look = shown rule.columns (c ∷ set) in
    let seen = map look rows in
    let f = group_row rule rows (c ∷ set) in
    let ps = filter (is_first seen) (positions (length rows)) in
    let heads : distinct seen ≡ map (row_at seen) ps =
    ap distinct (sym (take_all (length seen) seen (omega arith))) ∙ first_shown seen (length seen) (omega arith) ∙ ap (λ n. map (row_at seen) (filter (is_first seen) (positions n))) (length-map rows look) in
    ap (map f) heads ∙ map_map (row_at seen) f ps
    ∙ map_agrees (λ p. f (row_at seen p)) (row_beside rule (c ∷ set) rows ordering) ps
    (all_filter (is_first seen) (λ p. p < length rows) (λ p. f (row_at seen p) ≡ row_beside rule (c ∷ set) rows ordering p) (λ p k e. ap f (get_or-map look rows p [] [] k) ∙ row_same rule (c ∷ set) rows ordering below once p)
    (positions (length rows)) (below_all 0 (length rows) (length rows) (omega arith)))
