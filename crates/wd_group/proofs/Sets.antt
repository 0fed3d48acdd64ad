-- A set's groups are the partitions of the rows by the set's columns, and each begins at the first position of its rows.
use Rattle.std.proofs.Common.{◌≡◌, ℕ, zero, suc, ◌+◌, ◌<◌, ◌≤◌, Bool, true, false, cond, not, ◌&&◌, ◌||◌, List, [], ◌∷◌, ◌++◌, map, filter, length, take, refl, sym, subst, ◌∙◌, ap, arith, Option, None, Some, Result, Ok}
use Rattle.std.specs.List.{list_any}
use Rattle.std.specs.Prelude.{flat_map}
use Rattle.std.proofs.Math.Seq.{take-suc}
use Rattle.std.proofs.lemmas.List.{flat_map_more, length-append, length-map, map-append, map_push, take_all}
use Rattle.std.proofs.lemmas.List.Elements.{filter-append}
use Rattle.std.proofs.lemmas.List.FromFn.{length-range_with_len, take-map-range_with_len}
use Rattle.wd_value.specs.declared.value.Fault.{Fault}
use Rattle.wd_value.specs.declared.value.Value.{Value}
use Rattle.wd_value.specs.declared.value.Value.TheVariants.{Null}
use Rattle.wd_value.specs.Bags.{positions}
use Rattle.wd_value.specs.Rows.{Row, column_of, columns_of, row_at, rows_at, same_row}
use Rattle.wd_value.specs.Values.{same}
use Rattle.wd_value.proofs.SameLaws.{same_row-Decides}
use Rattle.wd_column_store.proofs.Copied.{all_rows}
use Rattle.wd_column_store.proofs.Positions.{positions_push}
use Rattle.wd_plan.specs.Faults.{and_then, least_fault, unless, values_among}
use Rattle.wd_plan.specs.Outcomes.{distinct, group_row, group_value, rows_of_group, set_rows, shown}
use Rattle.wd_plan.specs.Partitions.{members, partition_of}
use Rattle.wd_plan.specs.Plans.{ClassRule, GroupRule, has}
use Rattle.wd_plan.specs.Sorting.{same_partition}
use Rattle.wd_plan.proofs.Parts.{partition_of-is}
use Rattle.wd_steps.proofs.Occurrences.{distinct_push}
use Rattle.wd_steps.proofs.Results.{all_values}
use Rattle.wd_group.specs.Gathered.{HasWidth}
use Rattle.wd_group.specs.Sets.{row_from, row_over, row_width, rows_from, set_class, set_columns, shown_in}

-- ---- positions

pub one_more : (n : ℕ) → positions (suc n) ≡ positions n ++ (n ∷ [])
one_more n = (let next : suc n ≡ n + 1 = omega arith in ap positions next) ∙ positions_push n

first_rows : (rows : List Row) (n : ℕ) → n ≤ length rows → take n rows ≡ map (row_at rows) (positions n)
first_rows rows n h = ap (take n) (sym (all_rows rows)) ∙ take-map-range_with_len (row_at rows) 0 (length rows) n h

-- ---- what a set shows tells rows apart as its columns do

same_shown : (set : List ℕ) (a b : Row) (cs : List ℕ) → same_row (map (shown_in set a) cs) (map (shown_in set b) cs) ≡ same_row (columns_of (filter (has set) cs) a) (columns_of (filter (has set) cs) b)
same_shown set a b [] = refl
same_shown set a b (c ∷ cs) = by (has set c) (same_shown set a b cs)
  where
    by : (t : Bool) → same_row (map (shown_in set a) cs) (map (shown_in set b) cs) ≡ same_row (columns_of (filter (has set) cs) a) (columns_of (filter (has set) cs) b)
        → same_row (cond t (column_of a c) Null ∷ map (shown_in set a) cs) (cond t (column_of b c) Null ∷ map (shown_in set b) cs)
        ≡ same_row (columns_of (cond t (c ∷ filter (has set) cs) (filter (has set) cs)) a) (columns_of (cond t (c ∷ filter (has set) cs) (filter (has set) cs)) b)
    by true e = ap (λ s. same (column_of a c) (column_of b c) && s) e
    by false e = e

shown_apart : (columns : ℕ) (set : List ℕ) (a b : Row) → same_row (shown columns set a) (shown columns set b) ≡ same_partition (set_class columns set) a b
shown_apart columns set a b = same_shown set a b (positions columns)

pub same_tests : (t u : Bool) → (t ≡ true → u ≡ true) → (u ≡ true → t ≡ true) → t ≡ u
same_tests true u f g = sym (f refl)
same_tests false true f g = g refl
same_tests false false f g = refl

pub turned : (a b : Row) → same_row a b ≡ same_row b a
turned a b = same_tests (same_row a b) (same_row b a) (λ h. (same_row-Decides b a).1 (sym ((same_row-Decides a b).0 h))) (λ h. (same_row-Decides a b).1 (sym ((same_row-Decides b a).0 h)))

-- ---- the rows of a group

module _ (rule : GroupRule) (set : List ℕ) (rows : List Row) where
  abbrev class : ClassRule
  class = set_class rule.columns set

  own_rows : (p : ℕ) → rows_of_group rule.columns set rows (shown rule.columns set (row_at rows p)) ≡ partition_of class rows (positions (length rows)) p
  own_rows p =
      (λ i. filter (λ row. shown_apart rule.columns set (row_at rows p) row i) rows)
      ∙ ap (filter (same_partition class (row_at rows p))) (sym (all_rows rows))
      ∙ sym (partition_of-is class rows (positions (length rows)) p)

  -- the row of a group, from the partition of one of its rows
  pub row_is : (p : ℕ) → row_over rule set (rows_at rows (members class rows (positions (length rows)) p)) (shown rule.columns set (row_at rows p)) ≡ group_row rule rows set (shown rule.columns set (row_at rows p))
  row_is p = ap (λ own. row_over rule set own (shown rule.columns set (row_at rows p))) (sym (own_rows p))

  -- ---- the first rows of the groups

  abbrev look : Row → Row
  look = shown rule.columns set

  any_map : {X Y : Type 0} (t : Y → Bool) (f : X → Y) (xs : List X) → list_any t (map f xs) ≡ list_any (λ x. t (f x)) xs
  any_map t f [] = refl
  any_map t f (x ∷ xs) = ap (λ b. t (f x) || b) (any_map t f xs)

  seen_before : (n : ℕ) → n ≤ length rows → list_any (λ q. same_row q (look (row_at rows n))) (map look (take n rows)) ≡ list_any (λ q. same_partition class (row_at rows n) (row_at rows q)) (positions n)
  seen_before n h =
      ap (λ rs. list_any (λ q. same_row q (look (row_at rows n))) (map look rs)) (first_rows rows n h)
      ∙ any_map (λ q. same_row q (look (row_at rows n))) look (map (row_at rows) (positions n))
      ∙ any_map (λ row. same_row (look row) (look (row_at rows n))) (row_at rows) (positions n)
      ∙ (λ i. list_any (λ q. (turned (look (row_at rows q)) (look (row_at rows n)) ∙ shown_apart rule.columns set (row_at rows n) (row_at rows q)) i) (positions n))

  abbrev made : Row → Result Row Fault
  made = group_row rule rows set

  abbrev unless_there : Bool → Row → List Row
  unless_there b r = cond b [] (r ∷ [])

  last_made : (b : Bool) (r : Row) → map made (unless_there b r) ≡ cond (not b) (made r ∷ []) []
  last_made true r = refl
  last_made false r = refl

  firsts : (n : ℕ) → n ≤ length rows → map made (distinct (map look (take n rows))) ≡ rows_from rule set rows n
  firsts zero h = refl
  firsts (suc n) h =
      let r = row_at rows n in
      let there = list_any (λ q. same_row q (look r)) (map look (take n rows)) in
      ap (λ rs. map made (distinct (map look rs))) (take-suc rows n [] (omega arith))
      ∙ ap (λ rs. map made (distinct rs)) (map_push look (take n rows) r)
      ∙ ap (map made) (distinct_push (map look (take n rows)) (look r))
      ∙ map-append made (distinct (map look (take n rows))) (unless_there there (look r))
      ∙ ap (λ rs. map made (distinct (map look (take n rows))) ++ rs) (last_made there (look r))
      ∙ ap (λ b. map made (distinct (map look (take n rows))) ++ cond (not b) (made (look r) ∷ []) []) (seen_before n (omega arith))
      ∙ ap (λ rs. rs ++ row_from rule set rows n) (firsts n (omega arith))
      ∙ flat_map_more (row_from rule set rows) [] (positions n) n
      ∙ ap (flat_map (row_from rule set rows)) (sym (one_more n))

-- the rows of a set with columns, from the first positions of its groups
pub set_rows_from : (rule : GroupRule) (c : ℕ) (set : List ℕ) (rows : List Row) → rows_from rule (c ∷ set) rows (length rows) ≡ set_rows rule rows (c ∷ set)
set_rows_from rule c set rows =
    sym (firsts rule (c ∷ set) rows (length rows) (omega arith))
    ∙ ap (λ rs. map (group_row rule rows (c ∷ set)) (distinct (map (shown rule.columns (c ∷ set)) rs))) (take_all (length rows) rows (omega arith))

-- a set with columns
pub set_rows_some : (rule : GroupRule) (set : List ℕ) (rows : List Row) → 0 < length set → rows_from rule set rows (length rows) ≡ set_rows rule rows set
set_rows_some rule [] rows h = absurd (omega arith)
set_rows_some rule (c ∷ set) rows h = set_rows_from rule c set rows

-- the rows from one position more
pub rows_from_more : (rule : GroupRule) (set : List ℕ) (rows : List Row) (results : List (Result Row Fault)) (n : ℕ) → (results ++ rows_from rule set rows n) ++ row_from rule set rows n ≡ results ++ rows_from rule set rows (n + 1)
rows_from_more rule set rows results n =
    let next : suc n ≡ n + 1 = omega arith in
    flat_map_more (row_from rule set rows) results (positions n) n
    ∙ ap (λ ps. results ++ flat_map (row_from rule set rows) ps) (sym (one_more n) ∙ ap positions next)

-- the columns of a set, of one more
pub set_columns_more : (set : List ℕ) (n : ℕ) → set_columns (n + 1) set ≡ set_columns n set ++ cond (has set n) (n ∷ []) []
set_columns_more set n =
    let next : n + 1 ≡ suc n = omega arith in
    ap (λ k. set_columns k set) next ∙ ap (filter (has set)) (one_more n) ∙ filter-append (has set) (positions n) (n ∷ [])

-- ---- the empty set

filter_all : {X : Type 0} (xs : List X) → filter (λ x. true) xs ≡ xs
filter_all [] = refl
filter_all (x ∷ xs) = ap (λ l. x ∷ l) (filter_all xs)

own_all : (columns : ℕ) (rows : List Row) → rows_of_group columns [] rows (shown columns [] []) ≡ rows
own_all columns rows =
    (λ i. filter (λ row. (same_row-Decides (shown columns [] []) (shown columns [] row)).1 refl i) rows)
    ∙ filter_all rows

-- its one group has all rows
pub row_of_all : (rule : GroupRule) (rows : List Row) (r : Row) → row_over rule [] (rows_at rows (positions (length rows))) (shown rule.columns [] r) ∷ [] ≡ set_rows rule rows []
row_of_all rule rows r = ap (λ own. row_over rule [] own (shown rule.columns [] []) ∷ []) (all_rows rows ∙ sym (own_all rule.columns rows))

-- ---- how many values a row has

values_wide : (results : List (Result Value Fault)) (front : Row) (fault : Option Fault) → least_fault results ≡ fault → HasWidth (length front + length results) (and_then (unless fault (values_among results)) (λ values. Ok (front ++ values)))
values_wide results front None none = length-append front (values_among results) ∙ ap (λ n. length front + n) (all_values results none)
values_wide results front (Some fault) some = tt

pub row_over_wide : (rule : GroupRule) (set : List ℕ) (rows : List Row) (row : Row) → HasWidth (row_width rule) (row_over rule set rows (shown rule.columns set row))
row_over_wide rule set rows row =
    let results = map (group_value set rows) rule.calls in
    let front = shown rule.columns set row in
    let long : length front + length results ≡ row_width rule = (λ i. (length-map (positions rule.columns) (shown_in set row) ∙ length-range_with_len 0 rule.columns) i + length-map rule.calls (group_value set rows) i) in
    subst (λ width. HasWidth width (row_over rule set rows front)) long (values_wide results front (least_fault results) refl)
