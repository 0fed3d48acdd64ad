-- The rows of a Group: each shows a group of one of its sets; what is not null in them, what tells them apart, and what they
-- keep of the input's facts.
use Rattle.std.proofs.Common.{◌≡◌, ℕ, zero, suc, ◌+◌, ◌^◌, ◌<◌, ◌≤◌, pos, Bool, true, false, cond, not, ◌&&◌, ◌||◌, List, [], ◌∷◌, ◌++◌, map, filter, flat_map, length, count_by, get_or, refl, sym, ◌∙◌, ap, subst, arith, nat_eq, nat_lt, Option, Some, None, Result, Ok, Err, slice_get, ◌⊎◌, inl, inr, ext_get_or, length-append}
use Rattle.std.specs.List.{AllByRecursion, list_all, list_any, range_with_len}
use Rattle.std.proofs.Math.Nat.{pow-suc}
use Rattle.std.proofs.lemmas.Bool.{and_parts, cases_lt, false≢true, ltb-false, eqb-true}
use Rattle.std.proofs.lemmas.List.{get_or-map, get_or_append_left, get_or-append-add, length-map, map-append}
use Rattle.std.proofs.lemmas.List.FromFn.{length-map-range_with_len}
use Rattle.std.proofs.lemmas.Option.{get_or_from_slice_get, slice_get_within}
use Rattle.wd_value.specs.declared.value.Fault.{Fault as StepFault}
use Rattle.wd_value.specs.declared.value.Value.{Value}
use Rattle.wd_value.specs.declared.value.Value.TheVariants.{Int, Null}
use Rattle.wd_value.specs.Bags.{positions}
use Rattle.wd_value.specs.Rows.{Row as RowValues, column_of, row_at, same_row}
use Rattle.wd_value.proofs.SameLaws.{same_row-Decides}
use Rattle.wd_plan.specs.declared.function.Aggregate.TheVariants.{CountRows, Count, Sum, Min, Max}
use Rattle.wd_plan.specs.Expressions.{is_null}
use Rattle.wd_plan.specs.Facts.{HasWidth, IsNotNullIn}
use Rattle.wd_plan.specs.Faults.{all_ok, and_then}
use Rattle.wd_plan.specs.Outcomes.{distinct, group_outcome, group_row, group_value, groups, mask, rows_of_group, set_rows, shown}
use Rattle.wd_plan.specs.Plans.{GroupCall, OfRows, Grouping, GroupRule, has}
use Rattle.wd_plan.proofs.Parts.{all_filter}
use Rattle.wd_plan.proofs.Sorted.{Rising}
use Rattle.wd_laws.proofs.AllValues.{AllOk, all_ok_each}
use Rattle.wd_laws.proofs.Grouping.{shown_at}
use Rattle.wd_laws.proofs.Widths.{all_distinct}
use Rattle.wd_step_facts.specs.declared.facts.Member.{Member}
use Rattle.wd_step_facts.specs.declared.facts.Member.TheVariants as member
use Rattle.wd_step_facts.specs.Facts.{Fact, Holds, Same, columns_named, is_column, is_plain, key_fact, unpaired}
use Rattle.wd_step_facts.specs.Steps.{all_columns, are_told_apart, restrict_fact, differ_in, facts_of_group, group_key, group_key_facts, grouping_arguments, grouping_columns, is_group_call_not_null}
use Rattle.wd_facts.specs.Laws.{ArePlain}
use Rattle.wd_facts.proofs.Embeds.{Carries, HasWidth-from, hold_moved, same_facts}
use Rattle.wd_facts.proofs.Keys.{all_map}
use Rattle.wd_facts.proofs.Lists.{all_append, all_left, all_right, range_pick}
use Rattle.wd_facts.proofs.Plain.{columns_plain}

-- ---- lists

rows_are : {X : Type 0} (xs ys : X) → ◌≡◌ {A = Result X StepFault} (Ok xs) (Ok ys) → xs ≡ ys
rows_are xs ys e = cc

at_positions : {X : Type 0} (P : X → Type 0) (d : X) (xs : List X) → ((p : ℕ) → p < length xs → P (get_or xs p d)) → AllByRecursion P xs
at_positions P d [] h = tt
at_positions P d (x ∷ xs) h = (h 0 (omega arith), at_positions P d xs (λ p k. h (suc p) (omega arith)))

one_at : {X : Type 0} (P : X → Type 0) (d : X) (xs : List X) (p : ℕ) → AllByRecursion P xs → p < length xs → P (get_or xs p d)
one_at P d [] p a k = absurd (omega arith)
one_at P d (x ∷ xs) zero a k = a.0
one_at P d (x ∷ xs) (suc p) a k = one_at P d xs p a.1 (omega arith)

rising_at : {X : Type 0} (R : X → X → Type 0) (d : X) (xs : List X) (p q : ℕ) → Rising R xs → p < q → q < length xs → R (get_or xs p d) (get_or xs q d)
rising_at R d [] p q r h k = absurd (omega arith)
rising_at R d (x ∷ xs) zero zero r h k = absurd (omega arith)
rising_at R d (x ∷ xs) zero (suc q) r h k = one_at (R x) d xs q r.0 (omega arith)
rising_at R d (x ∷ xs) (suc p) zero r h k = absurd (omega arith)
rising_at R d (x ∷ xs) (suc p) (suc q) r h k = rising_at R d xs p q r.1 (omega arith) (omega arith)

rising_append : {X : Type 0} (R : X → X → Type 0) (xs ys : List X) → Rising R xs → Rising R ys → AllByRecursion (λ x. AllByRecursion (R x) ys) xs → Rising R (xs ++ ys)
rising_append R [] ys r s a = s
rising_append R (x ∷ xs) ys r s a = (all_append (R x) xs ys r.0 a.0, rising_append R xs ys r.1 s a.1)

weaker : {X : Type 0} (P Q : X → Type 0) → ((x : X) → P x → Q x) → (xs : List X) → AllByRecursion P xs → AllByRecursion Q xs
weaker P Q h [] a = tt
weaker P Q h (x ∷ xs) a = (h x a.0, weaker P Q h xs a.1)

rising_map : {X Y : Type 0} (R : X → X → Type 0) (S : Y → Y → Type 0) (f : X → Y) → ((x y : X) → R x y → S (f x) (f y)) → (xs : List X) → Rising R xs → Rising S (map f xs)
rising_map R S f h [] r = tt
rising_map R S f h (x ∷ xs) r = (all_map (S (f x)) f xs (weaker (R x) (λ y. S (f x) (f y)) (λ y a. h x y a) xs r.0), rising_map R S f h xs r.1)

rising_filter_step : {X : Type 0} (R : X → X → Type 0) (t : X → Bool) (x : X) (xs : List X) (b : Bool) → t x ≡ b → AllByRecursion (R x) (filter t xs) → Rising R (filter t xs) → Rising R (filter t (x ∷ xs))
rising_filter_step R t x xs true e a r = rw e (a, r)
rising_filter_step R t x xs false e a r = rw e r

rising_filter : {X : Type 0} (R : X → X → Type 0) (t : X → Bool) (xs : List X) → Rising R xs → Rising R (filter t xs)
rising_filter R t [] r = tt
rising_filter R t (x ∷ xs) r = rising_filter_step R t x xs (t x) refl (all_filter t (R x) (R x) (λ y a e. a) xs r.0) (rising_filter R t xs r.1)

trivial : {X : Type 0} (xs : List X) → AllByRecursion (λ (x : X). Unit {0}) xs
trivial [] = tt
trivial (x ∷ xs) = (tt, trivial xs)

-- first occurrences differ
abbrev Unlike : RowValues → RowValues → Type 0
Unlike a b = a ≡ b → ⊥

unlike : (r q : RowValues) → not (same_row r q) ≡ true → Unlike r q
unlike r q e h = let s = (same_row-Decides r q).1 h in false≢true (sym (ap not s) ∙ e)

rising_distinct : (xs : List RowValues) → Rising Unlike (distinct xs)
rising_distinct [] = tt
rising_distinct (r ∷ rs) =
    let t : RowValues → Bool = λ q. not (same_row r q) in
    (all_filter t (λ (q : RowValues). Unit {0}) (Unlike r) (λ q u e. unlike r q e) (distinct rs) (trivial (distinct rs)), rising_filter Unlike t (distinct rs) (rising_distinct rs))

-- where the first row stands that passes
abbrev first_at : (RowValues → Bool) → List RowValues → ℕ
first_at t [] = 0
first_at t (r ∷ rows) = cond (t r) 0 (suc (first_at t rows))

abbrev Found : (RowValues → Bool) → List RowValues → ℕ → Type 0
Found t rows p = (p < length rows) × (t (row_at rows p) ≡ true)

found_step : (t : RowValues → Bool) (r : RowValues) (rows : List RowValues) (b : Bool) → t r ≡ b → (b ≡ false → Found t rows (first_at t rows)) → Found t (r ∷ rows) (cond b 0 (suc (first_at t rows)))
found_step t r rows true e later = (omega arith, e)
found_step t r rows false e later = let f = later refl in (omega (arith, f.0), f.1)

found : (t : RowValues → Bool) (rows : List RowValues) (x : ℕ) → x < length rows → t (row_at rows x) ≡ true → Found t rows (first_at t rows)
found t [] x k e = absurd (omega arith)
found t (r ∷ rows) zero k e = found_step t r rows (t r) refl (λ f. absurd (false≢true (sym f ∙ e)))
found t (r ∷ rows) (suc x) k e = found_step t r rows (t r) refl (λ f. found t rows x (omega arith) e)

-- ---- the set and the group of each row

pub record Label : Type 0 where
  pub set : List ℕ
  pub group : RowValues

abbrev label : List ℕ → RowValues → Label
label set group = record { set = set; group = group }

abbrev none : Label
none = label [] []

abbrev labels : ℕ → List RowValues → List (List ℕ) → List Label
labels columns rows [] = []
labels columns rows (set ∷ sets) = map (label set) (groups columns set rows) ++ labels columns rows sets

abbrev row_of : GroupRule → List RowValues → Label → Result RowValues StepFault
row_of g rows l = group_row g rows l.set l.group

map_labels : (g : GroupRule) (rows : List RowValues) (set : List ℕ) (gs : List RowValues) → map (row_of g rows) (map (label set) gs) ≡ map (group_row g rows set) gs
map_labels g rows set [] = refl
map_labels g rows set (group ∷ gs) = ap (λ l. group_row g rows set group ∷ l) (map_labels g rows set gs)

all_rows : (g : GroupRule) (rows : List RowValues) (sets : List (List ℕ)) → map (row_of g rows) (labels g.columns rows sets) ≡ flat_map (set_rows g rows) sets
all_rows g rows [] = refl
all_rows g rows (set ∷ sets) =
    map-append (row_of g rows) (map (label set) (groups g.columns set rows)) (labels g.columns rows sets)
    ∙ (λ i. map_labels g rows set (groups g.columns set rows) i ++ all_rows g rows sets i)

-- what holds of the labels of each set's groups
all_labels : (P : Label → Type 0) (columns : ℕ) (rows : List RowValues) (sets : List (List ℕ)) → AllByRecursion (λ set. AllByRecursion (λ group. P (label set group)) (groups columns set rows)) sets → AllByRecursion P (labels columns rows sets)
all_labels P columns rows [] a = tt
all_labels P columns rows (set ∷ sets) a = all_append P (map (label set) (groups columns set rows)) (labels columns rows sets) (all_map P (label set) (groups columns set rows) a.0) (all_labels P columns rows sets a.1)

each_of : {X : Type 0} (P : X → Type 0) → ((x : X) → P x) → (xs : List X) → AllByRecursion P xs
each_of P h [] = tt
each_of P h (x ∷ xs) = (h x, each_of P h xs)

-- what holds of the sets of all labels, where a test of the sets tells
set_labels : (P : List ℕ → Type 0) (columns : ℕ) (rows : List RowValues) (sets : List (List ℕ)) → AllByRecursion P sets → AllByRecursion (λ (l : Label). P l.set) (labels columns rows sets)
set_labels P columns rows [] a = tt
set_labels P columns rows (set ∷ sets) a =
    all_append (λ (l : Label). P l.set) (map (label set) (groups columns set rows)) (labels columns rows sets)
    (all_map (λ (l : Label). P l.set) (label set) (groups columns set rows) (each_of (λ group. P set) (λ group. a.0) (groups columns set rows))) (set_labels P columns rows sets a.1)

tests_all : {X : Type 0} (t : X → Bool) (xs : List X) → list_all t xs ≡ true → AllByRecursion (λ x. t x ≡ true) xs
tests_all t [] e = tt
tests_all t (x ∷ xs) e = let parts = and_parts (t x) (list_all t xs) e in (parts.0, tests_all t xs parts.1)

-- whether a row is of the group
abbrev is_of : ℕ → Label → RowValues → Bool
is_of columns l row = same_row l.group (shown columns l.set row)

-- a group has as many values as there are grouping columns; where its set has columns it has a first row, which shows it
pub record IsLabel (columns : ℕ) (rows : List RowValues) (l : Label) : Type 0 where
  pub wide : length l.group ≡ columns
  pub first : 0 < length l.set → Found (is_of columns l) rows (first_at (is_of columns l) rows)

shown_wide : (columns : ℕ) (set : List ℕ) (row : RowValues) → length (shown columns set row) ≡ columns
shown_wide columns set row = length-map-range_with_len (λ c. cond (has set c) (column_of row c) Null) 0 columns

groups_labelled : (columns : ℕ) (rows : List RowValues) (set : List ℕ) → AllByRecursion (λ group. IsLabel columns rows (label set group)) (groups columns set rows)
groups_labelled columns rows [] = (record { wide = shown_wide columns [] []; first = λ h. absurd (omega arith) }, tt)
groups_labelled columns rows (c ∷ set) =
    let look = shown columns (c ∷ set) in
    all_distinct (λ group. IsLabel columns rows (label (c ∷ set) group)) (map look rows)
    (at_positions (λ group. IsLabel columns rows (label (c ∷ set) group)) [] (map look rows) (λ p k.
    let k' : p < length rows = subst (λ n. p < n) (length-map rows look) k in
    let is : get_or (map look rows) p [] ≡ look (row_at rows p) = get_or-map look rows p [] [] k' in
    subst (λ group. IsLabel columns rows (label (c ∷ set) group)) (sym is) (record {
      wide = shown_wide columns (c ∷ set) (row_at rows p);
      first = λ h. found (is_of columns (label (c ∷ set) (look (row_at rows p)))) rows p k' ((same_row-Decides (look (row_at rows p)) (look (row_at rows p))).1 refl);
    })))

labels_are : (columns : ℕ) (rows : List RowValues) (sets : List (List ℕ)) → AllByRecursion (IsLabel columns rows) (labels columns rows sets)
labels_are columns rows sets = all_labels (IsLabel columns rows) columns rows sets (each_of (λ set. AllByRecursion (λ group. IsLabel columns rows (label set group)) (groups columns set rows)) (groups_labelled columns rows) sets)

-- ---- labels differ

-- two sets have the same ones of some columns
abbrev SameHas : List ℕ → List ℕ → List ℕ → Type 0
SameHas set other columns = AllByRecursion (λ c. has set c ≡ has other c) columns

abbrev Differ : List ℕ → Label → Label → Type 0
Differ arguments a b = a.group ≡ b.group → SameHas a.set b.set arguments → ⊥

no_difference_at : (set other : List ℕ) (c : ℕ) → has set c ≡ has other c → differ_in set other c ≡ false
no_difference_at set other c e = by (has set c) (has other c) e
  where
    by : (a b : Bool) → a ≡ b → cond a (not b) b ≡ false
    by true true h = refl
    by true false h = absurd (false≢true (sym h))
    by false true h = absurd (false≢true h)
    by false false h = refl

no_difference : (set other columns : List ℕ) → SameHas set other columns → list_any (differ_in set other) columns ≡ false
no_difference set other [] a = refl
no_difference set other (c ∷ columns) a = λ i. no_difference_at set other c a.0 i || no_difference set other columns a.1 i

groups_unlike : (columns : ℕ) (rows : List RowValues) (set : List ℕ) → Rising Unlike (groups columns set rows)
groups_unlike columns rows [] = (tt, tt)
groups_unlike columns rows (c ∷ set) = rising_distinct (map (shown columns (c ∷ set)) rows)

labels_differ : (arguments : List ℕ) (columns : ℕ) (rows : List RowValues) (sets : List (List ℕ)) → are_told_apart arguments sets ≡ true → Rising (Differ arguments) (labels columns rows sets)
labels_differ arguments columns rows [] e = tt
labels_differ arguments columns rows (set ∷ sets) e =
    let gs = groups columns set rows in
    let parts = and_parts (list_all (λ other. list_any (differ_in set other) arguments) sets) (are_told_apart arguments sets) e in
    let others = set_labels (λ other. list_any (differ_in set other) arguments ≡ true) columns rows sets (tests_all (λ other. list_any (differ_in set other) arguments) sets parts.0) in
    rising_append (Differ arguments) (map (label set) gs) (labels columns rows sets)
    (rising_map Unlike (Differ arguments) (label set) (λ x y h e' s. h e') gs (groups_unlike columns rows set))
    (labels_differ arguments columns rows sets parts.1)
    (all_map (λ l. AllByRecursion (Differ arguments l) (labels columns rows sets)) (label set) gs (each_of (λ group. AllByRecursion (Differ arguments (label set group)) (labels columns rows sets)) (λ group. apart group (labels columns rows sets) others) gs))
  where
    apart : (group : RowValues) (ls : List Label) → AllByRecursion (λ (l : Label). list_any (differ_in set l.set) arguments ≡ true) ls → AllByRecursion (Differ arguments (label set group)) ls
    apart group [] a = tt
    apart group (l ∷ ls) a = ((λ e' s. false≢true (sym (no_difference set l.set arguments s) ∙ a.0)), apart group ls a.1)

turned : (set other columns : List ℕ) → SameHas set other columns → SameHas other set columns
turned set other [] a = tt
turned set other (c ∷ columns) a = (sym a.0, turned set other columns a.1)

one_label : (arguments : List ℕ) (ls : List Label) (p q : ℕ) → Rising (Differ arguments) ls → p < length ls → q < length ls → (get_or ls p none).group ≡ (get_or ls q none).group → SameHas (get_or ls p none).set (get_or ls q none).set arguments → p ≡ q
one_label arguments ls p q r k l e s = by (cases_lt p q) (cases_lt q p)
  where
    by : (p < q) ⊎ (q ≤ p) → (q < p) ⊎ (p ≤ q) → p ≡ q
    by (inl h) other = absurd (rising_at (Differ arguments) none ls p q r h l e s)
    by (inr h) (inl g) = absurd (rising_at (Differ arguments) none ls q p r g k (sym e) (turned (get_or ls p none).set (get_or ls q none).set arguments s))
    by (inr h) (inr g) = omega arith

-- ---- masks

power : (n : ℕ) → 2 ^ suc n ≡ 2 ^ n + 2 ^ n
power n = pow-suc 2 n ∙ omega arith

mask_below : (set columns : List ℕ) → mask set columns < 2 ^ length columns
mask_below set [] = omega arith
mask_below set (c ∷ columns) = by (has set c) (mask_below set columns)
  where
    by : (b : Bool) → mask set columns < 2 ^ length columns → cond b 0 (2 ^ length columns) + mask set columns < 2 ^ suc (length columns)
    by true h = let e = power (length columns) in omega arith
    by false h = let e = power (length columns) in omega arith

same_mask : (set other columns : List ℕ) → mask set columns ≡ mask other columns → SameHas set other columns
same_mask set other [] e = tt
same_mask set other (c ∷ columns) e =
    let parts = by (has set c) (has other c) e (mask_below set columns) (mask_below other columns) in
    (parts.0, same_mask set other columns parts.1)
  where
    by : (a b : Bool) → cond a 0 (2 ^ length columns) + mask set columns ≡ cond b 0 (2 ^ length columns) + mask other columns → mask set columns < 2 ^ length columns → mask other columns < 2 ^ length columns → (a ≡ b) × (mask set columns ≡ mask other columns)
    by true true h k l = (refl, omega arith)
    by true false h k l = absurd (omega arith)
    by false true h k l = absurd (omega arith)
    by false false h k l = (refl, omega arith)

-- ---- a row of a group

pub record IsRowOf (g : GroupRule) (rows : List RowValues) (l : Label) (row : RowValues) : Type 0 where
  pub values : RowValues
  pub is : row ≡ l.group ++ values
  pub each : AllOk (group_value l.set (rows_of_group g.columns l.set rows l.group)) g.calls values

row_is : (g : GroupRule) (rows : List RowValues) (l : Label) (row : RowValues) → row_of g rows l ≡ Ok row → IsRowOf g rows l row
row_is g rows l row e = by (all_ok (map (group_value l.set (rows_of_group g.columns l.set rows l.group)) g.calls)) refl e
  where
    by : (r : Result RowValues StepFault) → all_ok (map (group_value l.set (rows_of_group g.columns l.set rows l.group)) g.calls) ≡ r → and_then r (λ values. Ok (l.group ++ values)) ≡ Ok row → IsRowOf g rows l row
    by (Ok values) h k = record { values = values; is = sym (rows_are (l.group ++ values) row k); each = all_ok_each (group_value l.set (rows_of_group g.columns l.set rows l.group)) g.calls values h }
    by (Err f) h k = cc

-- ---- the rows of a Group

module _ (g : GroupRule) (xs ys : List RowValues) (is : group_outcome g xs ≡ Ok ys) where
  label_at : ℕ → Label
  label_at p = get_or (labels g.columns xs g.sets) p none

  all_made : AllOk (row_of g xs) (labels g.columns xs g.sets) ys
  all_made = all_ok_each (row_of g xs) (labels g.columns xs g.sets) ys (ap (λ (rs : List (Result RowValues StepFault)). all_ok rs) (all_rows g xs g.sets) ∙ is)

  below : (p : ℕ) → p < length ys → p < length (labels g.columns xs g.sets)
  below p k = subst (λ n. p < n) all_made.long k

  labelled : (p : ℕ) → p < length ys → IsLabel g.columns xs (label_at p)
  unfolding label_at
  labelled p k = one_at (IsLabel g.columns xs) none (labels g.columns xs g.sets) p (labels_are g.columns xs g.sets) (below p k)

  made : (p : ℕ) → p < length ys → IsRowOf g xs (label_at p) (row_at ys p)
  unfolding label_at
  made p k = row_is g xs (get_or (labels g.columns xs g.sets) p none) (row_at ys p) (all_made.each p none [] (below p k))

  -- a grouping column shows the group's value
  group_column : (p c : ℕ) → p < length ys → c < g.columns → column_of (row_at ys p) c ≡ column_of (label_at p).group c
  group_column p c k h =
      let m = made p k in
      let w = (labelled p k).wide in
      ap (λ (r : RowValues). column_of r c) m.is ∙ get_or_append_left (label_at p).group m.values Null c (omega (arith, w))

  -- and a call's column its value
  call_column : (p n : ℕ) (d : GroupCall) → p < length ys → n < length g.calls → group_value (label_at p).set (rows_of_group g.columns (label_at p).set xs (label_at p).group) (get_or g.calls n d) ≡ Ok (column_of (row_at ys p) (g.columns + n))
  call_column p n d k h =
      let m = made p k in
      let w = (labelled p k).wide in
      let at_end : column_of (row_at ys p) (g.columns + n) ≡ get_or m.values n Null =
      ap (λ (r : RowValues). column_of r (g.columns + n)) m.is ∙ ap (λ c. column_of ((label_at p).group ++ m.values) (c + n)) (sym w) ∙ get_or-append-add (label_at p).group m.values n Null in
      m.each.each n d Null h ∙ ap (λ v. Ok v) (sym at_end)

  pub group_wide : HasWidth (g.columns + length g.calls) ys
  group_wide = HasWidth-from (g.columns + length g.calls) ys (λ p k.
      let m = made p k in
      ap length m.is ∙ length-append (label_at p).group m.values ∙ (λ i. (labelled p k).wide i + m.each.long i))

  -- ---- not null

  some_column : (set : List ℕ) (c : ℕ) → has set c ≡ true → 0 < length set
  some_column [] c e = absurd (false≢true e)
  some_column (d ∷ set) c e = omega arith

  sets_have : (c : ℕ) → list_all (λ set. has set c) g.sets ≡ true → (p : ℕ) → p < length ys → has (label_at p).set c ≡ true
  unfolding label_at
  sets_have c e p k = one_at (λ (l : Label). has l.set c ≡ true) none (labels g.columns xs g.sets) p (set_labels (λ set. has set c ≡ true) g.columns xs g.sets (tests_all (λ set. has set c) g.sets e)) (below p k)

  pub group_not_null : (c : ℕ) → c < g.columns → IsNotNullIn xs c → list_all (λ set. has set c) g.sets ≡ true → IsNotNullIn ys c
  group_not_null c h below_not_null e p k =
      let in_set : has (label_at p).set c ≡ true = sets_have c e p k in
      let first = (labelled p k).first (some_column (label_at p).set c in_set) in
      let x = first_at (is_of g.columns (label_at p)) xs in
      let group_is : (label_at p).group ≡ shown g.columns (label_at p).set (row_at xs x) = (same_row-Decides _ _).0 first.1 in
      let value : column_of (row_at ys p) c ≡ column_of (row_at xs x) c =
      group_column p c k h ∙ ap (λ (r : RowValues). column_of r c) group_is ∙ shown_at g.columns (label_at p).set (row_at xs x) c h ∙ ap (λ b. cond b (column_of (row_at xs x) c) Null) in_set in
      ap is_null value ∙ below_not_null x first.0

  value_not_null : (set : List ℕ) (rows : List RowValues) (call : GroupCall) (v : Value) → is_group_call_not_null (Some call) ≡ true → group_value set rows call ≡ Ok v → is_null v ≡ false
  value_not_null set rows (OfRows CountRows) v n e = sym (ap is_null (rows_are (Int (pos (length rows))) v e))
  value_not_null set rows (OfRows (Count c)) v n e = sym (ap is_null (rows_are (Int (pos (count_by (λ r. not (is_null (column_of r c))) rows))) v e))
  value_not_null set rows (OfRows (Sum c)) v n e = absurd (false≢true n)
  value_not_null set rows (OfRows (Min c)) v n e = absurd (false≢true n)
  value_not_null set rows (OfRows (Max c)) v n e = absurd (false≢true n)
  value_not_null set rows (Grouping arguments) v n e = sym (ap is_null (rows_are (Int (pos (mask set arguments))) v e))

  pub group_call_not_null : (n : ℕ) → is_group_call_not_null (slice_get g.calls n) ≡ true → IsNotNullIn ys (g.columns + n)
  group_call_not_null n e p k = by (slice_get g.calls n) refl e
    where
      by : (o : Option GroupCall) → slice_get g.calls n ≡ o → is_group_call_not_null o ≡ true → is_null (column_of (row_at ys p) (g.columns + n)) ≡ false
      by None h f = absurd (false≢true f)
      by (Some call) h f =
          let own = call_column p n call k (slice_get_within g.calls n call h) in
          let same : get_or g.calls n call ≡ call = get_or_from_slice_get g.calls n call call h in
          value_not_null (label_at p).set (rows_of_group g.columns (label_at p).set xs (label_at p).group) call _ f (ap (group_value (label_at p).set (rows_of_group g.columns (label_at p).set xs (label_at p).group)) (sym same) ∙ own)

  -- ---- what tells the rows apart

  same_groups : (p q : ℕ) → p < length ys → q < length ys → AllByRecursion (Same (unpaired ys) p q) (columns_named (all_columns g.columns)) → (label_at p).group ≡ (label_at q).group
  same_groups p q k l a =
      let wp = (labelled p k).wide in
      let wq = (labelled q l).wide in
      ext_get_or Null (label_at p).group (label_at q).group (wp ∙ sym wq) (λ c h.
      let h' : c < g.columns = omega (arith, wp) in
      sym (group_column p c k h') ∙ range_pick (Same (unpaired ys) p q) 0 g.columns c a (omega arith) (omega arith) ∙ group_column q c l h')

  one_row : (arguments : List ℕ) → are_told_apart arguments g.sets ≡ true → (p q : ℕ) → p < length ys → q < length ys → (label_at p).group ≡ (label_at q).group → SameHas (label_at p).set (label_at q).set arguments → p ≡ q
  unfolding label_at
  one_row arguments e p q k l h s = one_label arguments (labels g.columns xs g.sets) p q (labels_differ arguments g.columns xs g.sets e) (below p k) (below q l) h s

  -- the calls of a row from a column on
  abbrev CallsAt : ℕ → ℕ → List GroupCall → Type 0
  CallsAt p w calls = (n : ℕ) (d : GroupCall) → n < length calls → group_value (label_at p).set (rows_of_group g.columns (label_at p).set xs (label_at p).group) (get_or calls n d) ≡ Ok (column_of (row_at ys p) (w + n))

  calls_after : (p w : ℕ) (call : GroupCall) (calls : List GroupCall) → CallsAt p w (call ∷ calls) → CallsAt p (w + 1) calls
  calls_after p w call calls h n d k =
      let e : w + suc n ≡ (w + 1) + n = omega arith in
      subst (λ c. group_value (label_at p).set (rows_of_group g.columns (label_at p).set xs (label_at p).group) (get_or calls n d) ≡ Ok (column_of (row_at ys p) c)) e (h (suc n) d (omega arith))

  own_mask : (p w : ℕ) (arguments : List ℕ) (calls : List GroupCall) → CallsAt p w (Grouping arguments ∷ calls) → column_of (row_at ys p) w ≡ Int (pos (mask (label_at p).set arguments))
  own_mask p w arguments calls h =
      let own = h 0 (Grouping arguments) (omega arith) in
      let e : w + 0 ≡ w = omega arith in
      sym (ap (column_of (row_at ys p)) e) ∙ sym (rows_are (Int (pos (mask (label_at p).set arguments))) (column_of (row_at ys p) (w + 0)) own)

  number_is : (m n : ℕ) → Int (pos m) ≡ Int (pos n) → m ≡ n
  number_is m n e = cc

  same_sets : (p q w : ℕ) (calls : List GroupCall) → CallsAt p w calls → CallsAt q w calls → AllByRecursion (Same (unpaired ys) p q) (columns_named (grouping_columns w calls)) → SameHas (label_at p).set (label_at q).set (grouping_arguments calls)
  same_sets p q w [] hp hq a = tt
  same_sets p q w (OfRows aggregate ∷ calls) hp hq a = same_sets p q (w + 1) calls (calls_after p w (OfRows aggregate) calls hp) (calls_after q w (OfRows aggregate) calls hq) a
  same_sets p q w (Grouping arguments ∷ calls) hp hq a =
      let masks = number_is _ _ (sym (own_mask p w arguments calls hp) ∙ a.0 ∙ own_mask q w arguments calls hq) in
      all_append (λ c. has (label_at p).set c ≡ has (label_at q).set c) arguments (grouping_arguments calls) (same_mask (label_at p).set (label_at q).set arguments masks)
      (same_sets p q (w + 1) calls (calls_after p w (Grouping arguments) calls hp) (calls_after q w (Grouping arguments) calls hq) a.1)

  -- one set needs no argument to be told from others
  few_sets : (sets : List (List ℕ)) → nat_lt 1 (length sets) ≡ false → are_told_apart [] sets ≡ true
  few_sets [] e = refl
  few_sets (set ∷ []) e = refl
  few_sets (set ∷ other ∷ sets) e = absurd (let f = ltb-false 1 (length (set ∷ other ∷ sets)) e in omega arith)

  key_holds : are_told_apart (grouping_arguments g.calls) g.sets ≡ true → Holds (unpaired ys) (key_fact member.Row (group_key g))
  key_holds e p q k l a = (by (nat_lt 1 (length g.sets)) refl a, tt)
    where
      by : (b : Bool) → nat_lt 1 (length g.sets) ≡ b → AllByRecursion (Same (unpaired ys) p q) (columns_named (all_columns g.columns ++ cond b (grouping_columns g.columns g.calls) [])) → p ≡ q
      by true h s =
          let parts = subst (AllByRecursion (Same (unpaired ys) p q)) (map-append (λ (c : ℕ). member.Column c) (all_columns g.columns) (grouping_columns g.columns g.calls)) s in
          let first = all_left (Same (unpaired ys) p q) (columns_named (all_columns g.columns)) (columns_named (grouping_columns g.columns g.calls)) parts in
          let second = all_right (Same (unpaired ys) p q) (columns_named (all_columns g.columns)) (columns_named (grouping_columns g.columns g.calls)) parts in
          one_row (grouping_arguments g.calls) e p q k l (same_groups p q k l first)
          (same_sets p q g.columns g.calls (λ n d m. call_column p n d k m) (λ n d m. call_column q n d l m) second)
      by false h s =
          let parts = subst (AllByRecursion (Same (unpaired ys) p q)) (map-append (λ (c : ℕ). member.Column c) (all_columns g.columns) []) s in
          let first = all_left (Same (unpaired ys) p q) (columns_named (all_columns g.columns)) [] parts in
          one_row [] (few_sets g.sets h) p q k l (same_groups p q k l first) tt

  pub group_key_holds : AllByRecursion (Holds (unpaired ys)) (group_key_facts g)
  group_key_holds = by (are_told_apart (grouping_arguments g.calls) g.sets) refl
    where
      by : (b : Bool) → are_told_apart (grouping_arguments g.calls) g.sets ≡ b → AllByRecursion (Holds (unpaired ys)) (cond b (key_fact member.Row (group_key g) ∷ []) [])
      by true e = (key_holds e, tt)
      by false e = tt

-- ---- what one set keeps

cut_plain : (columns : ℕ) (X : List Member) → list_all (is_plain columns) (filter (is_plain columns) X) ≡ true
cut_plain columns [] = refl
cut_plain columns (x ∷ X) = by (is_plain columns x) refl (cut_plain columns X)
  where
    by : (b : Bool) → is_plain columns x ≡ b → list_all (is_plain columns) (filter (is_plain columns) X) ≡ true → list_all (is_plain columns) (cond b (x ∷ filter (is_plain columns) X) (filter (is_plain columns) X)) ≡ true
    by true e h = λ i. e i && h i
    by false e h = h

cut_holds : (columns : ℕ) (rows : List RowValues) (fact : Fact) → Holds (unpaired rows) fact → Holds (unpaired rows) (record { from = fact.from; to = filter (is_plain columns) fact.to })
cut_holds columns rows fact h p q k l a = all_filter (is_plain columns) (Same (unpaired rows) p q) (Same (unpaired rows) p q) (λ x s e. s) fact.to (h p q k l a)

-- the facts that one set keeps name columns and the row alone
pub cut_named : (columns : ℕ) (kept : List Fact) → ArePlain columns (flat_map (restrict_fact columns) kept)
cut_named columns [] = tt
cut_named columns (fact ∷ kept) = by (list_all (is_column columns) fact.from) refl (cut_named columns kept)
  where
    by : (b : Bool) → list_all (is_column columns) fact.from ≡ b → ArePlain columns (flat_map (restrict_fact columns) kept) → ArePlain columns (cond b (record { from = fact.from; to = filter (is_plain columns) fact.to } ∷ []) [] ++ flat_map (restrict_fact columns) kept)
    by true e rest = ((λ i. columns_plain columns fact.from e i && cut_plain columns fact.to i), rest)
    by false e rest = rest

-- and they hold
cut_hold : (columns : ℕ) (rows : List RowValues) (kept : List Fact) → AllByRecursion (Holds (unpaired rows)) kept → AllByRecursion (Holds (unpaired rows)) (flat_map (restrict_fact columns) kept)
cut_hold columns rows [] h = tt
cut_hold columns rows (fact ∷ kept) h = by (list_all (is_column columns) fact.from) (cut_hold columns rows kept h.1)
  where
    by : (b : Bool) → AllByRecursion (Holds (unpaired rows)) (flat_map (restrict_fact columns) kept) → AllByRecursion (Holds (unpaired rows)) (cond b (record { from = fact.from; to = filter (is_plain columns) fact.to } ∷ []) [] ++ flat_map (restrict_fact columns) kept)
    by true rest = (cut_holds columns rows fact h.0, rest)
    by false rest = rest

-- every fact holds in rows of which there is one at most
itself : (rows : List RowValues) (p q : ℕ) → p ≡ q → (X : List Member) → AllByRecursion (Same (unpaired rows) p q) X
itself rows p q e [] = tt
itself rows p q e (member.Column c ∷ X) = (ap (λ n. column_of (row_at rows n) c) e, itself rows p q e X)
itself rows p q e (member.Left ∷ X) = (e, itself rows p q e X)
itself rows p q e (member.Right ∷ X) = (e, itself rows p q e X)
itself rows p q e (member.Row ∷ X) = (e, itself rows p q e X)

one_at_most : (rows : List RowValues) → length rows ≤ 1 → (facts : List Fact) → AllByRecursion (Holds (unpaired rows)) facts
one_at_most rows h [] = tt
one_at_most rows h (fact ∷ facts) = ((λ p q k l a. itself rows p q (omega arith) fact.to), one_at_most rows h facts)

range_all : (t : ℕ → Bool) (a n c : ℕ) → list_all t (range_with_len a n) ≡ true → a ≤ c → c < a + n → t c ≡ true
range_all t a zero c e k l = absurd (omega arith)
range_all t a (suc n) c e k l =
    let parts = and_parts (t a) (list_all t (range_with_len (a + 1) n)) e in
    by (cases_lt a c) parts.0 (λ m. range_all t (a + 1) n c parts.1 m (omega arith))
  where
    by : (a < c) ⊎ (c ≤ a) → t a ≡ true → (a + 1 ≤ c → t c ≡ true) → t c ≡ true
    by (inl h) own rest = rest (omega arith)
    by (inr h) own rest = let s : a ≡ c = omega arith in subst (λ x. t x ≡ true) s own

module _ (columns : ℕ) (calls : List GroupCall) (set : List ℕ) (all : (c : ℕ) → c < columns → has set c ≡ true) (some : 0 < length set) (xs ys : List RowValues) (is : group_outcome (record { columns = columns; sets = set ∷ []; calls = calls }) xs ≡ Ok ys) where
  abbrev rule : GroupRule
  rule = record { columns = columns; sets = set ∷ []; calls = calls }

  set_is : (p : ℕ) → p < length ys → (label_at rule xs ys is p).set ≡ set
  unfolding label_at
  set_is p k = one_at (λ (l : Label). l.set ≡ set) none (labels columns xs (set ∷ [])) p (set_labels (λ s. s ≡ set) columns xs (set ∷ []) (refl, tt)) (below rule xs ys is p k)

  origin : ℕ → ℕ
  origin p = first_at (is_of columns (label_at rule xs ys is p)) xs

  first_row : (p : ℕ) → p < length ys → Found (is_of columns (label_at rule xs ys is p)) xs (origin p)
  unfolding origin
  first_row p k = (labelled rule xs ys is p k).first (subst (λ s. 0 < length s) (sym (set_is p k)) some)

  group_is : (p : ℕ) → p < length ys → (label_at rule xs ys is p).group ≡ shown columns set (row_at xs (origin p))
  group_is p k = (same_row-Decides (label_at rule xs ys is p).group (shown columns (label_at rule xs ys is p).set (row_at xs (origin p)))).0 (first_row p k).1 ∙ ap (λ s. shown columns s (row_at xs (origin p))) (set_is p k)

  carries : Carries xs (unpaired ys) (λ c. c) member.Row columns
  carries = record {
    at = origin;
    within = λ p k. (first_row p k).0;
    column = λ p c k h.
        group_column rule xs ys is p c k h ∙ ap (λ (r : RowValues). column_of r c) (group_is p k) ∙ shown_at columns set (row_at xs (origin p)) c h ∙ ap (λ b. cond b (column_of (row_at xs (origin p)) c) Null) (all c h);
    up = λ p q k l e. one_row rule xs ys is [] refl p q k l (group_is p k ∙ ap (λ x. shown columns set (row_at xs x)) e ∙ sym (group_is q l)) tt;
    down = λ p q k l e. ap origin e;
  }

  pub one_set_holds : (kept : List Fact) → AllByRecursion (Holds (unpaired xs)) kept → AllByRecursion (Holds (unpaired ys)) (flat_map (restrict_fact columns) kept)
  one_set_holds kept h =
      subst (AllByRecursion (Holds (unpaired ys))) (same_facts (flat_map (restrict_fact columns) kept)) (hold_moved xs (unpaired ys) (λ c. c) member.Row columns carries (flat_map (restrict_fact columns) kept) (cut_named columns kept) (cut_hold columns xs kept h))

-- the sets of a Group that has one
pub group_kept_hold : (g : GroupRule) (xs ys : List RowValues) → group_outcome g xs ≡ Ok ys → list_all (λ c. list_any (λ set. has set c) g.sets) (positions g.columns) ≡ true → (kept : List Fact) → AllByRecursion (Holds (unpaired xs)) kept → AllByRecursion (Holds (unpaired ys)) (facts_of_group g kept)
group_kept_hold g xs ys is each kept h = by (nat_eq (length g.sets) 1) refl
  where
    or_nothing : (b : Bool) → (b || false) ≡ true → b ≡ true
    or_nothing true e = refl
    or_nothing false e = e

    with_set : (columns : ℕ) (calls : List GroupCall) (sets : List (List ℕ)) → length sets ≡ 1 → group_outcome (record { columns = columns; sets = sets; calls = calls }) xs ≡ Ok ys → list_all (λ c. list_any (λ set. has set c) sets) (positions columns) ≡ true → AllByRecursion (Holds (unpaired ys)) (flat_map (restrict_fact columns) kept)
    with_set columns calls [] l e a = absurd (omega arith)
    with_set columns calls ([] ∷ []) l e a =
        let long = (all_made (record { columns = columns; sets = [] ∷ []; calls = calls }) xs ys e).long in
        one_at_most ys (omega (arith, long)) (flat_map (restrict_fact columns) kept)
    with_set columns calls ((c ∷ set) ∷ []) l e a = one_set_holds columns calls (c ∷ set) (λ d k. or_nothing (has (c ∷ set) d) (range_all (λ x. list_any (λ s. has s x) ((c ∷ set) ∷ [])) 0 columns d a (omega arith) (omega arith))) (omega arith) xs ys e kept h
    with_set columns calls (set ∷ other ∷ sets) l e a = absurd (omega arith)

    by : (b : Bool) → nat_eq (length g.sets) 1 ≡ b → AllByRecursion (Holds (unpaired ys)) (cond b (flat_map (restrict_fact g.columns) kept) [])
    by true e = with_set g.columns g.calls g.sets (eqb-true (length g.sets) 1 e) is each
    by false e = tt
