-- Rows that stand among others, each at a position of its own; facts of those hold of them.
use Rattle.std.proofs.Common.{◌≡◌, ℕ, zero, suc, ◌<◌, Bool, true, false, cond, not, List, [], ◌∷◌, map, filter, length, take, drop, take_while, get_or, refl, sym, ◌∙◌, ap, subst, arith, nat_lt, Option, Some, None}
use Rattle.std.specs.List.{AllByRecursion, list_any, list_all, prefix_len}
use Rattle.std.proofs.lemmas.Bool.{and_parts, false≢true, ltb-true}
use Rattle.std.proofs.lemmas.List.{length-map, get_or-map}
use Rattle.std.proofs.lemmas.List.Elements.{All-from_recursion}
use Rattle.wd_value.specs.Bags.{EachOnce}
use Rattle.wd_value.specs.Rows.{Row as RowValues, column_of, columns_of, row_at, rows_at, same_row}
use Rattle.wd_value.proofs.SameLaws.{same_row-Decides}
use Rattle.wd_plan.specs.Expressions.{is_null}
use Rattle.wd_plan.specs.Facts.{HasWidth, IsNotNullIn, IsNullableKey}
use Rattle.wd_plan.specs.Outcomes.{limited_rows, distinct, first_rows, peers}
use Rattle.wd_plan.specs.Plans.{LimitRule}
use Rattle.wd_value.specs.declared.order.SortColumn.{SortColumn}
use Rattle.wd_plan.proofs.Places.{place-get_or, range-times, times-get_or, times-range-le}
use Rattle.wd_plan.specs.Partitions.{place_in}
use Rattle.wd_step_facts.specs.declared.facts.Member.{Member}
use Rattle.wd_step_facts.specs.declared.facts.Member.TheVariants.{Column, Left, Right, Row}
use Rattle.wd_step_facts.specs.Facts.{Fact, Paired, Same, Holds, is_plain, is_plain_fact, moved, moved_fact, moved_facts, unpaired}
use Rattle.wd_facts.specs.Laws.{ArePlain}

-- ---- rows that carry the facts of others

-- each position has one of the other rows, whose columns it has under other numbers; `row` is the same where that position is
pub record Carries (rows : List RowValues) (n : Paired) (f : ℕ → ℕ) (row : Member) (width : ℕ) : Type 0 where
  pub at : ℕ → ℕ
  pub within : (p : ℕ) → p < length n.rows → at p < length rows
  pub column : (p c : ℕ) → p < length n.rows → c < width → column_of (row_at n.rows p) (f c) ≡ column_of (row_at rows (at p)) c
  pub up : (p q : ℕ) → p < length n.rows → q < length n.rows → at p ≡ at q → Same n p q row
  pub down : (p q : ℕ) → p < length n.rows → q < length n.rows → Same n p q row → at p ≡ at q

module _ (rows : List RowValues) (n : Paired) (f : ℕ → ℕ) (row : Member) (width : ℕ) (carries : Carries rows n f row width) (p q : ℕ) (k : p < length n.rows) (l : q < length n.rows) where
  carried_down : (X : List Member) → list_all (is_plain width) X ≡ true → AllByRecursion (Same n p q) (map (moved f row) X) → AllByRecursion (Same (unpaired rows) (carries.at p) (carries.at q)) X
  carried_down [] e a = tt
  carried_down (Column c ∷ X) e a =
      let parts = and_parts (nat_lt c width) (list_all (is_plain width) X) e in
      (sym (carries.column p c k (ltb-true c width parts.0)) ∙ a.0 ∙ carries.column q c l (ltb-true c width parts.0), carried_down X parts.1 a.1)
  carried_down (Left ∷ X) e a = absurd (false≢true e)
  carried_down (Right ∷ X) e a = absurd (false≢true e)
  carried_down (Row ∷ X) e a = (carries.down p q k l a.0, carried_down X e a.1)

  carried_up : (X : List Member) → list_all (is_plain width) X ≡ true → AllByRecursion (Same (unpaired rows) (carries.at p) (carries.at q)) X → AllByRecursion (Same n p q) (map (moved f row) X)
  carried_up [] e a = tt
  carried_up (Column c ∷ X) e a =
      let parts = and_parts (nat_lt c width) (list_all (is_plain width) X) e in
      (carries.column p c k (ltb-true c width parts.0) ∙ a.0 ∙ sym (carries.column q c l (ltb-true c width parts.0)), carried_up X parts.1 a.1)
  carried_up (Left ∷ X) e a = absurd (false≢true e)
  carried_up (Right ∷ X) e a = absurd (false≢true e)
  carried_up (Row ∷ X) e a = (carries.up p q k l a.0, carried_up X e a.1)

module _ (rows : List RowValues) (n : Paired) (f : ℕ → ℕ) (row : Member) (width : ℕ) (carries : Carries rows n f row width) where
  pub holds_moved : (fact : Fact) → is_plain_fact width fact ≡ true → Holds (unpaired rows) fact → Holds n (moved_fact f row fact)
  holds_moved fact e h p q k l a =
      let parts = and_parts (list_all (is_plain width) fact.from) (list_all (is_plain width) fact.to) e in
      carried_up rows n f row width carries p q k l fact.to parts.1 (h (carries.at p) (carries.at q) (carries.within p k) (carries.within q l) (carried_down rows n f row width carries p q k l fact.from parts.0 a))

  pub hold_moved : (facts : List Fact) → ArePlain width facts → AllByRecursion (Holds (unpaired rows)) facts → AllByRecursion (Holds n) (moved_facts f row facts)
  hold_moved [] plain a = tt
  hold_moved (fact ∷ facts) plain a = (holds_moved fact plain.0 a.0, hold_moved facts plain.1 a.1)

-- members that keep their numbers
same_members : (X : List Member) → map (moved (λ c. c) Row) X ≡ X
same_members [] = refl
same_members (Column c ∷ X) = ap (λ l. Column c ∷ l) (same_members X)
same_members (Left ∷ X) = ap (λ l. Left ∷ l) (same_members X)
same_members (Right ∷ X) = ap (λ l. Right ∷ l) (same_members X)
same_members (Row ∷ X) = ap (λ l. Row ∷ l) (same_members X)

pub same_facts : (facts : List Fact) → moved_facts (λ c. c) Row facts ≡ facts
same_facts [] = refl
same_facts (fact ∷ facts) = λ i. record { from = same_members fact.from i; to = same_members fact.to i } ∷ same_facts facts i

-- ---- rows among others

pub record Embeds (xs ys : List RowValues) : Type 0 where
  pub at : ℕ → ℕ
  pub within : (p : ℕ) → p < length xs → at p < length ys
  pub is : (p : ℕ) → p < length xs → row_at xs p ≡ row_at ys (at p)
  pub apart : (p q : ℕ) → p < length xs → q < length xs → at p ≡ at q → p ≡ q

pub Embeds-refl : (xs : List RowValues) → Embeds xs xs
Embeds-refl xs = record { at = λ p. p; within = λ p k. k; is = λ p k. refl; apart = λ p q k l e. e }

pub Embeds-none : (ys : List RowValues) → Embeds [] ys
Embeds-none ys = record { at = λ p. p; within = λ p k. absurd (omega arith); is = λ p k. absurd (omega arith); apart = λ p q k l e. e }

pub Embeds-trans : (xs ys zs : List RowValues) → Embeds xs ys → Embeds ys zs → Embeds xs zs
Embeds-trans xs ys zs a b = record {
  at = λ p. b.at (a.at p);
  within = λ p k. b.within (a.at p) (a.within p k);
  is = λ p k. a.is p k ∙ b.is (a.at p) (a.within p k);
  apart = λ p q k l e. a.apart p q k l (b.apart (a.at p) (a.at q) (a.within p k) (a.within q l) e);
}

pub Embeds-skip : (xs ys : List RowValues) (y : RowValues) → Embeds xs ys → Embeds xs (y ∷ ys)
Embeds-skip xs ys y a = record {
  at = λ p. suc (a.at p);
  within = λ p k. omega (arith, a.within p k);
  is = λ p k. a.is p k;
  apart = λ p q k l e. a.apart p q k l (omega arith);
}

abbrev keep_at : (ℕ → ℕ) → ℕ → ℕ
keep_at f zero = 0
keep_at f (suc p) = suc (f p)

pub Embeds-keep : (xs ys : List RowValues) (x : RowValues) → Embeds xs ys → Embeds (x ∷ xs) (x ∷ ys)
Embeds-keep xs ys x a = record { at = keep_at a.at; within = stands; is = shows; apart = differ }
  where
    stands : (p : ℕ) → p < length (x ∷ xs) → keep_at a.at p < length (x ∷ ys)
    stands zero k = omega arith
    stands (suc p) k = omega (arith, a.within p (omega arith))

    shows : (p : ℕ) → p < length (x ∷ xs) → row_at (x ∷ xs) p ≡ row_at (x ∷ ys) (keep_at a.at p)
    shows zero k = refl
    shows (suc p) k = a.is p (omega arith)

    differ : (p q : ℕ) → p < length (x ∷ xs) → q < length (x ∷ xs) → keep_at a.at p ≡ keep_at a.at q → p ≡ q
    differ zero zero k l e = refl
    differ zero (suc q) k l e = absurd (omega arith)
    differ (suc p) zero k l e = absurd (omega arith)
    differ (suc p) (suc q) k l e = ap suc (a.apart p q (omega arith) (omega arith) (omega arith))

pub Embeds-filter : (t : RowValues → Bool) (xs : List RowValues) → Embeds (filter t xs) xs
Embeds-filter t [] = Embeds-refl []
Embeds-filter t (x ∷ xs) = by (t x) (Embeds-filter t xs)
  where
    by : (b : Bool) → Embeds (filter t xs) xs → Embeds (cond b (x ∷ filter t xs) (filter t xs)) (x ∷ xs)
    by true a = Embeds-keep (filter t xs) xs x a
    by false a = Embeds-skip (filter t xs) xs x a

pub Embeds-drop : (n : ℕ) (xs : List RowValues) → Embeds (drop n xs) xs
Embeds-drop zero xs = Embeds-refl xs
Embeds-drop (suc n) [] = Embeds-refl []
Embeds-drop (suc n) (x ∷ xs) = Embeds-skip (drop n xs) xs x (Embeds-drop n xs)

pub Embeds-take : (n : ℕ) (xs : List RowValues) → Embeds (take n xs) xs
Embeds-take zero xs = Embeds-none xs
Embeds-take (suc n) [] = Embeds-refl []
Embeds-take (suc n) (x ∷ xs) = Embeds-keep (take n xs) xs x (Embeds-take n xs)

pub Embeds-first_rows : (keys : List SortColumn) (ties : Bool) (n : ℕ) (xs : List RowValues) → Embeds (first_rows keys ties n xs) xs
Embeds-first_rows keys ties zero xs = Embeds-none xs
Embeds-first_rows keys ties (suc n) [] = Embeds-refl []
Embeds-first_rows keys ties (suc zero) (x ∷ xs) = by ties
  where
    by : (b : Bool) → Embeds (x ∷ cond b (take_while (peers keys x) xs) []) (x ∷ xs)
    by true = Embeds-keep (take_while (peers keys x) xs) xs x (Embeds-take (prefix_len (peers keys x) xs) xs)
    by false = Embeds-keep [] xs x (Embeds-none xs)
Embeds-first_rows keys ties (suc (suc n)) (x ∷ xs) = Embeds-keep (first_rows keys ties (suc n) xs) xs x (Embeds-first_rows keys ties (suc n) xs)

-- the rows at positions of which each stands once
pub Embeds-ordered : (rows : List RowValues) (ordering : List ℕ) → EachOnce (length rows) ordering → Embeds (rows_at rows ordering) rows
Embeds-ordered rows ordering once = record {
  at = λ p. get_or ordering p (length rows);
  within = λ p k. stands p (long p k);
  is = λ p k. get_or-map (row_at rows) ordering p (length rows) [] (long p k);
  apart = λ p q k l e. differ p q (long p k) (long q l) e;
}
  where
    long : (p : ℕ) → p < length (rows_at rows ordering) → p < length ordering
    long p k = subst (λ m. p < m) (length-map ordering (row_at rows)) k

    stands : (p : ℕ) → p < length ordering → get_or ordering p (length rows) < length rows
    stands p k =
        let q = get_or ordering p (length rows) in
        let a = times-get_or ordering p (length rows) k in
        let c = once q in
        let d = range-times q 0 (length rows) (omega arith) in
        omega arith

    differ : (p q : ℕ) → p < length ordering → q < length ordering → get_or ordering p (length rows) ≡ get_or ordering q (length rows) → p ≡ q
    differ p q k l e =
        let c = once (get_or ordering p (length rows)) in
        let c' = once (get_or ordering q (length rows)) in
        let d = times-range-le (get_or ordering p (length rows)) 0 (length rows) in
        let d' = times-range-le (get_or ordering q (length rows)) 0 (length rows) in
        sym (place-get_or ordering p (length rows) k (omega arith)) ∙ ap (place_in ordering) e ∙ place-get_or ordering q (length rows) l (omega arith)

pub Embeds-cut : (limit : LimitRule) (rows : List RowValues) (ordering : List ℕ) → EachOnce (length rows) ordering → Embeds (limited_rows limit (rows_at rows ordering)) rows
Embeds-cut limit rows ordering once = Embeds-trans (limited_rows limit (rows_at rows ordering)) (rows_at rows ordering) rows (by limit.count) (Embeds-ordered rows ordering once)
  where
    by : (count : Option ℕ) → Embeds (limited_rows (record limit { count = count }) (rows_at rows ordering)) (rows_at rows ordering)
    by None = Embeds-drop limit.offset (rows_at rows ordering)
    by (Some n) = Embeds-trans (first_rows limit.keys limit.ties n (drop limit.offset (rows_at rows ordering))) (drop limit.offset (rows_at rows ordering)) (rows_at rows ordering) (Embeds-first_rows limit.keys limit.ties n (drop limit.offset (rows_at rows ordering))) (Embeds-drop limit.offset (rows_at rows ordering))

pub Embeds-distinct : (xs : List RowValues) → Embeds (distinct xs) xs
Embeds-distinct [] = Embeds-refl []
Embeds-distinct (x ∷ xs) = Embeds-keep (filter (λ q. not (same_row x q)) (distinct xs)) xs x (Embeds-trans (filter (λ q. not (same_row x q)) (distinct xs)) (distinct xs) xs (Embeds-filter (λ q. not (same_row x q)) (distinct xs)) (Embeds-distinct xs))

-- ---- what passes on

all_from_positions : (P : RowValues → Type 0) (xs : List RowValues) → ((p : ℕ) → p < length xs → P (row_at xs p)) → AllByRecursion P xs
all_from_positions P [] h = tt
all_from_positions P (x ∷ xs) h = (h 0 (omega arith), all_from_positions P xs (λ p k. h (suc p) (omega arith)))

pub wide_at : (width : ℕ) (rows : List RowValues) (p : ℕ) → HasWidth width rows → p < length rows → length (row_at rows p) ≡ width
wide_at width rows p wide k = All-from_recursion (λ (r : RowValues). length r ≡ width) rows wide p [] k

pub HasWidth-from : (width : ℕ) (xs : List RowValues) → ((p : ℕ) → p < length xs → length (row_at xs p) ≡ width) → HasWidth width xs
HasWidth-from width xs h = all_from_positions (λ (r : RowValues). length r ≡ width) xs h

module _ (xs ys : List RowValues) (a : Embeds xs ys) where
  pub width_of : (width : ℕ) → HasWidth width ys → HasWidth width xs
  width_of width wide = HasWidth-from width xs (λ p k. ap length (a.is p k) ∙ wide_at width ys (a.at p) wide (a.within p k))

  pub not_null_of : (c : ℕ) → IsNotNullIn ys c → IsNotNullIn xs c
  not_null_of c h p k = ap (λ r. is_null (column_of r c)) (a.is p k) ∙ h (a.at p) (a.within p k)

  pub key_of : (X : List ℕ) → IsNullableKey ys X → IsNullableKey xs X
  key_of X h p q k l e n = a.apart p q k l (h (a.at p) (a.at q) (a.within p k) (a.within q l) (ap (columns_of X) (sym (a.is p k)) ∙ e ∙ ap (columns_of X) (a.is q l)) (ap (λ r. list_any is_null (columns_of X r)) (sym (a.is p k)) ∙ n))

  pub keys_of : (keys : List (List ℕ)) → AllByRecursion (IsNullableKey ys) keys → AllByRecursion (IsNullableKey xs) keys
  keys_of [] h = tt
  keys_of (X ∷ keys) h = (key_of X h.0, keys_of keys h.1)

  pub carries_of : (width : ℕ) → Carries ys (unpaired xs) (λ c. c) Row width
  carries_of width = record {
    at = a.at;
    within = a.within;
    column = λ p c k l. ap (λ r. column_of r c) (a.is p k);
    up = a.apart;
    down = λ p q k l e. ap a.at e;
  }

  pub hold_of : (width : ℕ) (facts : List Fact) → ArePlain width facts → AllByRecursion (Holds (unpaired ys)) facts → AllByRecursion (Holds (unpaired xs)) facts
  hold_of width facts plain h = subst (AllByRecursion (Holds (unpaired xs))) (same_facts facts) (hold_moved ys (unpaired xs) (λ c. c) Row width (carries_of width) facts plain h)

-- ---- first occurrences

pub passes_at : (t : RowValues → Bool) (xs : List RowValues) (p : ℕ) → p < length (filter t xs) → t (row_at (filter t xs) p) ≡ true
passes_at t [] p k = absurd (omega arith)
passes_at t (x ∷ xs) p k = by (t x) refl p k (passes_at t xs)
  where
    by : (b : Bool) → t x ≡ b → (i : ℕ) → i < length (cond b (x ∷ filter t xs) (filter t xs)) → ((j : ℕ) → j < length (filter t xs) → t (row_at (filter t xs) j) ≡ true) → t (row_at (cond b (x ∷ filter t xs) (filter t xs)) i) ≡ true
    by true e zero h later = e
    by true e (suc i) h later = later i (omega arith)
    by false e i h later = later i h

-- no row stands twice
pub distinct_once : (xs : List RowValues) (p q : ℕ) → p < length (distinct xs) → q < length (distinct xs) → row_at (distinct xs) p ≡ row_at (distinct xs) q → p ≡ q
distinct_once [] p q k l e = absurd (omega arith)
distinct_once (x ∷ xs) zero zero k l e = refl
distinct_once (x ∷ xs) zero (suc q) k l e = absurd (first x xs q (omega arith) e)
  where
    first : (y : RowValues) (ys : List RowValues) (i : ℕ) → i < length (filter (λ z. not (same_row y z)) (distinct ys)) → y ≡ row_at (filter (λ z. not (same_row y z)) (distinct ys)) i → ⊥
    first y ys i h f =
        let g = passes_at (λ z. not (same_row y z)) (distinct ys) i h in
        let s = (same_row-Decides y (row_at (filter (λ z. not (same_row y z)) (distinct ys)) i)).1 f in
        false≢true (sym (ap not s) ∙ g)
distinct_once (x ∷ xs) (suc p) zero k l e = absurd (first x xs p (omega arith) (sym e))
  where
    first : (y : RowValues) (ys : List RowValues) (i : ℕ) → i < length (filter (λ z. not (same_row y z)) (distinct ys)) → y ≡ row_at (filter (λ z. not (same_row y z)) (distinct ys)) i → ⊥
    first y ys i h f =
        let g = passes_at (λ z. not (same_row y z)) (distinct ys) i h in
        let s = (same_row-Decides y (row_at (filter (λ z. not (same_row y z)) (distinct ys)) i)).1 f in
        false≢true (sym (ap not s) ∙ g)
distinct_once (x ∷ xs) (suc p) (suc q) k l e =
    let a = Embeds-filter (λ z. not (same_row x z)) (distinct xs) in
    let k' : p < length (filter (λ z. not (same_row x z)) (distinct xs)) = omega arith in
    let l' : q < length (filter (λ z. not (same_row x z)) (distinct xs)) = omega arith in
    ap suc (a.apart p q k' l' (distinct_once xs (a.at p) (a.at q) (a.within p k') (a.within q l') (sym (a.is p k') ∙ e ∙ a.is q l')))
