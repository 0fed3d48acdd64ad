-- A settled limit cuts the same rows under every ordering.
use Rattle.std.proofs.Common.{◌≡◌, ℕ, zero, suc, ◌<◌, ◌≤◌, Bool, true, false, not, List, [], ◌∷◌, map, length, filter, drop, take_while, get_or, refl, sym, ◌∙◌, ap, subst, arith, ◌⊎◌, inl, inr, Ordering, Less, Equal, Greater, is_gt, is_eq, Some, None, Option}
use Rattle.std.specs.List.{AllByRecursion}
use Rattle.std.specs.Ordering.{ordering_reverse}
use Rattle.std.proofs.lemmas.List.{get_or-map}
use Rattle.std.proofs.lemmas.List.Sums.{take_while-cons}
use Rattle.std.proofs.lemmas.List.Elements.{All-from_recursion}
use Rattle.std.proofs.lemmas.Bool.{cases_lt}
use Rattle.std.proofs.lemmas.Cmp.{tied_itself, alike_right, upto}
use Rattle.wd_laws.proofs.Exchange.{gives_all_looks}
use Rattle.wd_value.proofs.KeyLaws.{compare_keys-ties, compare_keys_total}
use Rattle.wd_plan.proofs.Parts.{NotAfter, ordered, part, rising_part}
use Rattle.wd_laws.proofs.Parts.{Perm-ordered, same_parts, same_rows_at_places}
use Rattle.wd_plan.proofs.Sorted.{Rising}
use Rattle.wd_plan.specs.Facts.{DeterminesAll, HasWidth}
use Rattle.wd_plan.specs.Settled.{IsSettledLimit}
use Rattle.wd_value.specs.Keys.{compare_keys}
use Rattle.wd_plan.specs.Outcomes.{limited_rows, first_rows, peers}
use Rattle.wd_plan.specs.Plans.{LimitRule}
use Rattle.wd_plan.specs.Sorting.{IsInOrder, IsOrdering, limit_class, order_columns}
use Rattle.wd_value.specs.declared.order.SortColumn.{SortColumn}
use Rattle.wd_value.proofs.Perms.{Perm, Perm-filter, Perm-length, Perm-same, Perm-sym, both}
use Rattle.wd_value.proofs.SameLaws.{same_row-Decides}
use Rattle.wd_value.specs.Rows.{Row, columns_of, row_at, same_row}

-- in a limit all rows are one partition
keep_all : (t : Row → Bool) → ((r : Row) → t r ≡ true) → (rs : List Row) → filter t rs ≡ rs
keep_all t h [] = refl
keep_all t h (r ∷ rs) = rw (h r) (ap (λ l. r ∷ l) (keep_all t h rs))

one_part : (limit : LimitRule) (x : Row) (ws : List Row) → part (limit_class limit) x ws ≡ ws
one_part limit x ws = keep_all (λ q. true) (λ q. refl) ws

pub rising_limit : (limit : LimitRule) (ws : List Row) → IsInOrder (limit_class limit) ws → Rising (NotAfter (limit_class limit)) ws
rising_limit limit ws h = subst (Rising (NotAfter (limit_class limit))) (one_part limit [] ws) (rising_part (limit_class limit) [] ws h)

-- ---- with ties: the rows that stand no later than the last one taken

module _ (order : List SortColumn) where
  abbrev Upto : Row → Row → Bool
  Upto last r = not (is_gt (compare_keys order r last))

  abbrev Before : Row → Row → Type 0
  Before a b = is_gt (compare_keys order a b) ≡ false

  not_upto : (a b : Ordering) → a ≡ ordering_reverse b → is_eq b ≡ false → is_gt b ≡ false → not (is_gt a) ≡ false
  not_upto a Less e f g = rw e refl
  not_upto a Equal e f g = cc
  not_upto a Greater e f g = cc

  is_upto : (a b : Ordering) → a ≡ ordering_reverse b → is_eq b ≡ true → not (is_gt a) ≡ true
  is_upto a Less e f = cc
  is_upto a Equal e f = rw e refl
  is_upto a Greater e f = cc

  none_pass : (t : Row → Bool) (rs : List Row) → AllByRecursion (λ r. t r ≡ false) rs → filter t rs ≡ []
  none_pass t [] a = refl
  none_pass t (r ∷ rs) a = rw a.0 (none_pass t rs a.1)

  map_all : (P Q : Row → Type 0) → ((r : Row) → P r → Q r) → (rs : List Row) → AllByRecursion P rs → AllByRecursion Q rs
  map_all P Q f [] a = tt
  map_all P Q f (r ∷ rs) a = (f r a.0, map_all P Q f rs a.1)

  -- a row after one that stands after the last stands after it too
  past_last : (last q r : Row) → Upto last q ≡ false → Before q r → Upto last r ≡ false
  past_last last q r e b = by (is_gt (compare_keys order r last)) refl
    where
      by : (c : Bool) → is_gt (compare_keys order r last) ≡ c → not (is_gt (compare_keys order r last)) ≡ false
      by true f = ap not f
      by false f = absurd (let g = upto (compare_keys_total order) q r last b f in let h = ap not g in cc)

  peers_step : (last q : Row) (rs : List Row) (b : Bool) → peers order last q ≡ b → Before last q → AllByRecursion (Before q) rs → take_while (peers order last) rs ≡ filter (Upto last) rs → take_while (peers order last) (q ∷ rs) ≡ filter (Upto last) (q ∷ rs)
  peers_step last q rs true e b a h =
      let passes : Upto last q ≡ true = is_upto _ _ ((compare_keys_total order).antisymm q last) e in
      take_while-cons (peers order last) q rs ∙ (rw (e, passes) (ap (λ l. q ∷ l) h))
  peers_step last q rs false e b a h =
      let fails : Upto last q ≡ false = not_upto _ _ ((compare_keys_total order).antisymm q last) e b in
      take_while-cons (peers order last) q rs ∙ (rw (e, fails) (sym (none_pass (Upto last) rs (map_all (Before q) (λ r. Upto last r ≡ false) (λ r. past_last last q r fails) rs a))))

  peers_are : (last : Row) (rs : List Row) → AllByRecursion (Before last) rs → Rising Before rs → take_while (peers order last) rs ≡ filter (Upto last) rs
  peers_are last [] a r = refl
  peers_are last (q ∷ rs) a r = peers_step last q rs (peers order last q) refl a.0 r.0 (peers_are last rs a.1 r.1)

  -- the first n with ties are the rows that do not stand after the n-th
  pub ties_are : (m : ℕ) (rs : List Row) → Rising Before rs → m < length rs → first_rows order true (suc m) rs ≡ filter (Upto (row_at rs m)) rs
  ties_are m [] r l = absurd (omega arith)
  ties_are zero (q ∷ rs) r l =
      let self : Upto q q ≡ true = ap (λ o. not (is_gt o)) (tied_itself (compare_keys_total order) q) in
      rw self (ap (λ l. q ∷ l) (peers_are q rs r.0 r.1))
  ties_are (suc m) (q ∷ rs) r l =
      let last = row_at rs m in
      let b : Before q last = All-from_recursion (Before q) rs r.0 m [] (omega arith) in
      let passes : Upto last q ≡ true = ap not b in
      rw passes (ap (λ l. q ∷ l) (ties_are m rs r.1 (omega arith)))

  pub ties_all : (m : ℕ) (rs : List Row) → length rs ≤ m → first_rows order true (suc m) rs ≡ rs
  ties_all m [] l = refl
  ties_all zero (q ∷ rs) l = absurd (omega arith)
  ties_all (suc m) (q ∷ rs) l = ap (λ l. q ∷ l) (ties_all m rs (omega arith))

  pub ties_none : (ties : Bool) (rs : List Row) → first_rows order ties zero rs ≡ []
  ties_none ties rs = refl

-- ---- the law

module _ (limit : LimitRule) (rows others : List Row) (o1 o2 : List ℕ) (perm : Perm Row rows others) (v1 : IsOrdering (limit_class limit) rows o1) (v2 : IsOrdering (limit_class limit) others o2) where
  all_rows : Perm Row (ordered rows o1) (ordered others o2)
  all_rows = both (Perm-sym (Perm-ordered rows o1 v1.once)) (both perm (Perm-ordered others o2 v2.once))

  -- both orders have the same keys at each place
  same_keys : map (columns_of (order_columns (limit_class limit))) (ordered rows o1) ≡ map (columns_of (order_columns (limit_class limit))) (ordered others o2)
  same_keys =
      ap (map (columns_of (order_columns (limit_class limit)))) (sym (one_part limit [] (ordered rows o1)))
      ∙ same_parts same_row same_row-Decides (columns_of (order_columns (limit_class limit))) (limit_class limit) rows (λ a b m n e. e) (λ a b e. e) [] (ordered rows o1) (ordered others o2) (Perm-ordered rows o1 v1.once) (both perm (Perm-ordered others o2 v2.once)) v1.in_order v2.in_order
      ∙ ap (map (columns_of (order_columns (limit_class limit)))) (one_part limit [] (ordered others o2))

  Perm-ties : (n : ℕ) → Perm Row (first_rows limit.keys true n (ordered rows o1)) (first_rows limit.keys true n (ordered others o2))
  Perm-ties zero = Perm-same [] [] refl
  Perm-ties (suc m) = by (cases_lt m (length (ordered rows o1)))
    where
      by : (m < length (ordered rows o1)) ⊎ (length (ordered rows o1) ≤ m) → Perm Row (first_rows limit.keys true (suc m) (ordered rows o1)) (first_rows limit.keys true (suc m) (ordered others o2))
      by (inl l) =
          let long = Perm-length all_rows in
          let l' : m < length (ordered others o2) = omega arith in
          let keys : columns_of (order_columns (limit_class limit)) (row_at (ordered rows o1) m) ≡ columns_of (order_columns (limit_class limit)) (row_at (ordered others o2) m) =
          sym (get_or-map (columns_of (order_columns (limit_class limit))) (ordered rows o1) m [] [] l) ∙ ap (λ ks. get_or ks m []) same_keys ∙ get_or-map (columns_of (order_columns (limit_class limit))) (ordered others o2) m [] [] l' in
          let same_test : (λ (r : Row). not (is_gt (compare_keys limit.keys r (row_at (ordered rows o1) m)))) ≡ (λ (r : Row). not (is_gt (compare_keys limit.keys r (row_at (ordered others o2) m)))) =
          λ i r. not (is_gt (alike_right (compare_keys_total limit.keys) (row_at (ordered rows o1) m) (row_at (ordered others o2) m) r (compare_keys-ties limit.keys _ _ keys) i)) in
          both (Perm-same _ _ (ties_are limit.keys m (ordered rows o1) (rising_limit limit (ordered rows o1) v1.in_order) l))
          (both (Perm-filter (λ r. not (is_gt (compare_keys limit.keys r (row_at (ordered rows o1) m)))) all_rows)
          (Perm-same _ _ (ap (λ t. filter t (ordered others o2)) same_test ∙ sym (ties_are limit.keys m (ordered others o2) (rising_limit limit (ordered others o2) v2.in_order) l'))))
      by (inr l) =
          let long = Perm-length all_rows in
          both (Perm-same _ _ (ties_all limit.keys m (ordered rows o1) l)) (both all_rows (Perm-same _ _ (sym (ties_all limit.keys m (ordered others o2) (omega arith)))))

  -- the keys give every column: one order only
  same_order : (width : ℕ) → HasWidth width rows → DeterminesAll rows width (order_columns (limit_class limit)) → ordered rows o1 ≡ ordered others o2
  same_order width wide h =
      sym (one_part limit [] (ordered rows o1))
      ∙ same_rows_at_places (limit_class limit) rows (gives_all_looks (limit_class limit) rows width wide h) [] (ordered rows o1) (ordered others o2) (Perm-ordered rows o1 v1.once) (both perm (Perm-ordered others o2 v2.once)) v1.in_order v2.in_order
      ∙ one_part limit [] (ordered others o2)

  cut_whole : (count : Option ℕ) (offset : ℕ) (ties : Bool) → count ≡ None → offset ≡ 0 → Perm Row (limited_rows (record { keys = limit.keys; offset = offset; count = count; ties = ties }) (ordered rows o1)) (limited_rows (record { keys = limit.keys; offset = offset; count = count; ties = ties }) (ordered others o2))
  cut_whole None offset ties c e = subst (λ n. Perm Row (drop n (ordered rows o1)) (drop n (ordered others o2))) (sym e) all_rows
  cut_whole (Some n) offset ties c e = cc

  cut_ties : (count : Option ℕ) (offset : ℕ) (ties : Bool) → ties ≡ true → offset ≡ 0 → Perm Row (limited_rows (record { keys = limit.keys; offset = offset; count = count; ties = ties }) (ordered rows o1)) (limited_rows (record { keys = limit.keys; offset = offset; count = count; ties = ties }) (ordered others o2))
  cut_ties None offset ties t e = subst (λ n. Perm Row (drop n (ordered rows o1)) (drop n (ordered others o2))) (sym e) all_rows
  cut_ties (Some n) offset ties t e = subst (λ s. Perm Row (first_rows limit.keys s n (drop offset (ordered rows o1))) (first_rows limit.keys s n (drop offset (ordered others o2)))) (sym t) (subst (λ k. Perm Row (first_rows limit.keys true n (drop k (ordered rows o1))) (first_rows limit.keys true n (drop k (ordered others o2)))) (sym e) (Perm-ties n))

  pub Perm-cut : (width : ℕ) → HasWidth width rows → IsSettledLimit limit width rows → Perm Row (limited_rows limit (ordered rows o1)) (limited_rows limit (ordered others o2))
  Perm-cut width wide (inl h) = cut_whole limit.count limit.offset limit.ties h.0 h.1
  Perm-cut width wide (inr (inl h)) = cut_ties limit.count limit.offset limit.ties h.0 h.1
  Perm-cut width wide (inr (inr h)) = Perm-same _ _ (ap (limited_rows limit) (same_order width wide h))
