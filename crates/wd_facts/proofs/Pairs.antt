-- The pairs of a Join: each has a position on each side, and the two give the pair.
use Rattle.std.proofs.Common.{◌≡◌, ℕ, suc, ◌+◌, ◌-◌, ◌<◌, ◌≤◌, Bool, true, false, cond, List, [], ◌∷◌, ◌++◌, map, length, refl, sym, ◌∙◌, ap, subst, arith, nat_lt, ◌⊎◌, inl, inr}
use Rattle.std.specs.List.{AllByRecursion, list_any, list_all}
use Rattle.std.proofs.lemmas.Bool.{and_parts, ltb-true, lt-ltb, cases_lt, le-ltb}
use Rattle.std.proofs.lemmas.List.{length-map, get_or-map, get_or_append_left, get_or-append-add, length-append}
use Rattle.wd_value.specs.Rows.{Row as RowValues, column_of, columns_of, row_at}
use Rattle.wd_value.specs.declared.value.Value.TheVariants.{Null}
use Rattle.wd_plan.specs.Expressions.{is_null}
use Rattle.wd_plan.specs.Facts.{HasWidth, IsNullableKey}
use Rattle.wd_plan.specs.Outcomes.{pairs}
use Rattle.wd_step_facts.specs.declared.facts.Member.TheVariants.{Left, Right}
use Rattle.wd_step_facts.specs.Facts.{Paired, Holds, key_fact}
use Rattle.wd_facts.specs.Given.{full_keys, keys_facts}
use Rattle.wd_facts.proofs.Sides.{AreSides}
use Rattle.wd_facts.proofs.Embeds.{Carries, Embeds, wide_at}
use Rattle.wd_facts.proofs.Keys.{all_map, columns_same, no_nulls}
use Rattle.wd_plan.proofs.Parts.{all_filter}

-- rows that pair rows of two sides, no two of them the same two
pub record Pairing (ls rs rows : List RowValues) : Type 0 where
  pub left : ℕ → ℕ
  pub right : ℕ → ℕ
  pub left_within : (p : ℕ) → p < length rows → left p < length ls
  pub right_within : (p : ℕ) → p < length rows → right p < length rs
  pub is : (p : ℕ) → p < length rows → row_at rows p ≡ row_at ls (left p) ++ row_at rs (right p)
  pub apart : (p q : ℕ) → p < length rows → q < length rows → left p ≡ left q → right p ≡ right q → p ≡ q

-- ---- all pairs

left_at : List RowValues → ℕ → ℕ → ℕ
left_at [] n p = 0
left_at (l ∷ ls) n p = cond (nat_lt p n) 0 (suc (left_at ls n (p - n)))

right_at : List RowValues → ℕ → ℕ → ℕ
right_at [] n p = 0
right_at (l ∷ ls) n p = cond (nat_lt p n) p (right_at ls n (p - n))

left_near : (l : RowValues) (ls : List RowValues) (n p : ℕ) → p < n → left_at (l ∷ ls) n p ≡ 0
unfolding left_at
left_near l ls n p k = ap (λ b. cond b 0 (suc (left_at ls n (p - n)))) (lt-ltb p n k)

left_far : (l : RowValues) (ls : List RowValues) (n p : ℕ) → n ≤ p → left_at (l ∷ ls) n p ≡ suc (left_at ls n (p - n))
unfolding left_at
left_far l ls n p k = ap (λ b. cond b 0 (suc (left_at ls n (p - n)))) (le-ltb p n k)

right_near : (l : RowValues) (ls : List RowValues) (n p : ℕ) → p < n → right_at (l ∷ ls) n p ≡ p
unfolding right_at
right_near l ls n p k = ap (λ b. cond b p (right_at ls n (p - n))) (lt-ltb p n k)

right_far : (l : RowValues) (ls : List RowValues) (n p : ℕ) → n ≤ p → right_at (l ∷ ls) n p ≡ right_at ls n (p - n)
unfolding right_at
right_far l ls n p k = ap (λ b. cond b p (right_at ls n (p - n))) (le-ltb p n k)

module _ (rs : List RowValues) where
  record PairAt (ls : List RowValues) (p : ℕ) : Type 0 where
    in_left : left_at ls (length rs) p < length ls
    in_right : right_at ls (length rs) p < length rs
    shows : row_at (pairs ls rs) p ≡ row_at ls (left_at ls (length rs) p) ++ row_at rs (right_at ls (length rs) p)

  -- the pairs of the first left row stand first
  first_long : (l : RowValues) → length (map (λ r. l ++ r) rs) ≡ length rs
  first_long l = length-map rs (λ r. l ++ r)

  pair_at : (ls : List RowValues) (p : ℕ) → p < length (pairs ls rs) → PairAt ls p
  pair_at [] p k = absurd (omega arith)
  pair_at (l ∷ ls) p k = by (cases_lt p (length rs)) (pair_at ls (p - length rs))
    where
      by : (p < length rs) ⊎ (length rs ≤ p) → (p - length rs < length (pairs ls rs) → PairAt ls (p - length rs)) → PairAt (l ∷ ls) p
      by (inl h) later =
          let e = left_near l ls (length rs) p h in
          let f = right_near l ls (length rs) p h in
          record {
            in_left = subst (λ i. i < suc (length ls)) (sym e) (omega arith);
            in_right = subst (λ i. i < length rs) (sym f) h;
            shows = get_or_append_left (map (λ r. l ++ r) rs) (pairs ls rs) [] p (omega (arith, first_long l)) ∙ get_or-map (λ r. l ++ r) rs p [] [] h ∙ (λ i. row_at (l ∷ ls) (sym e i) ++ row_at rs (sym f i));
          }
      by (inr h) later =
          let e = left_far l ls (length rs) p h in
          let f = right_far l ls (length rs) p h in
          let long = length-append (map (λ r. l ++ r) rs) (pairs ls rs) in
          let w = later (omega (arith, first_long l)) in
          let at : length (map (λ r. l ++ r) rs) + (p - length rs) ≡ p = omega (arith, first_long l) in
          record {
            in_left = subst (λ i. i < suc (length ls)) (sym e) (omega (arith, w.in_left));
            in_right = subst (λ i. i < length rs) (sym f) w.in_right;
            shows = ap (λ i. row_at (map (λ r. l ++ r) rs ++ pairs ls rs) i) (sym at) ∙ get_or-append-add (map (λ r. l ++ r) rs) (pairs ls rs) (p - length rs) [] ∙ w.shows ∙ (λ i. row_at (l ∷ ls) (sym e i) ++ row_at rs (sym f i));
          }

  abbrev Later : List RowValues → ℕ → ℕ → Type 0
  Later ls p q = p - length rs < length (pairs ls rs) → q - length rs < length (pairs ls rs) → left_at ls (length rs) (p - length rs) ≡ left_at ls (length rs) (q - length rs) → right_at ls (length rs) (p - length rs) ≡ right_at ls (length rs) (q - length rs) → p - length rs ≡ q - length rs

  pair_apart : (ls : List RowValues) (p q : ℕ) → p < length (pairs ls rs) → q < length (pairs ls rs) → left_at ls (length rs) p ≡ left_at ls (length rs) q → right_at ls (length rs) p ≡ right_at ls (length rs) q → p ≡ q
  pair_apart [] p q k l e f = absurd (omega arith)
  pair_apart (x ∷ ls) p q k l e f = by (cases_lt p (length rs)) (cases_lt q (length rs)) (pair_apart ls (p - length rs) (q - length rs))
    where
      by : (p < length rs) ⊎ (length rs ≤ p) → (q < length rs) ⊎ (length rs ≤ q) → Later ls p q → p ≡ q
      by (inl h) (inl g) later = sym (right_near x ls (length rs) p h) ∙ f ∙ right_near x ls (length rs) q g
      by (inl h) (inr g) later = absurd (let a = left_near x ls (length rs) p h in let b = left_far x ls (length rs) q g in omega arith)
      by (inr h) (inl g) later = absurd (let a = left_far x ls (length rs) p h in let b = left_near x ls (length rs) q g in omega arith)
      by (inr h) (inr g) later =
          let a = left_far x ls (length rs) p h in let b = left_far x ls (length rs) q g in
          let c = right_far x ls (length rs) p h in let d = right_far x ls (length rs) q g in
          let long = length-append (map (λ r. x ++ r) rs) (pairs ls rs) in
          let s = first_long x in
          let rest = later (omega arith) (omega arith) (omega arith) (sym c ∙ f ∙ d) in
          omega arith

pub pairs_pairing : (ls rs : List RowValues) → Pairing ls rs (pairs ls rs)
pairs_pairing ls rs = record {
  left = left_at ls (length rs);
  right = right_at ls (length rs);
  left_within = λ p k. (pair_at rs ls p k).in_left;
  right_within = λ p k. (pair_at rs ls p k).in_right;
  is = λ p k. (pair_at rs ls p k).shows;
  apart = λ p q k l e f. pair_apart rs ls p q k l e f;
}

pub pairing_among : (ls rs xs ys : List RowValues) → Embeds xs ys → Pairing ls rs ys → Pairing ls rs xs
pairing_among ls rs xs ys a g = record {
  left = λ p. g.left (a.at p);
  right = λ p. g.right (a.at p);
  left_within = λ p k. g.left_within (a.at p) (a.within p k);
  right_within = λ p k. g.right_within (a.at p) (a.within p k);
  is = λ p k. a.is p k ∙ g.is (a.at p) (a.within p k);
  apart = λ p q k l e f. a.apart p q k l (g.apart (a.at p) (a.at q) (a.within p k) (a.within q l) e f);
}

-- ---- facts of pairs

module _ (ls rs rows : List RowValues) (pairing : Pairing ls rs rows) (wl wr : ℕ) (wide_left : HasWidth wl ls) (wide_right : HasWidth wr rs) where
  abbrev pub paired : Paired
  paired = record { rows = rows; left = pairing.left; right = pairing.right }

  pub pair_wide : (p : ℕ) → p < length rows → length (row_at rows p) ≡ wl + wr
  pair_wide p k =
      ap length (pairing.is p k) ∙ length-append (row_at ls (pairing.left p)) (row_at rs (pairing.right p))
      ∙ (λ i. wide_at wl ls (pairing.left p) wide_left (pairing.left_within p k) i + wide_at wr rs (pairing.right p) wide_right (pairing.right_within p k) i)

  pub left_column : (p c : ℕ) → p < length rows → c < wl → column_of (row_at rows p) c ≡ column_of (row_at ls (pairing.left p)) c
  left_column p c k l =
      let e = wide_at wl ls (pairing.left p) wide_left (pairing.left_within p k) in
      ap (λ r. column_of r c) (pairing.is p k) ∙ get_or_append_left (row_at ls (pairing.left p)) (row_at rs (pairing.right p)) Null c (omega arith)

  pub right_column : (p c : ℕ) → p < length rows → column_of (row_at rows p) (wl + c) ≡ column_of (row_at rs (pairing.right p)) c
  right_column p c k =
      let e = wide_at wl ls (pairing.left p) wide_left (pairing.left_within p k) in
      ap (λ r. column_of r (wl + c)) (pairing.is p k)
      ∙ ap (λ w. column_of (row_at ls (pairing.left p) ++ row_at rs (pairing.right p)) (w + c)) (sym e)
      ∙ get_or-append-add (row_at ls (pairing.left p)) (row_at rs (pairing.right p)) c Null

  pub left_carries : Carries ls paired (λ c. c) Left wl
  left_carries = record {
    at = pairing.left;
    within = pairing.left_within;
    column = λ p c k l. left_column p c k l;
    up = λ p q k l e. e;
    down = λ p q k l e. e;
  }

  pub right_carries : Carries rs paired (λ c. wl + c) Right wr
  right_carries = record {
    at = pairing.right;
    within = pairing.right_within;
    column = λ p c k l. right_column p c k;
    up = λ p q k l e. e;
    down = λ p q k l e. e;
  }

  pub sides : AreSides paired wl (wl + wr)
  sides = record {
    left = λ p q c k l e h. left_column p c k h ∙ ap (λ i. column_of (row_at ls i) c) e ∙ sym (left_column q c l h);
    right = λ p q c k l e h m. (let d : wl + (c - wl) ≡ c = omega arith in
        ap (column_of (row_at rows p)) (sym d) ∙ right_column p (c - wl) k ∙ ap (λ i. column_of (row_at rs i) (c - wl)) e ∙ sym (right_column q (c - wl) l) ∙ ap (column_of (row_at rows q)) d);
    both = pairing.apart;
  }

  -- ---- nullable keys of a side that are full

  module _ (not_null : ℕ → Bool) (full : (p c : ℕ) → p < length rows → not_null c ≡ true → is_null (column_of (row_at rows p) c) ≡ false) where
    left_columns : (p : ℕ) → p < length rows → (X : List ℕ) → list_all (λ c. nat_lt c wl) X ≡ true → columns_of X (row_at rows p) ≡ columns_of X (row_at ls (pairing.left p))
    left_columns p k [] e = refl
    left_columns p k (c ∷ X) e =
        let parts = and_parts (nat_lt c wl) (list_all (λ c. nat_lt c wl) X) e in
        λ i. left_column p c k (ltb-true c wl parts.0) i ∷ left_columns p k X parts.1 i

    right_columns : (p : ℕ) → p < length rows → (X : List ℕ) → columns_of (map (λ c. wl + c) X) (row_at rows p) ≡ columns_of X (row_at rs (pairing.right p))
    right_columns p k [] = refl
    right_columns p k (c ∷ X) = λ i. right_column p c k i ∷ right_columns p k X i

    left_key : (X : List ℕ) → list_all (λ c. nat_lt c wl) X ≡ true → IsNullableKey ls X → list_all not_null X ≡ true → Holds paired (key_fact Left X)
    left_key X range key e p q k l a =
        let e' = columns_same paired p q X a in (
          key (pairing.left p) (pairing.left q) (pairing.left_within p k) (pairing.left_within q l) (sym (left_columns p k X range) ∙ e' ∙ left_columns q l X range)
              (ap (list_any is_null) (sym (left_columns p k X range)) ∙ no_nulls (row_at rows p) not_null (λ c. full p c k) X e),
          tt,
        )

    right_key : (X : List ℕ) → IsNullableKey rs X → list_all not_null (map (λ c. wl + c) X) ≡ true → Holds paired (key_fact Right (map (λ c. wl + c) X))
    right_key X key e p q k l a =
        let e' = columns_same paired p q (map (λ c. wl + c) X) a in (
          key (pairing.right p) (pairing.right q) (pairing.right_within p k) (pairing.right_within q l) (sym (right_columns p k X) ∙ e' ∙ right_columns q l X)
              (ap (list_any is_null) (sym (right_columns p k X)) ∙ no_nulls (row_at rows p) not_null (λ c. full p c k) (map (λ c. wl + c) X) e),
          tt,
        )

    both_all : (keys : List (List ℕ)) → AllByRecursion (λ X. list_all (λ c. nat_lt c wl) X ≡ true) keys → AllByRecursion (IsNullableKey ls) keys → AllByRecursion (λ X. (list_all (λ c. nat_lt c wl) X ≡ true) × IsNullableKey ls X) keys
    both_all [] a b = tt
    both_all (X ∷ keys) a b = ((a.0, b.0), both_all keys a.1 b.1)

    pub left_keys_hold : (keys : List (List ℕ)) → AllByRecursion (λ X. list_all (λ c. nat_lt c wl) X ≡ true) keys → AllByRecursion (IsNullableKey ls) keys → AllByRecursion (Holds paired) (keys_facts Left (full_keys not_null keys))
    left_keys_hold keys range a = all_map (Holds paired) (key_fact Left) (full_keys not_null keys) (all_filter (list_all not_null) (λ X. (list_all (λ c. nat_lt c wl) X ≡ true) × IsNullableKey ls X) (λ X. Holds paired (key_fact Left X)) (λ X h e. left_key X h.0 h.1 e) keys (both_all keys range a))

    pub right_keys_hold : (keys : List (List ℕ)) → AllByRecursion (IsNullableKey rs) keys → AllByRecursion (Holds paired) (keys_facts Right (full_keys not_null (map (map (λ c. wl + c)) keys)))
    right_keys_hold keys a = all_map (Holds paired) (key_fact Right) (full_keys not_null (map (map (λ c. wl + c)) keys)) (each keys a)
      where
        step : (X : List ℕ) (keys : List (List ℕ)) (b : Bool) → list_all not_null (map (λ c. wl + c) X) ≡ b → IsNullableKey rs X → AllByRecursion (λ Y. Holds paired (key_fact Right Y)) (full_keys not_null (map (map (λ c. wl + c)) keys)) → AllByRecursion (λ Y. Holds paired (key_fact Right Y)) (full_keys not_null (map (map (λ c. wl + c)) (X ∷ keys)))
        step X keys true e key rest = rw e (right_key X key e, rest)
        step X keys false e key rest = rw e rest

        each : (keys : List (List ℕ)) → AllByRecursion (IsNullableKey rs) keys → AllByRecursion (λ Y. Holds paired (key_fact Right Y)) (full_keys not_null (map (map (λ c. wl + c)) keys))
        each [] a = tt
        each (X ∷ keys) a = step X keys (list_all not_null (map (λ c. wl + c) X)) refl a.0 (each keys a.1)
