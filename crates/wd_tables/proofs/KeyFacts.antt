-- The least position that repeats an earlier one, over neighbours and over keys.
use Rattle.std.proofs.Common.{◌≡◌, ◌∙◌, ◌⊎◌, ℕ, ◌+◌, ◌-◌, ◌<◌, ◌≤◌, Bool, true, false, List, [], ◌∷◌, ◌++◌, get_or, length, Option, Some, None, refl, sym, subst, arith, inl, inr}
use Rattle.std.specs.Prelude.{All, Any, nat_lt}
use Rattle.std.proofs.lemmas.Bool.{cases_lt, false_from_ne_true, false≢true, ltb-false, ltb-true}
use Rattle.std.proofs.lemmas.List.{get_or_append_left, get_or_at, get_or_default, length-append}
use Rattle.wd_value.specs.Rows.{Row, row_at}
use Rattle.wd_schema.specs.Meets.{KeepsKey, violates}
use Rattle.wd_schema.specs.Tables.{KeyRule}
use Rattle.wd_tables.specs.Causes.{IsLeast, Repeats, RepeatsIn}
use Rattle.wd_tables.specs.Keys.{ViolatesBefore, least}

-- ---- the least number with a property

-- the same number has an equivalent property
pub least_as : (P Q : ℕ → Type 0) (o : Option ℕ) → ((n : ℕ) → P n → Q n) → ((n : ℕ) → Q n → P n) → IsLeast P o → IsLeast Q o
least_as P Q None to from h = λ n q. h n (from n q)
least_as P Q (Some n) to from h = (to n h.0, λ m lt q. h.1 m lt (from m q))

-- of two properties, for one that holds where either does
lesser : (P Q R : ℕ → Type 0) (m n : ℕ) (b : Bool) → nat_lt m n ≡ b → ((k : ℕ) → P k → R k) → ((k : ℕ) → Q k → R k) → ((k : ℕ) → R k → P k ⊎ Q k)
    → IsLeast P (Some m) → IsLeast Q (Some n) → IsLeast R (least (Some m) (Some n))
lesser P Q R m n true e p q either h g =
    let less = ltb-true m n e in
    rw e (p m h.0, λ k lt r. elim (either k r) [ inl in_p ↦ h.1 k lt in_p | inr in_q ↦ g.1 k (omega arith) in_q ])
lesser P Q R m n false e p q either h g =
    let no_less = ltb-false m n e in
    rw e (q n g.0, λ k lt r. elim (either k r) [ inl in_p ↦ h.1 k (omega arith) in_p | inr in_q ↦ g.1 k lt in_q ])

pub least_of : (P Q R : ℕ → Type 0) (a b : Option ℕ) → ((k : ℕ) → P k → R k) → ((k : ℕ) → Q k → R k) → ((k : ℕ) → R k → P k ⊎ Q k) → IsLeast P a → IsLeast Q b → IsLeast R (least a b)
least_of P Q R None None p q either h g = λ k r. elim (either k r) [ inl in_p ↦ h k in_p | inr in_q ↦ g k in_q ]
least_of P Q R None (Some n) p q either h g = (q n g.0, λ k lt r. elim (either k r) [ inl in_p ↦ h k in_p | inr in_q ↦ g.1 k lt in_q ])
least_of P Q R (Some m) None p q either h g = (p m h.0, λ k lt r. elim (either k r) [ inl in_p ↦ h.1 k lt in_p | inr in_q ↦ g k in_q ])
least_of P Q R (Some m) (Some n) p q either h g = lesser P Q R m n (nat_lt m n) refl p q either h g

-- ---- along an order

-- the same as `ViolatesBefore`, of the first n positions of the order
abbrev pub ViolatesWithin : KeyRule → List Row → List ℕ → ℕ → ℕ → Type 0
ViolatesWithin key rows order n q = (i : ℕ) × (i + 1 < n) × (get_or order (i + 1) 0 ≡ q) × (violates key (row_at rows (get_or order i 0)) (row_at rows q) ≡ true)

module _ (key : KeyRule) (rows : List Row) (order : List ℕ) where
  pub none_within : IsLeast (ViolatesWithin key rows order 1) None
  none_within q (i, below, is, bad) = absurd (omega arith)

  within_weaker : (n m q : ℕ) → ((i : ℕ) → i + 1 < n → i + 1 < m) → ViolatesWithin key rows order n q → ViolatesWithin key rows order m q
  within_weaker n m q weaker (i, below, is, bad) = (i, weaker i below, is, bad)

  -- what the next neighbours add
  abbrev Here : ℕ → ℕ → Type 0
  Here n q = (get_or order n 0 ≡ q) × (violates key (row_at rows (get_or order (n - 1) 0)) (row_at rows q) ≡ true)

  here_within : (n q : ℕ) → 1 ≤ n → Here n q → ViolatesWithin key rows order (n + 1) q
  here_within n q some (is, bad) = let next : (n - 1) + 1 ≡ n = omega arith in (n - 1, omega arith, rw next is, bad)

  within_cases : (n q : ℕ) → 1 ≤ n → ViolatesWithin key rows order (n + 1) q → ViolatesWithin key rows order n q ⊎ Here n q
  within_cases n q some (i, below, is, bad) =
      elim (cases_lt (i + 1) n) [
        | inl less ↦ inl (i, less, is, bad)
        | inr last ↦ let at : i + 1 ≡ n = omega arith in let before : i ≡ n - 1 = omega arith in inr (rw (← at) is, rw (← before) bad)
      ]

  -- the next neighbours violate the key
  pub within_more : (n : ℕ) (o : Option ℕ) → 1 ≤ n → violates key (row_at rows (get_or order (n - 1) 0)) (row_at rows (get_or order n 0)) ≡ true → IsLeast (ViolatesWithin key rows order n) o
      → IsLeast (ViolatesWithin key rows order (n + 1)) (least o (Some (get_or order n 0)))
  within_more n o some bad h =
      least_of (ViolatesWithin key rows order n) (Here n) (ViolatesWithin key rows order (n + 1)) o (Some (get_or order n 0))
      (λ q. within_weaker n (n + 1) q (λ i l. omega arith)) (λ q. here_within n q some) (λ q. within_cases n q some) h ((refl, bad), λ m lt here. absurd (omega (arith, here.0)))

  -- they don't
  pub within_same : (n : ℕ) (o : Option ℕ) → 1 ≤ n → violates key (row_at rows (get_or order (n - 1) 0)) (row_at rows (get_or order n 0)) ≡ false → IsLeast (ViolatesWithin key rows order n) o
      → IsLeast (ViolatesWithin key rows order (n + 1)) o
  within_same n o some good h =
      least_as (ViolatesWithin key rows order n) (ViolatesWithin key rows order (n + 1)) o
      (λ q. within_weaker n (n + 1) q (λ i l. omega arith))
      (λ q w. elim (within_cases n q some w) [ inl before ↦ before | inr here ↦ absurd (false≢true (sym good ∙ (rw (← here.0) at here.1))) ]) h

  -- at the end of the order
  pub within_all : (n : ℕ) (o : Option ℕ) → length order ≤ n → (1 ≤ length order → n ≤ length order) → n ≤ length order + 1 → IsLeast (ViolatesWithin key rows order n) o → IsLeast (ViolatesBefore key rows order) o
  within_all n o all most short h =
      least_as (ViolatesWithin key rows order n) (ViolatesBefore key rows order) o
      (λ q. within_weaker n (length order) q (λ i l. elim (cases_lt 0 (length order)) [
        | inl some ↦ let top = most some in omega arith
        | inr none ↦ absurd (omega arith)
      ])) (λ q. within_weaker (length order) n q (λ i l. omega arith)) h

-- ---- over the keys

any_left : {X : Type 0} (P : X → Type 0) (xs : List X) (y : X) → Any P xs → Any P (xs ++ y ∷ [])
any_left P xs y (k, x, within, is, p) = (k, x, omega (arith, length-append xs (y ∷ [])), get_or_append_left xs (y ∷ []) x k within ∙ is, p)

any_last : {X : Type 0} (P : X → Type 0) (xs : List X) (y : X) → P y → Any P (xs ++ y ∷ [])
any_last P xs y p = (length xs, y, omega (arith, length-append xs (y ∷ [])), get_or_at xs y [] y (length xs) refl, p)

any_cases : {X : Type 0} (P : X → Type 0) (xs : List X) (y : X) → Any P (xs ++ y ∷ []) → Any P xs ⊎ P y
any_cases P xs y (k, x, within, is, p) =
    elim (cases_lt k (length xs)) [
      | inl less ↦ inl (k, x, less, sym (get_or_append_left xs (y ∷ []) x k less) ∙ is, p)
      | inr last ↦
          let at : length xs ≡ k = omega (arith, length-append xs (y ∷ [])) in
          inr (subst P (sym is ∙ get_or_at xs y [] x k at) p)
    ]

-- one more key
pub repeats_more : (keys : List KeyRule) (key : KeyRule) (rows : List Row) (a b : Option ℕ) → IsLeast (Repeats keys rows) a → IsLeast (RepeatsIn key rows) b → IsLeast (Repeats (keys ++ key ∷ []) rows) (least a b)
repeats_more keys key rows a b h g =
    least_of (Repeats keys rows) (RepeatsIn key rows) (Repeats (keys ++ key ∷ []) rows) a b
    (λ q. any_left (λ k. RepeatsIn k rows q) keys key) (λ q. any_last (λ k. RepeatsIn k rows q) keys key) (λ q. any_cases (λ k. RepeatsIn k rows q) keys key) h g

-- no key
pub repeats_none : (rows : List Row) → IsLeast (Repeats [] rows) None
repeats_none rows q (k, key, within, is, repeats) = absurd (omega arith)

-- where no row repeats an earlier one, the rows keep each key
pub keeps_all : (keys : List KeyRule) (rows : List Row) → IsLeast (Repeats keys rows) None → All (KeepsKey rows) keys
keeps_all keys rows none k d within i j e less below =
    let key = get_or keys k d in
    false_from_ne_true _ (λ bad. none j (k, key, within, get_or_default keys k key d within, (below, i, less, rw (get_or_default rows i [] e (omega arith), get_or_default rows j [] e below) bad)))
