-- The numbers of pairs.
use Rattle.std.proofs.Common.{◌≡◌, ◌∙◌, ℕ, ◌+◌, ◌*◌, ◌%◌, ◌<◌, ◌≤◌, Bool, true, false, cond, ◌&&◌, List, get_or, length, nat_eq, refl, sym, ap, arith, Option, Some, None, ◌⊎◌, inl, inr}
use Rattle.std.specs.HashMap.{HashMap, hash_map_len}
use Rattle.std.proofs.lemmas.Bool.{cases_lt}
use Rattle.std.proofs.lemmas.Bool.Decides.{Decides-eqb}
use Rattle.std.proofs.lemmas.Nat.{mod-mul-add}
use Rattle.std.proofs.Math.Nat.{mul-le-mul_right}
use Rattle.wd_sort.specs.Codes.{ArePairs}
use Rattle.wd_group.specs.Pairs.{AreApart, ArePairNumbers, Keeps, number_in, same_pair}
use Rattle.wd_group.proofs.Sets.{same_tests}

both_true : (x y : Bool) → x ≡ true → y ≡ true → (x && y) ≡ true
both_true true y e f = f
both_true false y e f = e

first_true : (x y : Bool) → (x && y) ≡ true → x ≡ true
first_true true y e = refl
first_true false y e = e

second_true : (x y : Bool) → (x && y) ≡ true → y ≡ true
second_true true y e = e
second_true false y e = absurd cc

some_same : {X : Type 0} {a b : X} → Some a ≡ Some b → a ≡ b
some_same e = cc

-- ---- two numbers in one

rises : (m a b a' b' : ℕ) → b < m → a < a' → a * m + b < a' * m + b'
rises m a b a' b' low h = let e : (a + 1) * m ≤ a' * m = mul-le-mul_right m (omega arith) in omega arith

same_high : (m a b a' b' : ℕ) → b < m → b' < m → a * m + b ≡ a' * m + b' → a ≡ a'
same_high m a b a' b' low low' e = by (cases_lt a a') (cases_lt a' a)
  where
    by : (a < a') ⊎ (a' ≤ a) → (a' < a) ⊎ (a ≤ a') → a ≡ a'
    by (inl h) other = absurd (let r = rises m a b a' b' low h in omega arith)
    by (inr h) (inl k) = absurd (let r = rises m a' b' a b low' k in omega arith)
    by (inr h) (inr k) = omega arith

same_low : (m a b a' b' : ℕ) → b < m → b' < m → a * m + b ≡ a' * m + b' → b ≡ b'
same_low m a b a' b' low low' e = sym (mod-mul-add a m b low) ∙ ap (λ n. n % m) e ∙ mod-mul-add a' m b' low'

told : (m a b a' b' : ℕ) → b < m → b' < m → nat_eq (a * m + b) (a' * m + b') ≡ (nat_eq a a' && nat_eq b b')
told m a b a' b' low low' =
    same_tests (nat_eq (a * m + b) (a' * m + b')) (nat_eq a a' && nat_eq b b')
    (λ t. let e = (Decides-eqb (a * m + b) (a' * m + b')).0 t in both_true (nat_eq a a') (nat_eq b b') ((Decides-eqb a a').1 (same_high m a b a' b' low low' e)) ((Decides-eqb b b').1 (same_low m a b a' b' low low' e)))
    (λ t. let e : a ≡ a' = (Decides-eqb a a').0 (first_true (nat_eq a a') (nat_eq b b') t) in let f : b ≡ b' = (Decides-eqb b b').0 (second_true (nat_eq a a') (nat_eq b b') t) in (Decides-eqb (a * m + b) (a' * m + b')).1 (λ i. e i * m + f i))

pub ArePairNumbers-pairs : (first second codes : List ℕ) (n m : ℕ) → ArePairs first second m codes → ((k : ℕ) → k < length first → get_or first k 0 < n) → ((k : ℕ) → k < length first → get_or second k 0 < m) → ArePairNumbers first second (n * m) codes
ArePairNumbers-pairs first second codes n m are high low = record {
  long = are.long;
  below = λ k h. (let a = get_or first k 0 in let b = get_or second k 0 in let up = high k h in let e : (a + 1) * m ≤ n * m = mul-le-mul_right m (omega arith) in let l = low k h in let is = are.each k h in omega arith);
  alike = λ i j h k. (λ t. nat_eq (are.each i h t) (are.each j k t)) ∙ told m (get_or first i 0) (get_or second i 0) (get_or first j 0) (get_or second j 0) (low i h) (low j k);
}

-- ---- pairs that are met

pair_is : (p q : ℕ × ℕ) → same_pair p q ≡ true → p ≡ q
pair_is p q t =
    let e : p.0 ≡ q.0 = (Decides-eqb p.0 q.0).0 (first_true (nat_eq p.0 q.0) (nat_eq p.1 q.1) t) in
    let f : p.1 ≡ q.1 = (Decides-eqb p.1 q.1).0 (second_true (nat_eq p.0 q.0) (nat_eq p.1 q.1) t) in
    λ i. (e i, f i)

module _ {S : Type 0} (old new : HashMap (ℕ × ℕ) ℕ S) (pair : ℕ × ℕ) (are : AreApart old) (absent : number_in old pair ≡ None)
    (updates : (q : ℕ × ℕ) → number_in new q ≡ cond (same_pair pair q) (Some (hash_map_len old)) (number_in old q)) (long : hash_map_len new ≡ hash_map_len old + 1) where
  below_by : (p : ℕ × ℕ) (n : ℕ) (b : Bool) → cond b (Some (hash_map_len old)) (number_in old p) ≡ Some n → n < hash_map_len new
  below_by p n true e = let same : hash_map_len old ≡ n = some_same e in omega (arith, long)
  below_by p n false e = let low = are.below p n e in omega (arith, long)

  apart_by : (p q : ℕ × ℕ) (n : ℕ) (b c : Bool) → same_pair pair p ≡ b → same_pair pair q ≡ c → cond b (Some (hash_map_len old)) (number_in old p) ≡ Some n → cond c (Some (hash_map_len old)) (number_in old q) ≡ Some n → p ≡ q
  apart_by p q n true true e f h k = sym (pair_is pair p e) ∙ pair_is pair q f
  apart_by p q n true false e f h k = absurd (let same : hash_map_len old ≡ n = some_same h in let low = are.below q n k in omega arith)
  apart_by p q n false true e f h k = absurd (let same : hash_map_len old ≡ n = some_same k in let low = are.below p n h in omega arith)
  apart_by p q n false false e f h k = are.apart p q n h k

  pub AreApart-more : AreApart new
  AreApart-more = record {
    below = λ p n h. below_by p n (same_pair pair p) (sym (updates p) ∙ h);
    apart = λ p q n h k. apart_by p q n (same_pair pair p) (same_pair pair q) refl refl (sym (updates p) ∙ h) (sym (updates q) ∙ k);
  }

  kept_by : (p : ℕ × ℕ) (n : ℕ) (b : Bool) → same_pair pair p ≡ b → number_in old p ≡ Some n → cond b (Some (hash_map_len old)) (number_in old p) ≡ Some n
  kept_by p n true e h = absurd (let none : number_in old p ≡ None = ap (number_in old) (sym (pair_is pair p e)) ∙ absent in none_some none h)
    where
      none_some : {o : Option ℕ} → o ≡ None → o ≡ Some n → ⊥
      none_some e f = cc
  kept_by p n false e h = h

  pub Keeps-more : Keeps old new
  Keeps-more p n h = updates p ∙ kept_by p n (same_pair pair p) refl h

-- the numbers of all places
pub ArePairNumbers-met : {S : Type 0} (met : HashMap (ℕ × ℕ) ℕ S) (first second numbers : List ℕ) → AreApart met → length numbers ≡ length first → ((k : ℕ) → k < length first → number_in met (get_or first k 0, get_or second k 0) ≡ Some (get_or numbers k 0)) → ArePairNumbers first second (hash_map_len met) numbers
ArePairNumbers-met met first second numbers are long each = record {
  long = long;
  below = λ k h. are.below (get_or first k 0, get_or second k 0) (get_or numbers k 0) (each k h);
  alike = λ i j h k. (
      let p : ℕ × ℕ = (get_or first i 0, get_or second i 0) in
      let q : ℕ × ℕ = (get_or first j 0, get_or second j 0) in
      let a = get_or numbers i 0 in
      let b = get_or numbers j 0 in
      same_tests (nat_eq a b) (same_pair p q)
      (λ t. let e : a ≡ b = (Decides-eqb a b).0 t in let one : p ≡ q = are.apart p q a (each i h) (each j k ∙ ap Some (sym e)) in both_true (nat_eq p.0 q.0) (nat_eq p.1 q.1) ((Decides-eqb p.0 q.0).1 (ap (λ (r : ℕ × ℕ). r.0) one)) ((Decides-eqb p.1 q.1).1 (ap (λ (r : ℕ × ℕ). r.1) one)))
      (λ t. (Decides-eqb a b).1 (some_same (sym (each i h) ∙ ap (number_in met) (pair_is p q t) ∙ each j k))));
}
