-- The bucket of a place in closed form.
use Rattle.std.proofs.Common.{◌≡◌, ◌∙◌, ℕ, zero, suc, ◌+◌, ◌-◌, ◌*◌, ◌/◌, ◌%◌, ◌<◌, ◌≤◌, min, refl, sym, ap, arith, inl, inr}
use Rattle.std.proofs.Math.Nat.{mul-le-mul_left}
use Rattle.std.proofs.lemmas.Bool.{cases_lt, lt-ltb, le-ltb}
use Rattle.wd_plan.specs.Calls.{bucket, bucket_from}

-- how many members the first b buckets hold
abbrev held : ℕ → ℕ → ℕ → ℕ
held s l b = b * s + min b l

-- the first bucket from b on that reaches past the place is c, where c does and none before it does
first : (n members place c : ℕ) → place < held (members / n) (members % n) c → ((b : ℕ) → b < c → held (members / n) (members % n) b ≤ place)
    → (fuel b : ℕ) → b ≤ c → c < b + fuel → bucket_from fuel b n members place ≡ c
first n members place c past before zero b h k = absurd (omega arith)
first n members place c past before (suc fuel) b h k = elim (cases_lt b c) [
  | inl less ↦ rw (le-ltb place (held (members / n) (members % n) b) (before b less)) (first n members place c past before fuel (b + 1) (omega arith) (omega arith))
  | inr same ↦ (
      let e : b ≡ c = omega arith in
      rw e (rw (lt-ltb place (held (members / n) (members % n) c) past) refl))
]

less_by : (s a b : ℕ) → a * s + a < b * s + b → a < b
less_by s a b h = elim (cases_lt a b) [
  | inl less ↦ less
  | inr more ↦ let product = mul-le-mul_left s more in absurd (omega arith)
]

-- q is the number of whole larger buckets before the place
module _ (s l p q : ℕ) (from : q * (s + 1) ≤ p) (to : p < (q + 1) * (s + 1)) (within : p < l * (s + 1)) where
  below : q < l
  below = less_by s q l (omega arith)

  past_larger : p < held s l (q + 1)
  past_larger = let h = below in omega arith

  before_larger : (b : ℕ) → b < q + 1 → held s l b ≤ p
  before_larger b h = let k = below in let le : b ≤ q = omega arith in let product = mul-le-mul_left s le in omega arith

-- r is the number of whole smaller buckets before the place
module _ (n s l p r : ℕ) (after : l * (s + 1) ≤ p) (from : r * s ≤ p - l * (s + 1)) (to : p - l * (s + 1) < (r + 1) * s) (within : p < n * s + l) where
  enough : l + r < n
  enough = elim (cases_lt (l + r) n) [
    | inl less ↦ less
    | inr more ↦ let product = mul-le-mul_left s more in absurd (omega arith)
  ]

  past_smaller : p < held s l (l + r + 1)
  past_smaller = omega arith

  before_smaller : (b : ℕ) → b < l + r + 1 → held s l b ≤ p
  before_smaller b h = let le : b ≤ l + r = omega arith in let product = mul-le-mul_left s le in omega arith

module _ (n m p : ℕ) (some : 0 < n) (there : p < m) where
  members_are : m ≡ n * (m / n) + m % n
  members_are = omega arith

  pub larger_bucket : p < (m % n) * (m / n + 1) → p / (m / n + 1) + 1 ≡ bucket n m p
  larger_bucket h =
      let s = m / n in
      let l = m % n in
      let q = p / (s + 1) in
      let parts : p ≡ (s + 1) * q + p % (s + 1) = omega arith in
      let rest : p % (s + 1) < s + 1 = omega arith in
      let from : q * (s + 1) ≤ p = omega arith in
      let to : p < (q + 1) * (s + 1) = omega arith in
      let few : q < l = below s l p q from to h in
      let rem : l < n = omega arith in
      sym (first n m p (q + 1) (past_larger s l p q from to h) (before_larger s l p q from to h) n 1 (omega arith) (omega arith))

  pub smaller_bucket : (m % n) * (m / n + 1) ≤ p → m % n + (p - (m % n) * (m / n + 1)) / (m / n) + 1 ≡ bucket n m p
  smaller_bucket h =
      let s = m / n in
      let l = m % n in
      let rest = p - l * (s + 1) in
      let r = rest / s in
      let whole = members_are in
      let rem : l < n = omega arith in
      let some_smaller : 0 < s = elim (cases_lt 0 s) [ inl some ↦ some | inr none ↦ (let no_s : s ≡ 0 = omega arith in absurd (not_zero no_s)) ] in
      let parts : rest ≡ s * r + rest % s = omega arith in
      let left : rest % s < s = omega arith in
      let from : r * s ≤ p - l * (s + 1) = omega arith in
      let to : p - l * (s + 1) < (r + 1) * s = omega arith in
      let within : p < n * s + l = omega arith in
      let few : l + r < n = enough n s l p r h from to within in
      sym (first n m p (l + r + 1) (past_smaller n s l p r h from to within) (before_smaller n s l p r h from to within) n 1 (omega arith) (omega arith))
    where
      not_zero : m / n ≡ 0 → ⊥
      not_zero e =
          let whole = members_are in
          let product : n * (m / n) ≡ 0 = ap (λ x. n * x) e ∙ omega arith in
          let cut : (m % n) * (m / n + 1) ≡ m % n = ap (λ x. (m % n) * (x + 1)) e ∙ omega arith in
          omega arith
