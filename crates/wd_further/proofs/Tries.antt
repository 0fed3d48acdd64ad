-- How many tries there are where the rows, the work or the orderings are too much to be counted.
use Rattle.std.proofs.Common.{◌≡◌, ℕ, ◌+◌, ◌*◌, ◌/◌, ◌-◌, ◌^◌, ◌<◌, ◌≤◌, leb, max, min, Bool, true, false, refl, sym, ◌∙◌, ap, arith}
use Rattle.std.proofs.Math.Nat.{div-eq_of_lt, le-mul_of_pos_right, min-eq_left, min-eq_right, mul_assoc, mul_comm}
use Rattle.std.proofs.lemmas.Bool.{leb-false, leb-true}

-- where more than the most are counted, nothing is left for any number of them
none_left : (most a b : ℕ) → most < a → 1 ≤ b → most / (a * b) ≡ 0
none_left most a b large h = let more = le-mul_of_pos_right a h in div-eq_of_lt (omega (arith, large, more))

-- a factor is counted as far as more than the most
counted : (most cap a b : ℕ) → most < cap → 1 ≤ b → most / (min a cap * b) ≡ most / (a * b)
counted most cap a b large h = by (leb a cap) refl
  where
    by : (t : Bool) → leb a cap ≡ t → most / (min a cap * b) ≡ most / (a * b)
    by true e = ap (λ k. most / (k * b)) (min-eq_left (leb-true a cap e))
    by false e =
        let above = leb-false a cap e in
        let cut : min a cap ≡ cap = min-eq_right (omega (arith, above)) in
        ap (λ k. most / (k * b)) cut ∙ none_left most cap b large h ∙ sym (none_left most a b (omega (arith, large, above)) h)

-- ---- each of the factors in front

first : (a b c s : ℕ) → ((a * b) * c) * s ≡ a * (b * (c * s))
first a b c s = mul_assoc (a * b) c s ∙ mul_assoc a b (c * s)

second : (a b c s : ℕ) → ((a * b) * c) * s ≡ b * (a * (c * s))
second a b c s = ap (λ k. (k * c) * s) (mul_comm a b) ∙ first b a c s

third : (a b c s : ℕ) → ((a * b) * c) * s ≡ c * ((a * b) * s)
third a b c s = ap (λ k. k * s) (mul_comm (a * b) c) ∙ mul_assoc c (a * b) s

some : (a b : ℕ) → 1 ≤ a → 1 ≤ b → 1 ≤ a * b
some a b h g = let more = le-mul_of_pos_right a g in omega (arith, h, more)

-- ---- all of them

abbrev most : ℕ
most = 60000000

module _ (a b c s : ℕ) (has_a : 1 ≤ a) (has_b : 1 ≤ b) (has_c : 1 ≤ c) (has_s : 1 ≤ s) where
  in_first : (cap : ℕ) → most < cap → most / (((min a cap * b) * c) * s) ≡ most / (((a * b) * c) * s)
  in_first cap large =
      ap (λ k. most / k) (first (min a cap) b c s)
      ∙ counted most cap a (b * (c * s)) large (some b (c * s) has_b (some c s has_c has_s))
      ∙ ap (λ k. most / k) (sym (first a b c s))

  in_second : (cap : ℕ) → most < cap → most / (((a * min b cap) * c) * s) ≡ most / (((a * b) * c) * s)
  in_second cap large =
      ap (λ k. most / k) (second a (min b cap) c s)
      ∙ counted most cap b (a * (c * s)) large (some a (c * s) has_a (some c s has_c has_s))
      ∙ ap (λ k. most / k) (sym (second a b c s))

  in_third : (cap : ℕ) → most < cap → most / (((a * b) * min c cap) * s) ≡ most / (((a * b) * c) * s)
  in_third cap large =
      ap (λ k. most / k) (third a b (min c cap) s)
      ∙ counted most cap c ((a * b) * s) large (some (a * b) s (some a b has_a has_b) has_s)
      ∙ ap (λ k. most / k) (sym (third a b c s))

next_capped : (o : ℕ) → min o (2 ^ 32 - 1) + 1 ≡ min (o + 1) (2 ^ 32)
next_capped o = omega arith

least_capped : (w : ℕ) → max 250 (min w (2 ^ 28)) ≡ min (max 250 w) (2 ^ 28)
least_capped w = omega arith

pub capped : (p o w s : ℕ) → 1 ≤ p → 1 ≤ s
    → min (600 / s) (most / (((min p (2 ^ 28) * (min o (2 ^ 32 - 1) + 1)) * max 250 (min w (2 ^ 28))) * s)) ≡ min (600 / s) (most / (((p * (o + 1)) * max 250 w) * s))
capped p o w s has_p has_s =
    let rows = min p (2 ^ 28) in
    let columns = min (max 250 w) (2 ^ 28) in
    let has_rows : 1 ≤ rows = omega (arith, has_p) in
    ap (min (600 / s))
    ((λ i. most / (((rows * next_capped o i) * least_capped w i) * s))
    ∙ in_third rows (min (o + 1) (2 ^ 32)) (max 250 w) s has_rows (omega arith) (omega arith) has_s (2 ^ 28) (omega arith)
    ∙ in_second rows (o + 1) (max 250 w) s has_rows (omega arith) (omega arith) has_s (2 ^ 32) (omega arith)
    ∙ in_first p (o + 1) (max 250 w) s has_p (omega arith) (omega arith) has_s (2 ^ 28) (omega arith))
