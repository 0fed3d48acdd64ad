-- A mask, one column on.
use Rattle.std.proofs.Common.{◌≡◌, ℕ, suc, ◌+◌, ◌*◌, ◌^◌, ◌<◌, ◌≤◌, Bool, true, false, cond, List, [], ◌∷◌, ◌++◌, length, refl, ◌∙◌, ap, arith}
use Rattle.std.proofs.Math.Nat.{pow-suc}
use Rattle.std.proofs.Math.Pow.{pow_mono}
use Rattle.std.proofs.lemmas.List.{length_push}
use Rattle.wd_plan.specs.Outcomes.{mask}
use Rattle.wd_plan.specs.Plans.{has}

-- a bit
abbrev pub bit : Bool → ℕ
bit b = cond b 0 1

-- a power of two, one on
next_power : (n : ℕ) → 2 ^ suc n ≡ 2 * 2 ^ n
next_power n = let p = pow-suc 2 n in omega arith

weight : (b : Bool) (n : ℕ) → cond b 0 (2 ^ (n + 1)) ≡ 2 * cond b 0 (2 ^ n)
weight true n = refl
weight false n = let e : n + 1 ≡ suc n = omega arith in ap (λ k. 2 ^ k) e ∙ next_power n

last_bit : (b : Bool) → cond b 0 (2 ^ 0) + 0 ≡ 2 * 0 + bit b
last_bit true = refl
last_bit false = refl

pub mask_push : (set columns : List ℕ) (c : ℕ) → mask set (columns ++ c ∷ []) ≡ 2 * mask set columns + bit (has set c)
mask_push set [] c = last_bit (has set c)
mask_push set (d ∷ columns) c =
    let long = length_push columns c in
    let w : cond (has set d) 0 (2 ^ length (columns ++ c ∷ [])) ≡ 2 * cond (has set d) 0 (2 ^ length columns) = ap (λ n. cond (has set d) 0 (2 ^ n)) long ∙ weight (has set d) (length columns) in
    let rest = mask_push set columns c in
    omega arith

least_bits : (b : Bool) (n : ℕ) → cond b 0 n ≤ n
least_bits true n = omega arith
least_bits false n = omega arith

mask_small : (set columns : List ℕ) → mask set columns < 2 ^ length columns
mask_small set [] = omega arith
mask_small set (c ∷ columns) =
    let rest = mask_small set columns in
    let own = least_bits (has set c) (2 ^ length columns) in
    let step : 2 ^ length (c ∷ columns) ≡ 2 * 2 ^ length columns = next_power (length columns) in
    omega arith

-- a mask of few columns
pub mask_fits : (set columns : List ℕ) → length columns ≤ 31 → mask set columns < 2 ^ 31
mask_fits set columns h =
    let small = mask_small set columns in
    let most = pow_mono h in
    omega arith
