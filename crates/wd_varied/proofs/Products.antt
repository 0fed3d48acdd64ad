-- Products that are counted up to a bound.
use Rattle.std.proofs.Common.{◌≡◌, ℕ, ◌*◌, ◌^◌, ◌≤◌, leb, nat_le, min, Bool, true, false, refl, sym, ◌∙◌, ap, arith}
use Rattle.std.proofs.Math.Nat.{le-mul_of_pos_right, min-eq_left, min-eq_right, mul_comm}
use Rattle.std.proofs.lemmas.Bool.{leb-false, leb-true, lt-leb}
use Rattle.wd_plan.specs.Plans.{PlanTree, Scan, Join, Over}
use Rattle.wd_varied.specs.Sizes.{paired}

-- tables with rows pair to some
pub some_pairs : (rows : ℕ) (plan : PlanTree) → 1 ≤ rows → 1 ≤ paired rows plan
some_pairs rows (Scan table columns) h = h
some_pairs rows (Join condition left right) h =
    let a = some_pairs rows left h in
    let b = some_pairs rows right h in
    let more : paired rows left ≤ paired rows left * paired rows right = le-mul_of_pos_right (paired rows left) b in
    omega (arith, a, more)
some_pairs rows (Over step input) h = some_pairs rows input h

-- a product is counted up to a bound by factors that are
product : (a b most : ℕ) → 1 ≤ a → 1 ≤ b → 1 ≤ most → min (min a most * min b most) most ≡ min (a * b) most
product a b most some also bound = by (leb a most) (leb b most) refl refl
  where
    above : (x y : ℕ) → most ≤ x → 1 ≤ y → most ≤ x * y
    above x y large h = let more = le-mul_of_pos_right x h in omega (arith, large, more)

    beyond : (x y : ℕ) → most ≤ y → 1 ≤ x → most ≤ x * y
    beyond x y large h = let more = le-mul_of_pos_right y h in let turned = mul_comm y x in omega (arith, large, more, turned)

    by : (s t : Bool) → leb a most ≡ s → leb b most ≡ t → min (min a most * min b most) most ≡ min (a * b) most
    by true true e f = (λ j. min (min-eq_left (leb-true a most e) j * min-eq_left (leb-true b most f) j) most)
    by true false e f =
        let large = leb-false b most f in
        let one : min a most ≡ a = min-eq_left (leb-true a most e) in
        let other : min b most ≡ most = min-eq_right (omega (arith, large)) in
        let short : most ≤ a * most = beyond a most (omega arith) some in
        let long : most ≤ a * b = beyond a b (omega (arith, large)) some in
        (λ j. min (one j * other j) most) ∙ min-eq_right short ∙ sym (min-eq_right long)
    by false t e f =
        let large = leb-false a most e in
        let one : min a most ≡ most = min-eq_right (omega (arith, large)) in
        let has : 1 ≤ min b most = omega (arith, also, bound) in
        let short : most ≤ most * min b most = above most (min b most) (omega arith) has in
        let long : most ≤ a * b = above a b (omega (arith, large)) also in
        ap (λ k. min (k * min b most) most) one ∙ min-eq_right short ∙ sym (min-eq_right long)

pub capped : (rows : ℕ) (left right : PlanTree) → 1 ≤ rows → min (min (paired rows left) (2 ^ 28) * min (paired rows right) (2 ^ 28)) (2 ^ 28) ≡ min (paired rows left * paired rows right) (2 ^ 28)
capped rows left right h = product (paired rows left) (paired rows right) (2 ^ 28) (some_pairs rows left h) (some_pairs rows right h) (omega arith)

-- a number that is counted up to more is small where its count is
pub few : (n : ℕ) → nat_le (min n (2 ^ 28)) 16384 ≡ nat_le n 16384
few n = by (leb n (2 ^ 28)) refl
  where
    by : (t : Bool) → leb n (2 ^ 28) ≡ t → nat_le (min n (2 ^ 28)) 16384 ≡ nat_le n 16384
    by true e = ap (λ k. nat_le k 16384) (min-eq_left (leb-true n (2 ^ 28) e))
    by false e =
        let above = leb-false n (2 ^ 28) e in
        let cut : min n (2 ^ 28) ≡ 2 ^ 28 = min-eq_right (omega (arith, above)) in
        ap (λ k. nat_le k 16384) cut ∙ sym (lt-leb n 16384 (omega (arith, above)))
