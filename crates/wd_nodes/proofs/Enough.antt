-- Pairs that are not made yet: those that serve below a condition, and how many they are.
use Rattle.std.proofs.Common.{◌≡◌, ℕ, ◌*◌, ◌/◌, ◌<◌, false, List, [], ◌∷◌, ◌++◌, length, refl, sym, ap, ◌∙◌, arith, inl, inr}
use Rattle.std.specs.Prelude.{nat_lt}
use Rattle.std.proofs.lemmas.Bool.{cases_lt, le-ltb, lt-ltb}
use Rattle.std.proofs.lemmas.List.{append_assoc, map-append}
use Rattle.std.proofs.lemmas.Nat.{div_below, le-div}
use Rattle.wd_value.specs.Rows.{Row}
use Rattle.wd_plan.specs.Expressions.{Expression}
use Rattle.wd_plan.specs.Outcomes.{filter_outcome, pairs}
use Rattle.wd_join.specs.Joins.{AreEnough}
use Rattle.wd_join.proofs.Agreeing.{pairs_append}
use Rattle.wd_join.proofs.Joining.{length-pairs, pairs_with}

-- ---- products of three

with_twice : (x y : Row) (c : List Row) → pairs_with (x ++ y) c ≡ pairs_with x (pairs_with y c)
with_twice x y [] = refl
with_twice x y (z ∷ c) = λ i. append_assoc x y z i ∷ with_twice x y c i

with_pairs : (x : Row) (b c : List Row) → pairs (pairs_with x b) c ≡ pairs_with x (pairs b c)
with_pairs x [] c = refl
with_pairs x (y ∷ b) c = (λ i. with_twice x y c i ++ with_pairs x b c i) ∙ sym (map-append (λ r. x ++ r) (pairs_with y c) (pairs b c))

pairs_assoc : (a b c : List Row) → pairs (pairs a b) c ≡ pairs a (pairs b c)
pairs_assoc [] b c = refl
pairs_assoc (x ∷ a) b c = pairs_append (pairs_with x b) (pairs a b) c ∙ (λ i. with_pairs x b c i ++ pairs_assoc a b c i)

-- ---- what serves below a condition

pub AreEnough-pairs : (e : Expression) (all some right rows : List Row) → AreEnough e all some → AreEnough e (pairs some right) rows → AreEnough e (pairs all right) rows
AreEnough-pairs e all some right rows h k = λ more. k more ∙ ap (filter_outcome e) (pairs_assoc some right more) ∙ h (pairs right more) ∙ sym (ap (filter_outcome e) (pairs_assoc all right more))

-- ---- how many there are

more_than : (most r l : ℕ) → 0 < r → nat_lt (most / r) l ≡ nat_lt most (l * r)
more_than most r l some = elim (cases_lt most (l * r)) [
  | inl less ↦ lt-ltb (most / r) l (div_below most r l some less) ∙ sym (lt-ltb most (l * r) less)
  | inr more ↦ le-ltb (most / r) l (le-div l most r some more) ∙ sym (le-ltb most (l * r) more)
]

pub more_pairs : (most : ℕ) (left right : List Row) → 0 < length right → nat_lt (most / length right) (length left) ≡ nat_lt most (length (pairs left right))
more_pairs most left right some = more_than most (length right) (length left) some ∙ sym (ap (nat_lt most) (length-pairs left right))

pub no_more_pairs : (most : ℕ) (left right : List Row) → length right ≡ 0 → false ≡ nat_lt most (length (pairs left right))
no_more_pairs most left right none =
    let long = length-pairs left right in
    let all : length left * length right ≡ 0 = ap (λ n. length left * n) none ∙ omega arith in
    sym (le-ltb most (length (pairs left right)) (omega arith))
