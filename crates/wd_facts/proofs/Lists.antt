-- Facts of each element of two lists, one after the other, and of the numbers from one on.
use Rattle.std.proofs.Common.{◌≡◌, ℕ, zero, suc, ◌+◌, ◌<◌, ◌≤◌, Bool, true, false, List, [], ◌∷◌, ◌++◌, refl, subst, arith, nat_eq}
use Rattle.std.specs.List.{AllByRecursion, range_with_len}
use Rattle.std.proofs.lemmas.Bool.{eqb-true, eqb-false}
use Rattle.wd_step_facts.specs.declared.facts.Member.{Member}
use Rattle.wd_step_facts.specs.declared.facts.Member.TheVariants as member
use Rattle.wd_step_facts.specs.Facts.{columns_named}

pub all_append : {X : Type 0} (P : X → Type 0) (xs ys : List X) → AllByRecursion P xs → AllByRecursion P ys → AllByRecursion P (xs ++ ys)
all_append P [] ys a b = b
all_append P (x ∷ xs) ys a b = (a.0, all_append P xs ys a.1 b)

pub all_left : {X : Type 0} (P : X → Type 0) (xs ys : List X) → AllByRecursion P (xs ++ ys) → AllByRecursion P xs
all_left P [] ys a = tt
all_left P (x ∷ xs) ys a = (a.0, all_left P xs ys a.1)

pub all_right : {X : Type 0} (P : X → Type 0) (xs ys : List X) → AllByRecursion P (xs ++ ys) → AllByRecursion P ys
all_right P [] ys a = a
all_right P (x ∷ xs) ys a = all_right P xs ys a.1

-- one of the columns from a on
range_step : (P : Member → Type 0) (a n c : ℕ) (b : Bool) → nat_eq a c ≡ b → P (member.Column a) → a ≤ c → (a + 1 ≤ c → P (member.Column c)) → P (member.Column c)
range_step P a n c true e h k later = subst (λ x. P (member.Column x)) (eqb-true a c e) h
range_step P a n c false e h k later = later (let g = eqb-false a c e in omega arith)

pub range_pick : (P : Member → Type 0) (a n c : ℕ) → AllByRecursion P (columns_named (range_with_len a n)) → a ≤ c → c < a + n → P (member.Column c)
range_pick P a zero c h k l = absurd (omega arith)
range_pick P a (suc n) c h k l = range_step P a n c (nat_eq a c) refl h.0 k (λ m. range_pick P (a + 1) n c h.1 m (omega arith))
