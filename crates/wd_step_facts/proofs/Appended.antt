-- Lists that are made by adding to their end.
use Rattle.std.proofs.Common.{◌≡◌, ℕ, List, [], ◌∷◌, ◌++◌, refl, ◌∙◌, ap}
use Rattle.std.proofs.lemmas.List.{append_assoc}
use Rattle.wd_plan.specs.Expressions.{Expression}
use Rattle.wd_step_facts.specs.Facts.{Fact}
use Rattle.wd_step_facts.specs.Steps.{conjunct_facts, facts_of_conjuncts}

-- the facts of some conjuncts after those of others
pub conjuncts_append : (front : List Fact) (xs ys : List Expression) → (front ++ facts_of_conjuncts xs) ++ facts_of_conjuncts ys ≡ front ++ facts_of_conjuncts (xs ++ ys)
conjuncts_append front xs ys = append_assoc front (facts_of_conjuncts xs) (facts_of_conjuncts ys) ∙ ap (λ l. front ++ l) (joined xs)
  where
    joined : (es : List Expression) → facts_of_conjuncts es ++ facts_of_conjuncts ys ≡ facts_of_conjuncts (es ++ ys)
    joined [] = refl
    joined (e ∷ es) = append_assoc (conjunct_facts e) (facts_of_conjuncts es) (facts_of_conjuncts ys) ∙ ap (λ l. conjunct_facts e ++ l) (joined es)

pub columns_append : (front xs ys : List ℕ) → (front ++ xs) ++ ys ≡ front ++ (xs ++ ys)
columns_append front xs ys = append_assoc front xs ys

pub columns_append_twice : (front xs ys zs : List ℕ) → ((front ++ xs) ++ ys) ++ zs ≡ front ++ (xs ++ (ys ++ zs))
columns_append_twice front xs ys zs = append_assoc (front ++ xs) ys zs ∙ append_assoc front xs (ys ++ zs)
