-- What is found in a condition goes by the origins of its node's columns, listed or not.
use Rattle.std.proofs.Common.{◌≡◌, ℕ, List, ◌++◌, ap, ◌∙◌, Option}
use Rattle.std.proofs.lemmas.List.{append_assoc}
use Rattle.wd_plan.specs.Expressions.{Expression}
use Rattle.wd_plan.specs.Plans.{PlanTree, Join}
use Rattle.wd_candidates.specs.declared.origins.TableColumn.{TableColumn}
use Rattle.wd_candidates.specs.Origins.{origin}
use Rattle.wd_candidates.specs.AllOrigins.{origin_in, origins}
use Rattle.wd_candidates.proofs.Copies.{origins_are}
use Rattle.wd_varied.specs.Literals.{compared, compared_in, equated, equated_in, in_conditions, in_join}
use Rattle.wd_varied.specs.declared.conditions.Compared.{Compared}
use Rattle.wd_varied.specs.declared.conditions.Equated.{Equated}

module _ {X : Type 0} (f : (ℕ → Option TableColumn) → Expression → List X) where
  filter_found : (plan : PlanTree) (list : List (Option TableColumn)) (e : Expression) (front : List X) → list ≡ origins plan
      → (front ++ in_conditions f plan) ++ f (origin_in list) e ≡ front ++ (in_conditions f plan ++ f (origin plan) e)
  filter_found plan list e front same =
      append_assoc front (in_conditions f plan) (f (origin_in list) e)
      ∙ ap (λ l. front ++ (in_conditions f plan ++ f (origin_in l) e)) same
      ∙ (λ i. front ++ (in_conditions f plan ++ f (λ c. origins_are plan c i) e))

  join_found : (condition : Option Expression) (left right : PlanTree) (list : List (Option TableColumn)) (front : List X) → list ≡ origins left ++ origins right
      → ((front ++ in_conditions f left) ++ in_conditions f right) ++ in_join f (origin_in list) condition ≡ front ++ in_conditions f (Join condition left right)
  join_found condition left right list front same =
      ap (λ l. l ++ in_join f (origin_in list) condition) (append_assoc front (in_conditions f left) (in_conditions f right))
      ∙ append_assoc front (in_conditions f left ++ in_conditions f right) (in_join f (origin_in list) condition)
      ∙ ap (λ l. front ++ ((in_conditions f left ++ in_conditions f right) ++ in_join f (origin_in l) condition)) same
      ∙ (λ i. front ++ ((in_conditions f left ++ in_conditions f right) ++ in_join f (λ c. origins_are (Join condition left right) c i) condition))

-- ---- for the two that are found

pub filter_compared : (plan : PlanTree) (list : List (Option TableColumn)) (e : Expression) (front : List Compared) → list ≡ origins plan
    → (front ++ compared plan) ++ compared_in (origin_in list) e ≡ front ++ (compared plan ++ compared_in (origin plan) e)
filter_compared = filter_found compared_in

pub join_compared : (condition : Option Expression) (left right : PlanTree) (list : List (Option TableColumn)) (front : List Compared) → list ≡ origins left ++ origins right
    → ((front ++ compared left) ++ compared right) ++ in_join compared_in (origin_in list) condition ≡ front ++ compared (Join condition left right)
join_compared = join_found compared_in

pub filter_equated : (plan : PlanTree) (list : List (Option TableColumn)) (e : Expression) (front : List Equated) → list ≡ origins plan
    → (front ++ equated plan) ++ equated_in (origin_in list) e ≡ front ++ (equated plan ++ equated_in (origin plan) e)
filter_equated = filter_found equated_in

pub join_equated : (condition : Option Expression) (left right : PlanTree) (list : List (Option TableColumn)) (front : List Equated) → list ≡ origins left ++ origins right
    → ((front ++ equated left) ++ equated right) ++ in_join equated_in (origin_in list) condition ≡ front ++ equated (Join condition left right)
join_equated = join_found equated_in
