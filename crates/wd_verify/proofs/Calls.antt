-- The columns of the classes of calls.
use Rattle.std.proofs.Common.{◌≡◌, ℕ, zero, suc, ◌<◌, Bool, List, [], ◌∷◌, map, length, ◌∙◌, ap, arith, slice_index_or}
use Rattle.wd_plan.specs.Outcomes.{class_at}
use Rattle.wd_plan.specs.Plans.{ClassRule, WindowRule}
use Rattle.wd_plan.specs.Sorting.{class_columns}
use Rattle.wd_sets.specs.Sets.{is_in}

abbrev among : ClassRule → ℕ → Bool
among class = is_in (class_columns class)

-- what shows the columns of a class, at its number among those that show each
pub class_there : {X : Type 0} (f : X → ℕ → Bool) (w : WindowRule) (sets : List X) (k : ℕ) (x : X) → k < length w.classes → map f sets ≡ map (λ class. is_in (class_columns class)) w.classes → x ≡ slice_index_or sets k x → f x ≡ is_in (class_columns (class_at w k))
class_there {X = X} f w sets k x h e is = ap f is ∙ at sets w.classes k h e
  where
    at : (xs : List X) (classes : List ClassRule) (n : ℕ) → n < length classes → map f xs ≡ map among classes → f (slice_index_or xs n x) ≡ among (slice_index_or classes n (record { partition = []; order = [] }))
    at xs [] n h e = absurd (omega arith)
    at [] (class ∷ classes) n h e = cc
    at (y ∷ xs) (class ∷ classes) zero h e = let g : f y ≡ among class = cc in g
    at (y ∷ xs) (class ∷ classes) (suc n) h e = let g : map f xs ≡ map among classes = cc in at xs classes n (omega arith) g
