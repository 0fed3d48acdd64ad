-- Each plan has a choice of sorted orderings over each instance, and all of them give one outcome.
use Rattle.std.proofs.Common.{◌≡◌, ℕ, zero, suc, ◌+◌, ◌<◌, ◌≤◌, List, [], ◌∷◌, ◌++◌, drop, length, Option, Ok, Err, refl, sym, ap, ◌∙◌, subst, arith, length-append}
use Rattle.std.proofs.Math.Seq.{drop-append_seam}
use Rattle.std.proofs.lemmas.List.{get_or-append-add}
use Rattle.wd_value.specs.Rows.{Instance}
use Rattle.wd_plan.specs.Outcomes.{RowsOrFault, class_among, ordering_at, outcome}
use Rattle.wd_plan.specs.Plans.{ClassRule, PlanTree, Scan, Join, Over, step_classes, ordering_count}
use Rattle.wd_plan.proofs.ChoiceLaws.{outcome-append}
use Rattle.wd_partition.specs.Columns.{given_positions, sort_columns}
use Rattle.wd_eval.specs.Laws.{HasOneStableOutcome, HasStableChoice}
use Rattle.wd_eval.specs.Tied.{AreTied, IsSortedOver, IsTurnedRefused, turn_of}
use Rattle.wd_eval.specs.Ties.{IsUntied}
use Rattle.wd_eval.specs.declared.error.EvalError.{EvalError}
use Rattle.wd_eval.specs.declared.error.EvalError.TheVariants.{NotValid, TooManyRows, OutOfMemory}
use Rattle.wd_partition.specs.declared.turn.Turn.{Turn}
use Rattle.wd_eval.specs.declared.turned.Turned.{Turned}
use Rattle.wd_eval.proofs.SomeSort.{some_stable_sort}
use Rattle.wd_eval.proofs.Tying.{one_outcome, tied_append}

some_sorted : (class : ClassRule) (turn : Turn) (input : RowsOrFault) → (ordering : List ℕ) × IsSortedOver class turn input ordering
some_sorted class turn (Ok rows) = some_stable_sort (sort_columns class) rows (given_positions turn (length rows))
some_sorted class turn (Err fault) = ([], refl)

-- one for each class
some_own : (classes : List ClassRule) (turn : ℕ → Turn) (input : RowsOrFault) → (own : List (List ℕ)) × (length own ≡ length classes) × ((k : ℕ) → k < length classes → IsSortedOver (class_among classes k) (turn k) input (ordering_at own k))
some_own [] turn input = ([], refl, λ k h. absurd (omega arith))
some_own (class ∷ classes) turn input =
    let one = some_sorted class (turn 0) input in
    let others = some_own classes (λ k. turn (suc k)) input in
    (one.0 ∷ others.0, ap suc others.1, at_place one.0 others.0 one.1 others.2)
  where
    at_place : (first : List ℕ) (own : List (List ℕ)) → IsSortedOver class (turn 0) input first → ((k : ℕ) → k < length classes → IsSortedOver (class_among classes k) (turn (suc k)) input (ordering_at own k))
        → (k : ℕ) → k < length (class ∷ classes) → IsSortedOver (class_among (class ∷ classes) k) (turn k) input (ordering_at (first ∷ own) k)
    at_place first own s each zero h = s
    at_place first own s each (suc k) h = each k (omega arith)

module _ (instance : Instance) (turned : Option Turned) where
  some_tied : (plan : PlanTree) (first : ℕ) → (choice : List (List ℕ)) × (length choice ≡ ordering_count plan) × AreTied plan instance turned first choice
  some_tied (Scan table columns) first = ([], refl, tt)
  some_tied (Join condition left right) first =
      let n = ordering_count left in
      let l = some_tied left first in
      let r = some_tied right (first + n) in
      let long : length l.0 ≡ n = l.1 in
      let size : length r.0 ≡ ordering_count right = r.1 in
      let after : drop n (l.0 ++ r.0) ≡ r.0 = subst (λ k. drop k (l.0 ++ r.0) ≡ r.0) long (drop-append_seam l.0 r.0) in (
        l.0 ++ r.0,
        length-append l.0 r.0 ∙ omega arith,
        (tied_append instance turned left first l.0 r.0 (omega arith) l.2, subst (AreTied right instance turned (first + n)) (sym after) r.2),
      )
  some_tied (Over step input) first =
      let n = ordering_count input in
      let class = class_among (step_classes step) in
      let b = some_tied input first in
      let long : length b.0 ≡ n = b.1 in
      let turn = λ (k : ℕ). turn_of turned (first + n + k) in
      let own = some_own (step_classes step) turn (outcome input instance b.0) in
      let size : length own.0 ≡ length (step_classes step) = own.1 in
      let below : outcome input instance (b.0 ++ own.0) ≡ outcome input instance b.0 = outcome-append input instance b.0 own.0 (omega arith) in
      let at : (k : ℕ) → ordering_at (b.0 ++ own.0) (n + k) ≡ ordering_at own.0 k = λ k. ap (λ m. ordering_at (b.0 ++ own.0) (m + k)) (sym long) ∙ get_or-append-add b.0 own.0 k [] in (
        b.0 ++ own.0,
        length-append b.0 own.0 ∙ omega arith,
        (
          tied_append instance turned input first b.0 own.0 (omega arith) b.2,
          λ k h. subst (IsSortedOver (class k) (turn k) (outcome input instance (b.0 ++ own.0))) (sym (at k))
              (subst (λ (r : RowsOrFault). IsSortedOver (class k) (turn k) r (ordering_at own.0 k)) (sym below) (own.2 k h)),
        ),
      )

pub has_stable_choice : HasStableChoice
has_stable_choice plan instance turned = let t = some_tied instance turned plan 0 in (t.0, record { number = t.1; tied = t.2 })

pub has_one_stable_outcome : HasOneStableOutcome
has_one_stable_outcome plan instance turned a b s t =
    let long : ordering_count plan ≤ length a = (let n = s.number in omega arith) in
    let longer : ordering_count plan ≤ length b = (let n = t.number in omega arith) in
    one_outcome instance turned plan 0 a b long longer s.tied t.tied

-- why there is no outcome under that choice
pub refused_from : (plan : PlanTree) (instance : Instance) (turned : Option Turned) (e : EvalError) → IsUntied plan instance turned 0 e → IsTurnedRefused plan instance turned e
refused_from plan instance turned (NotValid place) h = h
refused_from plan instance turned TooManyRows h =
    let t = has_stable_choice plan instance turned in
    let long : ordering_count plan ≤ length t.0 = (let n = t.1.number in omega arith) in
    record { choice = t.0; tied = t.1; large = h t.0 long t.1.tied }
refused_from plan instance turned OutOfMemory h = tt
