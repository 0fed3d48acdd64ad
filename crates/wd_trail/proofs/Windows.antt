-- A Window of which one class is turned.
use Rattle.std.proofs.Common.{◌≡◌, ℕ, ◌<◌, false, nat_lt, cond, List, length, Option, Some, None, Result, Ok, inl, inr, sym, ap, ◌∙◌, subst, arith, zero-add}
use Rattle.std.proofs.lemmas.Bool.{cases_eq, eq-eqb}
use Rattle.wd_value.specs.declared.value.Fault.{Fault}
use Rattle.wd_value.specs.Rows.{Row}
use Rattle.wd_plan.specs.Outcomes.{RowsOrFault, class_at, ordering_at, window_outcome}
use Rattle.wd_plan.specs.Plans.{Window, WindowRule}
use Rattle.wd_join.specs.Joins.{has_more_rows}
use Rattle.wd_nodes.specs.Relation.{most_rows}
use Rattle.wd_partition.specs.declared.turn.Turn.{Turn}
use Rattle.wd_partition.specs.declared.turn.Turn.TheVariants.{AsGiven}
use Rattle.wd_eval.specs.Tied.{IsSortedOrdering, IsSortedOver, turn_of, turned_at}
use Rattle.wd_eval.specs.Ties.{AreSortedOver}
use Rattle.wd_eval.specs.Turning.{AreSameButFor, IsStepUnder, IsTurnedWindow, rows_turned}
use Rattle.wd_eval.proofs.Putting.{lawful_all}
use Rattle.wd_eval.proofs.Sizes.{fewer_step}
use Rattle.wd_trail.proofs.Giving.{as_given}

-- ---- one class of it turned

-- all orderings are sorted where that of this class is sorted in its turn, and the other classes have the same as before
pub sorted_others : (w : WindowRule) (rows : List Row) (class : ℕ) (turn : Turn) (own others : List (List ℕ)) → AreSortedOver w.classes (Ok rows) None 0 (length w.classes) own → AreSameButFor class own others → IsSortedOrdering (class_at w class) turn rows (ordering_at others class)
    → AreSortedOver w.classes (Ok rows) (Some (turned_at turn class)) 0 (length w.classes) others
sorted_others w rows class turn own others all same this =
    let turned = turned_at turn class in
    let IsOwn = λ (k : ℕ) (u : Turn) (ordering : List ℕ). IsSortedOver (class_at w k) u (Ok rows) ordering in
    let each : (k : ℕ) → k < length w.classes → IsOwn k (turn_of (Some turned) k) (ordering_at others k) = λ k h. elim (cases_eq k class) [
      | inl e ↦ (
          let here : turn_of (Some turned) k ≡ turn = ap (λ b. cond b turn AsGiven) (eq-eqb class k (sym e)) in
          subst (λ u. IsOwn k u (ordering_at others k)) (sym here) (subst (λ c. IsOwn c turn (ordering_at others c)) (sym e) this))
      | inr other ↦ subst (λ u. IsOwn k u (ordering_at others k)) (sym (as_given turned k (λ e. other (sym e)))) (subst (IsOwn k AsGiven) (sym (same.same k other)) (all.each k h))
    ] in
    record { long = same.long ∙ all.long; each = λ k h. subst (λ m. IsOwn k (turn_of (Some turned) m) (ordering_at others k)) (sym (zero-add k)) (each k h) }

pub window_step : (w : WindowRule) (rows : List Row) (class : ℕ) (turn : Turn) (given found : RowsOrFault) → nat_lt most_rows (length rows) ≡ false → (s : IsStepUnder (Window w) rows None given) → IsTurnedWindow w rows s.own class turn found
    → IsStepUnder (Window w) rows (Some (turned_at turn class)) found
window_step w rows class turn given found small s t =
    let turned = turned_at turn class in
    let sorted = sorted_others w rows class turn s.own t.others s.sorted t.same t.sorted in
    record {
      own = t.others;
      sorted = sorted;
      small = ap (has_more_rows most_rows) t.is ∙ fewer_step most_rows (Window w) t.others (Ok rows) tt (lawful_all w.classes (Ok rows) (Some turned) 0 t.others sorted) small;
      is = t.is;
    }

-- what is told of a Window over its input and what it gave, as these are read
pub window_told : (w : WindowRule) (rows given source before : List Row) (class : ℕ) (turn : Turn) (r : Result (Option (List Row)) Fault) → source ≡ rows → before ≡ given → nat_lt most_rows (length rows) ≡ false → class < length w.classes
    → ((own : List (List ℕ)) → class < length own → Ok before ≡ window_outcome w source own → IsTurnedWindow w source own class turn (rows_turned before r))
    → IsStepUnder (Window w) rows None (Ok given) → IsStepUnder (Window w) rows (Some (turned_at turn class)) (rows_turned given r)
window_told w rows given source before class turn r input shown small within told s =
    let there : class < length s.own = (let many = s.sorted.long in omega arith) in
    let is = subst (λ rs. Ok before ≡ window_outcome w rs s.own) (sym input) (subst (λ (rs : List Row). Ok rs ≡ window_outcome w rows s.own) (sym shown) s.is) in
    let turned = subst (λ rs. IsTurnedWindow w rs s.own class turn (rows_turned before r)) input (told s.own there is) in
    window_step w rows class turn (Ok given) (rows_turned given r) small s (subst (λ rs. IsTurnedWindow w rows s.own class turn (rows_turned rs r)) shown turned)
