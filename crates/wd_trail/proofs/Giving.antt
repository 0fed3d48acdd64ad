-- What a node gives under sorted orderings, from what is below it.
use Rattle.std.proofs.Common.{◌≡◌, ℕ, ◌+◌, ◌<◌, ◌≤◌, Bool, false, cond, ◌||◌, List, [], ◌++◌, take, drop, length, Option, Some, None, Ok, inl, inr, sym, ap, ◌∙◌, subst, arith, length-append, zero-add}
use Rattle.std.specs.Prelude.{nat_eq}
use Rattle.std.proofs.Math.Seq.{drop-append_seam}
use Rattle.std.proofs.lemmas.Bool.{cases_eq, eq-eqb, ne_eqb}
use Rattle.std.proofs.lemmas.List.{get_or-append-add, take_all}
use Rattle.wd_value.specs.Rows.{Row, Instance}
use Rattle.wd_plan.specs.Choices.{AreLawful, AreOrderingsOver}
use Rattle.wd_plan.specs.Expressions.{Expression}
use Rattle.wd_plan.specs.Faults.{and_then}
use Rattle.wd_plan.specs.Outcomes.{RowsOrFault, class_among, join_outcome, ordering_at, outcome, pairs, step_outcome}
use Rattle.wd_plan.specs.Plans.{Step, PlanTree, Scan, Join, Over, step_classes, ordering_count, own_orderings}
use Rattle.wd_plan.proofs.ChoiceLaws.{AreLawful-append, outcome-append}
use Rattle.wd_join.specs.Joins.{has_more_rows}
use Rattle.wd_nodes.specs.Relation.{most_rows}
use Rattle.wd_partition.specs.declared.turn.Turn.{Turn}
use Rattle.wd_partition.specs.declared.turn.Turn.TheVariants.{AsGiven}
use Rattle.wd_eval.specs.Steps.{has_large_step, is_large}
use Rattle.wd_eval.specs.Tied.{AreTied, IsSortedOver, turn_of, turned_at}
use Rattle.wd_eval.specs.Turning.{IsStepUnder}
use Rattle.wd_eval.specs.declared.turned.Turned.{Turned}
use Rattle.wd_eval.proofs.Putting.{lawful_all}
use Rattle.wd_eval.proofs.Tying.{large-append, tied_append}
use Rattle.wd_trail.specs.Trails.{Gives, IsJoinOver}

-- ---- turns

pub as_given : (t : Turned) (number : ℕ) → (t.number ≡ number → ⊥) → turn_of (Some t) number ≡ AsGiven
as_given t number h = ap (λ b. cond b t.turn AsGiven) (ne_eqb t.number number h)

same_number : (n a b : ℕ) → nat_eq (n + a) (n + b) ≡ nat_eq a b
same_number n a b = elim (cases_eq a b) [
  | inl e ↦ eq-eqb (n + a) (n + b) (omega arith) ∙ sym (eq-eqb a b e)
  | inr e ↦ ne_eqb (n + a) (n + b) (λ h. e (omega arith)) ∙ sym (ne_eqb a b e)
]

-- an ordering within a step, and within the whole plan
turned_in : (turn : Turn) (before class k : ℕ) → turn_of (Some (turned_at turn (before + class))) (before + k) ≡ turn_of (Some (turned_at turn class)) k
turned_in turn before class k = ap (λ b. cond b turn AsGiven) (same_number before class k)

-- nothing of a plan is turned
abbrev pub IsElsewhere : PlanTree → Option Turned → ℕ → Type 0
IsElsewhere plan turned first = (k : ℕ) → k < ordering_count plan → turn_of turned (first + k) ≡ AsGiven

pub earlier : (plan : PlanTree) (t : Turned) (first : ℕ) → t.number < first → IsElsewhere plan (Some t) first
earlier plan t first h k l = as_given t (first + k) (λ e. omega arith)

pub later : (plan : PlanTree) (t : Turned) (first : ℕ) → first + ordering_count plan ≤ t.number → IsElsewhere plan (Some t) first
later plan t first h k l = as_given t (first + k) (λ e. omega arith)

module _ (instance : Instance) (turned : Option Turned) where
  tied_elsewhere : (plan : PlanTree) (old first : ℕ) (choice : List (List ℕ)) → IsElsewhere plan turned first → AreTied plan instance None old choice → AreTied plan instance turned first choice
  tied_elsewhere (Scan table columns) old first choice away s = tt
  tied_elsewhere (Join condition left right) old first choice away s =
      let n = ordering_count left in (
        tied_elsewhere left old first choice (λ k h. away k (omega arith)) s.0,
        tied_elsewhere right (old + n) (first + n) (drop n choice) (λ k h. (let same : first + n + k ≡ first + (n + k) = omega arith in ap (turn_of turned) same ∙ away (n + k) (omega arith))) s.1,
      )
  tied_elsewhere (Over step input) old first choice away s =
      let n = ordering_count input in (
        tied_elsewhere input old first choice (λ k h. away k (omega arith)) s.0,
        λ k h. (
            let same : first + n + k ≡ first + (n + k) = omega arith in
            let given : turn_of turned (first + n + k) ≡ AsGiven = ap (turn_of turned) same ∙ away (n + k) (omega arith) in
            subst (λ (turn : Turn). IsSortedOver (class_among (step_classes step) k) turn (outcome input instance choice) (ordering_at choice (n + k))) (sym given) (s.1 k h)),
      )

  pub gives_elsewhere : (plan : PlanTree) (old first : ℕ) (rows : List Row) → IsElsewhere plan turned first → Gives plan instance None old rows → Gives plan instance turned first rows
  gives_elsewhere plan old first rows away g = record {
    choice = g.choice;
    valid = g.valid;
    tied = tied_elsewhere plan old first g.choice away g.tied;
    small = g.small;
    is = g.is;
  }

-- ---- a step

neither : (a b : Bool) → a ≡ false → b ≡ false → (a || b) ≡ false
neither a b h g = λ i. h i || g i

module _ (instance : Instance) (turned : Option Turned) (first : ℕ) where
  module _ (step : Step) (input : PlanTree) (rows found : List Row) (below : Gives input instance turned first rows) where
    -- its orderings, with the turns that they have in the whole plan
    abbrev pub AreOwn : List (List ℕ) → Type 0
    AreOwn own = (length own ≡ length (step_classes step))
        × ((k : ℕ) → k < length (step_classes step) → IsSortedOver (class_among (step_classes step) k) (turn_of turned (first + ordering_count input + k)) (Ok rows) (ordering_at own k))

    pub step_gives : (own : List (List ℕ)) → AreOwn own → AreOrderingsOver (step_classes step) (Ok rows) own → Ok found ≡ step_outcome step own rows → has_more_rows most_rows (Ok found) ≡ false → Gives (Over step input) instance turned first found
    step_gives own sorted lawful is small =
        let c = below.choice in
        let n = ordering_count input in
        let m = length (step_classes step) in
        let class = class_among (step_classes step) in
        let number = below.valid.number in
        let size = sorted.0 in
        let enough : n ≤ length c = omega arith in
        let long = length-append c own in
        let same : outcome input instance (c ++ own) ≡ Ok rows = outcome-append input instance c own enough ∙ below.is in
        let after : drop n (c ++ own) ≡ own = subst (λ k. drop k (c ++ own) ≡ own) number (drop-append_seam c own) in
        let owned : own_orderings step input (c ++ own) ≡ own = ap (take m) after ∙ ap (λ k. take k own) (sym size) ∙ take_all (length own) own (omega arith) in
        let at : (k : ℕ) → ordering_at (c ++ own) (n + k) ≡ ordering_at own k = λ k. ap (λ i. ordering_at (c ++ own) (i + k)) (sym number) ∙ get_or-append-add c own k [] in
        let gives : outcome (Over step input) instance (c ++ own) ≡ Ok found = (λ i. and_then (same i) (step_outcome step (owned i))) ∙ sym is in
        record {
          choice = c ++ own;
          valid = record {
            number = long ∙ omega arith;
            lawful = (
              AreLawful-append input instance c own enough below.valid.lawful,
              subst (λ (r : RowsOrFault). AreOrderingsOver (step_classes step) r (own_orderings step input (c ++ own))) (sym same) (subst (AreOrderingsOver (step_classes step) (Ok rows)) (sym owned) lawful),
            );
          };
          tied = (
            tied_append instance turned input first c own enough below.tied,
            λ k h. subst (IsSortedOver (class k) (turn_of turned (first + n + k)) (outcome input instance (c ++ own))) (sym (at k))
                (subst (λ (r : RowsOrFault). IsSortedOver (class k) (turn_of turned (first + n + k)) r (ordering_at own k)) (sym same) (sorted.1 k h)),
          );
          small = neither (has_large_step input instance (c ++ own)) (is_large (Over step input) instance (c ++ own)) (large-append instance input c own enough ∙ below.small) (ap (has_more_rows most_rows) gives ∙ small);
          is = gives;
        }

-- what is below the turned ordering, and then a step of which none is turned
pub step_after : (instance : Instance) (t : Turned) (first : ℕ) (step : Step) (input : PlanTree) (rows found : List Row) → Gives input instance (Some t) first rows → t.number < first + ordering_count input → IsStepUnder step rows None (Ok found) → Gives (Over step input) instance (Some t) first found
step_after instance t first step input rows found below earlier s =
    let turn = λ (k : ℕ). turn_of (Some t) (first + ordering_count input + k) in
    step_gives instance (Some t) first step input rows found below s.own
    (s.sorted.long, λ k h. subst (λ (u : Turn). IsSortedOver (class_among (step_classes step) k) u (Ok rows) (ordering_at s.own k)) (sym (as_given t (first + ordering_count input + k) (λ e. omega arith))) (s.sorted.each k h))
    (lawful_all (step_classes step) (Ok rows) None 0 s.own s.sorted) s.is s.small

-- the turned ordering is one of the step's
pub step_turned : (instance : Instance) (turn : Turn) (first class : ℕ) (step : Step) (input : PlanTree) (rows found : List Row) → Gives input instance None 0 rows → IsStepUnder step rows (Some (turned_at turn class)) (Ok found)
    → Gives (Over step input) instance (Some (turned_at turn (first + (ordering_count input + class)))) first found
step_turned instance turn first class step input rows found below s =
    let n = ordering_count input in
    let t = turned_at turn (first + (n + class)) in
    let same : first + n + class ≡ first + (n + class) = omega arith in
    step_gives instance (Some t) first step input rows found (gives_elsewhere instance (Some t) input 0 first rows (later input t first (omega arith)) below) s.own (
      s.sorted.long,
      λ k h. subst (λ (u : Turn). IsSortedOver (class_among (step_classes step) k) u (Ok rows) (ordering_at s.own k))
          (ap (turn_of (Some (turned_at turn class))) (zero-add k) ∙ sym (turned_in turn (first + n) class k) ∙ ap (λ m. turn_of (Some (turned_at turn m)) (first + n + k)) same) (s.sorted.each k h),
    )
    (lawful_all (step_classes step) (Ok rows) (Some (turned_at turn class)) 0 s.own s.sorted) s.is s.small

-- nothing is turned
pub step_stable : (instance : Instance) (step : Step) (input : PlanTree) (rows found : List Row) → Gives input instance None 0 rows → IsStepUnder step rows None (Ok found) → Gives (Over step input) instance None 0 found
step_stable instance step input rows found below s = step_gives instance None 0 step input rows found below s.own (s.sorted.long, λ k h. s.sorted.each k h) (lawful_all (step_classes step) (Ok rows) None 0 s.own s.sorted) s.is s.small

-- ---- a Join

pub join_gives : (instance : Instance) (turned : Option Turned) (first : ℕ) (condition : Option Expression) (left right : PlanTree) (ls rs found : List Row) → Gives left instance turned first ls → Gives right instance turned (first + ordering_count left) rs → IsJoinOver condition ls rs found
    → Gives (Join condition left right) instance turned first found
join_gives instance turned first condition left right ls rs found l r s =
    let n = ordering_count left in
    let c = l.choice ++ r.choice in
    let number = l.valid.number in
    let size = r.valid.number in
    let long = length-append l.choice r.choice in
    let enough : n ≤ length l.choice = omega arith in
    let after : drop n c ≡ r.choice = subst (λ k. drop k c ≡ r.choice) number (drop-append_seam l.choice r.choice) in
    let on_left : outcome left instance c ≡ Ok ls = outcome-append left instance l.choice r.choice enough ∙ l.is in
    let on_right : outcome right instance (drop n c) ≡ Ok rs = ap (outcome right instance) after ∙ r.is in
    let gives : outcome (Join condition left right) instance c ≡ Ok found = (λ i. and_then (on_left i) (λ ls. and_then (on_right i) (λ rs. join_outcome condition (pairs ls rs)))) ∙ sym s.is in
    record {
      choice = c;
      valid = record {
        number = long ∙ omega arith;
        lawful = (AreLawful-append left instance l.choice r.choice enough l.valid.lawful, subst (AreLawful right instance) (sym after) r.valid.lawful);
      };
      tied = (tied_append instance turned left first l.choice r.choice enough l.tied, subst (AreTied right instance turned (first + n)) (sym after) r.tied);
      small = neither (has_large_step left instance c || has_large_step right instance (drop n c)) (is_large (Join condition left right) instance c)
          (neither (has_large_step left instance c) (has_large_step right instance (drop n c)) (large-append instance left l.choice r.choice enough ∙ l.small) (ap (has_large_step right instance) after ∙ r.small))
          (ap (has_more_rows most_rows) gives ∙ ap (has_more_rows most_rows) s.is ∙ s.small);
      is = gives;
    }
