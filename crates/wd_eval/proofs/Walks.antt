-- What a node gives, and why it gives nothing, from what the nodes below it give.
use Rattle.std.proofs.Common.{◌≡◌, ℕ, ◌+◌, ◌-◌, ◌^◌, ◌≤◌, Bool, true, false, List, [], length, length-drop, Option, None, Result, Ok, Err, refl, sym, ap, ◌∙◌, subst, arith}
use Rattle.std.proofs.lemmas.Bool.{ltb-false}
use Rattle.std.proofs.lemmas.List.{length-map}
use Rattle.wd_value.specs.declared.value.Fault.{Fault}
use Rattle.wd_value.specs.Rows.{Instance, table_at}
use Rattle.wd_plan.specs.Expressions.{Expression}
use Rattle.wd_plan.specs.Outcomes.{RowsOrFault}
use Rattle.wd_plan.specs.Plans.{Step, Filter, Map, Group, Window, Distinct, Limit, GroupRule, PlanTree, Scan, Join, Over, step_classes}
use Rattle.wd_join.specs.Joins.{has_more_rows}
use Rattle.wd_join.specs.declared.error.StepError.{StepError}
use Rattle.wd_join.specs.declared.error.StepError.TheVariants as error
use Rattle.wd_eval.specs.Errors.{error_of}
use Rattle.wd_nodes.specs.Relation.{RelationOrFault, relation_or_fault_of, IsSmall, IsLarge, group_over, join_over, most_rows}
use Rattle.wd_eval.specs.Nodes.{IsEvaluated, IsStopped}
use Rattle.wd_eval.specs.Ties.{IsUnderStable, IsUntied}
use Rattle.wd_eval.specs.Walks.{Gives, GivesOrHalts, GivesOrStops, Halts, HasMade, IsAt, IsFew, IsHalted, IsLargeGroup, IsWalked, IsWalkedOrHalted, IsWithin, Stops, most_of}
use Rattle.wd_eval.specs.Windows.{AreFew, orderings_of, step_over}
use Rattle.wd_eval.specs.declared.error.EvalError.{EvalError}
use Rattle.wd_eval.specs.declared.error.EvalError.TheVariants.{NotValid, TooManyRows, OutOfMemory}
use Rattle.wd_eval.specs.declared.orderings.Orderings.{Orderings}
use Rattle.wd_eval.specs.declared.orderings.Orderings.TheVariants.{Chosen, Sorted, Stable}
use Rattle.wd_eval.specs.declared.turned.Turned.{Turned}
use Rattle.wd_eval.proofs.Nodes.{scan_done, scan_stopped, step_done, step_stopped, step_stopped_below, group_stopped, join_done, join_stopped, join_stopped_left, join_stopped_right}
use Rattle.wd_eval.proofs.Putting.{bare_stable}
use Rattle.wd_eval.proofs.Serving.{bare_stepped}
use Rattle.wd_eval.proofs.Walking.{one_step}
use Rattle.wd_eval.proofs.Tying.{scan_tied, step_tied, step_untied_below, group_untied, join_tied, join_untied, join_untied_left, join_untied_right}

-- ---- where the walk stands

chosen_most : (os : Orderings) (most : ℕ) (choice : List (List ℕ)) (first : ℕ) → IsAt os most choice first → most_of os ≡ most
chosen_most (Chosen own next m) most choice first at = at.2
chosen_most (Sorted turned made) most choice first at = absurd at
chosen_most Stable most choice first at = absurd at

sorted_most : (os : Orderings) (kept : Bool) (turned : Option Turned) (made : List (List ℕ)) → HasMade os kept turned made → most_of os ≡ most_rows
sorted_most (Chosen own next m) kept turned made has = absurd has
sorted_most (Sorted t own) kept turned made has = refl
sorted_most Stable kept turned made has = refl

pub within_at : (os : Orderings) (most : ℕ) (choice : List (List ℕ)) (first : ℕ) → IsWithin os → IsAt os most choice first → first ≤ length choice
within_at (Chosen own next m) most choice first within at =
    let long = length-map own.now (λ v. v.items) in
    let same = ap length at.0 in
    let number = at.1 in
    let low = within.0 in
    omega arith
within_at (Sorted turned made) most choice first within at = absurd at
within_at Stable most choice first within at = absurd at

pub bounded : (os : Orderings) → IsWithin os → most_of os ≤ most_rows
bounded (Chosen own next m) within = within.1
bounded (Sorted turned made) within = omega arith
bounded Stable within = omega arith

few_from : (most : ℕ) (r : RowsOrFault) → most ≤ most_rows → has_more_rows most r ≡ false → AreFew (2 ^ 32 - 1) r
few_from most (Ok rows) bound h = let few = ltb-false most (length rows) h in omega arith
few_from most (Err fault) bound h = tt

pub few_rows : (os : Orderings) (r : RowsOrFault) → IsWithin os → has_more_rows (most_of os) r ≡ false → AreFew (2 ^ 32 - 1) r
few_rows os r within h = few_from (most_of os) r (bounded os within) h

-- further on it stands within the choice too
within_chosen : (os : Orderings) (most : ℕ) (choice : List (List ℕ)) (next : ℕ) → IsAt os most choice next → next ≤ length choice → most ≤ most_rows → IsWithin os
within_chosen (Chosen own n m) most choice next at low bound =
    let long = length-map own.now (λ v. v.items) in
    let same = ap length at.0 in
    let number = at.1 in
    let all = at.2 in
    (omega arith, omega arith)
within_chosen (Sorted turned made) most choice next at low bound = tt
within_chosen Stable most choice next at low bound = tt

within_sorted : (os : Orderings) (kept : Bool) (turned : Option Turned) (made : List (List ℕ)) → HasMade os kept turned made → IsWithin os
within_sorted (Chosen own n m) kept turned made has = absurd has
within_sorted (Sorted t own) kept turned made has = tt
within_sorted Stable kept turned made has = tt

module _ (tables instance : Instance) (plan : PlanTree) (new : Orderings) (o : RelationOrFault) where
  pub within_next : (old : Orderings) → IsWithin old → IsWalked plan tables instance old new o → IsWithin new
  within_next (Chosen own next m) within b =
      let choice = orderings_of own.now in
      let w = b.chosen m choice next (refl, refl, refl) in
      let there = w.2.served.present in
      let at = w.2.next in
      let rest = length-drop next choice in
      let long = length-map own.now (λ v. v.items) in
      let low = within.0 in
      within_chosen new m choice w.0 w.1 (omega arith) within.1
  within_next (Sorted turned made) within b = let w = b.sorted true turned (orderings_of made.items) (refl, refl, refl) in within_sorted new true turned w.0 w.1
  within_next Stable within b = let w = b.sorted false None [] (refl, refl) in within_sorted new false None w.0 w.1

  pub small_below : (old : Orderings) → IsWalked plan tables instance old new o → has_more_rows (most_of new) (relation_or_fault_of tables o) ≡ false
  small_below (Chosen own next m) b =
      let choice = orderings_of own.now in
      let w = b.chosen m choice next (refl, refl, refl) in
      (λ i. has_more_rows (chosen_most new m choice w.0 w.1 i) (w.2.is i)) ∙ w.2.small
  small_below (Sorted turned made) b =
      let w = b.sorted true turned (orderings_of made.items) (refl, refl, refl) in
      (λ i. has_more_rows (sorted_most new true turned w.0 w.1 i) (w.2.evaluated.is i)) ∙ w.2.evaluated.small
  small_below Stable b =
      let w = b.sorted false None [] (refl, refl) in
      (λ i. has_more_rows (sorted_most new false None w.0 w.1 i) (w.2.evaluated.is i)) ∙ w.2.evaluated.small

-- ---- what a step gives

module _ (tables : Instance) (old : Orderings) where
  module _ (step : Step) (input : RelationOrFault) where
    -- a step without classes leaves the orderings as they are
    pub bare_answered : (o : RelationOrFault) → IsWithin old → step_classes step ≡ [] → IsFew (most_of old) step (relation_or_fault_of tables input) → relation_or_fault_of tables o ≡ step_over step [] (relation_or_fault_of tables input)
        → GivesOrHalts (relation_or_fault_of tables) step (relation_or_fault_of tables input) old old (Ok o)
    bare_answered o within bare few is =
        let none = ap length bare in
        record {
          ok = (
            few,
            record {
              chosen = λ most choice first at. (
                  let same : first ≡ first + length (step_classes step) = omega arith in
                  (subst (IsAt old most choice) same at, bare_stepped step (relation_or_fault_of tables input) choice first (relation_or_fault_of tables o) bare (within_at old most choice first within at) is));
              sorted = λ kept turned made has. (made, has, bare_stable step (relation_or_fault_of tables input) turned made (relation_or_fault_of tables o) bare is);
            },
          );
          refused = tt;
        }

    -- one with classes has no more rows than its input
    pub serves : (new : Orderings) (r : Result RelationOrFault EvalError) → IsFew (most_of old) step (relation_or_fault_of tables input) → GivesOrStops (relation_or_fault_of tables) step (relation_or_fault_of tables input) old new r
        → GivesOrHalts (relation_or_fault_of tables) step (relation_or_fault_of tables input) old new r
    serves new (Ok o) few g = record { ok = (few, g.ok); refused = tt }
    serves new (Err (NotValid place)) few g = record { ok = tt; refused = g.refused }
    serves new (Err TooManyRows) few g = absurd (never old g.refused)
      where
        never : (os : Orderings) → Stops step (relation_or_fault_of tables input) os TooManyRows → ⊥
        never (Chosen own next m) h = h.chosen m (orderings_of own.now) next (refl, refl, refl)
        never (Sorted turned made) h = h.sorted true turned (orderings_of made.items) (refl, refl, refl)
        never Stable h = h.sorted false None [] (refl, refl)
    serves new (Err OutOfMemory) few g = record { ok = tt; refused = tt }

  pub group_halts : (rule : GroupRule) (input : RelationOrFault) (e : StepError) → IsLarge (most_of old) (group_over rule (relation_or_fault_of tables input)) e → Halts (Group rule) (relation_or_fault_of tables input) old (error_of e)
  group_halts rule input error.TooManyRows h = h
  group_halts rule input error.OutOfMemory h = tt

-- a plan has one last step
pub of_step : {X : Type 0} (view : X → RowsOrFault) (plan : PlanTree) (own step : Step) (input below : PlanTree) (rows : RowsOrFault) (old new : Orderings) (r : Result X EvalError) → plan ≡ Over own input → plan ≡ Over step below → GivesOrHalts view own rows old new r → GivesOrHalts view step rows old new r
of_step view plan own step input below rows old new r is also g = subst (λ s. GivesOrHalts view s rows old new r) (sym (one_step plan own step input below is also)) g

-- a fault has no rows
pub few_faults : (most : ℕ) (step : Step) (fault : Fault) → IsFew most step (Err fault)
few_faults most (Filter condition) fault = tt
few_faults most (Map outputs) fault = tt
few_faults most (Group rule) fault = refl
few_faults most (Window w) fault = tt
few_faults most Distinct fault = tt
few_faults most (Limit limit) fault = tt

-- ---- a Group of too many rows

module _ (tables instance : Instance) (input : PlanTree) (below : RelationOrFault) where
  large_stopped : (step : Step) (most : ℕ) (choice : List (List ℕ)) (first next : ℕ) → IsEvaluated most input tables instance choice first (record { outcome = below; next = next })
      → IsLargeGroup most step (relation_or_fault_of tables below) → IsStopped most (Over step input) instance choice first TooManyRows
  large_stopped (Filter condition) most choice first next b h = absurd h
  large_stopped (Map outputs) most choice first next b h = absurd h
  large_stopped (Group rule) most choice first next b h = group_stopped most tables instance choice first rule input (record { outcome = below; next = next }) b error.TooManyRows h
  large_stopped (Window w) most choice first next b h = absurd h
  large_stopped Distinct most choice first next b h = absurd h
  large_stopped (Limit limit) most choice first next b h = absurd h

  large_untied : (step : Step) (turned : Option Turned) (made mid : List (List ℕ)) → IsUnderStable input tables instance turned made mid below
      → IsLargeGroup most_rows step (relation_or_fault_of tables below) → IsUntied (Over step input) instance turned (length made) TooManyRows
  large_untied (Filter condition) turned made mid b h = absurd h
  large_untied (Map outputs) turned made mid b h = absurd h
  large_untied (Group rule) turned made mid b h = group_untied tables instance turned made rule input mid below b error.TooManyRows h
  large_untied (Window w) turned made mid b h = absurd h
  large_untied Distinct turned made mid b h = absurd h
  large_untied (Limit limit) turned made mid b h = absurd h

-- ---- Scan

module _ (tables instance : Instance) (old : Orderings) where
  module _ (table columns : ℕ) where
    abbrev read : RowsOrFault
    read = Ok (table_at instance table)

    pub scan_walked : (o : RelationOrFault) → IsSmall (most_of old) read (relation_or_fault_of tables o) → IsWalked (Scan table columns) tables instance old old o
    scan_walked o s = record {
      chosen = λ most choice first at. (first, at, scan_done most tables instance choice first table columns o (subst (λ m. IsSmall m read (relation_or_fault_of tables o)) (chosen_most old most choice first at) s));
      sorted = λ kept turned made has. (made, has, scan_tied tables instance turned made table columns o (subst (λ m. IsSmall m read (relation_or_fault_of tables o)) (sorted_most old kept turned made has) s));
    }

    scan_untied : (turned : Option Turned) (first : ℕ) (e : StepError) → IsLarge most_rows read e → IsUntied (Scan table columns) instance turned first (error_of e)
    scan_untied turned first error.TooManyRows h = λ choice long s. h
    scan_untied turned first error.OutOfMemory h = tt

    pub scan_halted : (e : StepError) → IsLarge (most_of old) read e → IsHalted (Scan table columns) instance old (error_of e)
    scan_halted e h = record {
      chosen = λ most choice first at. scan_stopped most tables instance choice first table columns e (subst (λ m. IsLarge m read e) (chosen_most old most choice first at) h);
      sorted = λ kept turned made has. scan_untied turned (length made) e (subst (λ m. IsLarge m read e) (sorted_most old kept turned made has) h);
    }

  -- ---- a step

  module _ (step : Step) (input : PlanTree) where
    pub step_halted_below : (e : EvalError) → IsHalted input instance old e → IsHalted (Over step input) instance old e
    step_halted_below e h = record {
      chosen = λ most choice first at. step_stopped_below most tables instance choice first step input e (h.chosen most choice first at);
      sorted = λ kept turned made has. step_untied_below tables instance turned made step input e (h.sorted kept turned made has);
    }

    module _ (mid : Orderings) (below : RelationOrFault) (b : IsWalked input tables instance old mid below) where
      step_walked : (new : Orderings) (o : RelationOrFault) → IsWithin old → IsFew (most_of mid) step (relation_or_fault_of tables below) → Gives step (relation_or_fault_of tables below) mid new (relation_or_fault_of tables o) → IsWalked (Over step input) tables instance old new o
      step_walked new o within few g = record {
        chosen = λ most choice first at. (
            let w = b.chosen most choice first at in
            let x = g.chosen most choice w.0 w.1 in
            let own = subst (λ m. IsFew m step (relation_or_fault_of tables below)) (chosen_most mid most choice w.0 w.1) few in
            let next = w.0 + length (step_classes step) in (
              next,
              x.0,
              step_done most tables instance choice first step input (record { outcome = below; next = w.0 }) w.2 o next (within_at old most choice first within at) own x.1 refl,
            ));
        sorted = λ kept turned made has. (
            let w = b.sorted kept turned made has in
            let x = g.sorted kept turned w.0 w.1 in
            let own = subst (λ m. IsFew m step (relation_or_fault_of tables below)) (sorted_most mid kept turned w.0 w.1) few in
            (x.0, x.1, step_tied tables instance turned made step input w.0 x.0 below o w.2 own x.2));
      }

      step_halted : (e : EvalError) → Halts step (relation_or_fault_of tables below) mid e → IsHalted (Over step input) instance old e
      step_halted (NotValid place) h = record {
        chosen = λ most choice first at. (
            let w = b.chosen most choice first at in
            step_stopped most tables instance choice first step input (record { outcome = below; next = w.0 }) w.2 (NotValid place) (h.chosen most choice w.0 w.1));
        sorted = λ kept turned made has. (let w = b.sorted kept turned made has in h.sorted kept turned w.0 w.1);
      }
      step_halted OutOfMemory h = record { chosen = λ most choice first at. tt; sorted = λ kept turned made has. tt }
      step_halted TooManyRows h = record {
        chosen = λ most choice first at. (
            let w = b.chosen most choice first at in
            large_stopped tables instance input below step most choice first w.0 w.2 (subst (λ m. IsLargeGroup m step (relation_or_fault_of tables below)) (chosen_most mid most choice w.0 w.1) h));
        sorted = λ kept turned made has. (
            let w = b.sorted kept turned made has in
            large_untied tables instance input below step turned made w.0 w.2 (subst (λ m. IsLargeGroup m step (relation_or_fault_of tables below)) (sorted_most mid kept turned w.0 w.1) h));
      }

      pub step_answered : (new : Orderings) (r : Result RelationOrFault EvalError) → IsWithin old → GivesOrHalts (relation_or_fault_of tables) step (relation_or_fault_of tables below) mid new r → IsWalkedOrHalted (Over step input) tables instance old new r
      step_answered new (Ok o) within g = record { ok = step_walked new o within g.ok.0 g.ok.1; refused = tt }
      step_answered new (Err e) within g = record { ok = tt; refused = step_halted e g.refused }

  -- ---- Join

  module _ (condition : Option Expression) (left right : PlanTree) where
    pub join_halted_left : (e : EvalError) → IsHalted left instance old e → IsHalted (Join condition left right) instance old e
    join_halted_left e h = record {
      chosen = λ most choice first at. join_stopped_left most tables instance choice first condition left right e (h.chosen most choice first at);
      sorted = λ kept turned made has. join_untied_left tables instance turned made condition left right e (h.sorted kept turned made has);
    }

    module _ (mid : Orderings) (l : RelationOrFault) (a : IsWalked left tables instance old mid l) where
      pub join_halted_right : (e : EvalError) → IsHalted right instance mid e → IsHalted (Join condition left right) instance old e
      join_halted_right e h = record {
        chosen = λ most choice first at. (
            let w = a.chosen most choice first at in
            join_stopped_right most tables instance choice first condition left right (record { outcome = l; next = w.0 }) w.2 e (h.chosen most choice w.0 w.1));
        sorted = λ kept turned made has. (
            let w = a.sorted kept turned made has in
            join_untied_right tables instance turned made condition left right w.0 l w.2 e (h.sorted kept turned w.0 w.1));
      }

      module _ (new : Orderings) (r : RelationOrFault) (b : IsWalked right tables instance mid new r) where
        abbrev joined : RowsOrFault
        joined = join_over condition (relation_or_fault_of tables l) (relation_or_fault_of tables r)

        pub join_walked : (o : RelationOrFault) → IsSmall (most_of new) joined (relation_or_fault_of tables o) → IsWalked (Join condition left right) tables instance old new o
        join_walked o s = record {
          chosen = λ most choice first at. (
              let w = a.chosen most choice first at in
              let x = b.chosen most choice w.0 w.1 in (
                x.0,
                x.1,
                join_done most tables instance choice first condition left right (record { outcome = l; next = w.0 }) w.2 (record { outcome = r; next = x.0 }) x.2 o (subst (λ m. IsSmall m joined (relation_or_fault_of tables o)) (chosen_most new most choice x.0 x.1) s),
              ));
          sorted = λ kept turned made has. (
              let w = a.sorted kept turned made has in
              let x = b.sorted kept turned w.0 w.1 in (
                x.0,
                x.1,
                join_tied tables instance turned made condition left right w.0 l w.2 x.0 r x.2 o (subst (λ m. IsSmall m joined (relation_or_fault_of tables o)) (sorted_most new kept turned x.0 x.1) s),
              ));
        }

        pub join_halted : (e : StepError) → IsLarge (most_of new) joined e → IsHalted (Join condition left right) instance old (error_of e)
        join_halted e h = record {
          chosen = λ most choice first at. (
              let w = a.chosen most choice first at in
              let x = b.chosen most choice w.0 w.1 in
              join_stopped most tables instance choice first condition left right (record { outcome = l; next = w.0 }) w.2 (record { outcome = r; next = x.0 }) x.2 e (subst (λ m. IsLarge m joined e) (chosen_most new most choice x.0 x.1) h));
          sorted = λ kept turned made has. (
              let w = a.sorted kept turned made has in
              let x = b.sorted kept turned w.0 w.1 in
              join_untied tables instance turned made condition left right w.0 l w.2 x.0 r x.2 e (subst (λ m. IsLarge m joined e) (sorted_most new kept turned x.0 x.1) h));
        }
