-- What a node gives, and why it stops, from what the nodes below it give.
use Rattle.std.proofs.Common.{◌≡◌, ℕ, ◌+◌, ◌≤◌, Bool, true, false, ◌||◌, List, take, drop, length, Option, Ok, inl, inr, refl, sym, ap, ◌∙◌, subst, arith, length-drop, drop-drop}
use Rattle.wd_value.specs.Rows.{Instance, table_at}
use Rattle.wd_plan.specs.Choices.{AreOrderingsOver, AreLawful}
use Rattle.wd_plan.specs.Expressions.{Expression}
use Rattle.wd_plan.specs.Outcomes.{RowsOrFault, outcome}
use Rattle.wd_plan.specs.Plans.{Step, Group, PlanTree, Scan, Join, Over, GroupRule, step_classes, ordering_count, own_orderings}
use Rattle.wd_join.specs.Joins.{has_more_rows}
use Rattle.wd_join.specs.declared.error.StepError.{StepError}
use Rattle.wd_join.specs.declared.error.StepError.TheVariants as error
use Rattle.wd_eval.specs.Errors.{error_of}
use Rattle.wd_eval.specs.Steps.{has_larger_step, is_larger}
use Rattle.wd_nodes.specs.Relation.{RelationOrFault, relation_or_fault_of, IsSmall, IsLarge, group_over, join_over}
use Rattle.wd_eval.specs.Nodes.{Evaluated, IsEvaluated, IsStopped}
use Rattle.wd_eval.specs.Windows.{AreUnserved, IsLeast, IsStepped, IsWrongIn, step_over}
use Rattle.wd_eval.specs.Wrong.{IsWrongFrom}
use Rattle.wd_eval.specs.declared.error.EvalError.{EvalError}
use Rattle.wd_eval.specs.declared.error.EvalError.TheVariants.{NotValid, TooManyRows, OutOfMemory}
use Rattle.wd_eval.proofs.Wrong.{none_wrong, wrong_within}
use Rattle.wd_eval.specs.Walks.{IsFew}
use Rattle.wd_eval.proofs.Sizes.{fewer_step}

pub or_left : (a b : Bool) → a ≡ true → (a || b) ≡ true
or_left a b e = ap (λ x. x || b) e

pub or_right : (a b : Bool) → b ≡ true → (a || b) ≡ true
or_right true b e = refl
or_right false b e = e

neither : (a b : Bool) → a ≡ false → b ≡ false → (a || b) ≡ false
neither a b h g = λ i. h i || g i

module _ (most : ℕ) (tables instance : Instance) (choice : List (List ℕ)) (first : ℕ) where
  abbrev rest : List (List ℕ)
  rest = drop first choice

  -- the orderings after those of a node below
  after : (n next : ℕ) → next ≡ first + n → drop next choice ≡ drop n rest
  after n next e = ap (λ k. drop k choice) e ∙ sym (drop-drop n first choice)

  long_rest : first ≤ length choice → first + length rest ≡ length choice
  long_rest h = let d = length-drop first choice in omega arith

  -- ---- Scan

  pub scan_done : (table columns : ℕ) (o : RelationOrFault) → IsSmall most (Ok (table_at instance table)) (relation_or_fault_of tables o) → IsEvaluated most (Scan table columns) tables instance choice first (record { outcome = o; next = first })
  scan_done table columns o s = record { is = s.is; next = omega arith; served = record { present = omega arith; lawful = tt }; small = s.small; each = s.small }

  pub scan_stopped : (table columns : ℕ) (e : StepError) → IsLarge most (Ok (table_at instance table)) e → IsStopped most (Scan table columns) instance choice first (error_of e)
  scan_stopped table columns error.TooManyRows h = h
  scan_stopped table columns error.OutOfMemory h = tt

  -- ---- a step

  module _ (step : Step) (input : PlanTree) where
    pub step_stopped_below : (e : EvalError) → IsStopped most input instance choice first e → IsStopped most (Over step input) instance choice first e
    step_stopped_below (NotValid p) h = (
      inl h.0,
      λ m earlier x. elim x [
        | inl y ↦ h.1 m earlier y
        | inr y ↦ (let past = y.wrong.0 in let within = (wrong_within instance choice p input first h.0).1 in omega arith)
      ],
    )
    step_stopped_below TooManyRows h = or_left (has_larger_step most input instance rest) (is_larger most (Over step input) instance rest) h
    step_stopped_below OutOfMemory h = tt

    module _ (below : Evaluated) (b : IsEvaluated most input tables instance choice first below) where
      own_is : take (length (step_classes step)) (drop below.next choice) ≡ own_orderings step input rest
      own_is = ap (take (length (step_classes step))) (after (ordering_count input) below.next b.next)

      pub step_done : (o : RelationOrFault) (next : ℕ) → first ≤ length choice → IsFew most step (relation_or_fault_of tables below.outcome) → IsStepped step (relation_or_fault_of tables below.outcome) choice below.next (relation_or_fault_of tables o) → next ≡ below.next + length (step_classes step)
          → IsEvaluated most (Over step input) tables instance choice first (record { outcome = o; next = next })
      step_done o next within few x e =
          let long = long_rest within in
          let there = x.served.present in
          let at = b.next in
          let lawful = subst (λ (r : RowsOrFault). AreOrderingsOver (step_classes step) r (own_orderings step input rest)) b.is (subst (AreOrderingsOver (step_classes step) (relation_or_fault_of tables below.outcome)) own_is x.served.lawful) in
          let small = fewer_step most step (own_orderings step input rest) (outcome input instance rest) (subst (IsFew most step) b.is few) lawful b.small in
          record {
            is = x.is ∙ (λ i. step_over step (own_is i) (b.is i));
            next = omega arith;
            served = record { present = omega arith; lawful = (b.served.lawful, lawful) };
            small = small;
            each = neither (has_larger_step most input instance rest) (is_larger most (Over step input) instance rest) b.each small;
          }

      pub step_stopped : (e : EvalError) → AreUnserved (step_classes step) (relation_or_fault_of tables below.outcome) choice below.next e → IsStopped most (Over step input) instance choice first e
      step_stopped (NotValid p) h =
          let own = subst (λ (n : ℕ). IsLeast (IsWrongIn (step_classes step) (outcome input instance rest) choice n) p) b.next (subst (λ (r : RowsOrFault). IsLeast (IsWrongIn (step_classes step) r choice below.next) p) b.is h) in (
            inr own.0,
            λ m earlier x. elim x [
              | inl y ↦ none_wrong instance choice m input first b.served.present b.served.lawful y
              | inr y ↦ own.1 m earlier y
            ],
          )
      step_stopped TooManyRows h = absurd h
      step_stopped OutOfMemory h = tt

  -- a Group of too many rows
  pub group_stopped : (rule : GroupRule) (input : PlanTree) (below : Evaluated) → IsEvaluated most input tables instance choice first below → (e : StepError) → IsLarge most (group_over rule (relation_or_fault_of tables below.outcome)) e → IsStopped most (Over (Group rule) input) instance choice first (error_of e)
  group_stopped rule input below b error.TooManyRows h = or_right (has_larger_step most input instance rest) (is_larger most (Over (Group rule) input) instance rest) (ap (λ r. has_more_rows most (group_over rule r)) (sym b.is) ∙ h)
  group_stopped rule input below b error.OutOfMemory h = tt

-- ---- Join

module _ (most : ℕ) (tables instance : Instance) (choice : List (List ℕ)) (first : ℕ) (condition : Option Expression) (left right : PlanTree) where
  abbrev all : List (List ℕ)
  all = drop first choice

  abbrev on_right : List (List ℕ)
  on_right = drop (ordering_count left) all

  pub join_stopped_left : (e : EvalError) → IsStopped most left instance choice first e → IsStopped most (Join condition left right) instance choice first e
  join_stopped_left (NotValid p) h = (
    inl h.0,
    λ m earlier x. elim x [
      | inl y ↦ h.1 m earlier y
      | inr y ↦ (let past = (wrong_within instance choice m right (first + ordering_count left) y).0 in let within = (wrong_within instance choice p left first h.0).1 in omega arith)
    ],
  )
  join_stopped_left TooManyRows h = or_left (has_larger_step most left instance all || has_larger_step most right instance on_right) (is_larger most (Join condition left right) instance all) (or_left (has_larger_step most left instance all) (has_larger_step most right instance on_right) h)
  join_stopped_left OutOfMemory h = tt

  module _ (l : Evaluated) (a : IsEvaluated most left tables instance choice first l) where
    right_is : drop l.next choice ≡ on_right
    right_is = after most tables instance choice first (ordering_count left) l.next a.next

    pub join_stopped_right : (e : EvalError) → IsStopped most right instance choice l.next e → IsStopped most (Join condition left right) instance choice first e
    join_stopped_right (NotValid p) h =
        let own = subst (λ (n : ℕ). IsLeast (IsWrongFrom right instance choice n) p) a.next h in (
          inr own.0,
          λ m earlier x. elim x [
            | inl y ↦ none_wrong instance choice m left first a.served.present a.served.lawful y
            | inr y ↦ own.1 m earlier y
          ],
        )
    join_stopped_right TooManyRows h =
        let large : has_larger_step most right instance on_right ≡ true = ap (has_larger_step most right instance) (sym right_is) ∙ h in
        or_left (has_larger_step most left instance all || has_larger_step most right instance on_right) (is_larger most (Join condition left right) instance all) (or_right (has_larger_step most left instance all) (has_larger_step most right instance on_right) large)
    join_stopped_right OutOfMemory h = tt

    module _ (r : Evaluated) (b : IsEvaluated most right tables instance choice l.next r) where
      abbrev below : RowsOrFault
      below = join_over condition (relation_or_fault_of tables l.outcome) (relation_or_fault_of tables r.outcome)

      below_is : below ≡ outcome (Join condition left right) instance all
      below_is = λ i. join_over condition (a.is i) (right_outcome i)
        where
          right_outcome : relation_or_fault_of tables r.outcome ≡ outcome right instance on_right
          right_outcome = b.is ∙ ap (outcome right instance) right_is

      pub join_done : (o : RelationOrFault) → IsSmall most below (relation_or_fault_of tables o) → IsEvaluated most (Join condition left right) tables instance choice first (record { outcome = o; next = r.next })
      join_done o s =
          let here = a.next in
          let there = b.next in
          let on_left = a.served.present in
          let d = length-drop (ordering_count left) all in
          let after_left : ordering_count right ≤ length on_right = subst (λ ch. ordering_count right ≤ length ch) right_is b.served.present in
          record {
            is = s.is ∙ below_is;
            next = omega arith;
            served = record {
              present = omega arith;
              lawful = (a.served.lawful, subst (AreLawful right instance) right_is b.served.lawful);
            };
            small = ap (has_more_rows most) (sym below_is) ∙ s.small;
            each = neither (has_larger_step most left instance all || has_larger_step most right instance on_right) (is_larger most (Join condition left right) instance all) (neither (has_larger_step most left instance all) (has_larger_step most right instance on_right) a.each (subst (λ ch. has_larger_step most right instance ch ≡ false) right_is b.each)) (ap (has_more_rows most) (sym below_is) ∙ s.small);
          }

      pub join_stopped : (e : StepError) → IsLarge most below e → IsStopped most (Join condition left right) instance choice first (error_of e)
      join_stopped error.TooManyRows h = or_right (has_larger_step most left instance all || has_larger_step most right instance on_right) (is_larger most (Join condition left right) instance all) (ap (has_more_rows most) (sym below_is) ∙ h)
      join_stopped error.OutOfMemory h = tt
