-- What a node gives under its sorted orderings, and why it stops, from what the nodes below it give.
use Rattle.std.proofs.Common.{◌≡◌, ℕ, ◌+◌, ◌<◌, ◌≤◌, true, ◌||◌, List, [], ◌++◌, take, drop, length, get_or, Option, Ok, Err, refl, sym, ap, ◌∙◌, subst, arith, append_assoc, length-append, length-drop, drop-drop, length-take}
use Rattle.std.proofs.lemmas.List.{append-nil, drop-append-le, get_or-append-add, get_or-drop, get_or-take, get_or_append_left, ext_get_or}
use Rattle.wd_value.specs.Rows.{Instance, table_at}
use Rattle.wd_plan.specs.Choices.{AreLawful}
use Rattle.wd_plan.specs.Expressions.{Expression}
use Rattle.wd_plan.specs.Outcomes.{RowsOrFault, class_among, ordering_at, outcome}
use Rattle.wd_plan.specs.Plans.{ClassRule, Step, Group, PlanTree, Scan, Join, Over, GroupRule, step_classes, ordering_count, own_orderings}
use Rattle.wd_plan.proofs.ChoiceLaws.{AreLawful-append, outcome-append}
use Rattle.wd_partition.specs.Columns.{given_positions, sort_columns}
use Rattle.wd_join.specs.Joins.{has_more_rows}
use Rattle.wd_join.specs.declared.error.StepError.{StepError}
use Rattle.wd_join.specs.declared.error.StepError.TheVariants as error
use Rattle.wd_eval.specs.Errors.{error_of}
use Rattle.wd_eval.specs.Judged.{IsOutcome}
use Rattle.wd_eval.specs.Runs.{IsUnderTurned}
use Rattle.wd_nodes.specs.Relation.{RelationOrFault, relation_or_fault_of, IsLarge, IsSmall, group_over, join_over, most_rows}
use Rattle.wd_eval.specs.Nodes.{Evaluated, IsEvaluated}
use Rattle.wd_eval.specs.Windows.{step_over}
use Rattle.wd_eval.specs.Steps.{has_large_step, is_large}
use Rattle.wd_eval.specs.Tied.{AreTied, IsSortedOver, IsValidTurnedChoice, turn_of}
use Rattle.wd_eval.specs.Ties.{IsUnderStable, IsStableStep, IsUntied}
use Rattle.wd_eval.specs.declared.error.EvalError.{EvalError}
use Rattle.wd_eval.specs.declared.error.EvalError.TheVariants.{NotValid, TooManyRows, OutOfMemory}
use Rattle.wd_partition.specs.declared.turn.Turn.{Turn}
use Rattle.wd_eval.specs.declared.turned.Turned.{Turned}
use Rattle.wd_eval.proofs.Nodes.{or_left, or_right, scan_done, step_done, join_done}
use Rattle.wd_eval.specs.Walks.{IsFew}
use Rattle.wd_eval.proofs.Stable.{one_stable_sort}

-- ---- the sorted ordering is the only one

one_sorted : (class : ClassRule) (turn : Turn) (input : RowsOrFault) (a b : List ℕ) → IsSortedOver class turn input a → IsSortedOver class turn input b → a ≡ b
one_sorted class turn (Ok rows) a b s t = one_stable_sort (sort_columns class) rows (given_positions turn (length rows)) a b s t
one_sorted class turn (Err fault) a b s t = s ∙ sym t

-- the orderings of a step in a choice
own_at : (choice : List (List ℕ)) (c m k : ℕ) → k < m → ordering_at (take m (drop c choice)) k ≡ ordering_at choice (c + k)
own_at choice c m k h = get_or-take m (drop c choice) k [] h ∙ get_or-drop c choice k []

length_own : (choice : List (List ℕ)) (c m : ℕ) → c + m ≤ length choice → length (take m (drop c choice)) ≡ m
length_own choice c m h = let a = length-take m (drop c choice) in let b = length-drop c choice in omega arith

module _ (instance : Instance) (turned : Option Turned) where
  pub one_outcome : (plan : PlanTree) (first : ℕ) (a b : List (List ℕ)) → ordering_count plan ≤ length a → ordering_count plan ≤ length b → AreTied plan instance turned first a → AreTied plan instance turned first b → outcome plan instance a ≡ outcome plan instance b
  one_outcome (Scan table columns) first a b h g s t = refl
  one_outcome (Join condition left right) first a b h g s t =
      let n = ordering_count left in
      let long_a = length-drop n a in
      let long_b = length-drop n b in
      let on_left = one_outcome left first a b (omega arith) (omega arith) s.0 t.0 in
      let on_right = one_outcome right (first + n) (drop n a) (drop n b) (omega arith) (omega arith) s.1 t.1 in
      λ i. join_over condition (on_left i) (on_right i)
  one_outcome (Over step input) first a b h g s t =
      let n = ordering_count input in
      let m = length (step_classes step) in
      let class = class_among (step_classes step) in
      let below = one_outcome input first a b (omega arith) (omega arith) s.0 t.0 in
      let long_a = length_own a n m h in
      let long_b = length_own b n m g in
      let same_at : (k : ℕ) → k < m → ordering_at a (n + k) ≡ ordering_at b (n + k) =
      λ k l. one_sorted (class k) (turn_of turned (first + n + k)) (outcome input instance b) (ordering_at a (n + k)) (ordering_at b (n + k))
      (subst (λ (r : RowsOrFault). IsSortedOver (class k) (turn_of turned (first + n + k)) r (ordering_at a (n + k))) below (s.1 k l)) (t.1 k l) in
      let own : own_orderings step input a ≡ own_orderings step input b =
      ext_get_or [] (take m (drop n a)) (take m (drop n b)) (long_a ∙ sym long_b) (λ k l. (let small : k < m = omega arith in own_at a n m k small ∙ same_at k small ∙ sym (own_at b n m k small))) in
      λ i. step_over step (own i) (below i)

  -- ---- a choice may be made longer

  pub tied_append : (plan : PlanTree) (first : ℕ) (choice more : List (List ℕ)) → ordering_count plan ≤ length choice → AreTied plan instance turned first choice → AreTied plan instance turned first (choice ++ more)
  tied_append (Scan table columns) first choice more h s = tt
  tied_append (Join condition left right) first choice more h s =
      let n = ordering_count left in
      let long = length-drop n choice in (
        tied_append left first choice more (omega arith) s.0,
        subst (AreTied right instance turned (first + n)) (sym (drop-append-le n choice more (omega arith))) (tied_append right (first + n) (drop n choice) more (omega arith) s.1),
      )
  tied_append (Over step input) first choice more h s =
      let n = ordering_count input in
      let class = class_among (step_classes step) in
      let below = outcome-append input instance choice more (omega arith) in (
        tied_append input first choice more (omega arith) s.0,
        λ k l. (
            let at : ordering_at (choice ++ more) (n + k) ≡ ordering_at choice (n + k) = get_or_append_left choice more [] (n + k) (omega arith) in
            subst (IsSortedOver (class k) (turn_of turned (first + n + k)) (outcome input instance (choice ++ more))) (sym at)
            (subst (λ (r : RowsOrFault). IsSortedOver (class k) (turn_of turned (first + n + k)) r (ordering_at choice (n + k))) (sym below) (s.1 k l))),
      )

-- orderings after a plan's own change no step's size
pub large-append : (instance : Instance) (plan : PlanTree) (choice more : List (List ℕ)) → ordering_count plan ≤ length choice → has_large_step plan instance (choice ++ more) ≡ has_large_step plan instance choice
large-append instance (Scan table columns) choice more h = refl
large-append instance (Join condition left right) choice more h =
    let n = ordering_count left in
    let long = length-drop n choice in
    let rest = ap (has_large_step right instance) (drop-append-le n choice more (omega arith)) ∙ large-append instance right (drop n choice) more (omega arith) in
    let here = ap (has_more_rows most_rows) (outcome-append (Join condition left right) instance choice more h) in
    λ i. (large-append instance left choice more (omega arith) i || rest i) || here i
large-append instance (Over step input) choice more h = λ i. large-append instance input choice more (omega arith) i || has_more_rows most_rows (outcome-append (Over step input) instance choice more h i)

pub evaluated_append : (plan : PlanTree) (tables instance : Instance) (choice more : List (List ℕ)) (first : ℕ) (e : Evaluated) → first ≤ length choice → IsEvaluated most_rows plan tables instance choice first e → IsEvaluated most_rows plan tables instance (choice ++ more) first e
evaluated_append plan tables instance choice more first e h b =
    let cut_off = drop-append-le first choice more h in
    let there = b.served.present in
    let same : outcome plan instance (drop first (choice ++ more)) ≡ outcome plan instance (drop first choice) = ap (outcome plan instance) cut_off ∙ outcome-append plan instance (drop first choice) more there in
    let long = length-append (drop first choice) more in
    record {
      is = b.is ∙ sym same;
      next = b.next;
      served = record {
        present = subst (λ (ch : List (List ℕ)). ordering_count plan ≤ length ch) (sym cut_off) (omega arith);
        lawful = subst (AreLawful plan instance) (sym cut_off) (AreLawful-append plan instance (drop first choice) more there b.served.lawful);
      };
      small = ap (has_more_rows most_rows) same ∙ b.small;
      each = ap (has_large_step plan instance) cut_off ∙ large-append instance plan (drop first choice) more there ∙ b.each;
    }

-- ---- nodes

module _ (tables instance : Instance) (turned : Option Turned) (old : List (List ℕ)) where
  grown_long : (mid own : List (List ℕ)) → mid ≡ old ++ own → length old ≤ length mid
  grown_long mid own e = let long = ap length e ∙ length-append old own in omega arith

  pub scan_tied : (table columns : ℕ) (o : RelationOrFault) → IsSmall most_rows (Ok (table_at instance table)) (relation_or_fault_of tables o) → IsUnderStable (Scan table columns) tables instance turned old old o
  scan_tied table columns o s = record {
    own = [];
    grown = sym (append-nil old);
    evaluated = scan_done most_rows tables instance old (length old) table columns o s;
    tied = tt;
  }

  pub step_untied_below : (step : Step) (input : PlanTree) (e : EvalError) → IsUntied input instance turned (length old) e → IsUntied (Over step input) instance turned (length old) e
  step_untied_below step input (NotValid p) h = h
  step_untied_below step input TooManyRows h = λ choice long s. or_left (has_large_step input instance choice) (is_large (Over step input) instance choice) (h choice (omega arith) s.0)
  step_untied_below step input OutOfMemory h = tt

  module _ (rule : GroupRule) (input : PlanTree) (new : List (List ℕ)) (below : RelationOrFault) (b : IsUnderStable input tables instance turned old new below) where
    large_group : has_more_rows most_rows (group_over rule (relation_or_fault_of tables below)) ≡ true → (choice : List (List ℕ)) → ordering_count input ≤ length choice → AreTied input instance turned (length old) choice → is_large (Over (Group rule) input) instance choice ≡ true
    large_group h choice long s =
        let same : outcome input instance choice ≡ outcome input instance (drop (length old) new) = one_outcome instance turned input (length old) choice (drop (length old) new) long b.evaluated.served.present s b.tied in
        ap (λ r. has_more_rows most_rows (group_over rule r)) (same ∙ sym b.evaluated.is) ∙ h

    pub group_untied : (e : StepError) → IsLarge most_rows (group_over rule (relation_or_fault_of tables below)) e → IsUntied (Over (Group rule) input) instance turned (length old) (error_of e)
    group_untied error.TooManyRows h = λ choice long s. or_right (has_large_step input instance choice) (is_large (Over (Group rule) input) instance choice) (large_group h choice (omega arith) s.0)
    group_untied error.OutOfMemory h = tt

  -- ---- what stands after the orderings of a node below

  module _ (plan : PlanTree) (mid own new : List (List ℕ)) (o : RelationOrFault) (b : IsUnderStable plan tables instance turned old mid o) (e : new ≡ mid ++ own) where
    abbrev at_mid : Evaluated
    at_mid = record { outcome = o; next = length mid }

    pub still : IsEvaluated most_rows plan tables instance new (length old) at_mid
    still = subst (λ (ch : List (List ℕ)). IsEvaluated most_rows plan tables instance ch (length old) at_mid) (sym e)
        (evaluated_append plan tables instance mid own (length old) at_mid (grown_long mid b.own b.grown) b.evaluated)

    rest : drop (length old) new ≡ drop (length old) mid ++ own
    rest = ap (drop (length old)) e ∙ drop-append-le (length old) mid own (grown_long mid b.own b.grown)

    pub still_tied : AreTied plan instance turned (length old) (drop (length old) new)
    still_tied = subst (AreTied plan instance turned (length old)) (sym rest) (tied_append instance turned plan (length old) (drop (length old) mid) own b.evaluated.served.present b.tied)

    -- the orderings put there
    pub put_at : (k : ℕ) → ordering_at (drop (length old) new) (ordering_count plan + k) ≡ ordering_at own k
    put_at k =
        let next = b.evaluated.next in
        get_or-drop (length old) new (ordering_count plan + k) []
        ∙ (let same : length old + (ordering_count plan + k) ≡ length mid + k = omega arith in ap (λ n. get_or new n []) same)
        ∙ ap (λ ch. get_or ch (length mid + k) []) e
        ∙ get_or-append-add mid own k []

    pub below_is : relation_or_fault_of tables o ≡ outcome plan instance (drop (length old) new)
    below_is = still.is

    pub grown_more : new ≡ old ++ (b.own ++ own)
    grown_more = e ∙ ap (λ ch. ch ++ own) b.grown ∙ append_assoc old b.own own

  pub step_tied : (step : Step) (input : PlanTree) (mid new : List (List ℕ)) (below o : RelationOrFault) → IsUnderStable input tables instance turned old mid below → IsFew most_rows step (relation_or_fault_of tables below)
      → IsStableStep step (relation_or_fault_of tables below) turned mid new (relation_or_fault_of tables o) → IsUnderStable (Over step input) tables instance turned old new o
  step_tied step input mid new below o b few x =
      let own = x.put.own in
      let e = x.put.grown in
      let class = class_among (step_classes step) in
      let next = b.evaluated.next in
      let long = ap length e ∙ length-append mid own in
      let size = x.put.sorted.long in
      let longer = length-append old (b.own ++ own) in
      let whole = ap length (grown_more input mid own new below b e) in
      record {
        own = b.own ++ own;
        grown = grown_more input mid own new below b e;
        evaluated = step_done most_rows tables instance new (length old) step input (record { outcome = below; next = length mid }) (still input mid own new below b e) o (length new) (omega arith) few x.stepped (omega arith);
        tied = (
          still_tied input mid own new below b e,
          λ k l. (
              let number : length mid + k ≡ length old + ordering_count input + k = omega arith in
              subst (IsSortedOver (class k) (turn_of turned (length old + ordering_count input + k)) (outcome input instance (drop (length old) new))) (sym (put_at input mid own new below b e k))
              (subst (λ (r : RowsOrFault). IsSortedOver (class k) (turn_of turned (length old + ordering_count input + k)) r (ordering_at own k)) (below_is input mid own new below b e)
              (subst (λ (n : ℕ). IsSortedOver (class k) (turn_of turned n) (relation_or_fault_of tables below) (ordering_at own k)) number (x.put.sorted.each k l)))),
        );
      }

  -- ---- Join

  module _ (condition : Option Expression) (left right : PlanTree) where
    pub join_untied_left : (e : EvalError) → IsUntied left instance turned (length old) e → IsUntied (Join condition left right) instance turned (length old) e
    join_untied_left (NotValid p) h = h
    join_untied_left TooManyRows h = λ choice long s. (
        let on_left = has_large_step left instance choice in
        let on_right = has_large_step right instance (drop (ordering_count left) choice) in
        or_left (on_left || on_right) (is_large (Join condition left right) instance choice) (or_left on_left on_right (h choice (omega arith) s.0)))
    join_untied_left OutOfMemory h = tt

    module _ (mid : List (List ℕ)) (lo : RelationOrFault) (l : IsUnderStable left tables instance turned old mid lo) where
      pub join_untied_right : (e : EvalError) → IsUntied right instance turned (length mid) e → IsUntied (Join condition left right) instance turned (length old) e
      join_untied_right (NotValid p) h = h
      join_untied_right TooManyRows h = λ choice long s. (
          let n = ordering_count left in
          let size = length-drop n choice in
          let on_left = has_large_step left instance choice in
          let on_right = has_large_step right instance (drop n choice) in
          or_left (on_left || on_right) (is_large (Join condition left right) instance choice)
          (or_right on_left on_right (h (drop n choice) (omega arith) (subst (λ (k : ℕ). AreTied right instance turned k (drop n choice)) (sym l.evaluated.next) s.1))))
      join_untied_right OutOfMemory h = tt

      module _ (new : List (List ℕ)) (ro : RelationOrFault) (r : IsUnderStable right tables instance turned mid new ro) where
        right_rest : drop (ordering_count left) (drop (length old) new) ≡ drop (length mid) new
        right_rest = drop-drop (ordering_count left) (length old) new ∙ ap (λ k. drop k new) (sym l.evaluated.next)

        right_tied : AreTied right instance turned (length old + ordering_count left) (drop (ordering_count left) (drop (length old) new))
        right_tied = subst (λ (k : ℕ). AreTied right instance turned k (drop (ordering_count left) (drop (length old) new))) l.evaluated.next (subst (AreTied right instance turned (length mid)) (sym right_rest) r.tied)

        both_tied : AreTied (Join condition left right) instance turned (length old) (drop (length old) new)
        both_tied = (still_tied left mid r.own new lo l r.grown, right_tied)

        pub join_tied : (o : RelationOrFault) → IsSmall most_rows (join_over condition (relation_or_fault_of tables lo) (relation_or_fault_of tables ro)) (relation_or_fault_of tables o) → IsUnderStable (Join condition left right) tables instance turned old new o
        join_tied o s = record {
          own = l.own ++ r.own;
          grown = grown_more left mid r.own new lo l r.grown;
          evaluated = join_done most_rows tables instance new (length old) condition left right (record { outcome = lo; next = length mid }) (still left mid r.own new lo l r.grown) (record { outcome = ro; next = length new }) r.evaluated o s;
          tied = both_tied;
        }

        large_here : has_more_rows most_rows (join_over condition (relation_or_fault_of tables lo) (relation_or_fault_of tables ro)) ≡ true → (choice : List (List ℕ)) → ordering_count left + ordering_count right ≤ length choice → AreTied (Join condition left right) instance turned (length old) choice → is_large (Join condition left right) instance choice ≡ true
        large_here h choice long s =
            let next = l.evaluated.next in
            let last = r.evaluated.next in
            let size = length-drop (length old) new in
            let enough : ordering_count left + ordering_count right ≤ length (drop (length old) new) = omega arith in
            let same : outcome (Join condition left right) instance choice ≡ outcome (Join condition left right) instance (drop (length old) new) = one_outcome instance turned (Join condition left right) (length old) choice (drop (length old) new) long enough s both_tied in
            let on_left : relation_or_fault_of tables lo ≡ outcome left instance (drop (length old) new) = below_is left mid r.own new lo l r.grown in
            let on_right : relation_or_fault_of tables ro ≡ outcome right instance (drop (ordering_count left) (drop (length old) new)) = r.evaluated.is ∙ ap (outcome right instance) (sym right_rest) in
            ap (has_more_rows most_rows) same ∙ (λ i. has_more_rows most_rows (join_over condition (sym on_left i) (sym on_right i))) ∙ h

        pub join_untied : (e : StepError) → IsLarge most_rows (join_over condition (relation_or_fault_of tables lo) (relation_or_fault_of tables ro)) e → IsUntied (Join condition left right) instance turned (length old) (error_of e)
        join_untied error.TooManyRows h = λ choice long s. or_right (has_large_step left instance choice || has_large_step right instance (drop (ordering_count left) choice)) (is_large (Join condition left right) instance choice) (large_here h choice long s)
        join_untied error.OutOfMemory h = tt

-- ---- whole plans

module _ (plan : PlanTree) (tables instance : Instance) (turned : Option Turned) (new : List (List ℕ)) (g : RelationOrFault) (t : IsUnderStable plan tables instance turned [] new g) where
  pub tied_valid : IsValidTurnedChoice plan instance turned new
  tied_valid = record {
    tied = record { number = t.evaluated.next ∙ omega arith; tied = t.tied };
    valid = record { number = t.evaluated.next ∙ omega arith; lawful = t.evaluated.served.lawful };
    small = t.evaluated.each;
  }

  pub stable_outcome : (o : RowsOrFault) → o ≡ relation_or_fault_of tables g → IsOutcome plan instance new o
  stable_outcome o e = record { valid = tied_valid.valid; small = t.evaluated.each; is = e ∙ t.evaluated.is }

  pub under_turned : IsUnderTurned plan instance turned new (relation_or_fault_of tables g)
  under_turned = record { choice = tied_valid; is = t.evaluated.is }
