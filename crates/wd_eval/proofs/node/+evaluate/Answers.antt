use Rattle.std.proofs.Common.{◌≡◌, ◌∙◌, sym, ap, subst, map, drop, drop-drop, ⊎_elim, arith, Ok}
use Rattle.std.specs.Prelude.{option_map}
use Rattle.std.proofs.lemmas.Result.{err_from_is_err_and}
use Rattle.wd_value.specs.Rows.{table_at}
use Rattle.wd_plan.specs.Expressions.{expression_of}
use Rattle.wd_plan.specs.Plans.{EachNamesClasses, Filter, Map, Group, Window, Distinct, Limit, Join, Over, grouping_of, limit_of, plan_of, window_of}
use Rattle.wd_nodes.specs.Held.{IsHeld, read_at, scan_count}
use Rattle.wd_nodes.specs.Relation.{IsLarge, IsSmall, RelationOrFault, join_over, relation_or_fault_of}
use Rattle.wd_eval.specs.Errors.{error_of}
use Rattle.wd_eval.specs.Walks.{IsHalted, IsWalked, IsWalkedOrHalted, most_of}
use Rattle.wd_eval.proofs.Walking.{IsStepOver, height, on_ok}
use Rattle.wd_eval.proofs.Walks.{join_halted, join_halted_left, join_halted_right, join_walked, scan_halted, scan_walked, small_below, step_answered, step_halted_below, within_next}
use Rattle.wd_eval.proofs.node.+evaluate.Goals as goal

-- ---- Scan

pub returns-in_ok-read-in-Scan-clause-moved : goal.returns-in_ok-read-in-Scan-clause-moved
returns-in_ok-read-in-Scan-clause-moved t c = c.next.ensures.left ∙ ap (λ n. drop n c.args.moved_in.now) (sym (ap scan_count (ap plan_of c.in-Scan.is)))

pub returns-in_ok-read-in-Scan-clause-walked : goal.returns-in_ok-read-in-Scan-clause-walked
returns-in_ok-read-in-Scan-clause-walked t c = λ instance held. (
    let tables = c.args.tables.now in
    let old = c.args.orderings.now in
    let table = c.in-Scan.table in
    let columns = c.in-Scan.columns in
    let o : RelationOrFault = Ok c.in_ok-read-in-Scan.read in
    let here = subst (λ p. IsHeld p tables c.args.moved_in.now instance) (ap plan_of c.in-Scan.is) held in
    let is : read_at tables c.next.result table ≡ table_at instance table = ap (λ m. read_at tables m table) c.next.ensures.value ∙ here in
    let small = subst (λ rows. IsSmall (most_of old) (Ok rows) (relation_or_fault_of tables o)) is (subst (λ m. IsSmall m (Ok (read_at tables c.next.result table)) (relation_or_fault_of tables o)) c.most.ensures c.in_ok-read-in-Scan.ensures.ok) in
    record {
      ok = subst (λ p. IsWalked p tables instance old old o) (sym (ap plan_of c.in-Scan.is)) (scan_walked tables instance old table columns o small);
      refused = tt;
    })

pub returns-in_err-read-in-Scan-clause-walked : goal.returns-in_err-read-in-Scan-clause-walked
returns-in_err-read-in-Scan-clause-walked t c = λ instance held. (
    let tables = c.args.tables.now in
    let old = c.args.orderings.now in
    let table = c.in-Scan.table in
    let columns = c.in-Scan.columns in
    let e = c.in_err-read-in-Scan.field-0.0 in
    let err = err_from_is_err_and c.from_residual.result c.from_residual.ensures.1 in
    let here = subst (λ p. IsHeld p tables c.args.moved_in.now instance) (ap plan_of c.in-Scan.is) held in
    let is : read_at tables c.next.result table ≡ table_at instance table = ap (λ m. read_at tables m table) c.next.ensures.value ∙ here in
    let large = subst (λ rows. IsLarge (most_of old) (Ok rows) e) is (subst (λ m. IsLarge m (Ok (read_at tables c.next.result table)) e) c.most.ensures c.in_err-read-in-Scan.ensures.refused) in
    let halted = scan_halted tables instance old table columns e large in
    rw (err.1, err.2) (record { ok = tt; refused = subst (λ p. IsHalted p instance old (error_of e)) (sym (ap plan_of c.in-Scan.is)) halted }))

-- ---- Join

pub evaluate-requires : goal.evaluate-requires
evaluate-requires t c =
    let tables = c.args.tables.now in
    let right = plan_of c.in-Join.right.value in
    let condition = option_map expression_of c.in-Join.condition in
    let is = ap plan_of c.in-Join.is ∙ ap (λ p. Join condition (plan_of p) right) (sym c.deref.ensures) in
    let some = c.requires.held in
    let held = subst (λ p. IsHeld p tables c.args.moved_in.now some.instance) is some.held in
    let named = subst EachNamesClasses is c.requires.named in
    let lower = ap height is in
    (omega arith, (c.requires.within, (named.0, record { instance = some.instance; held = held.0 })))

pub evaluate-requires-in-Join : goal.evaluate-requires-in-Join
evaluate-requires-in-Join t c =
    let tables = c.args.tables.now in
    let left = plan_of c.deref.result.now in
    let right = plan_of c.in-Join.right.value in
    let condition = option_map expression_of c.in-Join.condition in
    let is = ap plan_of c.in-Join.is ∙ ap (λ p. Join condition (plan_of p) right) (sym c.deref.ensures) in
    let some = c.requires.held in
    let held = subst (λ p. IsHeld p tables c.args.moved_in.now some.instance) is some.held in
    let named = subst EachNamesClasses is c.requires.named in
    let walked = (c.in_ok-left-in-Join.ensures.walked some.instance held.0).ok in
    let moved = c.in_ok-left-in-Join.ensures.moved in
    let there = subst (λ p. IsHeld (plan_of p) tables c.evaluate.new.moved_in some.instance) (sym c.deref-in-Join.ensures) (subst (λ m. IsHeld right tables m some.instance) (sym moved) held.1) in (
      (let lower = ap height is in let here = ap (λ p. height (plan_of p)) c.deref-in-Join.ensures in omega arith),
      (
        within_next tables some.instance left c.evaluate.new.orderings c.in_ok-left-in-Join.left c.args.orderings.now c.requires.within walked,
        (subst (λ p. EachNamesClasses (plan_of p)) (sym c.deref-in-Join.ensures) named.1, record { instance = some.instance; held = there }),
      ),
    )

pub returns-in_err-left-in-Join-clause-walked : goal.returns-in_err-left-in-Join-clause-walked
returns-in_err-left-in-Join-clause-walked t c = λ instance held. (
    let tables = c.args.tables.now in
    let old = c.args.orderings.now in
    let left = plan_of c.deref.result.now in
    let right = plan_of c.in-Join.right.value in
    let condition = option_map expression_of c.in-Join.condition in
    let is = ap plan_of c.in-Join.is ∙ ap (λ p. Join condition (plan_of p) right) (sym c.deref.ensures) in
    let e = c.in_err-left-in-Join.field-0.0 in
    let err = err_from_is_err_and c.from_residual-in_err-left-in-Join.result c.from_residual-in_err-left-in-Join.ensures.1 in
    let here = subst (λ p. IsHeld p tables c.args.moved_in.now instance) is held in
    let halted = join_halted_left tables instance old condition left right e (c.in_err-left-in-Join.ensures.walked instance here.0).refused in
    rw (err.1, err.2) (record { ok = tt; refused = subst (λ p. IsHalted p instance old e) (sym is) halted }))

pub returns-in_err-right-in-Join-clause-walked : goal.returns-in_err-right-in-Join-clause-walked
returns-in_err-right-in-Join-clause-walked t c = λ instance held. (
    let tables = c.args.tables.now in
    let old = c.args.orderings.now in
    let left = plan_of c.deref.result.now in
    let right = plan_of c.deref-in-Join.result.now in
    let condition = option_map expression_of c.in-Join.condition in
    let is = ap plan_of c.in-Join.is ∙ (λ i. Join condition (plan_of (sym c.deref.ensures i)) (plan_of (sym c.deref-in-Join.ensures i))) in
    let e = c.in_err-right-in-Join.field-0.0 in
    let err = err_from_is_err_and c.from_residual-in_err-right-in-Join.result c.from_residual-in_err-right-in-Join.ensures.1 in
    let here = subst (λ p. IsHeld p tables c.args.moved_in.now instance) is held in
    let l = c.in_ok-left-in-Join.left in
    let mid = c.evaluate.new.orderings in
    let on_left = (c.in_ok-left-in-Join.ensures.walked instance here.0).ok in
    let there = subst (λ m. IsHeld right tables m instance) (sym c.in_ok-left-in-Join.ensures.moved) here.1 in
    let halted = join_halted_right tables instance old condition left right mid l on_left e (c.in_err-right-in-Join.ensures.walked instance there).refused in
    rw (err.1, err.2) (record { ok = tt; refused = subst (λ p. IsHalted p instance old e) (sym is) halted }))

pub returns-in_ok-joined-in-Join-clause-moved : goal.returns-in_ok-joined-in-Join-clause-moved
returns-in_ok-joined-in-Join-clause-moved t c =
    let left = plan_of c.deref.result.now in
    let right = plan_of c.deref-in-Join.result.now in
    let condition = option_map expression_of c.in-Join.condition in
    let is = ap plan_of c.in-Join.is ∙ (λ i. Join condition (plan_of (sym c.deref.ensures i)) (plan_of (sym c.deref-in-Join.ensures i))) in
    c.in_ok-right-in-Join.ensures.moved
    ∙ ap (drop (scan_count right)) c.in_ok-left-in-Join.ensures.moved
    ∙ drop-drop (scan_count right) (scan_count left) c.args.moved_in.now
    ∙ ap (λ n. drop n c.args.moved_in.now) (sym (ap scan_count is))

pub returns-in_ok-joined-in-Join-clause-walked : goal.returns-in_ok-joined-in-Join-clause-walked
returns-in_ok-joined-in-Join-clause-walked t c = λ instance held. (
    let tables = c.args.tables.now in
    let old = c.args.orderings.now in
    let left = plan_of c.deref.result.now in
    let right = plan_of c.deref-in-Join.result.now in
    let condition = option_map expression_of c.in-Join.condition in
    let is = ap plan_of c.in-Join.is ∙ (λ i. Join condition (plan_of (sym c.deref.ensures i)) (plan_of (sym c.deref-in-Join.ensures i))) in
    let here = subst (λ p. IsHeld p tables c.args.moved_in.now instance) is held in
    let l = c.in_ok-left-in-Join.left in
    let r = c.in_ok-right-in-Join.right in
    let o = c.in_ok-joined-in-Join.joined in
    let mid = c.evaluate.new.orderings in
    let new = c.evaluate-in-Join.new.orderings in
    let on_left = (c.in_ok-left-in-Join.ensures.walked instance here.0).ok in
    let there = subst (λ m. IsHeld right tables m instance) (sym c.in_ok-left-in-Join.ensures.moved) here.1 in
    let on_right = (c.in_ok-right-in-Join.ensures.walked instance there).ok in
    let joined = join_over condition (relation_or_fault_of tables l) (relation_or_fault_of tables r) in
    let small = subst (λ m. IsSmall m joined (relation_or_fault_of tables o)) c.most-in-Join.ensures c.in_ok-joined-in-Join.ensures.ok in
    record {
      ok = subst (λ p. IsWalked p tables instance old new o) (sym is) (join_walked tables instance old condition left right mid l on_left new r on_right o small);
      refused = tt;
    })

pub returns-in_err-joined-in-Join-clause-walked : goal.returns-in_err-joined-in-Join-clause-walked
returns-in_err-joined-in-Join-clause-walked t c = λ instance held. (
    let tables = c.args.tables.now in
    let old = c.args.orderings.now in
    let left = plan_of c.deref.result.now in
    let right = plan_of c.deref-in-Join.result.now in
    let condition = option_map expression_of c.in-Join.condition in
    let is = ap plan_of c.in-Join.is ∙ (λ i. Join condition (plan_of (sym c.deref.ensures i)) (plan_of (sym c.deref-in-Join.ensures i))) in
    let here = subst (λ p. IsHeld p tables c.args.moved_in.now instance) is held in
    let l = c.in_ok-left-in-Join.left in
    let r = c.in_ok-right-in-Join.right in
    let mid = c.evaluate.new.orderings in
    let new = c.evaluate-in-Join.new.orderings in
    let on_left = (c.in_ok-left-in-Join.ensures.walked instance here.0).ok in
    let there = subst (λ m. IsHeld right tables m instance) (sym c.in_ok-left-in-Join.ensures.moved) here.1 in
    let on_right = (c.in_ok-right-in-Join.ensures.walked instance there).ok in
    let e = c.in_err-joined-in-Join.field-0.0 in
    let err = err_from_is_err_and c.from_residual-in_err-joined-in-Join.result c.from_residual-in_err-joined-in-Join.ensures.1 in
    let joined = join_over condition (relation_or_fault_of tables l) (relation_or_fault_of tables r) in
    let large = subst (λ m. IsLarge m joined e) c.most-in-Join.ensures c.in_err-joined-in-Join.ensures.refused in
    let halted = join_halted tables instance old condition left right mid l on_left new r on_right e large in
    rw (err.1, err.2) (record { ok = tt; refused = subst (λ p. IsHalted p instance old (error_of e)) (sym is) halted }))

-- ---- a step

pub evaluate-requires-in-Filter : goal.evaluate-requires-in-Filter
evaluate-requires-in-Filter t c =
    let tables = c.args.tables.now in
    let input = plan_of c.in-Filter.input.value in
    let over : IsStepOver (plan_of c.args.plan.now) input =
    ⊎_elim (λ h. (Filter (expression_of h.0), ap plan_of h.1))
    (λ r. ⊎_elim (λ h. (Map (map expression_of h.0.items), ap plan_of h.1))
    (λ r. ⊎_elim (λ h. (Group (grouping_of h.0), ap plan_of h.1))
    (λ r. ⊎_elim (λ h. (Window (window_of h.0), ap plan_of h.1))
    (λ r. ⊎_elim (λ h. (Distinct, ap plan_of h))
    (λ h. (Limit (limit_of h.0), ap plan_of h.1)) r) r) r) r) c.in-Filter.is in
    let some = c.requires.held in
    let held = subst (λ p. IsHeld p tables c.args.moved_in.now some.instance) over.1 some.held in
    let named = subst EachNamesClasses over.1 c.requires.named in
    let there = subst (λ p. IsHeld (plan_of p) tables c.args.moved_in.now some.instance) (sym c.deref-in-Filter.ensures) held in
    let lower = ap height over.1 in
    let below = ap (λ p. height (plan_of p)) c.deref-in-Filter.ensures in
    (omega arith, (c.requires.within, (subst (λ p. EachNamesClasses (plan_of p)) (sym c.deref-in-Filter.ensures) named.0, record { instance = some.instance; held = there })))

pub step_over-requires-clause-within : goal.step_over-requires-clause-within
step_over-requires-clause-within t c =
    let tables = c.args.tables.now in
    let input = plan_of c.deref-in-Filter.result.now in
    let over : IsStepOver (plan_of c.args.plan.now) (plan_of c.in-Filter.input.value) =
    ⊎_elim (λ h. (Filter (expression_of h.0), ap plan_of h.1))
    (λ r. ⊎_elim (λ h. (Map (map expression_of h.0.items), ap plan_of h.1))
    (λ r. ⊎_elim (λ h. (Group (grouping_of h.0), ap plan_of h.1))
    (λ r. ⊎_elim (λ h. (Window (window_of h.0), ap plan_of h.1))
    (λ r. ⊎_elim (λ h. (Distinct, ap plan_of h))
    (λ h. (Limit (limit_of h.0), ap plan_of h.1)) r) r) r) r) c.in-Filter.is in
    let some = c.requires.held in
    let held = subst (λ p. IsHeld (plan_of p) tables c.args.moved_in.now some.instance) (sym c.deref-in-Filter.ensures) (subst (λ p. IsHeld p tables c.args.moved_in.now some.instance) over.1 some.held) in
    within_next tables some.instance input c.evaluate-in-Filter.new.orderings c.in_ok-below-in-Filter.below c.args.orderings.now c.requires.within (c.in_ok-below-in-Filter.ensures.walked some.instance held).ok

pub step_over-requires-clause-small : goal.step_over-requires-clause-small
step_over-requires-clause-small t c =
    let tables = c.args.tables.now in
    let input = plan_of c.deref-in-Filter.result.now in
    let over : IsStepOver (plan_of c.args.plan.now) (plan_of c.in-Filter.input.value) =
    ⊎_elim (λ h. (Filter (expression_of h.0), ap plan_of h.1))
    (λ r. ⊎_elim (λ h. (Map (map expression_of h.0.items), ap plan_of h.1))
    (λ r. ⊎_elim (λ h. (Group (grouping_of h.0), ap plan_of h.1))
    (λ r. ⊎_elim (λ h. (Window (window_of h.0), ap plan_of h.1))
    (λ r. ⊎_elim (λ h. (Distinct, ap plan_of h))
    (λ h. (Limit (limit_of h.0), ap plan_of h.1)) r) r) r) r) c.in-Filter.is in
    let some = c.requires.held in
    let held = subst (λ p. IsHeld (plan_of p) tables c.args.moved_in.now some.instance) (sym c.deref-in-Filter.ensures) (subst (λ p. IsHeld p tables c.args.moved_in.now some.instance) over.1 some.held) in
    small_below tables some.instance input c.evaluate-in-Filter.new.orderings c.in_ok-below-in-Filter.below c.args.orderings.now (c.in_ok-below-in-Filter.ensures.walked some.instance held).ok

pub returns-in_err-below-in-Filter-clause-walked : goal.returns-in_err-below-in-Filter-clause-walked
returns-in_err-below-in-Filter-clause-walked t c = λ instance held. (
    let tables = c.args.tables.now in
    let old = c.args.orderings.now in
    let input = plan_of c.deref-in-Filter.result.now in
    let over : IsStepOver (plan_of c.args.plan.now) (plan_of c.in-Filter.input.value) =
    ⊎_elim (λ h. (Filter (expression_of h.0), ap plan_of h.1))
    (λ r. ⊎_elim (λ h. (Map (map expression_of h.0.items), ap plan_of h.1))
    (λ r. ⊎_elim (λ h. (Group (grouping_of h.0), ap plan_of h.1))
    (λ r. ⊎_elim (λ h. (Window (window_of h.0), ap plan_of h.1))
    (λ r. ⊎_elim (λ h. (Distinct, ap plan_of h))
    (λ h. (Limit (limit_of h.0), ap plan_of h.1)) r) r) r) r) c.in-Filter.is in
    let is = over.1 ∙ ap (λ p. Over over.0 (plan_of p)) (sym c.deref-in-Filter.ensures) in
    let here = subst (λ p. IsHeld p tables c.args.moved_in.now instance) is held in
    let e = c.in_err-below-in-Filter.field-0.0 in
    let err = err_from_is_err_and c.from_residual-in_err-below-in-Filter.result c.from_residual-in_err-below-in-Filter.ensures.1 in
    let halted = step_halted_below tables instance old over.0 input e (c.in_err-below-in-Filter.ensures.walked instance here).refused in
    rw (err.1, err.2) (record { ok = tt; refused = subst (λ p. IsHalted p instance old e) (sym is) halted }))

pub returns-in_ok-below-in-Filter-clause-walked : goal.returns-in_ok-below-in-Filter-clause-walked
returns-in_ok-below-in-Filter-clause-walked t c = λ instance held. (
    let tables = c.args.tables.now in
    let old = c.args.orderings.now in
    let input = plan_of c.deref-in-Filter.result.now in
    let over : IsStepOver (plan_of c.args.plan.now) (plan_of c.in-Filter.input.value) =
    ⊎_elim (λ h. (Filter (expression_of h.0), ap plan_of h.1))
    (λ r. ⊎_elim (λ h. (Map (map expression_of h.0.items), ap plan_of h.1))
    (λ r. ⊎_elim (λ h. (Group (grouping_of h.0), ap plan_of h.1))
    (λ r. ⊎_elim (λ h. (Window (window_of h.0), ap plan_of h.1))
    (λ r. ⊎_elim (λ h. (Distinct, ap plan_of h))
    (λ h. (Limit (limit_of h.0), ap plan_of h.1)) r) r) r) r) c.in-Filter.is in
    let is = over.1 ∙ ap (λ p. Over over.0 (plan_of p)) (sym c.deref-in-Filter.ensures) in
    let here = subst (λ p. IsHeld p tables c.args.moved_in.now instance) is held in
    let mid = c.evaluate-in-Filter.new.orderings in
    let new = c.step_over.new.orderings in
    let below = c.in_ok-below-in-Filter.below in
    let b = (c.in_ok-below-in-Filter.ensures.walked instance here).ok in
    subst (λ p. IsWalkedOrHalted p tables instance old new c.step_over.result) (sym is)
    (step_answered tables instance old over.0 input mid below b new c.step_over.result c.requires.within (c.step_over.ensures over.0 input is)))

pub returns-in_ok-below-in-Filter-clause-moved : goal.returns-in_ok-below-in-Filter-clause-moved
returns-in_ok-below-in-Filter-clause-moved t c =
    let over : IsStepOver (plan_of c.args.plan.now) (plan_of c.in-Filter.input.value) =
    ⊎_elim (λ h. (Filter (expression_of h.0), ap plan_of h.1))
    (λ r. ⊎_elim (λ h. (Map (map expression_of h.0.items), ap plan_of h.1))
    (λ r. ⊎_elim (λ h. (Group (grouping_of h.0), ap plan_of h.1))
    (λ r. ⊎_elim (λ h. (Window (window_of h.0), ap plan_of h.1))
    (λ r. ⊎_elim (λ h. (Distinct, ap plan_of h))
    (λ h. (Limit (limit_of h.0), ap plan_of h.1)) r) r) r) r) c.in-Filter.is in
    let is = over.1 ∙ ap (λ p. Over over.0 (plan_of p)) (sym c.deref-in-Filter.ensures) in
    on_ok c.step_over.result (c.in_ok-below-in-Filter.ensures.moved ∙ ap (λ n. drop n c.args.moved_in.now) (sym (ap scan_count is)))
