use Rattle.std.proofs.Common.{◌≡◌, ◌∙◌, ap, false, subst, Ok, Err}
use Rattle.std.proofs.lemmas.Result.{err_from_is_err_and}
use Rattle.wd_join.specs.Joins.{has_more_rows}
use Rattle.wd_nodes.specs.Relation.{RelationOrFault, relation_or_fault_of}
use Rattle.wd_eval.specs.Walks.{last_count, most_of}
use Rattle.wd_eval.proofs.Cursors.{fault_given, fault_stops}
use Rattle.wd_eval.proofs.Walks.{few_faults, serves}
use Rattle.wd_eval.proofs.node.step_over.Goals as goal

pub step_over_rows-requires-clause-small : goal.step_over_rows-requires-clause-small
step_over_rows-requires-clause-small c = subst (λ r. has_more_rows (most_of c.args.orderings.now) (relation_or_fault_of c.args.tables.now r) ≡ false) c.in-Ok.is c.requires.small

pub returns-in-Ok : goal.returns-in-Ok
returns-in-Ok c = λ step below is. rw c.in-Ok.is (c.step_over_rows.ensures step below is)

pub returns-in_ok-next_empty-in-Err : goal.returns-in_ok-next_empty-in-Err
returns-in_ok-next_empty-in-Err c = λ step below is. (
    let old = c.args.orderings.now in
    let new = c.next_empty.new.self in
    let fault = c.in-Err.fault in
    let given : RelationOrFault = Err fault in
    rw c.in-Err.is (serves c.args.tables.now old step given new (Ok given) (few_faults (most_of old) step fault)
    (record { ok = fault_given step fault old new c.class_count.result (c.class_count.ensures ∙ ap last_count is) c.in_ok-next_empty-in-Err.ensures.ok; refused = tt })))

pub returns-in_err-next_empty-in-Err : goal.returns-in_err-next_empty-in-Err
returns-in_err-next_empty-in-Err c = λ step below is. (
    let old = c.args.orderings.now in
    let new = c.next_empty.new.self in
    let fault = c.in-Err.fault in
    let given : RelationOrFault = Err fault in
    let e = c.in_err-next_empty-in-Err.field-0.0 in
    let err = err_from_is_err_and c.from_residual.result c.from_residual.ensures.1 in
    rw (err.1, err.2) (rw c.in-Err.is (serves c.args.tables.now old step given new (Err e) (few_faults (most_of old) step fault)
    (record { ok = tt; refused = fault_stops step fault old new c.class_count.result (c.class_count.ensures ∙ ap last_count is) e c.in_err-next_empty-in-Err.ensures.refused }))))
