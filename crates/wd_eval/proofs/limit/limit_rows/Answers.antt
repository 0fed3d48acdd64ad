use Rattle.std.proofs.Common.{◌+◌, None, refl, subst, Ok, Err}
use Rattle.std.proofs.lemmas.Result.{err_from_is_err_and}
use Rattle.wd_plan.specs.Outcomes.{RowsOrFault}
use Rattle.wd_plan.specs.Plans.{Limit, limit_of}
use Rattle.wd_nodes.specs.Relation.{relation_of, stored_rows_of}
use Rattle.wd_nodes.specs.declared.stored.StoredRows.{StoredRows}
use Rattle.wd_eval.specs.Nodes.{IsLimitedOrUnserved}
use Rattle.wd_eval.specs.Ties.{IsStableStep}
use Rattle.wd_eval.specs.Windows.{orderings_of}
use Rattle.wd_eval.proofs.Cursors.{gives_chosen, gives_sorted, gives_stable, stops_chosen}
use Rattle.wd_eval.proofs.Serving.{limited_or_unserved}
use Rattle.wd_eval.proofs.limit.limit_rows.Goals as goal

pub returns-in_ok-kept-in-Chosen : goal.returns-in_ok-kept-in-Chosen
returns-in_ok-kept-in-Chosen c =
    let tables = c.args.tables.now in
    let view : StoredRows → RowsOrFault = λ s. Ok (stored_rows_of tables s) in
    let rows = relation_of tables c.args.input in
    let limit = limit_of c.args.limit.now in
    let kept = c.in_ok-kept-in-Chosen.kept in
    let choice = orderings_of c.in-Chosen.choice.now in
    let limited = subst (λ rs. IsLimitedOrUnserved view limit (Ok rs) choice c.in-Chosen.next (Ok kept)) c.in_ok-input.ensures c.in_ok-kept-in-Chosen.ensures in
    let stepped = (limited_or_unserved view limit (Ok rows) choice c.in-Chosen.next (Ok kept) limited).ok in
    record {
      ok = gives_chosen c.args.orderings.now c.in-Chosen.choice c.in-Chosen.next c.in-Chosen.most c.in-Chosen.is (Limit limit) (Ok rows) (view kept) (c.in-Chosen.next + 1) refl stepped;
      refused = tt;
    }

pub returns-in_err-kept-in-Chosen : goal.returns-in_err-kept-in-Chosen
returns-in_err-kept-in-Chosen c =
    let tables = c.args.tables.now in
    let view : StoredRows → RowsOrFault = λ s. Ok (stored_rows_of tables s) in
    let rows = relation_of tables c.args.input in
    let limit = limit_of c.args.limit.now in
    let e = c.in_err-kept-in-Chosen.field-0.0 in
    let err = err_from_is_err_and c.from_residual-in_err-kept-in-Chosen.result c.from_residual-in_err-kept-in-Chosen.ensures.1 in
    let choice = orderings_of c.in-Chosen.choice.now in
    let limited = subst (λ rs. IsLimitedOrUnserved view limit (Ok rs) choice c.in-Chosen.next (Err e)) c.in_ok-input.ensures c.in_err-kept-in-Chosen.ensures in
    let why = (limited_or_unserved view limit (Ok rows) choice c.in-Chosen.next (Err e) limited).refused in
    rw (err.1, err.2) (record { ok = tt; refused = stops_chosen c.args.orderings.now c.in-Chosen.choice c.in-Chosen.next c.in-Chosen.most c.in-Chosen.is (Limit limit) (Ok rows) e why })

pub returns-in_ok-kept-in-Sorted : goal.returns-in_ok-kept-in-Sorted
returns-in_ok-kept-in-Sorted c =
    let tables = c.args.tables.now in
    let rows = relation_of tables c.args.input in
    let limit = limit_of c.args.limit.now in
    let found : RowsOrFault = Ok (stored_rows_of tables c.in_ok-kept-in-Sorted.kept) in
    let more = c.sorted_limit.new.made in
    let x = subst (λ rs. IsStableStep (Limit limit) (Ok rs) c.in-Sorted.turned (orderings_of c.in-Sorted.made.items) (orderings_of more.items) found) c.in_ok-input.ensures c.in_ok-kept-in-Sorted.ensures in
    record { ok = gives_sorted c.args.orderings.now c.in-Sorted.turned c.in-Sorted.made more c.in-Sorted.is (Limit limit) (Ok rows) found x; refused = tt }

pub returns-in_ok-kept-in-Stable : goal.returns-in_ok-kept-in-Stable
returns-in_ok-kept-in-Stable c =
    let tables = c.args.tables.now in
    let rows = relation_of tables c.args.input in
    let limit = limit_of c.args.limit.now in
    let found : RowsOrFault = Ok (stored_rows_of tables c.in_ok-kept-in-Stable.kept) in
    let made = orderings_of c.new.result.items in
    let more = orderings_of c.sorted_limit-in-Stable.new.made.items in
    let x = subst (λ rs. IsStableStep (Limit limit) (Ok rs) None made more found) c.in_ok-input.ensures c.in_ok-kept-in-Stable.ensures in
    record { ok = gives_stable c.args.orderings.now c.in-Stable.is (Limit limit) (Ok rows) found made more x; refused = tt }
