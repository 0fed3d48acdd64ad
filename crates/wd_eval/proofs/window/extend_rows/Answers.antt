use Rattle.std.proofs.Common.{◌≡◌, ◌∙◌, subst, Ok, Err}
use Rattle.std.proofs.lemmas.Result.{err_from_is_err_and}
use Rattle.wd_nodes.specs.Relation.{relation_of}
use Rattle.wd_plan.specs.Plans.{Window, window_of}
use Rattle.wd_eval.specs.Walks.{Gives, Stops}
use Rattle.wd_eval.proofs.window.extend_rows.Goals as goal

pub returns-in-Ok : goal.returns-in-Ok
returns-in-Ok c =
    let step = Window (window_of c.args.window.now) in
    let old = c.args.orderings.now in
    let new = c.extend_own.new.orderings in
    let rows : c.in_ok-rows.rows ≡ relation_of c.args.tables.now c.args.input = c.in_ok-rows.ensures ∙ c.in_ok-stored.ensures in
    let found = subst (λ o. Gives step (Ok c.in_ok-rows.rows) old new o) c.in-Ok.is c.in_ok-extended.ensures.ok in
    record { ok = subst (λ rs. Gives step (Ok rs) old new (Ok c.in-Ok.extended)) rows found; refused = tt }

pub returns-in-Err : goal.returns-in-Err
returns-in-Err c =
    let step = Window (window_of c.args.window.now) in
    let old = c.args.orderings.now in
    let new = c.extend_own.new.orderings in
    let rows : c.in_ok-rows.rows ≡ relation_of c.args.tables.now c.args.input = c.in_ok-rows.ensures ∙ c.in_ok-stored.ensures in
    let found = subst (λ o. Gives step (Ok c.in_ok-rows.rows) old new o) c.in-Err.is c.in_ok-extended.ensures.ok in
    record { ok = subst (λ rs. Gives step (Ok rs) old new (Err c.in-Err.fault)) rows found; refused = tt }

pub returns-in_err-extended : goal.returns-in_err-extended
returns-in_err-extended c =
    let step = Window (window_of c.args.window.now) in
    let rows : c.in_ok-rows.rows ≡ relation_of c.args.tables.now c.args.input = c.in_ok-rows.ensures ∙ c.in_ok-stored.ensures in
    let e = c.in_err-extended.field-0.0 in
    let err = err_from_is_err_and c.from_residual-in_err-extended.result c.from_residual-in_err-extended.ensures.1 in
    rw (err.1, err.2) (record { ok = tt; refused = subst (λ rs. Stops step (Ok rs) c.args.orderings.now e) rows c.in_err-extended.ensures.refused })
