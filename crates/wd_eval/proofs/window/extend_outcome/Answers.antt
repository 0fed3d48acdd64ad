use Rattle.std.proofs.Common.{◌≡◌, ◌∙◌, sym, ap, subst, length, rules, Ok, Err}
use Rattle.std.proofs.lemmas.List.{length-map}
use Rattle.std.proofs.lemmas.Result.{err_from_is_err_and}
use Rattle.wd_plan.specs.Outcomes.{outcome_of}
use Rattle.wd_plan.specs.Plans.{Window, class_of, window_of}
use Rattle.wd_eval.specs.Walks.{Gives, Stops}
use Rattle.wd_eval.proofs.Cursors.{fault_given, fault_stops}
use Rattle.wd_eval.proofs.window.extend_outcome.Goals as goal

pub returns-in_ok-next_empty-in-Fault : goal.returns-in_ok-next_empty-in-Fault
returns-in_ok-next_empty-in-Fault c =
    let w = window_of c.args.window.now in
    let old = c.args.orderings.now in
    let new = c.next_empty.new.self in
    let many : c.len.result ≡ length c.args.window.now.classes.items = search rules in
    let long = many ∙ sym (length-map c.args.window.now.classes.items class_of) in
    record {
      ok = subst (λ r. Gives (Window w) r old new (Err c.in-Fault.fault)) (sym (ap outcome_of c.in-Fault.is)) (fault_given (Window w) c.in-Fault.fault old new c.len.result long c.in_ok-next_empty-in-Fault.ensures.ok);
      refused = tt;
    }

pub returns-in_err-next_empty-in-Fault : goal.returns-in_err-next_empty-in-Fault
returns-in_err-next_empty-in-Fault c =
    let w = window_of c.args.window.now in
    let old = c.args.orderings.now in
    let many : c.len.result ≡ length c.args.window.now.classes.items = search rules in
    let long = many ∙ sym (length-map c.args.window.now.classes.items class_of) in
    let e = c.in_err-next_empty-in-Fault.field-0.0 in
    let err = err_from_is_err_and c.from_residual.result c.from_residual.ensures.1 in
    rw (err.1, err.2) (record {
      ok = tt;
      refused = subst (λ r. Stops (Window w) r old e) (sym (ap outcome_of c.in-Fault.is)) (fault_stops (Window w) c.in-Fault.fault old old c.len.result long e c.in_err-next_empty-in-Fault.ensures.refused);
    })

pub returns-in_ok-outcome-in-Rows : goal.returns-in_ok-outcome-in-Rows
returns-in_ok-outcome-in-Rows c =
    let step = Window (window_of c.args.window.now) in
    let old = c.args.orderings.now in
    let new = c.extend_own.new.orderings in
    let input : Ok c.of_rows.result ≡ outcome_of c.args.input = ap Ok c.of_rows.ensures ∙ sym (ap outcome_of c.in-Rows.is) in
    let found = subst (λ o. Gives step (Ok c.of_rows.result) old new o) (sym c.in_ok-outcome-in-Rows.ensures) c.in_ok-extended-in-Rows.ensures.ok in
    record { ok = subst (λ r. Gives step r old new (outcome_of c.in_ok-outcome-in-Rows.outcome)) input found; refused = tt }

pub returns-in_err-extended-in-Rows : goal.returns-in_err-extended-in-Rows
returns-in_err-extended-in-Rows c =
    let step = Window (window_of c.args.window.now) in
    let e = c.in_err-extended-in-Rows.field-0.0 in
    let err = err_from_is_err_and c.from_residual-in_err-extended-in-Rows.result c.from_residual-in_err-extended-in-Rows.ensures.1 in
    let input : Ok c.of_rows.result ≡ outcome_of c.args.input = ap Ok c.of_rows.ensures ∙ sym (ap outcome_of c.in-Rows.is) in
    rw (err.1, err.2) (record { ok = tt; refused = subst (λ r. Stops step r c.args.orderings.now e) input c.in_err-extended-in-Rows.ensures.refused })
