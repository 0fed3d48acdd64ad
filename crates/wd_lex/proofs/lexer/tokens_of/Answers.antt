use Rattle.std.proofs.Common.{◌-◌, length, is_ok, refl, sym, ap, ◌∙◌, subst, arith, eqb-true}
use Rattle.std.proofs.ResultArms.{chosen}
use Rattle.std.proofs.lemmas.Bool.{eqb-false}
use Rattle.std.proofs.lemmas.Result.{err_from_is_err_and}
use Rattle.wd_lex.proofs.Progress.{IsStep, IsReadUpTo, all_read, read_step, read_none, read_some, step_refused, rest_within}
use Rattle.wd_lex.proofs.lexer.tokens_of.Goals as goal
use Rattle.wd_lex.proofs.lexer.tokens_of.Goals.{In_ok-kind}

-- what the step has read
step : (c : In_ok-kind) → IsStep c.args.text.now c.loop-rest.tokens.items c.loop-rest.rest.now c.in_ok-kind.after.now c.in_ok-kind.kind
step c = read_step c.args.text.now c.loop-rest.tokens.items c.loop-rest.rest.now c.in_ok-kind.after.now c.in_ok-kind.kind (length c.args.text.now - length c.loop-rest.rest.now)
    c.loop-rest.invariant.read (eqb-false (length c.loop-rest.rest.now) 0 (sym c.loop-rest-test.ensures)) c.in_ok-kind.ensures

pub overflow_sub-end : goal.overflow_sub-end
overflow_sub-end c =
    let h = (step (goal.at.overflow_sub-end c).In_ok-kind).shorter in
    omega (arith, h, rest_within c.args.text.now c.loop-rest.tokens.items c.loop-rest.rest.now c.loop-rest.invariant.read)

pub loop-rest-smaller : goal.loop-rest-smaller
loop-rest-smaller c = (step (goal.at.loop-rest-smaller c).In_ok-kind).shorter

pub loop-rest-smaller-in_ok-push : goal.loop-rest-smaller-in_ok-push
loop-rest-smaller-in_ok-push c = (step (goal.at.loop-rest-smaller-in_ok-push c).In_ok-kind).shorter

pub loop-rest-preserved : goal.loop-rest-preserved
loop-rest-preserved c =
    let h = step (goal.at.loop-rest-preserved c).In_ok-kind in
    record {
      utf8 = h.utf8 c.loop-rest.invariant.utf8;
      read = read_none c.args.text.now c.loop-rest.tokens.items c.loop-rest.rest.now c.in_ok-kind.after.now c.in_ok-kind.kind h c.in_default.is;
    }

pub loop-rest-preserved-in_ok-push : goal.loop-rest-preserved-in_ok-push
loop-rest-preserved-in_ok-push c =
    let h = step (goal.at.loop-rest-preserved-in_ok-push c).In_ok-kind in
    let pushed = chosen _ _ _ _ c.push.ensures.items (ap is_ok c.in_ok-push.was) in
    record {
      utf8 = h.utf8 c.loop-rest.invariant.utf8;
      read = subst (λ tokens. IsReadUpTo c.args.text.now tokens c.in_ok-kind.after.now) (sym pushed)
          (read_some c.args.text.now c.loop-rest.tokens.items c.loop-rest.rest.now c.in_ok-kind.after.now c.in_ok-kind.kind c.in-Some.kind h c.in-Some.is);
    }

pub returns-in_err-kind-clause-cause : goal.returns-in_err-kind-clause-cause
returns-in_err-kind-clause-cause c =
    let given = err_from_is_err_and c.from_residual.result c.from_residual.ensures.1 in
    rw (given.1, given.2)
    (step_refused c.args.text.now c.loop-rest.tokens.items c.loop-rest.rest.now (length c.args.text.now - length c.loop-rest.rest.now) c.in_err-kind.field-0.0
    (record { short = c.requires; utf8 = c.utf8.text }) c.loop-rest.invariant.read refl (eqb-false (length c.loop-rest.rest.now) 0 (sym c.loop-rest-test.ensures)) c.in_err-kind.ensures)

pub returns-clause-tokens : goal.returns-clause-tokens
returns-clause-tokens c = all_read c.args.text.now c.loop-rest.tokens.items c.loop-rest.rest.now (record { short = c.requires; utf8 = c.utf8.text }) c.loop-rest.invariant.read (eqb-true (length c.loop-rest.rest.now) 0 (sym c.is_empty.ensures ∙ c.loop-rest-test.false))
