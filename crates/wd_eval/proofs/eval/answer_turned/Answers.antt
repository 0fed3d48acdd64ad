use Rattle.std.proofs.Common.{◌≡◌, ◌∙◌, ap, subst}
use Rattle.std.proofs.lemmas.Result.{err_from_is_err_and}
use Rattle.wd_value.specs.Rows.{instance_of}
use Rattle.wd_nodes.specs.Relation.{relation_or_fault_of}
use Rattle.wd_eval.proofs.eval.answer_turned.Goals as goal

pub returns-in_err-choice : goal.returns-in_err-choice
returns-in_err-choice c = let p = err_from_is_err_and c.from_residual.result c.from_residual.ensures.1 in rw (p.1, p.2) (record { ok = tt; refused = c.in_err-choice.ensures.refused })

pub returns : goal.returns
returns c =
    let walked = c.in_ok-choice.ensures.walked in
    let is = subst (λ ts. c.in_ok-answer.answer ≡ relation_or_fault_of ts c.in_ok-choice.given) (c.of_rows.ensures ∙ ap instance_of c.deref.ensures.value) c.in_ok-answer.ensures in
    record { ok = record { choice = walked.choice; is = is ∙ walked.is }; refused = tt }
