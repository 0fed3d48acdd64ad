use Rattle.std.proofs.Common.{◌∙◌, subst, sym}
use Rattle.wd_accept.specs.Acceptance.{IsAccepted}
use Rattle.wd_file.proofs.hold.is_accepted.Goals as goal

pub returns-in-Ok-clause-yes : goal.returns-in-Ok-clause-yes
returns-in-Ok-clause-yes c = λ _. subst (IsAccepted c.args.schema.now c.args.query.now) (c.deref.ensures.value ∙ c.in_ok-text.ensures.text) c.in-Ok.ensures.accepted

pub returns-in-Some-clause-no : goal.returns-in-Some-clause-no
returns-in-Some-clause-no c = λ _ means accepted.
    let held = subst (IsAccepted c.args.schema.now c.args.query.now) (sym (c.deref.ensures.value ∙ c.in_ok-text.ensures.text)) accepted in
    let none = c.in-Err.ensures.taken means held in
    let other = sym c.in-Some.is ∙ (c.number.ensures ∙ none) in
    absurd (cc)
