use Rattle.std.proofs.Common.{◌≡◌, ◌∙◌, None, Some, ap, sym}
use Rattle.wd_schema.specs.Refusals.{number_of}
use Rattle.wd_query_front.proofs.front.respelled_text.Goals as goal

pub returns-in-Some-clause-left : goal.returns-in-Some-clause-left
returns-in-Some-clause-left c = λ tables declares.
    let memory = c.in-Err.ensures.declared tables declares in
    let none : Some c.in-Some.field-0 ≡ None = sym c.in-Some.is ∙ c.number.ensures ∙ ap number_of memory in
    absurd cc
