use Rattle.std.proofs.Common.{◌≡◌, ◌+ℤ◌, ◌∙◌, arith, subst}
use Rattle.std.proofs.lemmas.Int.{ints}
use mir.Syntax.{w128}
use mir.Val.{of_z, to_z}
use Rattle.wd_frame.specs.declared.answer.Answer.{Answer}
use Rattle.wd_frame.specs.Slides.{IsSmall, Number, shown}
use Rattle.wd_frame.proofs.Joining.{saturated}
use Rattle.wd_frame.proofs.sum.add.Goals as goal

pub returns-in-Number-Number-clause-small : goal.returns-in-Number-Number-clause-small
returns-in-Number-Number-clause-small c = λ m n first second few.
    let one : IsSmall m (Number c.in-Number-Number.one) = subst (λ (a : Answer). IsSmall m (shown a)) c.in-Number-Number.is-0 first in
    let other : IsSmall n (Number c.in-Number-Number.other) = subst (λ (a : Answer). IsSmall n (shown a)) c.in-Number-Number.is-1 second in
    let low = one.0 in let high = one.1 in let low' = other.0 in let high' = other.1 in
    let sum : c.saturating_add.result ≡ c.in-Number-Number.one +ℤ c.in-Number-Number.other =
    c.saturating_add.ensures
    ∙ saturated (to_z w128 (of_z w128 c.in-Number-Number.one) +ℤ to_z w128 (of_z w128 c.in-Number-Number.other)) (omega (arith, ints)) (omega (arith, ints))
    ∙ omega (arith, ints) in
    (omega (arith, ints), omega (arith, ints))
