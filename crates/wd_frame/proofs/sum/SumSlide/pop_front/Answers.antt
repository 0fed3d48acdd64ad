use Rattle.std.proofs.Common.{arith}
use Rattle.std.proofs.lemmas.Int.{ints}
use Rattle.std.proofs.lemmas.List.{length-map}
use Rattle.std.specs.Borrow.{Bor}
use Rattle.wd_value.specs.declared.value.Value.{Value}
use Rattle.wd_frame.specs.Slides.{seen}
use Rattle.wd_frame.proofs.Held.{IsSumOf-pop, total-within}
use Rattle.wd_frame.proofs.sum.SumSlide.pop_front.Goals as goal

pub overflow_sub-self-in-Some : goal.overflow_sub-self-in-Some
overflow_sub-self-in-Some c =
    let within = total-within (seen c.self.inside.values.items) c.self.invariant.held in
    let least = within.least in
    let most = within.most in
    let exact = c.self.invariant.exact in
    let low = c.number_in.ensures.held.least in
    let high = c.number_in.ensures.held.most in
    let is = c.number_in.ensures.value in
    let ok = c.self.inside.values.ok in
    let small = c.self.inside.values.small in
    let long = length-map c.self.inside.values.items (λ (r : Bor Value). r.now) in
    omega (arith, ints)

pub invariant_of-self : goal.invariant_of-self
invariant_of-self c =
    let within = total-within (seen c.self.inside.values.items) c.self.invariant.held in
    let least = within.least in
    let most = within.most in
    let exact = c.self.invariant.exact in
    let low = c.number_in.ensures.held.least in
    let high = c.number_in.ensures.held.most in
    let is = c.number_in.ensures.value in
    let ok = c.self.inside.values.ok in
    let small = c.self.inside.values.small in
    let long = length-map c.self.inside.values.items (λ (r : Bor Value). r.now) in
    IsSumOf-pop c.self.inside.values.items c.pop_front.new.self.items c.in-Some.value c.self.inside.count _ c.self.inside.so_far _ c.self.invariant
    c.in-Some.ensures.items (let w = c.weight.ensures.value in omega arith) (omega (arith, ints))
