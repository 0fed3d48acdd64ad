use Rattle.std.proofs.Common.{◌≡◌, length, arith, ap}
use Rattle.std.proofs.lemmas.Int.{ints}
use Rattle.wd_frame.specs.Slides.{seen}
use Rattle.wd_frame.proofs.Held.{IsSumOf-push, total-within}
use Rattle.wd_frame.proofs.sum.SumSlide.push_back.Goals as goal

pub overflow_add-self-2 : goal.overflow_add-self-2
overflow_add-self-2 c =
    let within = total-within (seen c.self.inside.values.items) c.self.invariant.held in
    let least = within.least in
    let most = within.most in
    let exact = c.self.invariant.exact in
    let low = c.number_in.ensures.held.least in
    let high = c.number_in.ensures.held.most in
    let is = c.number_in.ensures.value in
    let few = c.requires in
    let long : length (seen c.self.inside.values.items) ≡ length c.args.self.now = ap length c.self.view_is in
    omega (arith, ints)

pub invariant_of-self-2 : goal.invariant_of-self-2
invariant_of-self-2 c =
    let within = total-within (seen c.self.inside.values.items) c.self.invariant.held in
    let least = within.least in
    let most = within.most in
    let exact = c.self.invariant.exact in
    let low = c.number_in.ensures.held.least in
    let high = c.number_in.ensures.held.most in
    let is = c.number_in.ensures.value in
    let few = c.requires in
    let long : length (seen c.self.inside.values.items) ≡ length c.args.self.now = ap length c.self.view_is in
    IsSumOf-push c.self.inside.values.items c.push_back.new.self.items c.args.value c.self.inside.count _ c.self.inside.so_far _ c.self.invariant
    c.in_ok-push_back.ensures.items (let w = c.weight.ensures.value in omega arith) (omega (arith, ints)) c.number_in.ensures.held
