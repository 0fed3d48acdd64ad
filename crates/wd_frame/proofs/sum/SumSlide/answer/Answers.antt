use Rattle.std.proofs.Common.{◌≡◌, length, arith, ap}
use Rattle.std.proofs.lemmas.Int.{ints}
use Rattle.wd_frame.specs.Slides.{seen}
use Rattle.wd_frame.proofs.Held.{total-within}
use Rattle.wd_frame.proofs.sum.SumSlide.answer.Goals as goal

pub returns-else-self-eq0-clause-small : goal.returns-else-self-eq0-clause-small
returns-else-self-eq0-clause-small c =
    let within = total-within (seen c.self.inside.values.items) c.self.invariant.held in
    let least = within.least in
    let most = within.most in
    let exact = c.self.invariant.exact in
    let ok = c.self.inside.values.ok in
    let small = c.self.inside.values.small in
    let long : length (seen c.self.inside.values.items) ≡ length c.args.self.now = ap length c.self.view_is in
    (omega (arith, ints), omega (arith, ints))
