use Rattle.std.proofs.Common.{◌≡◌, ◌≤◌, arith, sym, ◌∙◌, ℕ}
use Rattle.wd_frame.specs.Places.{part_of}
use Rattle.wd_frame.proofs.BoundLaws.{bound-le, more_passed, none_passed}
use Rattle.wd_frame.proofs.extent.move_on.Goals as goal

same : (a b : ℕ) → a ≤ b → b ≤ a → a ≡ b
same a b l m = omega arith

pub returns-then-not-is_passed-clause-exact : goal.returns-then-not-is_passed-clause-exact
returns-then-not-is_passed-clause-exact c = λ ordered l from.
    same _ _ (c.loop-other.invariant ordered l from)
    (none_passed c.args.side (part_of c.args.part.now) c.args.frame.now c.args.place c.loop-other.other ordered l (sym c.is_passed.ensures ∙ c.if-not-is_passed.true))

pub loop-other-preserved : goal.loop-other-preserved
loop-other-preserved c = λ ordered l from.
    more_passed c.args.side (part_of c.args.part.now) c.args.frame.now c.args.place c.loop-other.other ordered l c.loop-other-test.true (sym c.is_passed.ensures ∙ c.if-not-is_passed.false)

pub returns-clause-exact : goal.returns-clause-exact
returns-clause-exact c = λ ordered l from.
    let past = c.loop-other-test.false in
    let low = c.loop-other.invariant ordered l from in
    let high = bound-le c.args.side (part_of c.args.part.now) c.args.frame.now c.args.place in
    let end = c.loop-other.auto.other-end in
    let had = c.requires in
    omega arith
