use Rattle.std.proofs.Common.{◌≡◌, ◌-◌, [], ◌∷◌, length, arith}
use Rattle.wd_equations.specs.Parts.{parts_of}
use Rattle.wd_equations.proofs.PartFacts.{parts_end, parts_more, parts_none, parts_over}
use Rattle.wd_equations.proofs.split.parts_of.Goals as goal
use Rattle.wd_equations.proofs.split.parts_of.Goals.{else-loop-test, then-loop-test+in_default}

pub loop-preserved : goal.loop-preserved
loop-preserved c =
    rw c.in_ok-push.ensures.items (parts_more (length c.args.tokens.now) c.loop.counter c.part_length.result c.loop.here c.loop.next c.loop.parts.items c.split_at.result.0 c.loop.rest.now c.split_at.result.1.now (parts_of (length c.args.tokens.now) c.args.separator c.args.other c.args.tokens.now)
    c.loop-test.true c.part_length.ensures.value c.split_at.ensures.front c.split_at.ensures.back c.in-len1-up.len_at_least c.loop.invariant)

pub returns : goal.returns
returns c =
    let turns = length c.args.tokens.now - c.loop.counter in
    let total = parts_of (length c.args.tokens.now) c.args.separator c.args.other c.args.tokens.now in
    let none : parts_of turns c.loop.here c.loop.next c.loop.rest.now ≡ c.loop.rest.now ∷ [] = elim c.loop-test.branch [
      | else-loop-test w ↦ parts_over (length c.args.tokens.now) c.loop.counter c.loop.here c.loop.next c.loop.rest.now (omega arith)
      | then-loop-test+in_default w ↦ parts_none turns w.part_length.result c.loop.here c.loop.next c.loop.rest.now w.split_at.result.1.now w.part_length.ensures.value w.split_at.ensures.back w.in_default.len_below
    ] in
    rw c.in_ok-push-2.ensures.items (parts_end turns c.loop.here c.loop.next c.loop.parts.items c.loop.rest total none c.loop.invariant)
