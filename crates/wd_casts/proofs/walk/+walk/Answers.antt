use Rattle.std.proofs.Common.{[], ◌∙◌, ◌-◌, sym, true}
use Rattle.std.proofs.lemmas.Result.{err_from_is_err_and}
use Rattle.wd_casts.specs.Seen.{kinds_seen}
use Rattle.wd_casts.specs.Walked.{cast_by, walked}
use Rattle.wd_casts.proofs.GrowFacts.{casts_grow}
use Rattle.wd_casts.proofs.WalkFacts.{turn_step, walk_fail, walk_more, walk_none, walk_over}
use Rattle.wd_casts.proofs.WriteFacts.{from_writes, operand_refused, to_writes}
use Rattle.wd_casts.proofs.walk.+walk.Goals as goal

pub add_place-returns-in_err-walk : goal.add_place-returns-in_err-walk
add_place-returns-in_err-walk t c =
    let kinds = kinds_seen c.args.kinds.now in
    let place = c.args.place.now in
    let operand = walked kinds c.args.turns true place.term.operand.now in
    let p = err_from_is_err_and c.from_residual.result c.from_residual.ensures.1 in
    rw (p.1, p.2)
    (to_writes c.in_err-walk.field-0.0 c.args.written.now.items [] (cast_by place.known place.term.casts.items operand)
    (operand_refused c.in_err-walk.field-0.0 c.args.written.now.items c.new-operand.result.items operand (cast_by place.known place.term.casts.items operand)
    c.new-operand.ensures.items (casts_grow place.known place.term.casts.items operand)
    (from_writes c.in_err-walk.field-0.0 c.new-operand.result.items c.walk.new.written.items operand c.in_err-walk.ensures)))

pub walk-returns-then-is_empty : goal.walk-returns-then-is_empty
walk-returns-then-is_empty t c =
    let kinds = kinds_seen c.args.kinds.now in
    walk_none kinds (c.args.turns - c.loop-turn.turn) c.loop-turn.begins c.loop-turn.rest.now c.loop-turn.written.items c.args.written.now.items (walked kinds c.args.turns c.args.from c.args.tokens.now)
    (sym c.is_empty.ensures ∙ c.if-is_empty.true) c.loop-turn.invariant

pub walk-returns-in_err-next : goal.walk-returns-in_err-next
walk-returns-in_err-next t c =
    let kinds = kinds_seen c.args.kinds.now in
    let p = err_from_is_err_and c.from_residual.result c.from_residual.ensures.1 in
    rw (p.1, p.2)
    (to_writes c.in_err-next.field-0.0 c.args.written.now.items [] (walked kinds c.args.turns c.args.from c.args.tokens.now)
    (walk_fail kinds c.in_err-next.field-0.0 c.args.turns c.loop-turn.turn c.loop-turn.begins c.loop-turn.rest.now c.args.written.now.items c.loop-turn.written.items (walked kinds c.args.turns c.args.from c.args.tokens.now)
    c.loop-turn-test.true (sym c.is_empty.ensures ∙ c.if-is_empty.false)
    (from_writes c.in_err-next.field-0.0 c.loop-turn.written.items c.step.new.written.items (turn_step kinds c.args.turns c.loop-turn.turn c.loop-turn.begins c.loop-turn.rest.now).0 c.in_err-next.ensures.added) c.loop-turn.invariant))

pub walk-loop-turn-preserved : goal.walk-loop-turn-preserved
walk-loop-turn-preserved t c =
    let kinds = kinds_seen c.args.kinds.now in
    walk_more kinds c.args.turns c.loop-turn.turn c.loop-turn.begins c.in_ok-next.next c.loop-turn.rest.now c.in_ok-next.following.now c.args.written.now.items c.loop-turn.written.items c.step.new.written.items (walked kinds c.args.turns c.args.from c.args.tokens.now)
    c.loop-turn-test.true (sym c.is_empty.ensures ∙ c.if-is_empty.false) c.in_ok-next.ensures.added c.in_ok-next.ensures.next c.in_ok-next.ensures.rest c.loop-turn.invariant

pub walk-returns : goal.walk-returns
walk-returns t c =
    let kinds = kinds_seen c.args.kinds.now in
    walk_over kinds c.args.turns c.loop-turn.turn c.loop-turn.begins c.loop-turn.rest.now c.loop-turn.written.items c.args.written.now.items (walked kinds c.args.turns c.args.from c.args.tokens.now)
    c.loop-turn-test.false c.loop-turn.invariant
