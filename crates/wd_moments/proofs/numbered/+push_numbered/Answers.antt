use Rattle.std.proofs.Common.{◌∙◌, ◌-◌, ◌++◌, ap, arith, length, sym}
use Rattle.std.proofs.lemmas.Result.{err_from_is_err_and}
use Rattle.wd_amounts.specs.Seen.{known_seen}
use Rattle.wd_moments.specs.Numbered.{numbers_within, step}
use Rattle.wd_moments.specs.Sides.{piece, side, stepped}
use Rattle.wd_moments.proofs.StepFacts.{stepped_none, stepped_over, steps_end, steps_fail, steps_more, within_first, within_none}
use Rattle.wd_moments.proofs.numbered.+push_numbered.Goals as goal

pub push_numbered-returns-then-levels-eq0 : goal.push_numbered-returns-then-levels-eq0
push_numbered-returns-then-levels-eq0 t c = rw (within_none (known_seen c.args.known.now) c.args.levels c.args.tokens.now c.if-levels-eq0.true) c.push_copies.ensures

pub push_numbered-loop-init : goal.push_numbered-loop-init
push_numbered-loop-init t c = record {
  written = ap (λ ys. c.args.out.now.items ++ ys) (within_first (known_seen c.args.known.now) c.args.levels c.args.tokens.now c.if-levels-eq0.false);
  within = c.requires;
}

pub push_numbered-returns-then-is_empty : goal.push_numbered-returns-then-is_empty
push_numbered-returns-then-is_empty t c =
    let known = known_seen c.args.known.now in
    let turns = length c.args.tokens.now - c.loop.counter in
    let rest = c.loop.rest.now in
    let one = step (numbers_within known (c.args.levels - 1)) known in
    (steps_end c.loop.out.items (stepped one turns c.loop.start rest) c.args.out.now.items (numbers_within known c.args.levels c.args.tokens.now) (stepped_none one turns c.loop.start rest (sym c.is_empty.ensures ∙ c.if-is_empty.true)) c.loop.invariant.written, c.loop.invariant.within)

pub push_numbered-returns-in_err-next : goal.push_numbered-returns-in_err-next
push_numbered-returns-in_err-next t c =
    let known = known_seen c.args.known.now in
    let one = step (numbers_within known (c.args.levels - 1)) known in
    let p = err_from_is_err_and c.from_residual.result c.from_residual.ensures.1 in
    rw (p.1, p.2)
    (steps_fail one c.in_err-next.field-0.0 (length c.args.tokens.now) c.loop.counter c.loop.start c.loop.rest.now c.args.out.now.items c.loop.out.items (numbers_within known c.args.levels c.args.tokens.now)
    c.loop-test.true (sym c.is_empty.ensures ∙ c.if-is_empty.false) c.in_err-next.ensures.added c.loop.invariant.written)

pub push_numbered-loop-preserved : goal.push_numbered-loop-preserved
push_numbered-loop-preserved t c =
    let known = known_seen c.args.known.now in
    let one = step (numbers_within known (c.args.levels - 1)) known in
    record {
      written = steps_more one (length c.args.tokens.now) c.loop.counter c.loop.start c.in_ok-next.next c.loop.rest.now c.in_ok-next.following.now c.args.out.now.items c.loop.out.items c.push_step.new.out.items (numbers_within known c.args.levels c.args.tokens.now)
          c.loop-test.true (sym c.is_empty.ensures ∙ c.if-is_empty.false) c.in_ok-next.ensures.added.0 c.in_ok-next.ensures.next c.in_ok-next.ensures.rest c.loop.invariant.written;
      within = c.in_ok-next.ensures.added.1;
    }

pub push_numbered-returns : goal.push_numbered-returns
push_numbered-returns t c =
    let known = known_seen c.args.known.now in
    let turns = length c.args.tokens.now - c.loop.counter in
    let rest = c.loop.rest.now in
    let one = step (numbers_within known (c.args.levels - 1)) known in
    (steps_end c.loop.out.items (stepped one turns c.loop.start rest) c.args.out.now.items (numbers_within known c.args.levels c.args.tokens.now) (stepped_over one (length c.args.tokens.now) c.loop.counter c.loop.start rest c.loop-test.false) c.loop.invariant.written, c.loop.invariant.within)

pub push_side-returns-then-is_empty : goal.push_side-returns-then-is_empty
push_side-returns-then-is_empty t c =
    let known = known_seen c.args.known.now in
    let turns = length c.args.tokens.now - c.loop.counter in
    let rest = c.loop.rest.now in
    let itself = numbers_within known c.args.levels in
    let one = piece itself known c.args.unit in
    (steps_end c.loop.out.items (stepped one turns c.loop.stand rest) c.args.out.now.items (side itself known c.args.unit c.args.tokens.now) (stepped_none one turns c.loop.stand rest (sym c.is_empty.ensures ∙ c.if-is_empty.true)) c.loop.invariant.written, c.loop.invariant.within)

pub push_side-returns-in_err-next : goal.push_side-returns-in_err-next
push_side-returns-in_err-next t c =
    let known = known_seen c.args.known.now in
    let itself = numbers_within known c.args.levels in
    let one = piece itself known c.args.unit in
    let p = err_from_is_err_and c.from_residual.result c.from_residual.ensures.1 in
    rw (p.1, p.2)
    (steps_fail one c.in_err-next.field-0.0 (length c.args.tokens.now) c.loop.counter c.loop.stand c.loop.rest.now c.args.out.now.items c.loop.out.items (side itself known c.args.unit c.args.tokens.now)
    c.loop-test.true (sym c.is_empty.ensures ∙ c.if-is_empty.false) c.in_err-next.ensures.added c.loop.invariant.written)

pub push_side-loop-preserved : goal.push_side-loop-preserved
push_side-loop-preserved t c =
    let known = known_seen c.args.known.now in
    let itself = numbers_within known c.args.levels in
    let one = piece itself known c.args.unit in
    record {
      written = steps_more one (length c.args.tokens.now) c.loop.counter c.loop.stand c.in_ok-next.next c.loop.rest.now c.in_ok-next.following.now c.args.out.now.items c.loop.out.items c.push_piece.new.out.items (side itself known c.args.unit c.args.tokens.now)
          c.loop-test.true (sym c.is_empty.ensures ∙ c.if-is_empty.false) c.in_ok-next.ensures.added.0 c.in_ok-next.ensures.next c.in_ok-next.ensures.rest c.loop.invariant.written;
      within = c.in_ok-next.ensures.added.1;
      shallow = omega (arith, c.in_ok-next.ensures.shallow, c.loop.invariant.shallow);
    }

pub push_side-returns : goal.push_side-returns
push_side-returns t c =
    let known = known_seen c.args.known.now in
    let turns = length c.args.tokens.now - c.loop.counter in
    let rest = c.loop.rest.now in
    let itself = numbers_within known c.args.levels in
    let one = piece itself known c.args.unit in
    (steps_end c.loop.out.items (stepped one turns c.loop.stand rest) c.args.out.now.items (side itself known c.args.unit c.args.tokens.now) (stepped_over one (length c.args.tokens.now) c.loop.counter c.loop.stand rest c.loop-test.false) c.loop.invariant.written, c.loop.invariant.within)
