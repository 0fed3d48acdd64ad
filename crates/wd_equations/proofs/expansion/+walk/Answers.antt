use Rattle.std.proofs.Common.{◌∙◌, ◌-◌, List, Bor, map, sym}
use Rattle.std.proofs.lemmas.Result.{err_from_is_err_and}
use Rattle.wd_lex.specs.declared.token.Terminal.TheVariants as m
use Rattle.wd_lex.specs.declared.token.Token.{Token}
use Rattle.wd_equations.specs.declared.equation.Piece.TheVariants.{Mark}
use Rattle.wd_equations.specs.declared.found.Before.TheVariants.{Open}
use Rattle.wd_equations.specs.Expanded.{pieces_tokens, walked}
use Rattle.wd_equations.proofs.PieceFacts.{pieces_fail, pieces_more, pieces_none}
use Rattle.wd_equations.proofs.WalkFacts.{walk_end, walk_fail, walk_more, walked_none, walked_over}
use Rattle.wd_equations.proofs.expansion.+walk.Goals as goal

pub push_pieces-returns-in_err-push_piece : goal.push_pieces-returns-in_err-push_piece
push_pieces-returns-in_err-push_piece t c =
    let p = err_from_is_err_and c.from_residual.result c.from_residual.ensures.1 in
    let parts = map (λ (part : Bor (List Token)). part.now) c.args.parts.now in
    rw (p.1, p.2)
    (pieces_fail c.in_err-push_piece.field-0.0 (walked c.args.turns Open) c.args.at parts c.loop-rest.rest.now (Mark m.All) c.args.out.now.items c.loop-rest.out.items (pieces_tokens (walked c.args.turns Open) c.args.at parts c.args.pieces.now)
    c.in-len1-up.len_at_least c.in_err-push_piece.ensures c.loop-rest.invariant.pieces)

pub push_pieces-loop-rest-preserved : goal.push_pieces-loop-rest-preserved
push_pieces-loop-rest-preserved t c =
    let parts = map (λ (part : Bor (List Token)). part.now) c.args.parts.now in
    record {
      pieces = pieces_more (walked c.args.turns Open) c.args.at parts c.loop-rest.rest.now (Mark m.All) c.args.out.now.items c.loop-rest.out.items c.push_piece.new.out.items (pieces_tokens (walked c.args.turns Open) c.args.at parts c.args.pieces.now)
          c.in-len1-up.len_at_least c.in_ok-push_piece.ensures.0 c.loop-rest.invariant.pieces;
      within = c.in_ok-push_piece.ensures.1;
    }

pub push_pieces-returns : goal.push_pieces-returns
push_pieces-returns t c =
    let parts = map (λ (part : Bor (List Token)). part.now) c.args.parts.now in
    let said = pieces_tokens (walked c.args.turns Open) c.args.at parts in
    (walk_end c.loop-rest.out.items (said c.loop-rest.rest.now) c.args.out.now.items (said c.args.pieces.now) (pieces_none (walked c.args.turns Open) c.args.at parts c.loop-rest.rest.now c.in_default.len_below) c.loop-rest.invariant.pieces, c.loop-rest.invariant.within)

pub walk-returns-then-is_empty : goal.walk-returns-then-is_empty
walk-returns-then-is_empty t c =
    let turns = c.args.turns - c.loop-turn.turn in
    let rest = c.loop-turn.rest.now in
    (walk_end c.loop-turn.out.items (walked turns c.loop-turn.before rest) c.args.out.now.items (walked c.args.turns c.args.from c.args.tokens.now) (walked_none turns c.loop-turn.before rest (sym c.is_empty.ensures ∙ c.if-is_empty.true)) c.loop-turn.invariant.walked, c.loop-turn.invariant.within)

pub walk-returns-in_err-next : goal.walk-returns-in_err-next
walk-returns-in_err-next t c =
    let p = err_from_is_err_and c.from_residual.result c.from_residual.ensures.1 in
    rw (p.1, p.2)
    (walk_fail c.in_err-next.field-0.0 c.args.turns c.loop-turn.turn c.loop-turn.before c.loop-turn.rest.now c.args.out.now.items c.loop-turn.out.items (walked c.args.turns c.args.from c.args.tokens.now)
    c.loop-turn-test.true (sym c.is_empty.ensures ∙ c.if-is_empty.false) c.in_err-next.ensures.added c.loop-turn.invariant.walked)

pub walk-loop-turn-preserved : goal.walk-loop-turn-preserved
walk-loop-turn-preserved t c = record {
  walked = walk_more c.args.turns c.loop-turn.turn c.loop-turn.before c.in_ok-next.next c.loop-turn.rest.now c.in_ok-next.following.now c.args.out.now.items c.loop-turn.out.items c.step.new.out.items (walked c.args.turns c.args.from c.args.tokens.now)
      c.loop-turn-test.true (sym c.is_empty.ensures ∙ c.if-is_empty.false) c.in_ok-next.ensures.added.0 c.in_ok-next.ensures.next c.in_ok-next.ensures.rest c.loop-turn.invariant.walked;
  within = c.in_ok-next.ensures.added.1;
}

pub walk-returns : goal.walk-returns
walk-returns t c =
    let turns = c.args.turns - c.loop-turn.turn in
    let rest = c.loop-turn.rest.now in
    (walk_end c.loop-turn.out.items (walked turns c.loop-turn.before rest) c.args.out.now.items (walked c.args.turns c.args.from c.args.tokens.now) (walked_over c.args.turns c.loop-turn.turn c.loop-turn.before rest c.loop-turn-test.false) c.loop-turn.invariant.walked, c.loop-turn.invariant.within)
