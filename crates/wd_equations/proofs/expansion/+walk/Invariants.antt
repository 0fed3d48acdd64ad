use Rattle.std.proofs.Common.{◌≡◌, ◌≤◌, ◌+◌, ◌-◌, ◌*◌, ◌++◌, length, map}
use Rattle.wd_equations.specs.declared.found.Before.TheVariants.{Open}
use Rattle.wd_equations.specs.Given.{most_tokens}
use Rattle.wd_equations.specs.Expanded.{pieces_tokens, walked}
use Rattle.wd_equations.proofs.expansion.+walk.Given as goal

abbrev pub decreases-walk : goal.decreases-walk
decreases-walk l = 7 * l.turns

abbrev pub decreases-push_part : goal.decreases-push_part
decreases-push_part l = 7 * l.turns + 1

abbrev pub decreases-push_operand : goal.decreases-push_operand
decreases-push_operand l = 7 * l.turns + 2

abbrev pub decreases-push_piece : goal.decreases-push_piece
decreases-push_piece l = 7 * l.turns + 3

abbrev pub decreases-push_pieces : goal.decreases-push_pieces
decreases-push_pieces l = 7 * l.turns + 4

abbrev pub decreases-push_found : goal.decreases-push_found
decreases-push_found l = 7 * l.turns + 5

abbrev pub decreases-step : goal.decreases-step
decreases-step l = 7 * l.turns + 6

abbrev pub invariant-push_pieces-loop-rest : goal.invariant-push_pieces-loop-rest
invariant-push_pieces-loop-rest l =
    let said = pieces_tokens (walked l.turns Open) l.at (map (λ part. part.now) l.parts) in
    record {
      pieces : l.out.items ++ said l.rest ≡ l.initial.out.items ++ said l.pieces;
      within : length l.out.items ≤ most_tokens;
    }

abbrev pub decreases-push_pieces-loop-rest : goal.decreases-push_pieces-loop-rest
decreases-push_pieces-loop-rest l = length l.rest

abbrev pub invariant-walk-loop-turn : goal.invariant-walk-loop-turn
invariant-walk-loop-turn l = record {
  walked : l.out.items ++ walked (l.turns - l.turn) l.before l.rest ≡ l.initial.out.items ++ walked l.turns l.fn.from l.tokens;
  within : length l.out.items ≤ most_tokens;
}
