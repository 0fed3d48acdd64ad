use Rattle.std.proofs.Common.{◌≡◌, ◌≤◌, ◌+◌, ◌-◌, ◌*◌, ◌++◌, length}
use Rattle.wd_amounts.specs.Seen.{known_seen}
use Rattle.wd_moments.specs.Decimals.{depth_of}
use Rattle.wd_moments.specs.Given.{most_tokens}
use Rattle.wd_moments.specs.Numbered.{numbers_within, step}
use Rattle.wd_moments.specs.Sides.{piece, side, stepped}
use Rattle.wd_moments.proofs.numbered.+push_numbered.Given as goal

abbrev pub decreases-push_numbered : goal.decreases-push_numbered
decreases-push_numbered l = 6 * l.levels

abbrev pub decreases-push_step : goal.decreases-push_step
decreases-push_step l = 6 * l.levels + 5

abbrev pub decreases-push_compared : goal.decreases-push_compared
decreases-push_compared l = 6 * l.levels + 4

abbrev pub decreases-push_beside : goal.decreases-push_beside
decreases-push_beside l = 6 * l.levels + 3

abbrev pub decreases-push_side : goal.decreases-push_side
decreases-push_side l = 6 * l.levels + 2

abbrev pub decreases-push_piece : goal.decreases-push_piece
decreases-push_piece l = 6 * l.levels + 1

abbrev pub invariant-push_side-loop : goal.invariant-push_side-loop
invariant-push_side-loop l =
    let known = known_seen l.known in
    record {
      written : l.out.items ++ stepped (piece (numbers_within known l.levels) known l.unit) (length l.tokens - l.counter) l.stand l.rest ≡ l.initial.out.items ++ side (numbers_within known l.levels) known l.unit l.tokens;
      within : length l.out.items ≤ most_tokens;
      shallow : depth_of l.stand + length l.rest ≤ length l.tokens;
    }

abbrev pub invariant-push_numbered-loop : goal.invariant-push_numbered-loop
invariant-push_numbered-loop l =
    let known = known_seen l.known in
    record {
      written : l.out.items ++ stepped (step (numbers_within known (l.levels - 1)) known) (length l.tokens - l.counter) l.start l.rest ≡ l.initial.out.items ++ numbers_within known l.levels l.tokens;
      within : length l.out.items ≤ most_tokens;
    }
