use Rattle.std.proofs.Common.{◌≡◌, ◌+◌, ◌-◌, ◌*◌, ◌++◌}
use Rattle.wd_casts.specs.Seen.{kinds_seen}
use Rattle.wd_casts.specs.Walked.{walked}
use Rattle.wd_casts.proofs.walk.+walk.Given as goal

abbrev pub decreases-walk : goal.decreases-walk
decreases-walk l = 3 * l.turns

abbrev pub decreases-add_place : goal.decreases-add_place
decreases-add_place l = 3 * l.turns + 1

abbrev pub decreases-step : goal.decreases-step
decreases-step l = 3 * l.turns + 2

abbrev pub invariant-walk-loop-turn : goal.invariant-walk-loop-turn
invariant-walk-loop-turn l = l.written.items ++ walked (kinds_seen l.kinds) (l.turns - l.turn) l.begins l.rest ≡ l.initial.written.items ++ walked (kinds_seen l.kinds) l.turns l.fn.from l.tokens
