use Rattle.std.proofs.Common.{◌+◌, ◌*◌}
use Rattle.wd_casts.proofs.known.+known_within.Given as goal

abbrev pub decreases-known_within : goal.decreases-known_within
decreases-known_within l = 4 * l.depth

abbrev pub decreases-primary_known : goal.decreases-primary_known
decreases-primary_known l = 4 * l.depth + 1

abbrev pub decreases-term_known : goal.decreases-term_known
decreases-term_known l = 4 * l.depth + 2

abbrev pub decreases-whole_known : goal.decreases-whole_known
decreases-whole_known l = 4 * l.depth + 3
