use Rattle.std.proofs.Common.{◌≡◌, ◌++◌, ◌+◌, ◌≤◌, length, map}
use Rattle.wd_amounts.specs.Names.{level_uses, level_uses_from}
use Rattle.wd_amounts.specs.Seen.{known_seen, use_seen}
use Rattle.wd_amounts.specs.Terms.{unit_of}
use Rattle.wd_amounts.proofs.scan.level_uses.Given as goal

abbrev pub invariant-loop-rest : goal.invariant-loop-rest
invariant-loop-rest l =
    (map use_seen l.uses.items ++ level_uses_from (unit_of (known_seen l.known)) l.level l.here l.rest ≡ level_uses (unit_of (known_seen l.known)) l.level l.fn.tokens)
    × (l.here.depth + length l.rest ≤ length l.fn.tokens)

abbrev pub decreases-loop-rest : goal.decreases-loop-rest
decreases-loop-rest l = length l.rest
