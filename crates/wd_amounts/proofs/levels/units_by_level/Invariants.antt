use Rattle.std.proofs.Common.{◌≡◌, ℕ, List, None}
use Rattle.wd_units.specs.Units.{either}
use Rattle.wd_amounts.specs.Names.{uses_in}
use Rattle.wd_amounts.specs.Seen.{kept_seen}
use Rattle.wd_amounts.specs.Uses.{agreed_from}
use Rattle.wd_amounts.proofs.levels.units_by_level.Given as goal

abbrev pub invariant-loop-levels : goal.invariant-loop-levels
invariant-loop-levels l = (name : List ℕ) → kept_seen l.known name ≡ agreed_from either None name (uses_in l.statements l.tokens l.levels)
