use Rattle.std.proofs.Common.{◌≡◌, ℕ, List, length, map}
use Rattle.wd_amounts.specs.Seen.{kept_seen, use_seen}
use Rattle.wd_amounts.specs.Uses.{agreed_from}
use Rattle.wd_amounts.proofs.known.KnownNames.add_all.Given as goal

abbrev pub invariant-loop-rest : goal.invariant-loop-rest
invariant-loop-rest g l =
    let either = g.V.NameValue.either in
    (other : List ℕ) → agreed_from either (kept_seen l.self other) other (map use_seen l.rest) ≡ agreed_from either (kept_seen l.initial.self other) other (map use_seen l.fn.uses)

abbrev pub decreases-loop-rest : goal.decreases-loop-rest
decreases-loop-rest g l = length l.rest
