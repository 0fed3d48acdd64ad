use Rattle.std.proofs.Common.{◌≡◌, ◌++◌, length, map}
use Rattle.wd_casts.specs.Names.{unknown_uses}
use Rattle.wd_amounts.specs.Seen.{use_seen}
use Rattle.wd_casts.proofs.names.push_unknown.Given as goal

abbrev pub invariant-loop-rest : goal.invariant-loop-rest
invariant-loop-rest l = map use_seen l.uses.items ++ unknown_uses (map (λ n. n.now) l.rest) ≡ map use_seen l.initial.uses.items ++ unknown_uses (map (λ n. n.now) l.given)

abbrev pub decreases-loop-rest : goal.decreases-loop-rest
decreases-loop-rest l = length l.rest
