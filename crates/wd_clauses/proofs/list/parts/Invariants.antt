use Rattle.std.proofs.Common.{◌≡◌, ◌-◌, map}
use Rattle.wd_clauses.specs.Parts.{most_parts, parts_at}
use Rattle.wd_clauses.proofs.PartFacts.{following}
use Rattle.wd_clauses.proofs.list.parts.Given as goal

abbrev pub invariant-loop : goal.invariant-loop
invariant-loop l = following (map (λ part. part.now) l.parts.items) (parts_at (most_parts - l.counter) l.rest) ≡ parts_at most_parts l.fn.tokens
