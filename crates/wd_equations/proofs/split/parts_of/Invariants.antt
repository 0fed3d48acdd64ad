use Rattle.std.proofs.Common.{◌≡◌, ◌++◌, ◌-◌, length, map}
use Rattle.wd_equations.specs.Parts.{parts_of}
use Rattle.wd_equations.proofs.split.parts_of.Given as goal

abbrev pub invariant-loop : goal.invariant-loop
invariant-loop l = map (λ part. part.now) l.parts.items ++ parts_of (length l.fn.tokens - l.counter) l.here l.next l.rest ≡ parts_of (length l.fn.tokens) l.fn.separator l.fn.other l.fn.tokens
