use Rattle.std.proofs.Common.{◌≡◌, ◌++◌, length, map}
use Rattle.wd_lex.specs.declared.token.Terminal.TheVariants.{Where}
use Rattle.wd_membership.specs.Named.{conjunct}
use Rattle.wd_membership.specs.Written.{conditions}
use Rattle.wd_membership.proofs.write.add_conditions.Given as goal

abbrev pub invariant-loop-rest : goal.invariant-loop-rest
invariant-loop-rest l = l.written.items ++ conditions l.first (map conjunct l.rest) ≡ l.initial.written.items ++ conditions Where (map conjunct l.fn.conjuncts)

abbrev pub decreases-loop-rest : goal.decreases-loop-rest
decreases-loop-rest l = length l.rest
