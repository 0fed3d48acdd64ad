use Rattle.std.proofs.Common.{◌≡◌, ◌++◌, length, map}
use Rattle.wd_lex.specs.declared.token.Terminal.TheVariants.{LeftBracket}
use Rattle.wd_natural.specs.Written.{listed}
use Rattle.wd_natural.proofs.write.add_names.Given as goal

abbrev pub invariant-loop-rest : goal.invariant-loop-rest
invariant-loop-rest l = l.written.items ++ listed l.first (map (λ name. name.now) l.rest) l.fn.word ≡ l.initial.written.items ++ listed LeftBracket (map (λ name. name.now) l.fn.names) l.fn.word

abbrev pub decreases-loop-rest : goal.decreases-loop-rest
decreases-loop-rest l = length l.rest
