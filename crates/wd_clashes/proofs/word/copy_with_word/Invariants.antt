use Rattle.std.proofs.Common.{◌≡◌, ◌+◌, ◌++◌, length}
use Rattle.wd_clashes.specs.Unlike.{with_word_from}
use Rattle.wd_clashes.proofs.word.copy_with_word.Given as goal

abbrev pub invariant-loop-rest : goal.invariant-loop-rest
invariant-loop-rest l = record {
  worded : l.out.items ++ with_word_from l.count l.unlike l.rest ≡ with_word_from 0 l.unlike l.tokens;
  counted : l.count + length l.rest ≡ length l.tokens;
}

abbrev pub decreases-loop-rest : goal.decreases-loop-rest
decreases-loop-rest l = length l.rest
