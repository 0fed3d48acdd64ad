use Rattle.std.proofs.Common.{◌≡◌, length, map}
use Rattle.wd_lex.specs.Lexed.{kinds_of}
use Rattle.wd_dialect_read.specs.Reading.{past_words}
use Rattle.wd_dialect_read.proofs.words.past_words.Given as goal

abbrev pub invariant-loop-rest : goal.invariant-loop-rest
invariant-loop-rest l = past_words (map (λ word. word.now) l.words) (kinds_of l.rest) ≡ past_words (map (λ word. word.now) l.words) (kinds_of l.fn.tokens)

abbrev pub decreases-loop-rest : goal.decreases-loop-rest
decreases-loop-rest l = length l.rest
