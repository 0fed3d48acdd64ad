use Rattle.std.proofs.Common.{◌≡◌, length, map}
use Rattle.wd_dialect_read.specs.Tokens.{has_word}
use Rattle.wd_dialect_read.proofs.words.has_word.Given as goal

abbrev pub invariant-loop-words : goal.invariant-loop-words
invariant-loop-words l = has_word (map (λ word. word.now) l.words) l.text ≡ has_word (map (λ word. word.now) l.initial.words) l.text

abbrev pub decreases-loop-words : goal.decreases-loop-words
decreases-loop-words l = length l.words
