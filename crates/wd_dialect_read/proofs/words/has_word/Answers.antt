use Rattle.std.proofs.Common.{arith}
use Rattle.std.proofs.lemmas.Grind.{common_steps}
use Rattle.wd_dialect_read.proofs.words.has_word.Goals as goal

pub loop-words-preserved : goal.loop-words-preserved
loop-words-preserved c = grind (arith, common_steps)

pub returns : goal.returns
returns c = grind (arith, common_steps)
