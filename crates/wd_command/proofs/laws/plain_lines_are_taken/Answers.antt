use Rattle.std.proofs.Common.{arith}
use Rattle.wd_command.proofs.LineLemmas.{asked_by, run_taken, words_taken}
use Rattle.wd_command.proofs.laws.plain_lines_are_taken.Goals as goal

pub returns : goal.returns
returns c = record {
  tasks = λ task cut plain below. asked_by task cut (words_taken task plain (omega arith));
  uncut = λ schema query tables plain below. run_taken schema query tables plain (omega arith);
}
