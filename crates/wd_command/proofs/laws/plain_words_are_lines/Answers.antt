use Rattle.wd_command.proofs.LineLemmas.{only_line}
use Rattle.wd_command.proofs.laws.plain_words_are_lines.Goals as goal

pub returns : goal.returns
returns c = only_line
