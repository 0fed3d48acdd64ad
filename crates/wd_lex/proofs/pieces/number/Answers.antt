use Rattle.std.proofs.Common.{ap, ◌∙◌}
use Rattle.std.specs.List.{list_all}
use Rattle.wd_lex.specs.Characters.{is_digit}
use Rattle.wd_lex.proofs.RunFacts.{run_passes}
use Rattle.wd_lex.proofs.pieces.number.Goals as goal

pub number_value-requires-clause-digits : goal.number_value-requires-clause-digits
number_value-requires-clause-digits c = ap (list_all is_digit) c.split_run.ensures.front ∙ run_passes is_digit c.args.text.now
