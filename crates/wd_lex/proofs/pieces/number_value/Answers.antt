use Rattle.wd_lex.proofs.NumberFacts.{value_none}
use Rattle.wd_lex.proofs.pieces.number_value.Goals as goal

pub returns-in-Err : goal.returns-in-Err
returns-in-Err c = value_none c.args.digits.now c.in-Err.field-0 c.in-Err.ensures.value.0 c.requires.digits c.requires.some
