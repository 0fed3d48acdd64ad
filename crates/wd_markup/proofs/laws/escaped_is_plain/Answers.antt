use Rattle.wd_markup.proofs.Escaping.{escaped_plain}
use Rattle.wd_markup.proofs.laws.escaped_is_plain.Goals as goal

pub returns : goal.returns
returns c = escaped_plain
