use Rattle.wd_print.proofs.PrintedFacts.{printed_is_read}
use Rattle.wd_print.proofs.laws.printed_is_read.Goals as goal

pub returns : goal.returns
returns c = printed_is_read
