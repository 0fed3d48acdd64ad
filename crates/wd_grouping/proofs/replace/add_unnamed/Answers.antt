use Rattle.std.proofs.Common.{refl}
use Rattle.wd_distinct_on.proofs.WriteFacts.{two_then}
use Rattle.wd_grouping.proofs.replace.add_unnamed.Goals as goal

pub returns : goal.returns
returns c = two_then _ _ _ _ _ _ _ _ _ c.in_ok-add_name.ensures refl c.in_ok-add.ensures c.added_terminal.ensures c.in_ok-add_name-2.ensures
