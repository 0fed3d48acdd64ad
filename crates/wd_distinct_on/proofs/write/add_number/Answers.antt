use Rattle.std.proofs.Common.{refl}
use Rattle.wd_distinct_on.proofs.WriteFacts.{two_then_two}
use Rattle.wd_distinct_on.proofs.write.add_number.Goals as goal

pub returns : goal.returns
returns c = two_then_two _ _ _ _ _ _ _ _ _ _ _ c.in_ok-add.ensures c.added_terminal.ensures c.in_ok-add_word.ensures refl c.in_ok-add_over.ensures c.in_ok-add_keys.ensures
