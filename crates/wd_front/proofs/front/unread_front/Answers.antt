use Rattle.std.proofs.Common.{map}
use Rattle.std.specs.String.{string_bytes}
use Rattle.wd_dialect_read.specs.Said.{statement_said}
use Rattle.wd_front.proofs.FrontFacts.{lost_in_both}
use Rattle.wd_front.proofs.front.unread_front.Goals as goal

pub returns : goal.returns
returns c =
    lost_in_both c.args.text.now c.args.error (map statement_said c.args.schema.statements.items) (string_bytes c.args.schema.text) c.args.other c.requires.unread c.requires.spelled c.requires.lost
