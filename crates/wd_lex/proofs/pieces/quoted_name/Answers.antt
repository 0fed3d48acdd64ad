use Rattle.std.proofs.Common.{arith}
use Rattle.wd_lex.proofs.Boundaries.{first_boundary}
use Rattle.wd_lex.proofs.pieces.quoted_name.Goals as goal

pub split_at-requires : goal.split_at-requires
split_at-requires c = first_boundary c.args.text.now 34 c.utf8.text c.requires (omega arith) (omega arith)
