use Rattle.std.proofs.Common.{◌∙◌, sym}
use Rattle.wd_resolve_operand.proofs.Mapped.{over_itself}
use Rattle.wd_resolve_call.specs.Rows.{row_expression_of}
use Rattle.wd_resolve_call.proofs.Meanings.{ok_is}
use Rattle.wd_resolve_call.proofs.copies.copy_of.Goals as goal

pub returns-in-Ok : goal.returns-in-Ok
returns-in-Ok c = ok_is _ _ (sym c.in-Ok.ensures ∙ over_itself (row_expression_of c.args.expression.now))
