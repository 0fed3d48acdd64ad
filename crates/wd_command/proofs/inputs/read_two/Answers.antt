use Rattle.std.proofs.Common.{[], ◌∷◌}
use Rattle.wd_command.proofs.FailureLemmas.{IfErr-from_same, IsUnread-after, IsUnread-weaker}
use Rattle.wd_command.proofs.FilesLemmas.{StandsNext-before, StandsNext-after}
use Rattle.wd_command.proofs.inputs.read_two.Goals as goal

pub returns-in_err-text-clause-err : goal.returns-in_err-text-clause-err
returns-in_err-text-clause-err g c =
    IfErr-from_same c.from_residual.result c.in_err-text.field-0.0 _ c.from_residual.ensures.1
    (IsUnread-weaker _ _ _ _ (StandsNext-before (c.args.first.now ∷ []) (c.args.second.now ∷ [])) c.in_err-text.field-0.0 c.in_err-text.ensures.err)

pub returns-in_err-read_file-clause-err : goal.returns-in_err-read_file-clause-err
returns-in_err-read_file-clause-err g c =
    IfErr-from_same c.from_residual-in_err-read_file.result c.in_err-read_file.field-0.0 _ c.from_residual-in_err-read_file.ensures.1
    (IsUnread-after _ _ _ _ _ _ c.in_ok-text.ensures.read
    (StandsNext-after ((c.args.first.now, c.in_ok-text.text.items) ∷ []) (c.args.second.now ∷ [])) c.in_err-read_file.field-0.0 c.in_err-read_file.ensures.err)
