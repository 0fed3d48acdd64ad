use Rattle.std.proofs.Common.{codes, Some, None, refl}
use Rattle.wd_command.proofs.FoundLemmas.{first_read}
use Rattle.wd_command.proofs.words.three_paths.Goals as goal

pub returns-in_err-file : goal.returns-in_err-file
returns-in_err-file c =
    let none = first_read c.args.given.now (codes "file") c.get_str.result None c.get_str.ensures c.in_err-file.was in
    rw (none, c.from_residual.ensures) refl

pub returns : goal.returns
returns c =
    let file = first_read c.args.given.now (codes "file") c.get_str.result (Some c.in_ok-file.file) c.get_str.ensures c.in_ok-file.was in
    rw (file, ← c.in_ok-schema.ensures) refl
