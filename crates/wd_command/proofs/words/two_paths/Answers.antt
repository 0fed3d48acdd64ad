use Rattle.std.proofs.Common.{codes, Some, None, refl}
use Rattle.wd_command.proofs.FoundLemmas.{first_read}
use Rattle.wd_command.proofs.words.two_paths.Goals as goal

pub returns-in_err-get_str : goal.returns-in_err-get_str
returns-in_err-get_str c =
    let none = first_read c.args.given.now (codes "schema") c.get_str.result None c.get_str.ensures c.in_err-get_str.was in
    rw (none, c.from_residual.ensures) refl

pub returns-in_err-get_str-2 : goal.returns-in_err-get_str-2
returns-in_err-get_str-2 c =
    let schema = first_read c.args.given.now (codes "schema") c.get_str.result (Some c.in_ok-get_str.field-0) c.get_str.ensures c.in_ok-get_str.was in
    let none = first_read c.args.given.now (codes "query") c.get_str-2.result None c.get_str-2.ensures c.in_err-get_str-2.was in
    rw (schema, none, c.from_residual-in_err-get_str-2.ensures) refl

pub returns : goal.returns
returns c =
    let schema = first_read c.args.given.now (codes "schema") c.get_str.result (Some c.in_ok-get_str.field-0) c.get_str.ensures c.in_ok-get_str.was in
    let query = first_read c.args.given.now (codes "query") c.get_str-2.result (Some c.in_ok-get_str-2.field-0) c.get_str-2.ensures c.in_ok-get_str-2.was in
    rw (schema, query) refl
