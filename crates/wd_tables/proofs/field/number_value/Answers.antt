use Rattle.std.proofs.Common.{◌≢◌, ◌∙◌, FitsSigned, w64, get_or, rules}
use Rattle.std.proofs.lemmas.Int.{to_z-of_z}
use Rattle.wd_tables.proofs.FieldFacts.{number_is}
use Rattle.wd_tables.proofs.field.number_value.Goals as goal

pub returns-in-Ok : goal.returns-in-Ok
returns-in-Ok c =
    let no_plus : get_or c.args.field.now 0 0 ≢ 43 = search rules in
    let parsed = c.in-Ok.ensures.value.0 in
    let fits : FitsSigned w64 c.in-Ok.number = rw parsed.1 parsed.0.1 in
    let made = rw (to_z-of_z w64 c.in-Ok.number fits) at c.number_in.ensures in
    let read = rw c.in-Ok.is at (number_is c.args.kind c.args.field.now c.parse.result c.parse.ensures.value.0 no_plus) in
    made ∙ read

pub returns-in-Err : goal.returns-in-Err
returns-in-Err c =
    let no_plus : get_or c.args.field.now 0 0 ≢ 43 = search rules in
    rw c.in-Err.is at (number_is c.args.kind c.args.field.now c.parse.result c.parse.ensures.value.0 no_plus)
