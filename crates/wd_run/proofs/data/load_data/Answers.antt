use Rattle.std.proofs.Common.{◌≡◌, arith, length}
use Rattle.std.proofs.lemmas.List.{length-map}
use Rattle.wd_schema.specs.Schemas.{schema_of}
use Rattle.wd_schema.specs.Tables.{table_of}
use Rattle.wd_run.proofs.DataLemmas.{HoldsData-none, RefusesData-from_number}
use Rattle.std.proofs.lemmas.Result.{err_from_is_err_and}
use Rattle.wd_run.proofs.data.load_data.Goals as goal

pub loop-i-init : goal.loop-i-init
loop-i-init c =
    let tables = schema_of c.args.schema.now in
    let items = c.in_ok-instance.instance.items in
    let entries = length-map c.args.schema.now.tables.entries (λ e. table_of e.1) in
    let count = c.in_ok-instance.ensures.len in
    let all = c.len.ensures.len in
    let long : length items ≡ length tables = omega arith in
    HoldsData-none tables c.requires items long c.in_ok-instance.ensures.empty

-- a refused text refuses all the data
pub returns-in_err-add_data-clause-refused : goal.returns-in_err-add_data-clause-refused
returns-in_err-add_data-clause-refused c =
    let p = err_from_is_err_and c.from_residual-in_err-add_data.result c.from_residual-in_err-add_data.ensures.1 in
    let within = c.loop-i-test.true in
    rw (p.1, p.2) (RefusesData-from_number (schema_of c.args.schema.now) c.args.given.now c.loop-i.i _ c.in_err-add_data.field-0.0 (omega arith) c.in_err-add_data.ensures.refused)
