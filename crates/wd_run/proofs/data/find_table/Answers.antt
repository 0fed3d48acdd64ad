use Rattle.std.proofs.Common.{◌<◌, ℕ, length, arith}
use Rattle.std.proofs.lemmas.List.{length-map}
use Rattle.std.proofs.lemmas.Option.{slice_get_within}
use Rattle.wd_schema.specs.Schemas.{schema_of}
use Rattle.wd_schema.specs.Tables.{table_of}
use Rattle.wd_run.specs.Runs.{IsNamed}
use Rattle.wd_run.proofs.data.find_table.Goals as goal

pub returns-clause-none : goal.returns-clause-none
returns-clause-none c = λ n named.
    let tables = schema_of c.args.schema.now in
    let within : n < length tables = slice_get_within tables n named.table named.found in
    let long = length-map c.args.schema.now.tables.entries (λ entry. table_of entry.1) in
    let test = c.loop-number-test.false in
    let end = c.loop-number.auto.number-end in
    let len = c.len-number-end.ensures.len in
    c.loop-number.invariant n (omega arith) named
