use Rattle.std.proofs.lemmas.Result.{err_from_is_err_and}
use Rattle.csv.specs.Records.{fields_of}
use Rattle.wd_schema.specs.Tables.{table_of}
use Rattle.wd_tables.specs.Data.{header_of}
use Rattle.wd_tables.proofs.LoadFacts.{read_refused, record_refused}
use Rattle.wd_tables.proofs.data.next_row.Goals as goal

pub returns-in_err-found-clause-refused : goal.returns-in_err-found-clause-refused
returns-in_err-found-clause-refused c text h places some few before malformed =
    let p = err_from_is_err_and c.from_residual.result c.from_residual.ensures.1 in
    rw (p.1, p.2) (read_refused (table_of c.args.table.now) text c.args.number _ before (c.in_err-found.ensures.refused text h malformed))

pub returns-then-not-found-clause-read : goal.returns-then-not-found-clause-read
returns-then-not-found-clause-read c text h places =
    rw c.if-not-found.true at (c.in_ok-found.ensures.read text h)

pub returns-in_err-row-clause-refused : goal.returns-in_err-row-clause-refused
returns-in_err-row-clause-refused c text h places some few before malformed =
    let read = rw c.if-not-found.false at (c.in_ok-found.ensures.read text h) in
    let refused = rw c.deref.ensures.value at (c.in_err-row.ensures.refused (header_of text)) in
    let p = err_from_is_err_and c.from_residual-in_err-row.result c.from_residual-in_err-row.ensures.1 in
    rw (p.1, p.2) (record_refused (table_of c.args.table.now) text c.args.number _ _ some few before read.1 (refused places))

pub returns-clause-read : goal.returns-clause-read
returns-clause-read c text h places =
    let read = rw c.if-not-found.false at (c.in_ok-found.ensures.read text h) in
    let values = rw c.deref.ensures.value at (c.in_ok-row.ensures.values (header_of text)) in
    let fits = rw c.deref.ensures.value at c.in_ok-row.ensures.fits in
    (read.0, record { fields = fields_of c.next_unless.new.fields; read = read.1; values = values places; fits = fits })
