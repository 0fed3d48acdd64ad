use Rattle.std.proofs.Common.{◌≡◌, ◌∙◌, length, arith}
use Rattle.std.proofs.lemmas.Result.{err_from_is_err_and}
use Rattle.wd_tables.specs.Reading.{HasRead}
use Rattle.wd_tables.proofs.ReadingFacts.{fresh}
use Rattle.wd_tables.proofs.data.read_rows.Goals as goal

pub returns-clause-holds : goal.returns-clause-holds
returns-clause-holds c =
    let made = c.from_reader-reader.ensures in
    let e = c.has_headers.ensures in
    let start : HasRead c.args.text.now 0 c.from_reader-reader.result = fresh c.args.text.now c.from_reader-reader.result (rw e at made.config ∙ c.new.ensures.config) (rw e at made.trim ∙ c.new.ensures.trim) (rw e at made.flexible ∙ c.new.ensures.flexible) (rw e at made.has_headers) made.headers made.expected made.state made.source in
    c.in_ok-rows.ensures.holds c.args.text.now start

pub returns-clause-fits : goal.returns-clause-fits
returns-clause-fits c =
    let made = c.from_reader-reader.ensures in
    let e = c.has_headers.ensures in
    let start : HasRead c.args.text.now 0 c.from_reader-reader.result = fresh c.args.text.now c.from_reader-reader.result (rw e at made.config ∙ c.new.ensures.config) (rw e at made.trim ∙ c.new.ensures.trim) (rw e at made.flexible ∙ c.new.ensures.flexible) (rw e at made.has_headers) made.headers made.expected made.state made.source in
    c.in_ok-rows.ensures.fits c.args.text.now start

pub returns-in_err-rows-clause-refused : goal.returns-in_err-rows-clause-refused
returns-in_err-rows-clause-refused c =
    let made = c.from_reader-reader.ensures in
    let e = c.has_headers.ensures in
    let start : HasRead c.args.text.now 0 c.from_reader-reader.result = fresh c.args.text.now c.from_reader-reader.result (rw e at made.config ∙ c.new.ensures.config) (rw e at made.trim ∙ c.new.ensures.trim) (rw e at made.flexible ∙ c.new.ensures.flexible) (rw e at made.has_headers) made.headers made.expected made.state made.source in
    let size : c.len.result ≡ length c.args.table.now.columns.items = omega arith in
    let p = err_from_is_err_and c.from_residual-in_err-rows.result c.from_residual-in_err-rows.ensures.1 in
    rw (p.1, p.2) (c.in_err-rows.ensures.refused c.args.text.now start (rw size at c.wide_record-wide.ensures))
