use Rattle.std.proofs.Common.{◌≡◌, ◌∙◌, ◌+◌, [], ◌∷◌, ◌++◌, length, sym, ap, arith}
use Rattle.std.proofs.lemmas.Result.{err_from_is_err_and}
use Rattle.wd_schema.specs.Tables.{table_of}
use Rattle.wd_value.specs.Rows.{rows_of}
use Rattle.wd_column_store.specs.Along.{rows_along}
use Rattle.wd_column_store.proofs.Pushes.{long as long_row}
use Rattle.wd_column_store.proofs.RowsAlong.{longer, more}
use Rattle.wd_tables.specs.Data.{most_records}
use Rattle.wd_tables.proofs.LoadFacts.{first_accepted, fits_all, holds_all, holds_more, read_refused, row_wide, too_many}
use Rattle.wd_tables.proofs.data.read_data.Goals as goal

pub loop-before-init : goal.loop-before-init
loop-before-init c text read places first =
    let wide : length (rows_of c.in_ok-columns.columns.items) ≡ length c.args.table.now.columns.items = c.in_ok-columns.ensures.wide ∙ omega arith in
    (read, first, c.in_ok-columns.ensures.empty, wide)

pub loop-before-preserved : goal.loop-before-preserved
loop-before-preserved c text read places first =
    let (before, held, long, wide) = c.loop-before.invariant text read places first in
    let (now, record_) = rw c.in-Some.is at (c.in_ok-row.ensures.read text before places) in
    let n = c.loop-before.before in
    let columns = rows_of c.loop-before.columns.items in
    let row = c.in-Some.row.items in
    let fields = c.args.table.now.columns.items in
    let as_wide : length row ≡ length columns = sym (row_wide fields text n row record_) ∙ sym wide in
    let grown : rows_along (rows_of c.push_row.new.columns.items) (n + 1) ≡ rows_along columns n ++ row ∷ [] = ap (λ cs. rows_along cs (n + 1)) c.in_ok-push_row-in-Some.ensures.grown ∙ more columns row n long as_wide in (
      now,
      rw grown (holds_more fields text n (rows_along columns n) record_.fields row held record_.read record_.values record_.fits),
      rw c.in_ok-push_row-in-Some.ensures.grown (longer columns row n long as_wide),
      rw c.in_ok-push_row-in-Some.ensures.grown (long_row columns row ∙ wide),
    )

pub returns-in-None-clause-holds : goal.returns-in-None-clause-holds
returns-in-None-clause-holds c text read places first =
    let (before, held, long, wide) = c.loop-before.invariant text read places first in
    let all = rw c.in-None.is at (c.in_ok-row.ensures.read text before places) in
    rw c.new-in-None.ensures (holds_all (table_of c.args.table.now) text c.loop-before.before (rows_along (rows_of c.loop-before.columns.items) c.loop-before.before) held all (omega arith))

pub returns-in-None-clause-fits : goal.returns-in-None-clause-fits
returns-in-None-clause-fits c text read places first =
    let (before, held, long, wide) = c.loop-before.invariant text read places first in
    rw c.new-in-None.ensures (fits_all c.args.table.now.columns.items text c.loop-before.before (rows_along (rows_of c.loop-before.columns.items) c.loop-before.before) held)

pub returns-in_err-more-clause-refused : goal.returns-in_err-more-clause-refused
returns-in_err-more-clause-refused c text read places first malformed =
    let last : c.loop-before.before ≡ most_records = omega arith in
    let p = err_from_is_err_and c.from_residual-in_err-more.result c.from_residual-in_err-more.ensures.1 in
    let (before, held, long, wide) = c.loop-before.invariant text read places first in
    let accepted = first_accepted (table_of c.args.table.now) text c.loop-before.before (rows_along (rows_of c.loop-before.columns.items) c.loop-before.before) held (omega arith) in
    rw (p.1, p.2) (read_refused (table_of c.args.table.now) text (most_records + 1) _ (rw last at accepted) (c.in_err-more.ensures.refused text (rw last at before) malformed))

pub returns-then-more-clause-refused : goal.returns-then-more-clause-refused
returns-then-more-clause-refused c text read places first malformed =
    let last : c.loop-before.before ≡ most_records = omega arith in
    let (before, held, long, wide) = c.loop-before.invariant text read places first in
    let found = rw c.if-more.true at (c.in_ok-more.ensures.read text (rw last at before)) in
    let accepted = first_accepted (table_of c.args.table.now) text c.loop-before.before (rows_along (rows_of c.loop-before.columns.items) c.loop-before.before) held (omega arith) in
    too_many (table_of c.args.table.now) text _ (rw last at accepted) found.1

pub returns-clause-holds : goal.returns-clause-holds
returns-clause-holds c text read places first =
    let (before, held, long, wide) = c.loop-before.invariant text read places first in
    let columns = rows_of c.loop-before.columns.items in
    let last : most_records ≡ c.loop-before.before = omega arith in
    let all = rw c.if-more.false at (c.in_ok-more.ensures.read text (rw (sym last) at before)) in
    let count : most_records + 1 ≡ c.loop-before.before + 1 = omega arith in
    let is : c.new-2.result ≡ rows_along columns c.loop-before.before = c.new-2.ensures ∙ ap (rows_along columns) last in
    rw is (holds_all (table_of c.args.table.now) text c.loop-before.before (rows_along columns c.loop-before.before) held (all ∙ count) (omega arith))

pub returns-clause-fits : goal.returns-clause-fits
returns-clause-fits c text read places first =
    let (before, held, long, wide) = c.loop-before.invariant text read places first in
    let columns = rows_of c.loop-before.columns.items in
    let last : most_records ≡ c.loop-before.before = omega arith in
    let is : c.new-2.result ≡ rows_along columns c.loop-before.before = c.new-2.ensures ∙ ap (rows_along columns) last in
    rw is (fits_all c.args.table.now.columns.items text c.loop-before.before (rows_along columns c.loop-before.before) held)

pub returns-in_err-row-clause-refused : goal.returns-in_err-row-clause-refused
returns-in_err-row-clause-refused c text read places first malformed =
    let (before, held, long, wide) = c.loop-before.invariant text read places first in
    let accepted = first_accepted (table_of c.args.table.now) text c.loop-before.before (rows_along (rows_of c.loop-before.columns.items) c.loop-before.before) held (omega arith) in
    let p = err_from_is_err_and c.from_residual-in_err-row.result c.from_residual-in_err-row.ensures.1 in
    rw (p.1, p.2) (c.in_err-row.ensures.refused text before places (omega arith) (omega arith) accepted malformed)
