use Rattle.std.proofs.Common.{arith, inl}
use Rattle.std.proofs.lemmas.Result.{err_from_is_err_and}
use Rattle.wd_schema.specs.Tables.{table_of}
use Rattle.wd_tables.specs.Data.{records_of}
use Rattle.wd_tables.specs.Reading.{HasPlaces}
use Rattle.wd_tables.proofs.LoadFacts.{header_refused, holds_none, no_records, read_refused}
use Rattle.wd_tables.proofs.WideFacts.{wide_malformed}
use Rattle.wd_tables.proofs.data.read_all.Goals as goal

pub returns-in_err-headed-clause-refused : goal.returns-in_err-headed-clause-refused
returns-in_err-headed-clause-refused c text start wide =
    let p = err_from_is_err_and c.from_residual.result c.from_residual.ensures.1 in
    rw (p.1, p.2) (read_refused (table_of c.args.table.now) text 0 _ (λ m lt. absurd (omega arith)) (c.in_err-headed.ensures.refused text 0 start))

pub returns-then-not-headed-clause-refused : goal.returns-then-not-headed-clause-refused
returns-then-not-headed-clause-refused c text start wide =
    let none = rw c.if-not-headed.true at (c.in_ok-headed.ensures.read text 0 start) in
    inl (no_records (records_of text) none)

pub returns-in_err-places-clause-refused : goal.returns-in_err-places-clause-refused
returns-in_err-places-clause-refused c text start wide =
    let (read, is) = rw c.if-not-headed.false at (c.in_ok-headed.ensures.read text 0 start) in
    let refused = rw c.deref.ensures.value at c.in_err-places.ensures.refused in
    let p = err_from_is_err_and c.from_residual-in_err-places.result c.from_residual-in_err-places.ensures.1 in
    rw (p.1, p.2) (header_refused (table_of c.args.table.now) text _ _ is refused)

pub returns-in_err-rows-clause-refused : goal.returns-in_err-rows-clause-refused
returns-in_err-rows-clause-refused c text start wide =
    let (read, is) = rw c.if-not-headed.false at (c.in_ok-headed.ensures.read text 0 start) in
    let columns = c.args.table.now.columns.items in
    let placed : HasPlaces columns text c.in_ok-places.places.items = rw is.same (rw c.deref.ensures.value at c.in_ok-places.ensures.places) in
    let named = rw c.deref.ensures.value at c.in_ok-places.ensures.named in
    let first = holds_none columns text _ is named in
    let refused = rw c.deref-2.ensures.value at (c.in_err-rows.ensures.refused text read) in
    let p = err_from_is_err_and c.from_residual-in_err-rows.result c.from_residual-in_err-rows.ensures.1 in
    rw (p.1, p.2) (refused placed first (wide_malformed columns text c.args.wide first.names wide))

pub returns-clause-holds : goal.returns-clause-holds
returns-clause-holds c text start =
    let (read, is) = rw c.if-not-headed.false at (c.in_ok-headed.ensures.read text 0 start) in
    let columns = c.args.table.now.columns.items in
    let placed : HasPlaces columns text c.in_ok-places.places.items = rw is.same (rw c.deref.ensures.value at c.in_ok-places.ensures.places) in
    let named = rw c.deref.ensures.value at c.in_ok-places.ensures.named in
    let first = holds_none columns text _ is named in
    let holds = rw c.deref-2.ensures.value at (c.in_ok-rows.ensures.holds text read) in
    holds placed first

pub returns-clause-fits : goal.returns-clause-fits
returns-clause-fits c text start =
    let (read, is) = rw c.if-not-headed.false at (c.in_ok-headed.ensures.read text 0 start) in
    let columns = c.args.table.now.columns.items in
    let placed : HasPlaces columns text c.in_ok-places.places.items = rw is.same (rw c.deref.ensures.value at c.in_ok-places.ensures.places) in
    let named = rw c.deref.ensures.value at c.in_ok-places.ensures.named in
    let first = holds_none columns text _ is named in
    let fits = rw c.deref-2.ensures.value at (c.in_ok-rows.ensures.fits text read) in
    fits placed first
