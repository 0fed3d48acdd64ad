use Rattle.std.proofs.Common.{◌≢◌, ◌∙◌, sym, All, inl, inr}
use Rattle.std.proofs.lemmas.Result.{err_from_is_err_and}
use Rattle.wd_schema.specs.Schemas.{schema_of}
use Rattle.wd_schema.specs.Tables.{table_of}
use Rattle.wd_tables.specs.Data.{HoldsRows}
use Rattle.wd_run.specs.Loads.{FindsTable}
use Rattle.wd_run.specs.Runs.{data_of}
use Rattle.wd_run.proofs.DataLemmas.{HoldsData-more, RefusesText-from_name, RefusesText-from_rows, any_given, none_given}
use Rattle.wd_run.proofs.data.add_data.Goals as goal

-- the rows are put at the table's place
pub returns-clause-holds : goal.returns-clause-holds
returns-clause-holds c =
    let tables = schema_of c.args.schema.now in
    let earlier = c.args.earlier.now in
    let items = c.args.instance.now.items in
    let name = c.args.pair.now.0.now in
    let text = c.args.pair.now.1.now in
    let n = c.in-Some.number in
    let table = table_of c.in-Some.table.now in
    let rows = c.in_ok-rows.rows in
    let found : FindsTable tables name n table = c.in-Some.ensures.found in
    let first : All (λ h. h.0 ≢ name) (data_of earlier) = none_given name earlier (sym c.is_given.ensures ∙ c.if-is_given.false) in
    let holds : HoldsRows table text rows = c.in_ok-rows.ensures.held in
    HoldsData-more tables c.requires.differ (data_of earlier) items n table (name, text) rows found.0 found.1 first holds c.in_ok-rows.ensures.meets c.requires.held

-- the name was given before
pub returns-then-is_given-clause-refused : goal.returns-then-is_given-clause-refused
returns-then-is_given-clause-refused c =
    RefusesText-from_name _ _ _ _ _ (inr (any_given _ _ (sym c.is_given.ensures ∙ c.if-is_given.true))) c.unexpected_data.ensures

-- no table has the name
pub returns-in_default-clause-refused : goal.returns-in_default-clause-refused
returns-in_default-clause-refused c = RefusesText-from_name _ _ _ _ _ (inl c.in_default.ensures.none) c.unexpected_data-in_default.ensures

-- the rows are refused
pub returns-in_err-rows-clause-refused : goal.returns-in_err-rows-clause-refused
returns-in_err-rows-clause-refused c =
    let p = err_from_is_err_and c.from_residual.result c.from_residual.ensures.1 in
    rw (p.1, p.2) (RefusesText-from_rows _ _ _ _ c.in-Some.number _ _ c.in-Some.ensures.found.0 c.in-Some.ensures.found.1 c.in_err-rows.ensures.refused)
