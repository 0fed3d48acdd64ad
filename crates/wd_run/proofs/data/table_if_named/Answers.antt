use Rattle.std.proofs.Common.{◌≡◌, ◌∙◌, ap, sym, rules, Some, slice_get}
use Rattle.std.specs.Prelude.{option_map}
use Rattle.std.proofs.lemmas.Option.{slice_get-map}
use Rattle.wd_schema.specs.Schemas.{schema_of}
use Rattle.wd_schema.specs.Tables.{TableRule, table_of}
use Rattle.wd_run.proofs.DataLemmas.{some_same, other_bytes}
use Rattle.wd_run.proofs.data.table_if_named.Goals as goal

pub returns-then-eq-clause-found : goal.returns-then-eq-clause-found
returns-then-eq-clause-found c =
    let entries = c.args.schema.now.tables.entries in
    let found : slice_get (schema_of c.args.schema.now) c.args.number ≡ Some (table_of c.in_ok-table.table.now) =
    slice_get-map (λ e. table_of e.1) entries c.args.number ∙ ap (option_map (λ e. table_of e.1)) (sym c.in_ok-table.ensures.entry) in (found, search rules)

pub returns-else-eq-clause-none : goal.returns-else-eq-clause-none
returns-else-eq-clause-none c = λ named.
    let entries = c.args.schema.now.tables.entries in
    let found : slice_get (schema_of c.args.schema.now) c.args.number ≡ Some (table_of c.in_ok-table.table.now) =
    slice_get-map (λ e. table_of e.1) entries c.args.number ∙ ap (option_map (λ e. table_of e.1)) (sym c.in_ok-table.ensures.entry) in
    let is : table_of c.in_ok-table.table.now ≡ named.table = some_same _ _ (sym found ∙ named.found) in
    let same : c.in_ok-table.table.now.name ≡ c.args.name.now = ap (λ (t : TableRule). t.name) is ∙ named.name_is in
    other_bytes _ _ (sym c.eq.ensures ∙ c.if-eq.false) (c.as_bytes.ensures ∙ same ∙ sym c.as_bytes-2.ensures.value)
