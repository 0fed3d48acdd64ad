use Rattle.std.proofs.Common.{◌≡◌, ◌∙◌, ◌≤◌, sym, ap, Some, None, length, slice_get, option_map, arith}
use Rattle.std.proofs.lemmas.Option.{slice_get-map}
use Rattle.wd_schema.specs.Schemas.{schema_of}
use Rattle.wd_schema.specs.Tables.{table_of}
use Rattle.wd_resolve.specs.Selected as spec
use Rattle.wd_resolve.proofs.Known.{table_known}
use Rattle.wd_resolve.proofs.tables.named_table.Goals as goal

pub scan-requires : goal.scan-requires
scan-requires c =
    let tables = schema_of c.args.schema.now in
    let number = c.in-Some.number in
    let table = table_of c.in-Some-get_index.table.now in
    let entry : _ ≡ slice_get c.args.schema.now.tables.entries number = c.in-Some-get_index.ensures.entry in
    let found : slice_get tables number ≡ Some table = slice_get-map _ c.args.schema.now.tables.entries number ∙ ap (option_map _) (sym entry) in
    let narrow : length table.columns ≤ 256 = (table_known tables number table c.args.schema.now.well_formed found).1 in
    omega (arith, c.in-Some-get_index.table.now.columns.ok.0, narrow)

pub returns-in_ok-copy-in-Some-get_index : goal.returns-in_ok-copy-in-Some-get_index
returns-in_ok-copy-in-Some-get_index c =
    let tables = schema_of c.args.schema.now in
    let number = c.in-Some.number in
    let table = table_of c.in-Some-get_index.table.now in
    let name = c.in_ok-copy-in-Some-get_index.field-0 in
    let is : name ≡ c.args.name.now = c.in_ok-copy-in-Some-get_index.ensures in
    let entry : _ ≡ slice_get c.args.schema.now.tables.entries number = c.in-Some-get_index.ensures.entry in
    let found : slice_get tables number ≡ Some table = slice_get-map _ c.args.schema.now.tables.entries number ∙ ap (option_map _) (sym entry) in
    let whole : spec.named_table tables c.args.table.now c.args.name.now ≡ spec.scan name number (Some table) = ap (spec.scan_at tables c.args.name.now) (sym c.in-Some.ensures) ∙ ap (spec.scan c.args.name.now number) found ∙ ap (λ n. spec.scan n number (Some table)) (sym is) in
    rw whole c.scan.ensures

pub returns-in-None : goal.returns-in-None
returns-in-None c =
    let tables = schema_of c.args.schema.now in
    let number = c.in-Some.number in
    let none : slice_get tables number ≡ None = slice_get-map _ c.args.schema.now.tables.entries number ∙ ap (option_map _) (sym c.in-None.ensures.entry) in
    ap (spec.scan_at tables c.args.name.now) (sym c.in-Some.ensures) ∙ ap (spec.scan c.args.name.now number) none
