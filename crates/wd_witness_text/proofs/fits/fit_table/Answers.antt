use Rattle.std.proofs.Common.{◌≡◌, ◌==◌, length, Some, option_map, sym, ap, ◌∙◌, rules}
use Rattle.std.specs.List.{list_all}
use Rattle.wd_schema.specs.Schemas.{schema_of, table_named}
use Rattle.wd_schema.specs.Tables.{table_of}
use Rattle.wd_witness_text.proofs.Rows.{have_length, have_other_length, few_rows}
use Rattle.wd_witness_text.proofs.fits.fit_table.Goals as goal

pub returns-then-not-have_length-clause-refused : goal.returns-then-not-have_length-clause-refused
returns-then-not-have_length-clause-refused c =
    let known : table_named c.args.name.now (schema_of c.args.schema.now) ≡ Some (table_of c.in-Some.table.now) = sym c.table.ensures ∙ ap (option_map (λ t. table_of t.now)) c.in-Some.is in
    let here : c.have_length.result ≡ list_all (λ row. length row.items == c.len.result) c.args.rows.now = c.have_length.ensures in
    let columns : c.len.result ≡ length c.in-Some.table.now.columns.items = search rules in
    (table_of c.in-Some.table.now, known, have_other_length _ c.args.rows.now (ap (λ n. list_all (λ row. length row.items == n) c.args.rows.now) (sym columns) ∙ sym here ∙ c.if-not-have_length.true))

pub returns-clause-ok : goal.returns-clause-ok
returns-clause-ok c =
    let known : table_named c.args.name.now (schema_of c.args.schema.now) ≡ Some (table_of c.in-Some.table.now) = sym c.table.ensures ∙ ap (option_map (λ t. table_of t.now)) c.in-Some.is in
    let here : c.have_length.result ≡ list_all (λ row. length row.items == c.len.result) c.args.rows.now = c.have_length.ensures in
    let columns : c.len.result ≡ length c.in-Some.table.now.columns.items = search rules in
    record {
      table = table_of c.in-Some.table.now;
      known = known;
      few = few_rows 64 c.args.rows.now c.if-rows-gt-MOST_ROWS.false;
      values = have_length _ c.args.rows.now (ap (λ n. list_all (λ row. length row.items == n) c.args.rows.now) (sym columns) ∙ sym here ∙ c.if-not-have_length.false);
    }
