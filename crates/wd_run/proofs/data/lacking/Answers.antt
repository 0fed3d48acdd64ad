use Rattle.std.proofs.Common.{◌≡◌, ◌∙◌, true, ap, sym, subst, rules, Some, slice_get}
use Rattle.std.specs.Prelude.{option_map}
use Rattle.std.specs.Str.{bytes_eq}
use Rattle.std.specs.List.{list_any}
use Rattle.std.proofs.lemmas.Option.{slice_get-map}
use Rattle.wd_schema.specs.Schemas.{schema_of}
use Rattle.wd_schema.specs.Tables.{TableRule, table_of}
use Rattle.wd_run.specs.Runs.{IsGiven, data_of}
use Rattle.wd_run.proofs.DataLemmas.{any_given, none_given, some_same}
use Rattle.wd_run.proofs.data.lacking.Goals as goal

pub returns-then-is_given-clause-none : goal.returns-then-is_given-clause-none
returns-then-is_given-clause-none c = λ table found reads.
    let entries = c.args.schema.now.tables.entries in
    let given = c.args.given.now in
    let here : slice_get (schema_of c.args.schema.now) c.args.number ≡ Some (table_of c.in_ok-table.table.now) =
    slice_get-map (λ e. table_of e.1) entries c.args.number ∙ ap (option_map (λ e. table_of e.1)) (sym c.in_ok-table.ensures.entry) in
    let name = c.in_ok-table.table.now.name in
    let named : list_any (λ g. bytes_eq g.0.now name) given ≡ true = ap (λ name. list_any (λ g. bytes_eq g.0.now name) given) (sym c.as_str-name.ensures) ∙ sym c.is_given.ensures ∙ c.if-is_given.true in
    subst (λ (t : TableRule). IsGiven (data_of given) t.name) (some_same _ _ (sym here ∙ found)) (any_given name given named)

pub returns-clause-lacking : goal.returns-clause-lacking
returns-clause-lacking c =
    let entries = c.args.schema.now.tables.entries in
    let here : slice_get (schema_of c.args.schema.now) c.args.number ≡ Some (table_of c.in_ok-table.table.now) =
    slice_get-map (λ e. table_of e.1) entries c.args.number ∙ ap (option_map (λ e. table_of e.1)) (sym c.in_ok-table.ensures.entry) in
    record {
      number = c.args.number;
      named = record { table = table_of c.in_ok-table.table.now; found = here; name_is = sym c.as_str-name.ensures };
      scanned = search rules;
      none = none_given c.as_str-name.result.now c.args.given.now (sym c.is_given.ensures ∙ c.if-is_given.false);
    }
