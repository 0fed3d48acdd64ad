use Rattle.std.proofs.Common.{◌≡◌, ◌∙◌, Some, true, sym}
use Rattle.wd_schema.specs.Meets.{is_of_type}
use Rattle.wd_tables.specs.Fields.{field_value}
use Rattle.wd_tables.proofs.FieldFacts.{field-of_type, held_not_null, held_value}
use Rattle.wd_tables.proofs.row.value_of.Goals as goal
use Rattle.wd_tables.proofs.row.value_of.Goals.{else-column-via-then-column+else-is_null, else-column-via-else-column}

pub returns-clause-held : goal.returns-clause-held
returns-clause-held c =
    let read : field_value c.args.column.now c.args.field.now ≡ Some c.in-Some.value = sym c.in_ok-value.ensures ∙ c.in-Some.is in
    let typed : is_of_type c.args.column.now.kind c.in-Some.value ≡ true = field-of_type c.args.column.now c.args.field.now c.in-Some.value read in
    elim c.else-column.branch [
      | else-column-via-then-column+else-is_null w ↦ held_value c.args.column.now c.in-Some.value typed (sym w.is_null.ensures ∙ w.if-is_null.false)
      | else-column-via-else-column w ↦ held_not_null c.args.column.now c.in-Some.value typed w.if-column.false
    ]
