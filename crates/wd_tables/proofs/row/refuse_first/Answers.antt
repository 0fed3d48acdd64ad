use Rattle.std.proofs.Common.{◌≡◌, ◌<◌, Some, get_or, length, sym, arith}
use Rattle.std.proofs.lemmas.List.{get_or-map}
use Rattle.csv.specs.Records.{fields_of}
use Rattle.wd_schema.specs.declared.table.Column.{Column}
use Rattle.wd_tables.specs.Data.{field_under, field_place, value_in}
use Rattle.wd_tables.specs.Refusals.{RefusesField}
use Rattle.wd_tables.proofs.LoadFacts.{fits_field}
use Rattle.wd_tables.proofs.RefusedFacts.{passed_more, refused_more, refuses_record}
use Rattle.wd_tables.proofs.row.refuse_first.Goals as goal
use Rattle.wd_tables.proofs.row.refuse_first.Goals.{in-Ok, in-Err}

pub loop-c-preserved : goal.loop-c-preserved
loop-c-preserved c header e =
    let columns = c.args.columns.now in
    let fields = fields_of c.args.fields.now in
    let column = c.index-columns-c.result in
    let within : c.loop-c.c < length columns = omega arith in
    let is = sym c.index-columns-c.is in
    let names = rw (← c.index-columns-c.is) at (get_or-map (λ (k : Column). field_place header k.name) columns c.loop-c.c column 0 within) in
    let place : get_or c.args.places.now c.loop-c.c 0 ≡ field_place header column.name = rw e names in
    let before = c.loop-c.invariant header e in
    elim c.match-value_of.branch [
      | in-Ok w ↦
          let denoted : value_in header fields column ≡ Some w.in-Ok.field-0 = rw (← place, ← c.field_at.ensures) w.in-Ok.ensures.value in
          rw w.first-is (passed_more columns header fields c.args.number c.loop-c.c column c.loop-c.first within is (fits_field header fields column w.in-Ok.field-0 denoted w.in-Ok.ensures.held) before)
      | in-Err w ↦
          let refused : RefusesField column (field_under header fields column.name) c.args.number w.in-Err.refusal = rw (← place, ← c.field_at.ensures) w.in-Err.ensures.refused in
          rw (w.first-is, w.leftmost.ensures) (refused_more columns header fields c.args.number c.loop-c.c column c.loop-c.first _ within is place refused before)
    ]

pub returns-in-Some-clause-refused : goal.returns-in-Some-clause-refused
returns-in-Some-clause-refused c header e =
    let all : c.loop-c.c ≡ length c.args.columns.now = omega arith in
    let first = rw (all, c.in-Some.is) at (c.loop-c.invariant header e) in
    refuses_record c.args.columns.now header (fields_of c.args.fields.now) c.args.number c.in-Some.refused first
