use Rattle.std.proofs.lemmas.Grind.{common_steps}
use Rattle.std.proofs.Common.{◌≡◌, ◌<◌, ◌+◌, [], ◌∷◌, ◌++◌, Some, get_or, take, length, arith}
use Rattle.std.proofs.lemmas.List.{get_or-map, map-append, map_more, take_more}
use Rattle.csv.specs.Records.{fields_of}
use Rattle.wd_schema.specs.declared.table.Column.{Column}
use Rattle.wd_value.specs.declared.value.Value.{Value}
use Rattle.wd_tables.specs.Data.{field_place, value_in}
use Rattle.wd_tables.proofs.RowFacts.{fits_columns-push}
use Rattle.wd_tables.proofs.row.row_of.Goals as goal

pub loop-c-preserved : goal.loop-c-preserved
loop-c-preserved c =
    let columns = c.args.columns.now in
    let fields = fields_of c.args.fields.now in
    let column = c.index-columns-c.result in
    let v = c.in-Ok.value in
    let within : c.loop-c.c < length columns = omega arith in
    let taken : take (c.loop-c.c + 1) columns ≡ take c.loop-c.c columns ++ column ∷ [] = rw (← c.index-columns-c.is) at (take_more columns c.loop-c.c column within) in (
      (λ header e.
          let names = rw (← c.index-columns-c.is) at (get_or-map (λ (k : Column). field_place header k.name) columns c.loop-c.c column 0 within) in
          let place : get_or c.args.places.now c.loop-c.c 0 ≡ field_place header column.name = rw e names in
          let denoted : value_in header fields column ≡ Some v = rw (← place, ← c.field_at.ensures) c.in-Ok.ensures.value in
          let more = rw (← c.index-columns-c.is, denoted) at (map_more (value_in header fields) columns c.loop-c.c column within) in
          rw (c.in_ok-push-in-Ok.ensures.items, map-append (λ (w : Value). Some w) c.loop-c.row.items (v ∷ []), ← c.loop-c.invariant.0 header e) more),
      rw (taken, c.in_ok-push-in-Ok.ensures.items) (fits_columns-push (take c.loop-c.c columns) c.loop-c.row.items column v c.loop-c.invariant.1 c.in-Ok.ensures.held),
    )

pub returns : goal.returns
returns c = grind (arith, common_steps)
