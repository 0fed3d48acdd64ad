use Rattle.std.proofs.Common.{◌≡◌, ◌∙◌, ◌<◌, length, sym, arith}
use Rattle.std.specs.Str.{bytes_eq}
use Rattle.std.proofs.lemmas.List.{get_or_read, map_more}
use Rattle.std.proofs.lemmas.List.Elements.{AllWithin-more}
use Rattle.csv.specs.Records.{fields_of}
use Rattle.wd_value.specs.Bags.{times}
use Rattle.wd_schema.specs.declared.table.Column.{Column}
use Rattle.wd_tables.specs.Data as spec
use Rattle.wd_tables.proofs.header.places_of.Goals as goal

pub returns-then-count_of-ne1-clause-refused : goal.returns-then-count_of-ne1-clause-refused
returns-then-count_of-ne1-clause-refused c n =
    let within : c.loop-column.column-index < length c.args.columns.now = omega arith in
    let once = rw (← c.column-item.is) at (n.each c.loop-column.column-index c.column-item.result within) in
    let counted = rw (c.as_bytes.ensures, c.deref.ensures.value, c.in_ok-names.ensures) at c.count_of.ensures in
    c.if-count_of-ne1.true (counted ∙ once)

pub loop-column-preserved : goal.loop-column-preserved
loop-column-preserved c =
    let header = fields_of c.args.header.now in
    let within : c.loop-column.column-index < length c.args.columns.now = omega arith in
    let counted = rw (c.as_bytes.ensures, c.deref.ensures.value, c.in_ok-names.ensures) at c.count_of.ensures in
    let place = rw (c.as_bytes-in-loop-column.ensures, c.deref-in-loop-column.ensures.value, c.in_ok-names.ensures) at c.field_place.ensures in
    let more = rw (← c.column-item.is) at (map_more (λ (column : Column). spec.field_place header column.name) c.args.columns.now c.loop-column.column-index c.column-item.result within) in
    let once : times bytes_eq c.column-item.result.name header ≡ 1 = sym counted ∙ c.if-count_of-ne1.false in (
      rw (c.in_ok-push.ensures.items, c.loop-column.invariant.0, place) (sym more),
      AllWithin-more (λ column. times bytes_eq column.name header ≡ 1) c.args.columns.now 0 c.loop-column.column-index c.loop-column.invariant.1
          (λ d. rw (← get_or_read c.args.columns.now c.loop-column.column-index c.column-item.result within c.column-item.is d) once),
    )
