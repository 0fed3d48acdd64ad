use Rattle.std.proofs.Common.{◌≡◌, rules, vec_len, length, map, sym, subst, ◌∙◌}
use Rattle.wd_value.specs.Rows.{instance_of}
use Rattle.wd_schema.specs.Schemas.{schema_of}
use Rattle.wd_witness_text.specs.Witnesses.{table_rows}
use Rattle.wd_seek.specs.Witnesses.{IsScannedName}
use Rattle.wd_seek.proofs.Building.{HasScannedFrom, one_more, popped, popped_rows, popped_length}
use Rattle.wd_seek.proofs.witness.scanned_tables.Goals as goal

pub loop-rows-preserved-in-Some-scanned_name : goal.loop-rows-preserved-in-Some-scanned_name
loop-rows-preserved-in-Some-scanned_name c =
    let tables = schema_of c.args.schema.now in
    let outline = c.args.outline.now in
    let instance = instance_of c.args.instance.items in
    let left = c.pop.new.self.items in
    let here = subst (λ n. HasScannedFrom tables outline instance n (map table_rows c.loop-rows.tables.entries)) (popped_length c.loop-rows.left.items left c.in-Some.rows c.in-Some.ensures.items) c.loop-rows.invariant.1 in
    let long : vec_len c.pop.new.self ≡ length left = search rules in
    let number = subst (λ n. IsScannedName tables outline n c.in-Some-scanned_name.name.now) (c.len.ensures ∙ long) c.in-Some-scanned_name.ensures.scanned in
    let name = subst (IsScannedName tables outline (length left)) (sym c.in_ok-name.ensures.ok) number in (
      popped c.args.instance.items c.loop-rows.left.items left c.in-Some.rows c.in-Some.ensures.items c.loop-rows.invariant.0,
      subst (λ es. HasScannedFrom tables outline instance (length left) (map table_rows es)) (sym c.in_ok-insert.ensures.entries)
          (one_more tables outline instance c.names_differ.ensures (length left) c.loop-rows.tables.entries c.in_ok-name.name c.in-Some.rows here name
          (popped_rows c.args.instance.items c.loop-rows.left.items left c.in-Some.rows c.in-Some.ensures.items c.loop-rows.invariant.0)),
    )
