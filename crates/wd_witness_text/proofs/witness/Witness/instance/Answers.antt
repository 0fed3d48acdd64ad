use Rattle.std.proofs.Common.{◌++◌, ◌∙◌, ap, map}
use Rattle.wd_value.specs.Rows.{instance_of}
use Rattle.wd_witness_text.specs.Witnesses.{rows_named, table_rows}
use Rattle.wd_witness_text.proofs.Tables.{under_names}
use Rattle.wd_witness_text.proofs.witness.Witness.instance.Goals as goal

pub loop-table-init : goal.loop-table-init
loop-table-init c =
    let rows = map table_rows c.args.self.now.tables.entries in
    ap (λ vs. instance_of vs ++ map (λ table. rows_named table.name rows) c.into_iter-table-iterator.result) c.in_ok-instance.ensures.items
    ∙ ap (map (λ table. rows_named table.name rows)) (c.into_iter-table-iterator.ensures.into_iter_gives ∙ c.values-table-items.ensures.rest)
    ∙ under_names rows c.args.schema.now.tables.entries
