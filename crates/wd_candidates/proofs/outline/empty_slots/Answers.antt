use Rattle.std.proofs.lemmas.Grind.{common_steps}
use Rattle.std.proofs.Common.{◌∙◌, map, ap, arith}
use Rattle.std.specs.Map.Iter.{deref}
use Rattle.std.proofs.lemmas.Map.Iter.{iter_end}
use Rattle.std.proofs.lemmas.Simd.{map-map}
use Rattle.indexmap.specs.IndexMap.{values}
use Rattle.wd_schema.specs.Tables.{table_of}
use Rattle.wd_candidates.specs.Filled.{empty_slots}
use Rattle.wd_candidates.proofs.outline.empty_slots.Goals as goal

pub returns : goal.returns
returns c =
    let tables = c.args.schema.now.tables in
    let all = iter_end deref (values tables) c.loop-table.yielded _ _ _ _ (c.into_iter-table-iterator.ensures.into_iter_gives ∙ c.values-table-items.ensures.rest) c.loop-table.yielded_by c.in-None.is c.next.ensures.steps in
    c.loop-table.invariant ∙ ap (λ ts. empty_slots (map table_of ts)) all.0 ∙ ap empty_slots (map-map table_of (λ e. e.1) tables.entries)

pub loop-table-preserved : goal.loop-table-preserved
loop-table-preserved c = grind (arith, common_steps)
