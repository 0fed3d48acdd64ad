use Rattle.std.proofs.lemmas.Grind.{common_steps}
use Rattle.std.proofs.Common.{◌∙◌, ◌∷◌, ◌++◌, [], ap, map, sym, arith}
use Rattle.std.proofs.lemmas.List.{map_push}
use Rattle.wd_value.specs.Bags.{positions}
use Rattle.wd_value.specs.Keys.{ascending}
use Rattle.wd_column_store.proofs.Positions.{positions_push}
use Rattle.wd_steps.proofs.distinct.ascending_columns.Goals as goal

pub loop-column-preserved : goal.loop-column-preserved
loop-column-preserved c =
    let n = c.loop-column.column in
    c.in_ok-push.ensures.items ∙ ap (λ l. l ++ ascending n ∷ []) c.loop-column.invariant ∙ sym (ap (map ascending) (positions_push n) ∙ map_push ascending (positions n) n)

pub returns : goal.returns
returns c = grind (arith, common_steps)
