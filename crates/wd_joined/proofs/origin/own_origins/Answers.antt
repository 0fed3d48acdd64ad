use Rattle.std.proofs.lemmas.Grind.{common_steps}
use Rattle.std.proofs.Common.{◌∙◌, ◌++◌, ◌∷◌, [], ap, map, sym, arith}
use Rattle.std.proofs.lemmas.List.{map_push}
use Rattle.wd_value.specs.Bags.{positions}
use Rattle.wd_joined.proofs.Joining.{own}
use Rattle.wd_column_store.proofs.Positions.{positions_push}
use Rattle.wd_joined.proofs.origin.own_origins.Goals as goal

pub loop-column-preserved : goal.loop-column-preserved
loop-column-preserved c =
    let n = c.loop-column.column in
    c.in_ok-push.ensures.items
    ∙ (λ i. c.loop-column.invariant i ++ own n ∷ [])
    ∙ sym (ap (map own) (positions_push n) ∙ map_push own (positions n) n)

pub returns : goal.returns
returns c = grind (arith, common_steps)
