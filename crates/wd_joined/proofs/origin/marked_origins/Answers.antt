use Rattle.std.proofs.lemmas.Grind.{common_steps}
use Rattle.std.proofs.Common.{◌≡◌, ◌∙◌, ◌++◌, ◌∷◌, ℕ, Option, None, [], ap, get_or, map, sym, true, arith}
use Rattle.std.specs.Prelude.{if◌then◌else◌}
use Rattle.std.proofs.lemmas.List.{map_push}
use Rattle.wd_value.specs.Bags.{positions}
use Rattle.wd_column_store.proofs.Positions.{positions_push}
use Rattle.wd_joined.specs.declared.origin.Origin.{Origin}
use Rattle.wd_joined.proofs.origin.marked_origins.Goals as goal

pub loop-column-preserved : goal.loop-column-preserved
loop-column-preserved c =
    let n = c.loop-column.column in
    let kept : ℕ → Option Origin = λ k. if get_or c.args.marks.now k true then get_or c.args.origins.now k None else None in
    let pushed : c.push.new.self.items ≡ map kept (positions n) ++ kept n ∷ [] = c.in_ok-push.ensures.items ∙ (λ i. c.loop-column.invariant i ++ c.marked_origin.ensures i ∷ []) in
    pushed
    ∙ sym (ap (map kept) (positions_push n) ∙ map_push kept (positions n) n)

pub returns : goal.returns
returns c = grind (arith, common_steps)
