use Rattle.std.proofs.lemmas.Grind.{common_steps}
use Rattle.std.proofs.Common.{◌≡◌, ◌∙◌, ◌∷◌, ◌++◌, [], true, false, cond, ap, sym, arith}
use Rattle.std.proofs.lemmas.List.{append-nil}
use Rattle.wd_plan.specs.Plans.{has}
use Rattle.wd_group.specs.Sets.{set_columns}
use Rattle.wd_group.proofs.Sets.{set_columns_more}
use Rattle.wd_group.proofs.step.set_columns.Goals.{then-has_column+in_ok-push, else-has_column}
use Rattle.wd_group.proofs.step.set_columns.Goals as goal

pub loop-column-preserved : goal.loop-column-preserved
loop-column-preserved c =
    let n = c.loop-column.column in
    let set = c.args.set.now in
    let more = set_columns_more set n in
    elim c.if-has_column.branch [
      | then-has_column+in_ok-push w ↦ (
          let there : has set n ≡ true = sym c.has_column.ensures ∙ w.if-has_column.true in
          ap (λ v. v.items) w.found-is ∙ w.in_ok-push.ensures.items ∙ ap (λ cs. cs ++ n ∷ []) c.loop-column.invariant ∙ sym (more ∙ ap (λ b. set_columns n set ++ cond b (n ∷ []) []) there))
      | else-has_column w ↦ (
          let there : has set n ≡ false = sym c.has_column.ensures ∙ w.if-has_column.false in
          ap (λ v. v.items) w.found-is ∙ c.loop-column.invariant ∙ sym (more ∙ ap (λ b. set_columns n set ++ cond b (n ∷ []) []) there ∙ append-nil (set_columns n set)))
    ]

pub returns : goal.returns
returns c = grind (arith, common_steps)
