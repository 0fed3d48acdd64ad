use Rattle.std.proofs.lemmas.Grind.{common_steps}
use Rattle.std.proofs.Common.{◌≡◌, ◌∙◌, sym, ap, suc, ◌<◌, ◌+◌, ◌∷◌, List, ℕ, add-one, arith, drop, length, nat_eq}
use Rattle.std.specs.Prelude.{flat_map}
use Rattle.std.specs.declared.alloc.Global.{Global}
use Rattle.std.specs.declared.vec.Vec.{Vec}
use Rattle.std.proofs.Math.Seq.{drop-cons}
use Rattle.wd_plan.specs.Plans.{sets_of}
use Rattle.wd_resolve_list.specs.SelectLists.{with_new}
use Rattle.wd_resolve_list.proofs.FirstMet.{with_new_append}
use Rattle.wd_resolve_list.proofs.grouping.add_sets.Goals as goal

pub loop-set-preserved : goal.loop-set-preserved
loop-set-preserved c =
    let sets = c.args.sets.now in
    let set = c.set-item.result in
    let i = c.loop-set.set-index in
    let before = c.loop-set.columns.items in
    let rest = flat_map (λ (s : List ℕ). s) (sets_of (drop (i + 1) sets)) in
    let within : i < length sets = omega arith in
    let step : drop i sets ≡ set ∷ drop (i + 1) sets = drop-cons sets i set within ∙ ap (λ s. s ∷ drop (suc i) sets) (sym c.set-item.is) ∙ ap (λ k. set ∷ drop k sets) (sym (add-one i)) in
    ap (λ (ns : List ℕ). with_new nat_eq ns rest) (c.in_ok-add_columns.ensures ∙ ap (with_new nat_eq before) c.deref.ensures.value)
    ∙ sym (with_new_append nat_eq before set.items rest)
    ∙ ap (λ (ss : List (Vec ℕ Global)). with_new nat_eq before (flat_map (λ (s : List ℕ). s) (sets_of ss))) (sym step)
    ∙ c.loop-set.invariant

pub returns : goal.returns
returns c = grind (arith, common_steps)
