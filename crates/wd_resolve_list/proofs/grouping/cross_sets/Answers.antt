use Rattle.std.proofs.lemmas.Grind.{common_steps}
use Rattle.std.proofs.Common.{◌≡◌, ◌∙◌, sym, ap, suc, ◌<◌, ◌+◌, ◌∷◌, ◌++◌, List, ℕ, add-one, append_assoc, arith, drop, length, map}
use Rattle.std.specs.declared.alloc.Global.{Global}
use Rattle.std.specs.declared.vec.Vec.{Vec}
use Rattle.std.proofs.lemmas.List.{map-append}
use Rattle.std.proofs.Math.Seq.{drop-cons}
use Rattle.wd_plan.specs.Plans.{sets_of}
use Rattle.wd_resolve_list.specs.Grouping.{cross_sets}
use Rattle.wd_resolve_list.proofs.grouping.cross_sets.Goals as goal

pub loop-set-preserved : goal.loop-set-preserved
loop-set-preserved c =
    let sets = c.args.sets.now in
    let others = sets_of c.args.others.now in
    let set = c.set-item.result in
    let i = c.loop-set.set-index in
    let before = sets_of c.loop-set.all.items in
    let more = sets_of c.in_ok-more.more.items in
    let rest = cross_sets (sets_of (drop (i + 1) sets)) others in
    let within : i < length sets = omega arith in
    let step : drop i sets ≡ set ∷ drop (i + 1) sets = drop-cons sets i set within ∙ ap (λ s. s ∷ drop (suc i) sets) (sym c.set-item.is) ∙ ap (λ k. set ∷ drop k sets) (sym (add-one i)) in
    ap (λ (vs : List (Vec ℕ Global)). sets_of vs ++ rest) c.in_ok-append.ensures.items
    ∙ ap (λ (ss : List (List ℕ)). ss ++ rest) (map-append (λ (v : Vec ℕ Global). v.items) c.loop-set.all.items c.in_ok-more.more.items)
    ∙ append_assoc before more rest
    ∙ ap (λ (ss : List (List ℕ)). before ++ (ss ++ rest)) (c.in_ok-more.ensures ∙ ap (λ (s : List ℕ). map (λ t. s ++ t) others) c.deref.ensures.value)
    ∙ ap (λ (ss : List (Vec ℕ Global)). before ++ cross_sets (sets_of ss) others) (sym step)
    ∙ c.loop-set.invariant

pub returns : goal.returns
returns c = grind (arith, common_steps)
