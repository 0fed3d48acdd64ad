use Rattle.std.proofs.Common.{◌≡◌, ◌++◌, [], ◌∷◌, ◌∙◌, ap}
use Rattle.std.proofs.lemmas.List.{map_push}
use Rattle.wd_eval.specs.Windows.{orderings_of}
use Rattle.wd_eval.proofs.Putting.{none_empty, one_empty}
use Rattle.wd_eval.proofs.orderings.put_empty.Goals as goal

pub loop-init : goal.loop-init
loop-init c = none_empty (orderings_of c.args.made.now.items)

pub loop-preserved : goal.loop-preserved
loop-preserved c =
    let mid = c.loop.made.items in
    let grown : orderings_of c.push.new.self.items ≡ orderings_of mid ++ [] ∷ [] = ap orderings_of c.in_ok-push.ensures.items ∙ map_push (λ v. v.items) mid c.new.result ∙ ap (λ o. orderings_of mid ++ o ∷ []) c.new.ensures.items in
    one_empty c.loop.counter (orderings_of c.args.made.now.items) (orderings_of mid) (orderings_of c.push.new.self.items) c.loop.invariant grown
