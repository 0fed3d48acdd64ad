use Rattle.std.proofs.lemmas.Grind.{common_steps}
use Rattle.std.proofs.Common.{◌≡◌, ◌+◌, ◌<◌, ◌++◌, ◌∷◌, [], get_or, set, sym, subst, arith}
use Rattle.wd_group.specs.Groups.{list_at, lists_of}
use Rattle.wd_group.proofs.Listing.{AreBefore, AreBefore-more}
use Rattle.wd_group.proofs.groups.lists_by.Goals as goal

pub loop-position-preserved : goal.loop-position-preserved
loop-position-preserved c =
    let numbers = c.args.numbers.now in
    let n = c.loop-position.position in
    let old = lists_of c.loop-position.lists.items in
    let low : get_or numbers n 0 < c.args.bound = c.requires n c.loop-position-test.true in
    let new : lists_of c.push_to.new.lists.items ≡ set old (get_or numbers n 0) (list_at old (get_or numbers n 0) ++ n ∷ []) = c.in_ok-push_to.ensures in
    subst (AreBefore numbers c.args.bound (n + 1)) (sym new) (AreBefore-more numbers c.args.bound n old c.loop-position.invariant low)

pub returns : goal.returns
returns c = grind (arith, common_steps)
