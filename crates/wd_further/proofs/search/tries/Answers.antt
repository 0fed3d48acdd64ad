use Rattle.std.proofs.Common.{◌≤◌, ◌+◌, ◌*◌, ◌/◌, ◌∙◌, arith, length, max, min, subst, sym}
use Rattle.wd_plan.specs.Plans.{ordering_count, plan_of}
use Rattle.wd_varied.specs.Sizes.{paired, sizes}
use Rattle.wd_varied.specs.Work.{row_work}
use Rattle.wd_varied.proofs.Products.{some_pairs}
use Rattle.wd_further.proofs.Tries.{capped}
use Rattle.wd_further.proofs.search.tries.Goals as goal

pub returns : goal.returns
returns c =
    let plan = plan_of c.args.plan.now in
    let some = some_pairs c.args.rows plan (omega (arith, c.requires.large)) in
    c.share.ensures
    ∙ (λ j. min (600 / c.requires.is j) (60000000 / (((c.pair_count.ensures j * (c.orderings.ensures j + 1)) * max 250 (c.row_work.ensures j)) * c.requires.is j)))
    ∙ capped (paired c.args.rows plan) (ordering_count plan) (row_work plan) (length (sizes plan)) some (subst (λ n. 1 ≤ n) c.requires.is c.requires.sizes)

pub share-requires-clause-some : goal.share-requires-clause-some
share-requires-clause-some c =
    let some = some_pairs c.args.rows (plan_of c.args.plan.now) (omega (arith, c.requires.large)) in
    subst (λ n. 1 ≤ n) (sym c.pair_count.ensures) (omega (arith, some))

pub share-requires-clause-little : goal.share-requires-clause-little
share-requires-clause-little c = subst (λ n. n ≤ 268435456) (sym c.row_work.ensures) (omega arith)
