use Rattle.std.proofs.Common.{◌≡◌, arith, rules, length, take, subst}
use Rattle.std.proofs.lemmas.Grind.{common_steps}
use Rattle.std.proofs.lemmas.List.{take_all}
use Rattle.wd_partition.specs.Seen.{AreSeen}
use Rattle.wd_partition.proofs.Marks.{not_long, not_past, not_twice, seen_all}
use Rattle.wd_partition.proofs.once.has_each_once.Goals as goal
use Rattle.wd_partition.proofs.once.has_each_once.Goals.{then-index-count-via-then-index-count, then-index-count-via-else-index-count+then-index}

pub returns-then-list-count : goal.returns-then-list-count
returns-then-list-count c = ((λ t. absurd (cc)), (λ once. absurd (not_long c.args.count c.args.list.now c.if-list-count.true once)))

pub returns-then-index-count : goal.returns-then-index-count
returns-then-index-count c =
    let list = c.args.list.now in
    let i = c.loop-position.position-index in
    elim c.then-index-count.branch [
      | then-index-count-via-then-index-count w ↦ ((λ t. absurd (cc)), (λ once. absurd (not_past c.args.count list i (omega arith) (omega arith) once)))
      | then-index-count-via-else-index-count+then-index w ↦ ((λ t. absurd (cc)), (λ once. absurd (not_twice c.args.count list c.loop-position.marks.items i c.loop-position.invariant (omega arith) (grind (arith, common_steps)) once)))
    ]

pub returns : goal.returns
returns c =
    let list = c.args.list.now in
    let marks = c.loop-position.marks.items in
    let whole : take c.loop-position.position-index list ≡ list = take_all c.loop-position.position-index list (omega arith) in
    let long : length list ≡ c.args.count = omega arith in
    ((λ t. seen_all c.args.count list marks (subst (λ l. AreSeen c.args.count l marks) whole c.loop-position.invariant) long), (λ once. search rules))

pub loop-position-preserved : goal.loop-position-preserved
loop-position-preserved c = grind (arith, common_steps)
