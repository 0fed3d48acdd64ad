use Rattle.std.proofs.Common.{◌≡◌, true, subst, rules}
use Rattle.std.specs.Prelude.{IfErr}
use Rattle.wd_plan.specs.Expressions.{expression_of}
use Rattle.wd_plan.specs.Outcomes.{filter_outcome, pairs}
use Rattle.wd_join.specs.Joins.{has_more_rows}
use Rattle.wd_joined.specs.Pairs.{rows_paired}
use Rattle.wd_join.proofs.Joining.{kept_within}
use Rattle.wd_join.proofs.join.join_pairs.Goals as goal

pub returns-in_ok-kept-in-None-clause-pairs : goal.returns-in_ok-kept-in-None-clause-pairs
returns-in_ok-kept-in-None-clause-pairs c =
    let e = expression_of c.args.condition.now in
    let left = c.args.left.now in
    let right = c.args.right.now in
    let kept = c.in_ok-kept-in-None.kept in
    (kept_within e c.args.most (pairs left right) (rows_paired left right kept.pairs.items) left right kept.fault c.pairs_within.result c.in_ok-kept-in-None.ensures (c.pairs_within.ensures left right)).0

pub returns-in_ok-kept-in-None-clause-within : goal.returns-in_ok-kept-in-None-clause-within
returns-in_ok-kept-in-None-clause-within c = let found = c.pairs_within.ensures c.args.left.now c.args.right.now in search rules

pub returns-in_ok-kept-in-None-clause-too_many : goal.returns-in_ok-kept-in-None-clause-too_many
returns-in_ok-kept-in-None-clause-too_many c = λ same. (
    let e = expression_of c.args.condition.now in
    let left = c.args.left.now in
    let right = c.args.right.now in
    let kept = c.in_ok-kept-in-None.kept in
    subst (λ r. IfErr r (λ e'. has_more_rows c.args.most (filter_outcome e (pairs left right)) ≡ true)) same
    (kept_within e c.args.most (pairs left right) (rows_paired left right kept.pairs.items) left right kept.fault c.pairs_within.result c.in_ok-kept-in-None.ensures (c.pairs_within.ensures left right)).1)
