use Rattle.std.proofs.lemmas.Grind.{common_steps}
use Rattle.std.proofs.Common.{◌∙◌, ◌++◌, [], ◌∷◌, ◌<◌, ◌≤◌, ap, length, take, arith}
use Rattle.std.proofs.lemmas.List.{map_push}
use Rattle.wd_value.specs.Rows.{row_at}
use Rattle.wd_plan.specs.Outcomes.{pairs}
use Rattle.wd_joined.specs.declared.pairs.Pair.{Pair}
use Rattle.wd_joined.specs.Pairs.{row_paired, rows_paired}
use Rattle.wd_join.proofs.Joining.{pairs_more, pairs_next}
use Rattle.wd_join.proofs.paired.all_pairs.Goals as goal

pub loop-first-preserved : goal.loop-first-preserved
loop-first-preserved c =
    let within : c.loop-first.first < length c.args.left.now = omega arith in
    let all : length c.args.right.now ≤ c.loop-second.second = omega arith in
    c.loop-second.invariant ∙ pairs_more c.args.left.now c.args.right.now c.loop-first.first c.loop-second.second within all

pub loop-second-preserved : goal.loop-second-preserved
loop-second-preserved c =
    let left = c.args.left.now in
    let right = c.args.right.now in
    let i = c.loop-first.first in
    let j = c.loop-second.second in
    let old = c.loop-second.pairs.items in
    let pair : Pair = record { left = i; right = j } in
    let within : j < length right = omega arith in
    let front = pairs (take i left) right in
    ap (rows_paired left right) c.in_ok-push.ensures.items
    ∙ map_push (row_paired left right) old pair
    ∙ ap (λ rows. rows ++ row_paired left right pair ∷ []) c.loop-second.invariant
    ∙ pairs_next front (row_at left i) right j within

pub returns : goal.returns
returns c = grind (arith, common_steps)
