use Rattle.std.proofs.Common.{◌≡◌, ◌∙◌, ◌<◌, ◌^◌, pos, ap, sym, length, arith, rules}
use Rattle.std.proofs.lemmas.List.{length-map}
use Rattle.wd_value.specs.declared.value.Value.TheVariants.{Int}
use Rattle.wd_value.specs.Rows.{row_at}
use Rattle.wd_plan.specs.Calls.{bucket}
use Rattle.wd_plan.specs.Partitions.{group_of}
use Rattle.wd_calls.specs.Parts.{partition_of}
use Rattle.wd_calls.specs.Values.{IsRising}
use Rattle.wd_calls.proofs.Columns.{rises}
use Rattle.wd_calls.proofs.Starts.{lower-is}
use Rattle.wd_calls.proofs.ranking.ranking_value.Goals as goal

pub returns-in-Rank : goal.returns-in-Rank
returns-in-Rank c = λ begins class frame is within.
    let p = partition_of c.args.partition.now in
    let groups = c.args.part.now.groups.now in
    let rising : IsRising groups = rw is.groups (rises is.rising) in
    let long : length groups ≡ length p = ap length is.groups ∙ length-map p (group_of class p) in
    let start = begins rising (omega arith) in
    let reached = start.reached in
    let lower = lower-is class p groups c.args.place c.args.start is.groups rising (omega arith) within start in
    let same : length p ≡ length c.args.partition.now.positions.now = length-map c.args.partition.now.positions.now (row_at c.args.partition.now.rows.now) in
    let bound : length c.args.partition.now.positions.now < 2 ^ 60 = search rules in
    let next = c.saturating_add-in-Rank.ensures in
    let small : c.saturating_add-in-Rank.result < 2 ^ 63 = omega arith in
    rw c.in-Rank.is (c.number-in-Rank.ensures small ∙ ap (λ n. Int (pos n)) (omega arith))

pub returns-in-Ntile : goal.returns-in-Ntile
returns-in-Ntile c = λ begins class frame is within.
    let p = partition_of c.args.partition.now in
    let same : length p ≡ length c.args.partition.now.positions.now = length-map c.args.partition.now.positions.now (row_at c.args.partition.now.rows.now) in
    let bound : length c.args.partition.now.positions.now < 2 ^ 60 = search rules in
    let least = c.bucket.ensures.within in
    let value = c.number-in-Ntile.ensures (omega (arith, same, bound, least, within)) in
    let dealt = c.bucket.ensures.value (omega (arith, same, within)) in
    rw c.in-Ntile.is (value ∙ ap (λ n. Int (pos n)) (dealt ∙ ap (λ n. bucket c.in-Ntile.buckets n c.args.place) (sym same)))
