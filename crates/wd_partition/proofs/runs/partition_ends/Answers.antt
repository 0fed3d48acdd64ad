use Rattle.std.proofs.lemmas.Grind.{common_steps}
use Rattle.std.proofs.Common.{arith}
use Rattle.wd_partition.specs.Indexed.{by_partition}
use Rattle.wd_partition.specs.Runs.{ends_at}
use Rattle.wd_partition.proofs.IndexRanges.{mapped}
use Rattle.wd_partition.proofs.runs.partition_ends.Goals as goal

pub returns : goal.returns
returns c =
    let list = c.args.indexed.now.positions.now in
    mapped (ends_at (by_partition c.args.indexed.now) list) list c.loop-i.ends.items c.loop-i.invariant.long (λ k l. c.loop-i.invariant.each k (omega arith) l)

pub loop-i-preserved : goal.loop-i-preserved
loop-i-preserved c = grind (arith, common_steps)
