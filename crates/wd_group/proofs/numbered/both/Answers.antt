use Rattle.std.proofs.Common.{subst, sym}
use Rattle.wd_group.specs.Pairs.{ArePairNumbers}
use Rattle.wd_group.proofs.Pairing.{ArePairNumbers-pairs}
use Rattle.wd_group.proofs.numbered.both.Goals as goal

pub returns-then-are_dense : goal.returns-then-are_dense
returns-then-are_dense c =
    let first = c.args.first.codes.items in
    let second = c.args.second.now.codes.items in
    subst (λ n. ArePairNumbers first second n c.pair.result.codes.items) (sym c.pair.ensures.bound)
    (ArePairNumbers-pairs first second c.pair.result.codes.items c.args.first.bound c.args.second.now.bound c.pair.ensures.pairs c.requires.high c.requires.low)
