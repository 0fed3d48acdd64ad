use Rattle.std.proofs.Common.{◌≡◌, ◌∙◌, length, arith, rules, subst, sym}
use Rattle.std.specs.HashMap.{hash_map_len}
use Rattle.wd_group.specs.Pairs.{ArePairNumbers}
use Rattle.wd_group.proofs.Pairing.{ArePairNumbers-met}
use Rattle.wd_group.proofs.pairs.pair_numbers.Goals as goal

pub returns : goal.returns
returns c =
    let first = c.args.first.now in
    let done : c.loop-k.k ≡ length first = omega arith in
    let bound : c.len-bound.result ≡ hash_map_len c.loop-k.met = search rules in
    subst (λ n. ArePairNumbers first c.args.second.now n c.loop-k.codes.items) (sym bound)
    (ArePairNumbers-met c.loop-k.met first c.args.second.now c.loop-k.codes.items c.loop-k.invariant.apart (c.loop-k.invariant.long ∙ done) (λ k low. c.loop-k.invariant.each k (omega arith)))
