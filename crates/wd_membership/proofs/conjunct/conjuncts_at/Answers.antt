use Rattle.std.proofs.Common.{◌<◌, arith, map}
use Rattle.std.proofs.lemmas.List.{map_push}
use Rattle.wd_membership.specs.Conjuncts.{conjuncts_at, most_conjuncts}
use Rattle.wd_membership.specs.Named.{conjunct}
use Rattle.wd_membership.proofs.ConjunctFacts.{conjuncts_end, conjuncts_more, conjuncts_over}
use Rattle.wd_membership.proofs.conjunct.conjuncts_at.Goals as goal

pub returns-then-left-eq0 : goal.returns-then-left-eq0
returns-then-left-eq0 c =
    conjuncts_over c.loop-rest.left (map conjunct c.loop-rest.conjuncts.items) c.loop-rest.rest.now (conjuncts_at most_conjuncts c.args.tokens.now) c.in-len1-up.len_at_least c.if-left-eq0.true c.loop-rest.invariant

pub loop-rest-preserved : goal.loop-rest-preserved
loop-rest-preserved c =
    let more : 0 < c.loop-rest.left = omega arith in
    rw (c.in_ok-push.ensures.items, map_push conjunct c.loop-rest.conjuncts.items _)
    (conjuncts_more c.loop-rest.left (map conjunct c.loop-rest.conjuncts.items) c.word-item.result c.loop-rest.rest.now c.split_at.result.0.now c.split_at.result.1.now (conjuncts_at most_conjuncts c.args.tokens.now) c.in-len1-up.len_at_least c.word-item.is more c.split_at.ensures.part c.split_at.ensures.following c.loop-rest.invariant)

pub returns : goal.returns
returns c =
    conjuncts_end c.loop-rest.left (map conjunct c.loop-rest.conjuncts.items) c.loop-rest.rest.now (conjuncts_at most_conjuncts c.args.tokens.now) c.in_default.len_below c.loop-rest.invariant
