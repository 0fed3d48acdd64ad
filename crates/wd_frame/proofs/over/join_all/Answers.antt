use Rattle.std.proofs.Common.{arith}
use Rattle.wd_frame.proofs.Joined.{AreJoined-all, AreJoinedUpTo-more}
use Rattle.wd_frame.proofs.over.join_all.Goals as goal

pub loop-place-preserved : goal.loop-place-preserved
loop-place-preserved g c =
    AreJoinedUpTo-more g.S.Slide.plain c.args.answers.now c.args.more.now c.loop-place.place c.loop-place.answers c.index-answers-place.result c.index-more-place.result c.join.result c.loop-place.invariant
    (let test = c.loop-place-test.true in let long = c.loop-place.invariant.long in omega arith) c.index-answers-place.is c.index-more-place.is c.join.ensures

pub returns-clause-joined : goal.returns-clause-joined
returns-clause-joined g c = λ n f g' first second few.
    AreJoined-all g.S.Slide.plain c.args.answers.now c.args.more.now c.loop-place.place c.loop-place.answers c.loop-place.invariant
    (let test = c.loop-place-test.false in let end = c.loop-place.auto.place-end in omega arith) n f g' first second few
