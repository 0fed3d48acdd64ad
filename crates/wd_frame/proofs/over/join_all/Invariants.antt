use Rattle.wd_frame.proofs.Joined.{AreJoinedUpTo}
use Rattle.wd_frame.proofs.over.join_all.Given as goal

abbrev pub invariant-loop-place : goal.invariant-loop-place
invariant-loop-place g l = AreJoinedUpTo g.S.Slide.plain l.initial.answers l.more l.place l.answers
