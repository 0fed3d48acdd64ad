use Rattle.wd_frame.specs.IndexRanges.{lists_of}
use Rattle.wd_calls.proofs.AnswerCalls.{AreCountsUpTo}
use Rattle.wd_calls.proofs.aggregate.counts.Given as goal

abbrev pub invariant-loop-place : goal.invariant-loop-place
invariant-loop-place l = AreCountsUpTo (lists_of l.lists) l.place l.counts.items
