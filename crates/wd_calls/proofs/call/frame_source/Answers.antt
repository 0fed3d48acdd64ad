use Rattle.std.proofs.Common.{◌≡◌, ◌<◌, ◌^◌, length, subst, arith, rules}
use Rattle.std.proofs.lemmas.List.{length-map}
use Rattle.wd_value.specs.Rows.{row_at}
use Rattle.wd_frame.specs.IndexRanges.{lists_of}
use Rattle.wd_calls.specs.Answers.{AreAnswersOf}
use Rattle.wd_calls.specs.Parts.{partition_of}
use Rattle.wd_calls.proofs.SourceCalls.{answers_of_calls}
use Rattle.wd_calls.proofs.call.frame_source.Goals as goal

pub returns : goal.returns
returns c = λ f part long frames.
    let p = partition_of c.args.partition.now in
    let aggregate = c.in-Aggregate.aggregate in
    let answers = c.in_ok-answers-in-Aggregate.answers.items in
    let same : length p ≡ length c.args.partition.now.positions.now = length-map c.args.partition.now.positions.now (row_at c.args.partition.now.rows.now) in
    let bound : length c.args.partition.now.positions.now < 2 ^ 60 = search rules in
    rw c.in-Aggregate.is
    (answers_of_calls f aggregate p part c.args.count (lists_of c.args.lists.items) answers long (omega arith) frames
    (subst (λ lists. AreAnswersOf aggregate p c.args.count (lists_of lists) answers) c.deref.ensures.value c.in_ok-answers-in-Aggregate.ensures))
