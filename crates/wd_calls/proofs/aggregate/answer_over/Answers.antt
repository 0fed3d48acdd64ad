use Rattle.std.proofs.Common.{◌∙◌, ap}
use Rattle.wd_plan.specs.Calls.{column_values}
use Rattle.wd_calls.specs.Answers.{value_of}
use Rattle.wd_calls.specs.Parts.{partition_of}
use Rattle.wd_calls.proofs.AnswerCalls.{sum-is}
use Rattle.wd_calls.proofs.aggregate.answer_over.Goals as goal

pub returns-in-Sum : goal.returns-in-Sum
returns-in-Sum c = rw c.in-Sum.is (ap value_of c.total_over_rows.ensures.exact ∙ sum-is (column_values c.in-Sum.column (partition_of c.args.partition.now)))
