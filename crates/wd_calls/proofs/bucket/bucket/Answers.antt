use Rattle.std.proofs.Common.{arith}
use Rattle.wd_calls.proofs.Buckets.{larger_bucket, smaller_bucket}
use Rattle.wd_calls.proofs.bucket.bucket.Goals as goal

pub returns-then-place-in_larger-clause-value : goal.returns-then-place-in_larger-clause-value
returns-then-place-in_larger-clause-value c there = larger_bucket c.args.buckets c.args.members c.args.place (omega arith) there c.if-place-in_larger.true

pub returns-else-place-in_larger-clause-value : goal.returns-else-place-in_larger-clause-value
returns-else-place-in_larger-clause-value c there = smaller_bucket c.args.buckets c.args.members c.args.place (omega arith) there c.if-place-in_larger.false
