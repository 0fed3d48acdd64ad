use Rattle.std.proofs.Common.{◌≢◌, arith}
use Rattle.std.proofs.lemmas.List.Elements.{All-map}
use Rattle.std.specs.List.{AllPairs}
use Rattle.wd_schema.specs.Keys.{said}
use Rattle.wd_schema.proofs.CheckFacts.{at_image}
use Rattle.wd_schema.proofs.declare.key_column_twice.Goals as goal

pub returns-in-Some-clause-twice : goal.returns-in-Some-clause-twice
returns-in-Some-clause-twice c = λ all.
    c.in-Some.ensures.repeat (rw c.deref.ensures.value (at_image (λ key. AllPairs (λ a b. a ≢ b) key.columns) said c.args.keys.now c.loop-key.key-index c.key-item.result c.loop-key-test.true c.key-item.is all))

pub returns-clause-differ : goal.returns-clause-differ
returns-clause-differ c = All-map (λ key. AllPairs (λ a b. a ≢ b) key.columns) said c.args.keys.now (λ k d lt. c.loop-key.invariant k d (omega arith))
