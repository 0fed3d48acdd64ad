use Rattle.std.proofs.Common.{◌≢◌, ◌∙◌, sym, subst, arith}
use Rattle.std.proofs.lemmas.List.{take_all}
use Rattle.std.specs.List.{AllPairs}
use Rattle.wd_schema.proofs.CheckFacts.{differs_more, repeat_found}
use Rattle.wd_schema.proofs.declare.first_repeat.Goals as goal

pub loop-i-preserved : goal.loop-i-preserved
loop-i-preserved c =
    differs_more c.args.names.now c.loop-i.i c.index-names-i.result c.loop-i-test.true (sym c.index-names-i.is) (sym c.is_among.ensures ∙ c.if-is_among.false) c.loop-i.invariant

pub returns-then-is_among-clause-repeat : goal.returns-then-is_among-clause-repeat
returns-then-is_among-clause-repeat c =
    repeat_found c.args.names.now c.loop-i.i c.index-names-i.result c.loop-i-test.true (sym c.index-names-i.is) (sym c.is_among.ensures ∙ c.if-is_among.true)

pub returns-clause-differ : goal.returns-clause-differ
returns-clause-differ c = subst (λ xs. AllPairs (λ a b. a ≢ b) xs) (take_all c.loop-i.i c.args.names.now (omega arith)) c.loop-i.invariant
