use Rattle.std.proofs.Common.{◌≢◌, subst, arith}
use Rattle.std.proofs.lemmas.List.{take_all}
use Rattle.std.specs.List.{AllPairs}
use Rattle.wd_schema.proofs.declare.column_twice.Goals as goal

pub returns-in-None-clause-differ : goal.returns-in-None-clause-differ
returns-in-None-clause-differ c = λ few. subst (λ xs. AllPairs (λ a b. a ≢ b) xs) (take_all c.min.result c.args.columns.now (omega (arith, c.min.ensures))) c.in-None.ensures.differ
