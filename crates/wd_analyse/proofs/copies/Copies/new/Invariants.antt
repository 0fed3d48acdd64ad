use Rattle.std.proofs.Common.{◌≡◌, ℕ, drop, map}
use Rattle.wd_plan.specs.Expressions.{expression_of}
use Rattle.wd_step_facts.specs.Steps.{copy_from}
use Rattle.wd_analyse.specs.Steps.{copy_in}
use Rattle.wd_analyse.proofs.copies.Copies.new.Given as goal

abbrev pub invariant-loop-number : goal.invariant-loop-number
invariant-loop-number l = (c : ℕ) → copy_in l.copies c ≡ copy_from l.number (map expression_of (drop l.number l.outputs)) c
