use Rattle.std.proofs.Common.{◌≡◌, ℕ, ◌||◌, drop}
use Rattle.wd_verify.specs.Named.{is_marked, is_of_calls}
use Rattle.wd_verify.proofs.named.mark_calls.Given as goal

abbrev pub invariant-loop-rule : goal.invariant-loop-rule
invariant-loop-rule l = (n : ℕ) → (is_marked l.marks n || is_of_calls (drop l.rule-index l.rules) n) ≡ (is_marked l.fn.marks n || is_of_calls l.rules n)
