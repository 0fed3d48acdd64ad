use Rattle.std.proofs.lemmas.Grind.{common_steps}
use Rattle.std.proofs.Common.{rules, length, arith}
use Rattle.wd_close.specs.Reached as spec
use Rattle.wd_close.proofs.Ranges.{next_kept, next_left, filter_none}
use Rattle.wd_close.proofs.counters.done_facts.Goals as goal
use Rattle.wd_close.proofs.counters.done_facts.Goals.{then-is_done+in_ok-push, else-is_done}

pub loop-fact-preserved : goal.loop-fact-preserved
loop-fact-preserved c = elim c.if-is_done.branch [
  | then-is_done+in_ok-push w ↦
      next_kept (spec.is_done c.args.counters.now) c.loop-fact.fact (length c.args.counters.now) c.loop-fact.done.items c.if-is_done.done.items _ (search rules) (search rules) (search rules) c.loop-fact.invariant
  | else-is_done w ↦ next_left (spec.is_done c.args.counters.now) c.loop-fact.fact (length c.args.counters.now) c.if-is_done.done.items _ (search rules) (search rules) (search rules)
]

pub returns : goal.returns
returns c = grind (arith, common_steps, filter_none)
