use Rattle.std.proofs.lemmas.Grind.{common_steps}
use Rattle.std.proofs.Common.{◌+◌, ◌&&◌, sym, ap, ◌∙◌, arith}
use Rattle.std.proofs.lemmas.Bool.{le-ltb}
use Rattle.wd_sets.specs.Sets.{has_column}
use Rattle.wd_step_facts.specs.declared.facts.Member.TheVariants.{Column}
use Rattle.wd_simpler.proofs.Sets.{beside_in, beside_out}
use Rattle.wd_simpler.proofs.plan.right_of.Goals as goal
use Rattle.wd_simpler.proofs.plan.right_of.Goals.{then-contains+in_ok-insert, else-contains}

pub loop-column-init : goal.loop-column-init
loop-column-init c = λ d. c.new-beside.ensures (Column d) ∙ sym (ap (λ b. b && has_column c.in-Some.set (c.args.first + d)) (le-ltb d 0 (omega arith)))

pub loop-column-preserved : goal.loop-column-preserved
loop-column-preserved c = λ d. elim c.if-contains.branch [
  | then-contains+in_ok-insert w ↦
      rw w.beside-is (beside_in (has_column c.in-Some.set) c.args.first c.loop-column.column d _ _ (sym c.contains.ensures ∙ w.if-contains.true) (c.loop-column.invariant d) (w.in_ok-insert.ensures.has (Column d)))
  | else-contains w ↦
      rw w.beside-is (beside_out (has_column c.in-Some.set) c.args.first c.loop-column.column d _ (sym c.contains.ensures ∙ w.if-contains.false) (c.loop-column.invariant d))
]

pub returns : goal.returns
returns c = grind (arith, common_steps)
