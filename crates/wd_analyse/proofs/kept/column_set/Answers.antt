use Rattle.std.proofs.lemmas.Grind.{common_steps}
use Rattle.std.proofs.Common.{◌∙◌, ◌||◌, ◌+◌, ap, sym, drop, ℕ, List, arith}
use Rattle.std.proofs.lemmas.List.{at_drop_more}
use Rattle.wd_step_facts.specs.declared.facts.Member.TheVariants as member
use Rattle.wd_sets.specs.Sets.{has_column, is_in}
use Rattle.wd_analyse.proofs.New.{in_or_left}
use Rattle.wd_analyse.proofs.kept.column_set.Goals as goal

pub loop-column-init : goal.loop-column-init
loop-column-init c = λ k. ap (λ b. b || is_in c.args.columns.now k) (c.new-set.ensures (member.Column k))

pub loop-column-preserved : goal.loop-column-preserved
loop-column-preserved c = λ k.
    let left = is_in (drop (c.loop-column.column-index + 1) c.args.columns.now) k in
    ap (λ b. b || left) (c.in_ok-insert.ensures.has (member.Column k))
    ∙ in_or_left (has_column c.loop-column.set k) _ left
    ∙ ap (λ b. has_column c.loop-column.set k || b) (sym (at_drop_more (λ (rest : List ℕ). is_in rest k) c.args.columns.now c.loop-column.column-index 0 c.loop-column-test.true))
    ∙ c.loop-column.invariant k

pub returns : goal.returns
returns c = grind (arith, common_steps, in_or_left)
