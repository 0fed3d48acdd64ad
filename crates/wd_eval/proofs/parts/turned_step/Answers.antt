use Rattle.std.proofs.Common.{◌≡◌, ◌∙◌, [], ◌∷◌, refl, sym, ap, subst, true, rules}
use Rattle.wd_nodes.specs.Relation.{relation_or_fault_of}
use Rattle.wd_value.specs.Rows.{Instance, table_at}
use Rattle.wd_eval.specs.Turning.{IsStepUnder}
use Rattle.wd_eval.specs.Windows.{orderings_of}
use Rattle.wd_eval.proofs.StepUnder.{step_under}
use Rattle.wd_eval.proofs.parts.turned_step.Goals as goal

pub returns : goal.returns
returns c = λ step below is. (
    let tables = c.of_own-tables.result in
    let given = (c.in_ok-given.ensures step below is).ok in
    let x = given.1.sorted true c.args.turned [] (refl, refl, ap orderings_of c.new.ensures.items) in
    let own : tables ≡ c.args.rows.now ∷ [] = c.of_own-tables.ensures ∙ c.from_ref.ensures.value in
    let input : table_at tables 0 ≡ c.args.rows.now = ap (λ (ts : Instance). table_at ts 0) own in
    subst (λ rows. IsStepUnder step rows c.args.turned c.in_ok-found.found) input
    (subst (IsStepUnder step (table_at tables 0) c.args.turned) (sym c.in_ok-found.ensures) (step_under step (table_at tables 0) c.args.turned x.0 (relation_or_fault_of tables c.in_ok-given.given) (search rules) given.0 x.2)))
