use Rattle.std.proofs.Common.{◌≡◌, ◌≤◌, [], length, subst, arith}
use Rattle.std.specs.Prelude.{flat_map}
use Rattle.std.proofs.lemmas.List.{take_all}
use Rattle.std.proofs.lemmas.Result.{IfOk-weaker}
use Rattle.wd_plan.specs.Faults.{all_ok}
use Rattle.wd_plan.specs.Outcomes.{RowsOrFault, set_rows}
use Rattle.wd_plan.specs.Plans.{grouping_of, sets_of}
use Rattle.wd_group.specs.Gathered.{AreFirst}
use Rattle.wd_group.specs.Sets.{row_width}
use Rattle.wd_group.proofs.step.group_rows.Goals as goal

pub loop-set-init : goal.loop-set-init
loop-set-init c = subst (λ width. AreFirst width c.args.most [] c.in_ok-gathered.gathered) c.in_ok-row_width.ensures (c.in_ok-gathered.ensures c.args.most)

pub returns : goal.returns
returns c =
    let rule = grouping_of c.args.group.now in
    let rows = c.args.rows.now in
    let sets = c.args.group.now.sets.items in
    let index = c.loop-set.set-index in
    let width = row_width rule in
    let all : length sets ≤ index = omega arith in
    let results = flat_map (set_rows rule rows) rule.sets in
    let first : AreFirst width c.args.most results c.loop-set.gathered = subst (λ s. AreFirst width c.args.most (flat_map (set_rows rule rows) (sets_of s)) c.loop-set.gathered) (take_all index sets all) c.loop-set.invariant in
    record {
      outcome = IfOk-weaker c.rows_within.result _ (λ (o : RowsOrFault). o ≡ all_ok results) (λ _ each. each width results first) c.rows_within.ensures.outcome;
      within = c.rows_within.ensures.within;
      too_many = λ is. c.rows_within.ensures.too_many is width results first;
    }
