use Rattle.std.proofs.Common.{◌+◌, ◌-◌, ◌∙◌, ap, get_or, length, refl, take_while}
use Rattle.std.proofs.lemmas.List.{take_rest}
use Rattle.wd_plan.specs.Outcomes.{peers}
use Rattle.wd_value.specs.Rows.{row_at, rows_at}
use Rattle.wd_steps.proofs.Cutting.{first_positions-plain, first_positions-none, first_positions-ties, front_range}
use Rattle.wd_steps.proofs.limit.first_positions.Goals as goal

pub returns-then-not-ties-clause-first : goal.returns-then-not-ties-clause-first
returns-then-not-ties-clause-first c =
    elim c.then-not-ties.branch [
      | goal.then-not-ties-via-then-not-ties w ↦ first_positions-plain c.args.keys.now c.args.rows.now c.args.ordering.now c.args.count _ c.min-end.ensures c.args.ties w.if-not-ties.true
      | goal.then-not-ties-via-else-not-ties+then-end-eq0 w ↦ first_positions-none c.args.keys.now c.args.rows.now c.args.ordering.now c.args.count _ c.min-end.ensures c.args.ties w.if-end-eq0.true
    ]

pub returns-clause-first : goal.returns-clause-first
returns-clause-first c =
    let rows = c.args.rows.now in
    let last = row_at rows (get_or c.args.ordering.now (c.min-end.result - 1) 0) in
    first_positions-ties c.args.keys.now rows c.args.ordering.now c.args.count _ c.min-end.ensures c.args.ties last _ c.if-not-ties.false c.if-end-eq0.false refl (c.count_peers-more.ensures ∙ ap (λ o. length (take_while (peers c.args.keys.now last) (rows_at rows o))) (take_rest c.args.ordering.now c.min-end.result))

pub returns-then-not-ties-clause-part : goal.returns-then-not-ties-clause-part
returns-then-not-ties-clause-part c = front_range c.min-end.result c.args.ordering.now

pub returns-clause-part : goal.returns-clause-part
returns-clause-part c = front_range (c.min-end.result + c.count_peers-more.result) c.args.ordering.now
