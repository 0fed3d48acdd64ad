use Rattle.std.proofs.Common.{◌≡◌, ◌-◌, ◌<◌, ◌≤◌, ◌∙◌, arith, get_or, length, subst}
use Rattle.wd_plan.specs.Plans.{grouping_of, sets_of}
use Rattle.wd_candidates.proofs.Sources.{group_call_at, group_column_at}
use Rattle.wd_candidates.proofs.tied.column_of_group.Goals as goal

pub returns-then-number-columns : goal.returns-then-number-columns
returns-then-number-columns c = group_column_at (grouping_of c.args.group.now) c.args.number (omega (arith, c.from-columns.ensures, c.if-number-columns.true))

pub returns-else-number-columns : goal.returns-else-number-columns
returns-else-number-columns c =
    let group = c.args.group.now in
    let columns : c.from-columns.result ≡ group.columns = c.from-columns.ensures in
    let past : group.columns ≤ c.args.number = omega (arith, columns, c.if-number-columns.false) in
    let inside : c.args.number - group.columns < length group.calls.items = omega (arith, past, c.requires) in
    let is = subst (λ k. c.index.result.now ≡ get_or group.calls.items (c.args.number - k) c.index.result.now) columns c.index.ensures in
    c.argument_of.ensures ∙ group_call_at group.columns (sets_of group.sets.items) group.calls.items c.args.number c.index.result.now past inside is
