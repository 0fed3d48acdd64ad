use Rattle.std.proofs.Common.{◌≡◌, ◌∙◌, ap, slice_get, sym}
use Rattle.std.proofs.lemmas.Result.{IfOk-weaker}
use Rattle.wd_step_facts.specs.Facts.{columns_named}
use Rattle.wd_node_facts.specs.Seen.{columns_or_none, each_columns, fact_by}
use Rattle.wd_node_facts.proofs.Sides.{cut_after, none_after}
use Rattle.wd_node_facts.proofs.facts.add_cut.Goals as goal

pub returns-in_ok-cut : goal.returns-in_ok-cut
returns-in_ok-cut c =
    let traces = each_columns c.args.traces.now in
    let kept = c.args.kept.now in
    let cut = c.in_ok-cut.cut in
    let of_kept : fact_by traces kept ≡ record { from = columns_named c.columns_of.result.now; to = kept.to.items } = λ i. record { from = columns_named (sym c.columns_of.ensures i); to = kept.to.items } in
    let columns = ap (λ n. columns_or_none (slice_get traces n)) c.in_ok-cut.ensures.trace ∙ sym c.columns_of.ensures in
    let of_cut : fact_by traces cut ≡ record { from = columns_named c.columns_of.result.now; to = cut.to.items } = λ i. record { from = columns_named (columns i); to = cut.to.items } in
    IfOk-weaker c.push_kept.result _ _
    (λ done e. cut_after (fact_by traces) c.args.list.now.items c.push_kept.new.list.items cut kept c.args.columns c.columns_of.result.now e of_kept of_cut c.in_ok-cut.ensures.to (sym c.are_columns.ensures ∙ c.if-are_columns.true))
    c.push_kept.ensures

pub returns-else-are_columns : goal.returns-else-are_columns
returns-else-are_columns c =
    let traces = each_columns c.args.traces.now in
    let kept = c.args.kept.now in
    none_after (fact_by traces) c.args.list.now.items kept c.args.columns c.columns_of.result.now (λ i. record { from = columns_named (sym c.columns_of.ensures i); to = kept.to.items }) (sym c.are_columns.ensures ∙ c.if-are_columns.false)
