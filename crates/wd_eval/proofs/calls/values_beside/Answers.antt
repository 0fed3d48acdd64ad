use Rattle.std.proofs.Common.{◌≡◌, ◌∙◌, sym, ap, true, false}
use Rattle.std.specs.List.{list_any}
use Rattle.wd_plan.specs.Plans.{window_of}
use Rattle.wd_calls.specs.declared.column.CallColumn.{CallColumn}
use Rattle.wd_eval.proofs.Beside.{window_fault, window_values}
use Rattle.wd_eval.proofs.calls.values_beside.Goals as goal

pub returns-then-is_out_of_range : goal.returns-then-is_out_of_range
returns-then-is_out_of_range c = λ orderings listed. (
    let tells = λ (column : CallColumn). column.out_of_range in
    let columns = c.in_ok-columns.columns.items in
    let found : list_any tells columns ≡ true = ap (list_any tells) (sym c.deref.ensures.value) ∙ sym c.is_out_of_range.ensures ∙ c.if-is_out_of_range.true in
    window_fault (window_of c.args.window.now) c.args.rows.now orderings columns (c.in_ok-columns.ensures orderings listed) found)

pub returns : goal.returns
returns c = λ orderings listed. (
    let tells = λ (column : CallColumn). column.out_of_range in
    let columns = c.in_ok-columns.columns.items in
    let found : list_any tells columns ≡ false = ap (list_any tells) (sym c.deref.ensures.value) ∙ sym c.is_out_of_range.ensures ∙ c.if-is_out_of_range.false in
    window_values (window_of c.args.window.now) c.args.rows.now orderings columns (c.in_ok-columns.ensures orderings listed) found)
