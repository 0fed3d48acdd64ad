use Rattle.std.proofs.Common.{◌≡◌, ◌∙◌, sym, ap, subst, List, map}
use Rattle.std.specs.Prelude.{IfOk}
use Rattle.wd_resolve_call.specs.Calls.{call_of}
use Rattle.wd_resolve_call.specs.Rows.{GroupCall, same_group_call}
use Rattle.wd_resolve_call.specs.Windows.{key_of}
use Rattle.wd_resolve_call.specs.Rows.{row_expression_of}
use Rattle.wd_resolve_list.specs.SelectLists.{all_row_references, group_calls_among, shared_call, sorted_by, with_new}
use Rattle.wd_resolve_list.proofs.FirstMet.{call_groups}
use Rattle.wd_resolve_list.proofs.groups.add_groups_read.Goals as goal

pub returns : goal.returns
returns c =
    let call = call_of c.args.window_call.now in
    let before = map shared_call c.args.calls.now.items in
    let partition = c.deref-2.ensures.value ∙ ap (λ v. v.items) c.deref.ensures in
    let order = c.deref-4.ensures.value ∙ ap (λ v. v.items) c.deref-3.ensures in
    let parted = c.in_ok-add_partition_calls.ensures
    ∙ (λ i. with_new same_group_call (c.in_ok-add_argument_calls.ensures i) (group_calls_among (all_row_references (map row_expression_of (partition i))))) in
    let same = (λ i. with_new same_group_call (parted i) (group_calls_among (all_row_references (map sorted_by (map key_of (order i)))))) ∙ sym (call_groups before call) in
    subst (λ (cs : List GroupCall). IfOk c.add_order_calls.result (λ u. map shared_call c.add_order_calls.new.calls.items ≡ cs)) same c.add_order_calls.ensures
