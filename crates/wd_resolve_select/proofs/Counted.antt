-- How many columns the outputs and the sort keys so far make, and whether some node is too wide for them.
use Rattle.std.proofs.Common.{◌≡◌, ◌+◌, ◌≤◌, arith, length}
use Rattle.std.proofs.lemmas.Bool.{ltb-false, or_parts}
use Rattle.std.proofs.lemmas.List.{length-map}
use Rattle.wd_resolve_call.specs.References.{bound_expression_of}
use Rattle.wd_resolve_list.specs.SelectLists.{are_wide, is_wide, projected_shown}
use Rattle.wd_resolve_list.specs.Outputs.{expressions_of, output_of}
use Rattle.wd_resolve_list.proofs.Counted.{many_listed}
use Rattle.wd_resolve_select.specs.declared.shown.Shown.{Shown as CodeShown}
use Rattle.wd_resolve_select.specs.declared.shown.Sorted.{Sorted as CodeSorted}
use Rattle.wd_resolve_select.specs.Sorting.{IsCounted, IsNarrow, shown_of, sorted_of}

-- as many expressions as outputs and hidden sort keys
pub many_shown : (s : CodeShown) (so_far : CodeSorted) → length s.outputs.now + length so_far.hidden.items ≡ length (expressions_of (shown_of s).outputs) + length (sorted_of so_far).hidden
many_shown s so_far =
    let shown = many_listed (shown_of s).outputs in
    let outputs = length-map s.outputs.now output_of in
    let hidden = length-map so_far.hidden.items bound_expression_of in
    omega (arith, shown, outputs, hidden)

-- where no node is too wide, there are few columns
pub few_shown : (s : CodeShown) (so_far : CodeSorted) → IsNarrow (shown_of s) (sorted_of so_far) → length s.outputs.now + length so_far.hidden.items ≤ 1024
few_shown s so_far h =
    let few = ltb-false 1024 (length (expressions_of (shown_of s).outputs) + length (sorted_of so_far).hidden) (or_parts _ _ h).0 in
    let many = many_shown s so_far in
    omega (arith, few, many)

-- whether some node is too wide goes by what is counted
pub wide_shown : (s : CodeShown) (so_far : CodeSorted) → IsCounted (shown_of s) so_far
    → is_wide (length s.outputs.now + length so_far.hidden.items) (shown_of s).below.grouped (projected_shown so_far.projected) ≡ are_wide (shown_of s).below (expressions_of (shown_of s).outputs) (sorted_of so_far).hidden
wide_shown s so_far h = λ i. is_wide (many_shown s so_far i) (shown_of s).below.grouped (h i)
