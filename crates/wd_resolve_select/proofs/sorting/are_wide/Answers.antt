use Rattle.std.proofs.Common.{◌≡◌, ◌∙◌, ap, ◌+◌, arith, length, ℕ}
use Rattle.wd_resolve_list.specs.SelectLists.{is_wide, projected_shown}
use Rattle.wd_resolve_select.specs.Sorting.{shown_of}
use Rattle.wd_resolve_select.proofs.Counted.{wide_shown}
use Rattle.wd_resolve_select.proofs.sorting.are_wide.Goals as goal

pub returns : goal.returns
returns c =
    let len = c.len.ensures in
    let ok = c.args.sorted.now.hidden.ok.0 in
    let hidden : c.len.result ≡ length c.args.sorted.now.hidden.items = omega (arith, len, ok) in
    c.is_wide.ensures
    ∙ ap (λ (n : ℕ). is_wide (length c.args.shown.now.outputs.now + n) (shown_of c.args.shown.now).below.grouped (projected_shown c.args.sorted.now.projected)) hidden
    ∙ wide_shown c.args.shown.now c.args.sorted.now c.requires
