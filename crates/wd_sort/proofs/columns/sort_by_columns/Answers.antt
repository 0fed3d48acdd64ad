use Rattle.std.proofs.Common.{◌≡◌, ◌∙◌, ◌<◌, ◌≤◌, take, drop, length, arith, rules, sym, subst}
use Rattle.std.proofs.lemmas.List.{length-take-le, take-append-drop}
use Rattle.std.proofs.lemmas.Result.{IfOk-weaker}
use Rattle.wd_sort.specs.Codes.{IsCoding, IsCodingBelow}
use Rattle.wd_sort.specs.Sorting.{IsStableSortOf}
use Rattle.wd_sort.proofs.TwoSorts.{drop_in_parts, two_sorts_are_one}
use Rattle.wd_sort.proofs.columns.sort_by_columns.Goals as goal

pub returns-in-None : goal.returns-in-None
returns-in-None c =
    let rows = c.args.rows.now in
    let columns = c.args.columns.now in
    let given = c.args.positions.now in
    let left = c.loop-left.left in
    let shown = c.deref-in-None.ensures.value in
    IfOk-weaker c.sort_by_rows.result (λ v. IsStableSortOf (take left columns) rows c.deref-in-None.result.now v.items) (λ v. IsStableSortOf columns rows given v.items)
    (λ v sorted.
    subst (λ l. IsStableSortOf l rows given v.items) (take-append-drop left columns)
    (two_sorts_are_one (take left columns) (drop left columns) rows given c.loop-left.order.items v.items c.loop-left.invariant.sorted (subst (λ l. IsStableSortOf (take left columns) rows l v.items) shown sorted)))
    c.sort_by_rows.ensures

pub loop-left-preserved : goal.loop-left-preserved
loop-left-preserved c =
    let rows = c.args.rows.now in
    let columns = c.args.columns.now in
    let given = c.args.positions.now in
    let left = c.loop-left.left in
    let last = c.in-Some.last in
    let mid = c.loop-left.order.items in
    let order = c.in_ok-order-in-Some.order.items in
    let found : (last.start < length (take left columns)) × IsCodingBelow (drop last.start (take left columns)) rows c.deref.result.now last.coding.bound last.coding.codes.items = search rules in
    let shown = c.deref-in-Some.ensures.value in
    let sorted : IsStableSortOf (drop last.start (take left columns)) rows mid order =
    subst (λ l. IsStableSortOf (drop last.start (take left columns)) rows l order) shown
    (c.in_ok-order-in-Some.ensures (drop last.start (take left columns)) rows (subst (λ l. IsCoding (drop last.start (take left columns)) rows l last.coding.codes.items) (c.deref.ensures.value ∙ sym shown) found.1.alike)) in
    let within = c.loop-left.invariant.within in
    let long : length (take left columns) ≡ left = length-take-le left columns within in
    let low = found.0 in
    let first : last.start ≤ left = omega arith in
    record {
      within = omega arith;
      sorted = subst (λ l. IsStableSortOf l rows given order) (drop_in_parts columns last.start left first)
          (two_sorts_are_one (drop last.start (take left columns)) (drop left columns) rows given mid order c.loop-left.invariant.sorted sorted);
    }

pub returns : goal.returns
returns c =
    let rows = c.args.rows.now in
    let none : c.loop-left.left ≡ 0 = omega arith in
    subst (λ n. IsStableSortOf (drop n c.args.columns.now) rows c.args.positions.now c.loop-left.order.items) none c.loop-left.invariant.sorted
