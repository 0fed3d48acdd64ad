use Rattle.std.proofs.Common.{◌≡◌, ◌<◌, List, get_or, map, sym, subst, rules}
use Rattle.std.proofs.lemmas.Result.{IfOk-weaker}
use Rattle.wd_value.specs.Rows.{Row}
use Rattle.wd_value.specs.declared.order.SortColumn.{SortColumn}
use Rattle.wd_sort.specs.AllCodes.{AreCodesOfAll}
use Rattle.wd_sort.specs.Codes.{IsCoding}
use Rattle.wd_sort.specs.Sorting.{IsStableSortOf}
use Rattle.wd_sort.proofs.AllCodings.{IsCoding-at, codes_below}
use Rattle.wd_sort.proofs.all.sort_by_coding.Goals as goal

pub sort_by_codes-requires-clause-below : goal.sort_by_codes-requires-clause-below
sort_by_codes-requires-clause-below c =
    let codes = c.args.coding.now.codes.items in
    let given = c.args.positions.now in
    let is : c.in_ok-codes.codes.items ≡ map (λ p. get_or codes p 0) given = search rules in
    λ k low. subst (λ l. get_or l k 0 < c.args.coding.now.bound) (sym is) (codes_below c.args.coding.now.bound codes given c.requires.below c.requires.within k low)

pub returns : goal.returns
returns c =
    let codes = c.args.coding.now.codes.items in
    let bound = c.args.coding.now.bound in
    let given = c.args.positions.now in
    let is : c.in_ok-codes.codes.items ≡ map (λ p. get_or codes p 0) given = search rules in
    IfOk-weaker c.sort_by_codes.result (λ v. (columns : List SortColumn) (rows : List Row) → IsCoding columns rows given c.in_ok-codes.codes.items → IsStableSortOf columns rows given v.items)
    (λ v. (columns : List SortColumn) (rows : List Row) → AreCodesOfAll columns rows bound codes → IsStableSortOf columns rows given v.items)
    (λ v sorts columns rows are. sorts columns rows (subst (IsCoding columns rows given) (sym is) (IsCoding-at columns rows bound codes given are c.requires.within)))
    c.sort_by_codes.ensures
