use Rattle.std.proofs.Common.{◌≡◌, ◌<◌, drop, length, refl, subst, rules, arith}
use Rattle.wd_value.specs.Bags.{positions}
use Rattle.wd_sort.specs.Codes.{IsCodingBelow}
use Rattle.wd_sort.proofs.AllCodings.{AreCodesOfAll-from}
use Rattle.wd_sort.proofs.all.row_coding.Goals as goal

pub returns : goal.returns
returns c =
    let rows = c.args.rows.now in
    let columns = c.args.columns.now in
    let start = c.in-Some.last.start in
    let coding = c.in-Some.last.coding in
    let given = c.deref.result.now in
    let found : (start < length columns) × IsCodingBelow (drop start columns) rows given coding.bound coding.codes.items = search rules in
    let all : given ≡ positions (length rows) = search rules in
    let none : start ≡ 0 = omega arith in
    let whole : IsCodingBelow columns rows given coding.bound coding.codes.items = subst (λ n. IsCodingBelow (drop n columns) rows given coding.bound coding.codes.items) none found.1 in
    AreCodesOfAll-from columns rows (length rows) coding.bound coding.codes.items refl (subst (λ l. IsCodingBelow columns rows l coding.bound coding.codes.items) all whole)
