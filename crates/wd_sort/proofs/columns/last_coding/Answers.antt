use Rattle.std.proofs.Common.{◌≡◌, ◌∙◌, ◌-◌, ◌*◌, ◌<◌, suc, [], ◌∷◌, false, drop, get_or, length, rules, sym, subst, ap, arith}
use Rattle.wd_value.specs.declared.order.SortColumn.{SortColumn}
use Rattle.wd_sort.specs.Codes.{ArePairs, IsCodingBelow}
use Rattle.wd_sort.proofs.Codings.{coding_of_pairs, drop_at}
use Rattle.wd_sort.proofs.columns.last_coding.Goals as goal

pub loop-start-preserved : goal.loop-start-preserved
loop-start-preserved c =
    let rows = c.args.rows.now in
    let given = c.args.positions.now in
    let columns = c.args.columns.now in
    let start = c.loop-start.start in
    let first = c.in-Some-2.first in
    let coding = c.loop-start.coding in
    let more = c.in-Some-combine.more in
    let d : SortColumn = record { column = 0; key = record { desc = false; nulls_first = false } } in
    let low : start - 1 < length columns = (let h = c.loop-start.invariant.within in omega arith) in
    let next : suc (start - 1) ≡ start = omega arith in
    let columns_are : drop (start - 1) columns ≡ get_or columns (start - 1) d ∷ drop start columns = drop_at columns (start - 1) d low ∙ ap (λ i. get_or columns (start - 1) d ∷ drop i columns) next in
    let own : IsCodingBelow (get_or columns (start - 1) d ∷ []) rows given first.bound first.codes.items = search rules in
    let pairs : ArePairs first.codes.items coding.codes.items coding.bound more.codes.items × (more.bound ≡ first.bound * coding.bound) = search rules in
    record {
      within = low;
      coding = subst (λ l. IsCodingBelow l rows given more.bound more.codes.items) (sym columns_are)
          (coding_of_pairs rows given (get_or columns (start - 1) d) (drop start columns) first.bound coding.bound more.bound first.codes.items coding.codes.items more.codes.items own c.loop-start.invariant.coding pairs.0 pairs.1);
    }
