use Rattle.std.proofs.Common.{◌≡◌, ◌+◌, ◌<◌, ◌++◌, ◌∷◌, [], get_or, length, take, rules, sym, subst}
use Rattle.std.proofs.lemmas.List.{take_more}
use Rattle.std.proofs.lemmas.List.Elements.{All-get_or}
use Rattle.wd_sort.specs.declared.coding.Coding.{Coding}
use Rattle.wd_sort.specs.Numbers.{AreNumbersBy}
use Rattle.wd_group.proofs.Numbering.{AreNumbersBy-both}
use Rattle.wd_group.proofs.numbered.row_numbers.Goals as goal

pub loop-i-preserved : goal.loop-i-preserved
loop-i-preserved c =
    let rows = c.args.rows.now in
    let columns = c.args.columns.now in
    let i = c.loop-i.i in
    let column = get_or columns i 0 in
    let of = c.index-numbers-columns.result in
    let within : column < length c.args.numbers.now = All-get_or (λ k. k < length c.args.numbers.now) columns i 0 c.loop-i-test.true c.requires.within in
    let is : get_or c.args.numbers.now column of ≡ of = search rules in
    let own : AreNumbersBy (column ∷ []) rows of.bound of.codes.items = subst (λ (k : Coding). AreNumbersBy (column ∷ []) rows k.bound k.codes.items) is (c.requires.numbers.each column of within) in
    let joined = c.in_ok-joined-2.joined in
    let more : take (i + 1) columns ≡ take i columns ++ column ∷ [] = take_more columns i 0 c.loop-i-test.true in
    subst (λ cs. AreNumbersBy cs rows joined.bound joined.codes.items) (sym more)
    (AreNumbersBy-both (take i columns) column rows c.loop-i.joined.bound of.bound joined.bound c.loop-i.joined.codes.items of.codes.items joined.codes.items c.loop-i.invariant own c.in_ok-joined-2.ensures)
