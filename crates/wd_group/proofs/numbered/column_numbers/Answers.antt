use Rattle.std.proofs.lemmas.Grind.{common_steps}
use Rattle.std.proofs.Common.{◌≡◌, ◌+◌, ◌++◌, [], ◌∷◌, rules, subst, sym, arith}
use Rattle.wd_group.specs.Numbered.{AreNumbersOfEach}
use Rattle.wd_group.proofs.Numbering.{AreNumbersOfEach-more}
use Rattle.wd_group.proofs.numbered.column_numbers.Goals as goal

pub loop-column-preserved : goal.loop-column-preserved
loop-column-preserved c =
    let rows = c.args.rows.now in
    let n = c.loop-column.column in
    let items : c.push.new.self.items ≡ c.loop-column.found.items ++ c.in_ok-numbers.numbers ∷ [] = search rules in
    subst (AreNumbersOfEach (n + 1) rows) (sym items) (AreNumbersOfEach-more rows n c.loop-column.found.items c.in_ok-numbers.numbers c.loop-column.invariant c.in_ok-numbers.ensures)

pub returns : goal.returns
returns c = grind (arith, common_steps)
