use Rattle.std.proofs.Common.{◌≡◌, ◌∙◌, ◌↔◌, IfOk, IsTrue, List, Ok, sym, subst}
use Rattle.wd_plan.specs.Outcomes.{Agree}
use Rattle.wd_value.specs.Rows.{Row}
use Rattle.wd_refute.specs.Numbers.{AreSortedNumbers}
use Rattle.wd_refute.proofs.kept.NumberedRows.agree.Goals as goal

pub returns-in-Ok : goal.returns-in-Ok
returns-in-Ok c =
    let is : c.args.answer.now ≡ Ok c.in-Ok.rows = sym c.rows.ensures ∙ c.in-Ok.is in
    subst (λ o. IfOk c.are_of.result (λ b. (rows : List Row) → AreSortedNumbers c.args.self.now.places.items rows c.args.self.now.numbers.items → (IsTrue b ↔ Agree (Ok rows) o))) (sym is) c.are_of.ensures
