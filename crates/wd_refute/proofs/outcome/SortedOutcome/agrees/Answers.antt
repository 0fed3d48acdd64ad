use Rattle.std.proofs.Common.{◌≡◌, ◌∙◌, ◌↔◌, IsTrue, Ok, subst, sym}
use Rattle.wd_value.specs.Rows.{rows_at}
use Rattle.wd_refute.specs.Ready.{IsReady, IsRowSort}
use Rattle.wd_refute.proofs.Agreeing.{SameBag-by_order}
use Rattle.wd_refute.proofs.outcome.SortedOutcome.agrees.Goals as goal

pub returns-in-Ok-Ok : goal.returns-in-Ok-Ok
returns-in-Ok-Ok c =
    let arm = c.in-Ok-Ok in
    let order = c.self.inside.order.items in
    let other_order = c.other.inside.order.items in
    let is : c.self.inside.answer ≡ Ok arm.rows = sym c.rows.ensures ∙ arm.is-0 in
    let other_is : c.other.inside.answer ≡ Ok arm.others = sym c.rows-2.ensures ∙ arm.is-1 in
    let s : IsRowSort arm.rows order = subst (λ answer. IsReady answer order) is c.self.invariant in
    let t : IsRowSort arm.others other_order = subst (λ answer. IsReady answer other_order) other_is c.other.invariant in
    let by = SameBag-by_order arm.rows arm.others order other_order s t in
    let shown : IsTrue c.show_the_same.result ↔ (rows_at arm.rows order ≡ rows_at arm.others other_order) =
    rw (c.deref.ensures.value, c.deref-in-Ok-Ok.ensures.value) at c.show_the_same.ensures in
    rw (← c.self.view_is, ← c.other.view_is, is, other_is) (λ h. by.0 (shown.0 h), λ h. shown.1 (by.1 h))
