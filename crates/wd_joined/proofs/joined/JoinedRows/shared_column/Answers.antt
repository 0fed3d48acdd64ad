use Rattle.std.proofs.Common.{◌≡◌, ◌∙◌, ◌-◌, ◌<◌, [], ℕ, None, Option, Some, ap, get_or, length, rules, subst, sym}
use Rattle.std.specs.Prelude.{IfSome}
use Rattle.std.proofs.lemmas.List.{get_or-map, length-map}
use Rattle.std.proofs.lemmas.Result.{IfOk-weaker}
use Rattle.wd_value.specs.declared.value.Value.TheVariants.{Null}
use Rattle.wd_value.specs.Rows.{Row, column_of, row_at}
use Rattle.wd_column_store.specs.Along.{values_before}
use Rattle.wd_joined.specs.Joined.{row_joined, value_in}
use Rattle.wd_joined.specs.Stored.{HasValues, shared_value}
use Rattle.wd_joined.specs.declared.shared.SharedColumn.{SharedColumn}
use Rattle.wd_joined.proofs.Joining.{count, row_is, value_is}
use Rattle.wd_joined.proofs.joined.JoinedRows.shared_column.Goals as goal

weaker : (P Q : SharedColumn → Type 0) → ((s : SharedColumn) → P s → Q s) → (o : Option SharedColumn) → IfSome o P → IfSome o Q
weaker P Q f None h = h
weaker P Q f (Some s) h = f s h

pub returns : goal.returns
returns c =
    let j = c.self.inside in
    let rows = c.args.self.now in
    let after = c.args.after in
    let tables = j.tables.items in
    let lists = j.positions.items in
    let origins = j.origins.items in
    let column = length origins - after in
    let long : length rows ≡ j.count = ap length (sym c.self.view_is) ∙ count tables lists origins j.count in
    let place : c.saturating_sub-column.result ≡ column = search rules in
    let origin = c.origin_at.ensures ∙ (λ i. get_or (c.deref-3.ensures.value i) (place i) None) in
    let Found : SharedColumn → Type 0 = λ s. (p : ℕ) → shared_value s p ≡ value_in c.deref.result.now c.deref-2.result.now p c.origin_at.result in
    IfOk-weaker c.shared_in.result _ _ (weaker Found (HasValues (length rows) (values_before rows after)) (λ s is p low. (
    let within : p < j.count = subst (λ n. p < n) long low in
    let row : row_at rows p ≡ row_joined tables lists origins p = (λ i. row_at (sym c.self.view_is i) p) ∙ row_is tables lists origins j.count p within in
    let wide : length (row_at rows p) ≡ length origins = ap length row ∙ length-map origins (value_in tables lists p) in
    is p
    ∙ (λ i. value_in (c.deref.ensures.value i) (c.deref-2.ensures.value i) p (origin i))
    ∙ sym (value_is tables lists origins p column)
    ∙ (λ i. column_of (sym row i) (sym wide i - after))
    ∙ sym (get_or-map (λ (r : Row). column_of r (length r - after)) rows p [] Null low)))) c.shared_in.ensures
