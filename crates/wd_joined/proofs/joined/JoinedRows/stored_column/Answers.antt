use Rattle.std.proofs.Common.{◌≡◌, ◌∙◌, ℕ, ◌<◌, None, Option, Some, ap, get_or, length, subst, sym}
use Rattle.std.specs.Prelude.{IfSome}
use Rattle.wd_value.specs.Rows.{column_of, row_at}
use Rattle.wd_joined.specs.declared.origin.StoredColumn.{StoredColumn}
use Rattle.wd_joined.specs.Joined.{value_in}
use Rattle.wd_joined.specs.Stored.{Stores, stored_value}
use Rattle.wd_joined.proofs.Joining.{count, row_is, value_is}
use Rattle.wd_joined.proofs.joined.JoinedRows.stored_column.Goals as goal

weaker : (P Q : StoredColumn → Type 0) → ((s : StoredColumn) → P s → Q s) → (o : Option StoredColumn) → IfSome o P → IfSome o Q
weaker P Q f None h = h
weaker P Q f (Some s) h = f s h

pub returns : goal.returns
returns c =
    let j = c.self.inside in
    let rows = c.args.self.now in
    let column = c.args.column in
    let lists = j.positions.items in
    let long : length rows ≡ j.count = ap length (sym c.self.view_is) ∙ count j.tables.items lists j.origins.items j.count in
    let Found : StoredColumn → Type 0 = λ s. (p : ℕ) → stored_value s p ≡ value_in c.deref.result.now c.deref-2.result.now p (get_or c.deref-3.result.now column None) in
    weaker Found (Stores rows column) (λ s is p low. (
    is p
    ∙ (λ i. value_in (c.deref.ensures.value i) (c.deref-2.ensures.value i) p (get_or (c.deref-3.ensures.value i) column None))
    ∙ sym (value_is j.tables.items lists j.origins.items p column)
    ∙ sym (ap (λ row. column_of row column) ((λ i. row_at (sym c.self.view_is i) p) ∙ row_is j.tables.items lists j.origins.items j.count p (subst (λ n. p < n) long low))))) c.stored_in.result c.stored_in.ensures
