use Rattle.std.proofs.Common.{◌≡◌, ◌∙◌, sym, ap, refl, Ok}
use Rattle.std.proofs.lemmas.Result.{err_from_is_err_and}
use Rattle.wd_schema.specs.Schemas.{schema_of}
use Rattle.wd_syntax.specs.Tree.{derived}
use Rattle.wd_syntax.specs.View.{view_select, view_table}
use Rattle.wd_syntax.proofs.Rows.{view_derived}
use Rattle.wd_resolve_operand.proofs.Cases.{fails_too}
use Rattle.wd_resolve.specs.Lowering.{lowered, table_meant}
use Rattle.wd_resolve.proofs.select.+select.Goals as goal

pub resolve_table-returns-in_err-plan-in-Derived : goal.resolve_table-returns-in_err-plan-in-Derived
resolve_table-returns-in_err-plan-in-Derived t c =
    let tables = schema_of c.args.schema.now in
    let alias = c.in-Derived.alias in
    let inner = view_select c.deref.result.now in
    let shown : view_table c.args.table.now ≡ derived inner alias = ap view_table c.in-Derived.is ∙ view_derived c.in-Derived.select alias ∙ ap (λ s. derived (view_select s) alias) (sym c.deref.ensures) in
    let p = err_from_is_err_and c.from_residual.result c.from_residual.ensures.1 in
    rw (p.1, p.2) (rw shown (fails_too c.in_err-plan-in-Derived.field-0.0 (lowered tables inner) (table_meant tables (derived inner alias)) c.in_err-plan-in-Derived.ensures (λ cause h. rw h refl)))

pub resolve_table-returns-in_ok-derived_table-in-Derived : goal.resolve_table-returns-in_ok-derived_table-in-Derived
resolve_table-returns-in_ok-derived_table-in-Derived t c =
    let alias = c.in-Derived.alias in
    let shown : view_table c.args.table.now ≡ derived (view_select c.deref.result.now) alias = ap view_table c.in-Derived.is ∙ view_derived c.in-Derived.select alias ∙ ap (λ s. derived (view_select s) alias) (sym c.deref.ensures) in
    rw shown (rw c.in_ok-plan-in-Derived.ensures (ap Ok (sym c.in_ok-derived_table-in-Derived.ensures)))
