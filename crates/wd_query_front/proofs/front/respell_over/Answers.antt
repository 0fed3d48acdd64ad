use Rattle.std.proofs.Common.{◌≡◌, ◌∙◌, [], All, ap, arith, length, subst, sym, vec_len}
use Rattle.std.proofs.lemmas.Bool.{eqb-false, eqb-true}
use Rattle.std.proofs.lemmas.List.{nil_from_length}
use Rattle.wd_fix.specs.Fixes.{IsFixed}
use Rattle.wd_schema.specs.Schemas.{schema_of}
use Rattle.wd_query_front.specs.Fronts.{IsLeft, statement_of}
use Rattle.wd_query_front.proofs.front.respell_over.Goals as goal

pub returns-clause-respelled : goal.returns-clause-respelled
returns-clause-respelled c =
    let fixes = c.in_ok-fixes.fixes in
    let some : vec_len fixes ≡ 0 → ⊥ = eqb-false (vec_len fixes) 0 (sym c.is_empty.ensures ∙ c.if-is_empty.false) in
    record {
      fixes = fixes.items;
      some = omega (arith, some, c.deref-2.ensures.len, ap length c.deref-2.ensures.value);
      each = c.in_ok-fixes.ensures.each;
      fixed = subst (λ fixes. IsFixed c.args.text.now fixes c.in_ok-text.text.items) c.deref-2.ensures.value c.in_ok-text.ensures;
    }

pub returns-then-is_empty-clause-left : goal.returns-then-is_empty-clause-left
returns-then-is_empty-clause-left c =
    let fixes = c.in_ok-fixes.fixes in
    let zero : vec_len fixes ≡ 0 = eqb-true (vec_len fixes) 0 (sym c.is_empty.ensures ∙ c.if-is_empty.true) in
    let none : fixes.items ≡ [] = nil_from_length fixes.items (omega (arith, fixes.ok.0, zero)) in
    let left : All (λ span. IsLeft (schema_of c.args.tables.now) c.args.declared.now c.args.schema.now (statement_of c.args.text.now span)) c.deref.result.now = c.in_ok-fixes.ensures.left none in
    record {
      tables = schema_of c.args.tables.now;
      declared = c.requires;
      spans = c.in_ok-spans.spans.items;
      are = c.in_ok-spans.ensures.are;
      each = subst (All (λ span. IsLeft (schema_of c.args.tables.now) c.args.declared.now c.args.schema.now (statement_of c.args.text.now span))) c.deref.ensures.value left;
    }
