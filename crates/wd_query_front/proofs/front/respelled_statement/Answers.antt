use Rattle.std.proofs.Common.{◌≡◌, ℕ, List, inr, IfOk, IfSome, Option, Some, None, Result, Ok, Err}
use Rattle.wd_lex.specs.declared.token.Span.{Span}
use Rattle.wd_dialect_read.specs.declared.said.Statement.{Statement}
use Rattle.wd_fix.specs.declared.fix.Fix.{Fix}
use Rattle.wd_respell.specs.Respelled.{CountsUnits}
use Rattle.wd_schema.specs.Schemas.{schema_of}
use Rattle.wd_schema.specs.Tables.{TableRule}
use Rattle.wd_schema.specs.Texts.{Declares}
use Rattle.wd_query_front.specs.Fronts.{IsDue, IsPut, IsRespelledAt, statement_of}
use Rattle.wd_query_front.proofs.front.respelled_statement.Goals as goal

-- what stands in the place of a query whose numbers count units
in_units_at : {E : Type 0} (statements : List Statement) (schema text : List ℕ) (span : Span) (tables : List TableRule) (found : Result (Option Fix) E) → Declares schema tables
    → IfOk found (λ o. IfSome o (λ fix. fix.span ≡ span))
    → IfOk found (λ o. IfSome o (λ fix. CountsUnits statements (statement_of text span)))
    → IfOk found (λ o. IfSome o (λ fix. IsPut tables statements (statement_of text span) fix.text.items))
    → IfOk found (λ o. IfSome o (IsRespelledAt statements schema text))
in_units_at statements schema text span tables (Err e) declares stands counts put = tt
in_units_at statements schema text span tables (Ok None) declares stands counts put = tt
in_units_at statements schema text span tables (Ok (Some fix)) declares stands counts put =
    let due : IsDue statements schema (statement_of text span) = inr counts in
    let there : IsPut tables statements (statement_of text span) fix.text.items = put in
    record {
      due = rw stands due;
      tables = tables;
      declared = declares;
      put = rw stands there;
    }

pub returns-in-None-clause-respelled : goal.returns-in-None-clause-respelled
returns-in-None-clause-respelled c =
    in_units_at c.args.declared.now c.args.schema.now c.args.text.now c.args.span (schema_of c.args.tables.now) c.in_units.result c.requires.declares
    c.in_units.ensures.stands c.in_units.ensures.counts c.in_units.ensures.put
