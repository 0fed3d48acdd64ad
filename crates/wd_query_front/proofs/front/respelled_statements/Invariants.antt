use Rattle.std.proofs.Common.{◌≡◌, [], All, drop, length, take}
use Rattle.wd_fix.proofs.Choosing.{StandWith}
use Rattle.wd_schema.specs.Schemas.{schema_of}
use Rattle.wd_query_front.specs.Fronts.{IsLeft, IsRespelledAt, statement_of}
use Rattle.wd_query_front.proofs.front.respelled_statements.Given as goal

-- those that are respelled, and the statements that are left; while none is respelled, all so far are left
abbrev pub invariant-loop-span : goal.invariant-loop-span
invariant-loop-span l = record {
  ordered : StandWith l.fixes.items (drop l.span-index l.spans) (length l.text);
  each : All (IsRespelledAt l.declared l.schema l.text) l.fixes.items;
  left : l.fixes.items ≡ [] → All (λ span. IsLeft (schema_of l.tables) l.declared l.schema (statement_of l.text span)) (take l.span-index l.spans);
}
