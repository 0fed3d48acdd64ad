-- The columns that names stand for (SQL, identifier chain; PG, Column References).
use Rattle.std.specs.Prelude.{ℕ, List, [], ◌∷◌, filter, Option, Ok, Err}
use Rattle.wd_plan.specs.declared.expression.ValueKind.{ValueKind}
use Rattle.wd_resolve_operand.specs.declared.cause.Cause.TheVariants.{UnknownColumn, Ambiguous}
use Rattle.wd_resolve_operand.specs.Causes.{Meant}
use Rattle.wd_resolve_scope.specs.declared.scope.ScopeColumn.{ScopeColumn}
use Rattle.wd_resolve_scope.specs.Scopes.{ScopeRule, carries, numbered}

-- the only one of these columns: its number, and the kind of its values
abbrev pub the_only : List (ℕ × ScopeColumn) → Meant (ℕ × ValueKind)
the_only [] = Err UnknownColumn
the_only (c ∷ []) = Ok (c.0, c.1.kind)
the_only (c ∷ other ∷ others) = Err Ambiguous

-- a name, with or without the name of its table before it, stands for the only column in scope that carries it
abbrev pub column_named : ScopeRule → Option (List ℕ) → List ℕ → Meant (ℕ × ValueKind)
column_named scope table name = the_only (filter (λ c. carries table name c.1) (numbered scope.columns))
