-- The meaning of parts of a tree, as they are read one after another.
use Rattle.std.specs.Prelude.{ℕ, Option, List, [], ◌∷◌, Ok, Err}
use Rattle.wd_syntax.specs.declared.expression.Operator.{Operator}
use Rattle.wd_syntax.specs.Tree.{Tree, Otherwise, OverTree, no_over, over_name, over_window}
use Rattle.wd_resolve_operand.specs.declared.cause.Cause.TheVariants.{WrongCall}
use Rattle.wd_resolve_operand.specs.Causes.{Meant, ◌>>=◌}
use Rattle.wd_resolve_operand.specs.Operands.{Operand, combined, case_of}
use Rattle.wd_resolve_scope.specs.Grouped.{column_meant}
use Rattle.wd_resolve_call.specs.References.{SelectReference}
use Rattle.wd_resolve_scope.specs.Names.{column_named}
use Rattle.wd_resolve_scope.specs.Resolving.{ContextRule, else_resolved, resolved, window_resolved}
use Rattle.wd_resolve_call.specs.Windows.{BoundWindow, window_named}

-- a column, which a grouped select has to be grouped by
abbrev pub column_resolved : ContextRule → Option (List ℕ) → List ℕ → Meant (Operand SelectReference)
column_resolved c table name = column_named c.scope table name >>= λ x. column_meant c.groups x

-- an operator and its right operand, over what is to its left
abbrev pub link_meant : ContextRule → Operator × Tree → Operand SelectReference → Meant (Operand SelectReference)
link_meant c link x = resolved c link.1 >>= λ y. combined link.0 x y

-- operators and their right operands, over what is to their left
abbrev pub chain_meant : ContextRule → List (Operator × Tree) → Operand SelectReference → Meant (Operand SelectReference)
chain_meant c [] x = Ok x
chain_meant c (link ∷ links) x = link_meant c link x >>= λ y. chain_meant c links y

-- the window of a call, where one is allowed
abbrev pub over_meant : ContextRule → OverTree → Meant BoundWindow
over_meant c no_over = Err WrongCall
over_meant c (over_name name) = window_named c.windows name.text
over_meant c (over_window w) = window_resolved c w

-- a CASE after its arms: first its end, then the CASE itself
abbrev pub case_ended : ContextRule → List (Operand SelectReference × Operand SelectReference) → Otherwise → Meant (Operand SelectReference)
case_ended c arms other = else_resolved c other >>= λ y. case_of arms y
