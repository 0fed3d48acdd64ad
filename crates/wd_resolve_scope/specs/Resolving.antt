-- What the expressions of a query mean over the columns in scope: a window call means its function over its arguments and its
-- window.
use Rattle.std.specs.Prelude.{ℕ, Bool, ◌&&◌, List, [], ◌∷◌, ◌++◌, map, Option, Some, None, is_some, option_map, Ok, Err, if◌then◌else◌}
use Rattle.wd_read_cursor.specs.declared.name.Name.{Name}
use Rattle.std.specs.List.{list_any}
use Rattle.std.specs.Str.{bytes_eq}
use Rattle.wd_syntax.specs.declared.expression.Literal.TheVariants as l
use Rattle.wd_syntax.specs.declared.expression.Sign.{Sign}
use Rattle.wd_syntax.specs.declared.expression.SortDirection.{SortDirection}
use Rattle.wd_syntax.specs.declared.expression.NullsPlace.{NullsPlace}
use Rattle.wd_syntax.specs.Tree.{Tree, Constant, Column, Qualified, CallAll, Call, Case, Bracket, Signed, Binary, IsNull, Negated, Trees, no_trees, more_trees, Arms, no_arms, more_arms, Otherwise, no_else, or_else, OverTree, no_over, over_name, over_window, WindowTree, window, Keys, no_keys, more_keys}
use Rattle.wd_plan.specs.declared.expression.ValueKind.TheVariants.{Truth}
use Rattle.wd_plan.specs.Expressions.{Expression}
use Rattle.wd_resolve_operand.specs.declared.cause.Cause.TheVariants.{WrongCall, CallNotAllowed, UnknownWindow, GroupCallNotAllowed, GroupingOfOther}
use Rattle.wd_resolve_scope.specs.declared.context.Context.{Context}
use Rattle.wd_resolve_scope.specs.declared.context.Place.{Place}
use Rattle.wd_resolve_scope.specs.declared.context.Place.TheVariants as place
use Rattle.wd_resolve_scope.specs.Grouped.{GroupedRule, column_meant, grouped_of}
use Rattle.wd_resolve_scope.specs.Places.{allows_group_calls, allows_window_calls, within_call}
use Rattle.wd_resolve_operand.specs.Causes.{Meant, ◌>>=◌}
use Rattle.wd_resolve_scope.specs.Scopes.{ScopeRule, scope_of}
use Rattle.wd_resolve_scope.specs.Names.{column_named}
use Rattle.wd_resolve_operand.specs.BoundExpressions.{BoundExpression, Reference}
use Rattle.wd_resolve_operand.specs.Operands.{Operand, bare_null, typed, of_kind, settled, kind_of, literal, signed_number, signed, negated, tested, combined, case_of}
use Rattle.wd_resolve_call.specs.Windows.{BoundKey, BoundWindow, NamedBoundWindow, known_of, sort_key, window_meant, window_named, base_named}
use Rattle.wd_resolve_call.specs.Calls.{kind_of_function}
use Rattle.wd_resolve_call.specs.Functions.{GroupFunction, aggregates, applied, function_named, group_function_named, grouped, make_group_call}
use Rattle.wd_resolve_call.specs.References.{SelectReference, of_row, call, over_columns, over_rows}
use Rattle.wd_resolve_call.specs.Rows.{RowExpression, kind_of_group_call, of_group}

-- the context of an expression: the columns in scope, those that a grouped select is grouped by, the named windows, and the place
pub record ContextRule : Type 0 where
  pub scope : ScopeRule
  pub groups : Option GroupedRule
  pub windows : List NamedBoundWindow
  pub place : Place

abbrev pub context_of : Context → ContextRule
context_of c = record { scope = scope_of c.scope.now; groups = option_map grouped_of c.groups; windows = map known_of c.windows.now; place = c.place }

-- the same context at another place
abbrev pub moved_to : Place → ContextRule → ContextRule
moved_to place c = record { scope = c.scope; groups = c.groups; windows = c.windows; place = place }

-- the arguments of an aggregate may have all columns, but no windows; those of GROUPING have a refusal of their own for a column that the
-- select is not grouped by; those of another call without OVER are read as the call is
abbrev pub without_over : Option GroupFunction → ContextRule → ContextRule
without_over None c = c
without_over (Some (aggregates name)) c = record { scope = c.scope; groups = None; windows = []; place = place.Aggregated }
without_over (Some grouped) c = record { scope = c.scope; groups = option_map (λ (g : GroupedRule). record { columns = g.columns; other = GroupingOfOther }) c.groups; windows = c.windows; place = c.place }

-- the context of the arguments of a call
abbrev pub arguments_in : ContextRule → Name → OverTree → ContextRule
arguments_in c f no_over = without_over (group_function_named f.text) c
arguments_in c f (over_name name) = moved_to (within_call c.place) c
arguments_in c f (over_window w) = moved_to (within_call c.place) c

-- the number directly after a sign, if the expression is one
abbrev pub written_number : Tree → Option ℕ
written_number (Constant (l.Number n)) = Some n
written_number a = None

-- aggregates and GROUPING may appear in grouped selects, at places that allow them
abbrev pub may_group : ContextRule → Bool
may_group c = is_some c.groups && allows_group_calls c.place

-- a call without OVER: an aggregate or GROUPING over its arguments, where these are allowed
abbrev pub group_called : ContextRule → Option GroupFunction → Option (List (Operand SelectReference)) → Meant (Operand SelectReference)
group_called c None arguments = Err WrongCall
group_called c (Some function) arguments = if may_group c then (make_group_call function arguments >>= λ g. Ok (typed (Reference (of_row (of_group g))) (kind_of_group_call g))) else Err GroupCallNotAllowed

-- a call with OVER: its function over its arguments, and its window
abbrev pub called : Name → Option (List (Operand SelectReference)) → BoundWindow → Meant (Operand SelectReference)
called f arguments w = do
  function ← applied (function_named f.text) arguments
  Ok (typed (Reference (call (record { function = function; window = w }))) (kind_of_function function))

-- a sign over an operand, or over the number directly after it
abbrev pub sign_meant : Sign → Option ℕ → Meant (Operand SelectReference) → Meant (Operand SelectReference)
sign_meant sign (Some n) inner = signed_number sign n
sign_meant sign None inner = inner >>= λ x. signed sign x

-- an expression to sort by
abbrev pub key_meant : Operand SelectReference → Option SortDirection → Option NullsPlace → Meant BoundKey
key_meant x direction place = do
  expression ← over_rows (settled x)
  Ok (record { expression = expression; kind = kind_of x; key = sort_key direction place })

-- expressions in places that require no kind
abbrev pub all_settled : List (Operand SelectReference) → Meant (List RowExpression)
all_settled [] = Ok []
all_settled (x ∷ xs) = do
  e ← over_rows (settled x)
  es ← all_settled xs
  Ok (e ∷ es)

-- what is in OVER, where window calls are allowed
abbrev pub where_allowed : ContextRule → Meant BoundWindow → Meant BoundWindow
where_allowed c w = if allows_window_calls c.place then w else Err CallNotAllowed

abbrev mutual
  -- the meaning of an expression
  pub resolved : ContextRule → Tree → Meant (Operand SelectReference)
  resolved c (Constant x) = literal x
  resolved c (Column name) = column_named c.scope None name.text >>= λ x. column_meant c.groups x
  resolved c (Qualified table name) = column_named c.scope (Some table.text) name.text >>= λ x. column_meant c.groups x
  resolved c (CallAll f over) = call_over c f None over
  resolved c (Call f arguments over) = do
    xs ← all_resolved (arguments_in c f over) arguments
    call_over c f (Some xs) over
  resolved c (Case arms other) = do
    xs ← arms_resolved c arms
    y ← else_resolved c other
    case_of xs y
  resolved c (Bracket a) = resolved c a
  resolved c (Signed sign a) = sign_meant sign (written_number a) (resolved c a)
  resolved c (Binary operator a b) = do
    x ← resolved c a
    y ← resolved c b
    combined operator x y
  resolved c (IsNull a not) = resolved c a >>= λ x. Ok (tested not x)
  resolved c (Negated a) = resolved c a >>= λ x. negated x

  -- the arguments of a call, and the expressions of a partition
  pub all_resolved : ContextRule → Trees → Meant (List (Operand SelectReference))
  all_resolved c no_trees = Ok []
  all_resolved c (more_trees a trees) = do
    x ← resolved c a
    xs ← all_resolved c trees
    Ok (x ∷ xs)

  -- the conditions and results of a CASE
  pub arms_resolved : ContextRule → Arms → Meant (List (Operand SelectReference × Operand SelectReference))
  arms_resolved c no_arms = Ok []
  arms_resolved c (more_arms when gives arms) = do
    x ← resolved c when
    y ← resolved c gives
    xs ← arms_resolved c arms
    Ok ((x, y) ∷ xs)

  -- without ELSE a CASE ends in NULL
  pub else_resolved : ContextRule → Otherwise → Meant (Operand SelectReference)
  else_resolved c no_else = Ok bare_null
  else_resolved c (or_else a) = resolved c a

  -- the sort keys of a window
  pub keys_resolved : ContextRule → Keys → Meant (List BoundKey)
  keys_resolved c no_keys = Ok []
  keys_resolved c (more_keys a direction place keys) = do
    x ← resolved c a
    k ← key_meant x direction place
    ks ← keys_resolved c keys
    Ok (k ∷ ks)

  -- a call after its arguments: first what is in OVER, then the call itself; OVER is looked at only where window calls are allowed
  pub call_over : ContextRule → Name → Option (List (Operand SelectReference)) → OverTree → Meant (Operand SelectReference)
  call_over c f xs no_over = group_called c (group_function_named f.text) xs
  call_over c f xs (over_name name) = where_allowed c (window_named c.windows name.text) >>= λ w. called f xs w
  call_over c f xs (over_window w) = where_allowed c (window_resolved c w) >>= λ meaning. called f xs meaning

  -- a window: the one that it copies, its partition, its order, and then its frame
  pub window_resolved : ContextRule → WindowTree → Meant BoundWindow
  window_resolved c (window base partition order frame) = do
    copied ← base_named c.windows (option_map (λ (n : Name). n.text) base)
    xs ← all_resolved (moved_to place.Window c) partition
    parts ← all_settled xs
    keys ← keys_resolved (moved_to place.Window c) order
    window_meant copied parts keys frame

-- ---- expressions outside the select list

-- an expression at a place where no windows have names
abbrev pub plain : Place → Option GroupedRule → ScopeRule → Tree → Meant (Operand SelectReference)
plain place groups scope a = resolved (record { scope = scope; groups = groups; windows = []; place = place }) a

-- the condition of HAVING, a truth value over groups, where no windows are known
abbrev pub group_condition : Option GroupedRule → ScopeRule → Tree → Meant RowExpression
group_condition groups scope a = do
  x ← plain place.Having groups scope a
  truth ← of_kind Truth x
  over_rows truth

-- the condition of WHERE or of ON, a truth value over the columns in scope
abbrev pub condition : Place → ScopeRule → Tree → Meant Expression
condition place scope a = do
  x ← plain place None scope a
  truth ← of_kind Truth x
  over_columns truth

-- ---- the WINDOW clause

-- an earlier window has the name
abbrev pub is_known : List NamedBoundWindow → List ℕ → Bool
is_known windows name = list_any (λ known. bytes_eq known.name name) windows

-- a window of the WINDOW clause, which may copy the ones before it
abbrev pub defined : ScopeRule → Option GroupedRule → List NamedBoundWindow → Name → WindowTree → Meant NamedBoundWindow
defined scope groups windows name w = if is_known windows name.text then Err UnknownWindow else window_resolved (record { scope = scope; groups = groups; windows = windows; place = place.Window }) w >>= λ meaning. Ok (record { name = name.text; window = meaning })

-- the windows of the WINDOW clause, after those before them; each is checked, even where no call uses it
abbrev pub all_defined : ScopeRule → Option GroupedRule → List NamedBoundWindow → List (Name × WindowTree) → Meant (List NamedBoundWindow)
all_defined scope groups windows [] = Ok windows
all_defined scope groups windows (w ∷ others) = defined scope groups windows w.0 w.1 >>= λ known. all_defined scope groups (windows ++ known ∷ []) others
