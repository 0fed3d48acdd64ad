-- That meanings are typed: an operand has the kind that it says, over the columns in scope and its calls.
use Rattle.std.specs.Prelude.{◌≡◌, ℕ, Bool, true, not, ◌||◌, ◌&&◌, List, length, nat_le, Option, Some, None, is_some, option_map, slice_get, ⊤}
use Rattle.std.specs.List.{AllByRecursion}
use Rattle.wd_plan.specs.declared.expression.ValueKind.{ValueKind}
use Rattle.wd_plan.specs.declared.expression.ValueKind.TheVariants.{Number}
use Rattle.wd_plan.specs.declared.window.Frame.{Frame}
use Rattle.wd_plan.specs.declared.window.FrameMode.{FrameMode}
use Rattle.wd_plan.specs.declared.window.FrameMode.TheVariants as mode
use Rattle.wd_plan.specs.Expressions.{Expression}
use Rattle.wd_plan.specs.Plans.{has}
use Rattle.wd_plan.specs.Fits.{Kinds, are_bounds, has_extremes, has_offset, is_frame_row, is_of_kind, is_ranking, is_typed, kind_of}
use Rattle.wd_resolve_operand.specs.BoundExpressions.{BoundExpression, is_typed_over, kind_over, references}
use Rattle.wd_resolve_operand.specs.Operands.{Operand, bare_null, typed}
use Rattle.wd_resolve_scope.specs.declared.scope.ScopeColumn.{ScopeColumn}
use Rattle.wd_resolve_call.specs.Rows.{BoundArgument, BoundAggregate, count_rows, count_of, sum_of, least_of, greatest_of, GroupCall, of_rows, grouping, RowReference, column, of_group, RowExpression, kind_of_group_call}
use Rattle.wd_resolve_call.specs.Calls.{BoundFunction, ranking, away, value_at, aggregate, BoundCall, kind_of_function}
use Rattle.wd_resolve_call.specs.References.{SelectReference, of_row, call}
use Rattle.wd_resolve_scope.specs.Grouped.{GroupedRule}
use Rattle.wd_resolve_scope.specs.Scopes.{ScopeRule}
use Rattle.wd_resolve_call.specs.Windows.{BoundKey, NamedBoundWindow, BoundWindow, is_empty, is_one_number}

-- the kinds of the columns in scope
abbrev pub kinds_in : ScopeRule → Kinds
kinds_in scope c = option_map (λ (column : ScopeColumn). column.kind) (slice_get scope.columns c)

-- an expression that is typed and has this kind, over columns of these kinds
pub record IsOfKind (kinds : Kinds) (e : Expression) (kind : ValueKind) : Type 0 where
  pub is : is_typed kinds e ≡ true
  pub has : kind_of kinds e ≡ Some kind

-- ---- what may be read

-- the columns of FROM: their kinds, and which of them may appear outside the argument of an aggregate
pub record Readable : Type 0 where
  pub kinds : Kinds
  pub allows : ℕ → Bool
  -- calls over groups may appear
  pub grouped : Bool

-- where rows are grouped, the columns that are grouped by
abbrev pub allowed : Option GroupedRule → ℕ → Bool
allowed None n = true
allowed (Some g) n = has g.columns n

abbrev pub readable : ScopeRule → Option GroupedRule → Readable
readable scope groups = record { kinds = kinds_in scope; allows = allowed groups; grouped = is_some groups }

-- ---- calls over groups

-- a property of an argument's expression and kind, as one of the argument
abbrev pub IsArgument : {E : Type 0} → (E → ValueKind → Type 0) → BoundArgument E → Type 0
IsArgument Is a = Is a.expression a.kind

-- an aggregate whose argument has the property
abbrev pub IsAggregate : {E : Type 0} → (E → ValueKind → Type 0) → BoundAggregate E → Type 0
IsAggregate Is count_rows = ⊤
IsAggregate Is (count_of a) = IsArgument Is a
IsAggregate Is (sum_of a) = IsArgument Is a × (a.kind ≡ Number)
IsAggregate Is (least_of a) = IsArgument Is a × (has_extremes (Some a.kind) ≡ true)
IsAggregate Is (greatest_of a) = IsArgument Is a × (has_extremes (Some a.kind) ≡ true)

-- a call over the rows of a group: an aggregate over any columns, or GROUPING of columns that are grouped by
abbrev pub IsGroupCall : Readable → GroupCall → Type 0
IsGroupCall r (of_rows a) = IsAggregate (IsOfKind r.kinds) a
IsGroupCall r (grouping columns) = AllByRecursion (λ n. r.allows n ≡ true) columns × (nat_le 1 (length columns) && nat_le (length columns) 31 ≡ true)

-- the kind of a reference of rows: that of the column, or that of the call's values
abbrev pub row_kind_at : Kinds → RowReference → Option ValueKind
row_kind_at kinds (column n) = kinds n
row_kind_at kinds (of_group c) = Some (kind_of_group_call c)

abbrev pub IsRowReference : Readable → RowReference → Type 0
IsRowReference r (column n) = (is_some (r.kinds n) ≡ true) × (r.allows n ≡ true)
IsRowReference r (of_group c) = (r.grouped ≡ true) × IsGroupCall r c

-- an expression over rows that is typed and has this kind, over these columns and calls over groups of their rows
pub record IsRowExpression (r : Readable) (f : RowExpression) (kind : ValueKind) : Type 0 where
  pub is : is_typed_over (row_kind_at r.kinds) f ≡ true
  pub has : kind_over (row_kind_at r.kinds) f ≡ Some kind
  pub references_are : AllByRecursion (IsRowReference r) (references f)

-- an expression over rows that is typed, of some kind
pub record IsTypedRow (r : Readable) (f : RowExpression) : Type 0 where
  pub kind : ValueKind
  pub expression : IsRowExpression r f kind

-- ---- windows and calls

-- each expression has some kind
abbrev pub AreTyped : Readable → List RowExpression → Type 0
AreTyped r fs = AllByRecursion (IsTypedRow r) fs

abbrev pub AreKeys : Readable → List BoundKey → Type 0
AreKeys r keys = AllByRecursion (λ (key : BoundKey). IsRowExpression r key.expression key.kind) keys

-- a frame that is allowed with its sort keys: GROUPS has some, an offset in RANGE exactly one, of whole numbers
abbrev pub is_framed : FrameMode → List BoundKey → Frame → Bool
is_framed mode.Rows order frame = true
is_framed mode.Range order frame = not (has_offset frame.start || has_offset frame.end) || is_one_number order
is_framed mode.Groups order frame = not (is_empty order)

-- a window over these columns
pub record IsWindow (r : Readable) (w : BoundWindow) : Type 0 where
  pub partition : AreTyped r w.partition
  pub order : AreKeys r w.order
  pub bounds : are_bounds w.frame.start w.frame.end ≡ true
  pub frame : is_framed w.frame.mode w.order w.frame ≡ true

-- a function over these columns
abbrev pub IsFunction : Readable → BoundFunction → Type 0
IsFunction r (ranking ranked) = is_ranking ranked ≡ true
IsFunction r (away direction a n default) = IsArgument (IsRowExpression r) a × (is_of_kind a.kind default ≡ true)
IsFunction r (value_at row a) = IsArgument (IsRowExpression r) a × (is_frame_row row ≡ true)
IsFunction r (aggregate a) = IsAggregate (IsRowExpression r) a

pub record IsCall (r : Readable) (call : BoundCall) : Type 0 where
  pub function : IsFunction r call.function
  pub window : IsWindow r call.window

-- the named windows
abbrev pub AreKnown : Readable → List NamedBoundWindow → Type 0
AreKnown r windows = AllByRecursion (λ (known : NamedBoundWindow). IsWindow r known.window) windows

-- ---- operands

-- the kind of a reference: that of the reference of rows, or that of the values of the call's function
abbrev pub kind_at : Readable → SelectReference → Option ValueKind
kind_at r (of_row l) = row_kind_at r.kinds l
kind_at r (call c) = Some (kind_of_function c.function)

-- one of these columns, or a call over them
abbrev pub IsReference : Readable → SelectReference → Type 0
IsReference r (of_row l) = IsRowReference r l
IsReference r (call c) = IsCall r c

-- an expression that is typed and has this kind, over these columns and calls over them
pub record IsBoundExpression (r : Readable) (f : BoundExpression SelectReference) (kind : ValueKind) : Type 0 where
  pub is : is_typed_over (kind_at r) f ≡ true
  pub has : kind_over (kind_at r) f ≡ Some kind
  pub references_are : AllByRecursion (IsReference r) (references f)

abbrev pub IsOperand : Readable → Operand SelectReference → Type 0
IsOperand r bare_null = ⊤
IsOperand r (typed f kind) = IsBoundExpression r f kind
