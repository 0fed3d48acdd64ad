-- The final ORDER BY and the limits of rows (SQL, query expression; PG, Sorting Rows, LIMIT and OFFSET, SELECT: LIMIT Clause).
use Rattle.std.specs.Prelude.{◌≡◌, ℕ, ◌+◌, ◌-◌, Bool, true, false, not, ◌&&◌, List, [], ◌∷◌, ◌++◌, map, length, filter, position, nat_le, Option, Some, None, option_map, Ok, Err, if◌then◌else◌}
use Rattle.std.specs.List.{list_all}
use Rattle.std.specs.Str.{bytes_eq}
use Rattle.wd_value.specs.declared.order.SortKey.{SortKey}
use Rattle.wd_read_cursor.specs.declared.name.Name.{Name}
use Rattle.wd_syntax.specs.declared.expression.Literal.{Literal}
use Rattle.wd_syntax.specs.declared.expression.Literal.TheVariants as l
use Rattle.wd_syntax.specs.declared.query.Count.{Count}
use Rattle.wd_syntax.specs.declared.query.Count.TheVariants as written
use Rattle.wd_syntax.specs.declared.query.Offset.{Offset}
use Rattle.wd_syntax.specs.declared.query.Limits.{Limits}
use Rattle.wd_syntax.specs.declared.query.Limits.TheVariants.{OffsetFirst, CountFirst}
use Rattle.wd_syntax.specs.Tree as tree
use Rattle.wd_syntax.specs.Tree.{Tree, Keys, no_keys, more_keys}
use Rattle.wd_value.specs.declared.order.SortColumn.{SortColumn}
use Rattle.wd_resolve_operand.specs.declared.cause.Cause.TheVariants.{Ambiguous, WrongSortKey, TiesWithoutOrder, ForeignSortKey, TooMany}
use Rattle.wd_resolve_operand.specs.Causes.{Meant, ◌>>=◌}
use Rattle.wd_resolve_operand.specs.BoundExpressions.{BoundExpression, same_bound_expression}
use Rattle.wd_resolve_operand.specs.Operands.{number, settled}
use Rattle.wd_resolve_scope.specs.declared.context.Place.TheVariants as place
use Rattle.wd_resolve_scope.specs.Grouped.{GroupedRule, grouped_of}
use Rattle.wd_resolve_scope.specs.Scopes.{ScopeRule, scope_of}
use Rattle.wd_resolve_call.specs.Windows.{sort_key}
use Rattle.wd_resolve_call.specs.References.{SelectReference, bound_expression_of, same_reference}
use Rattle.wd_resolve_scope.specs.Resolving.{plain, written_number}
use Rattle.wd_resolve_select.specs.declared.shown.Shown.{Shown as CodeShown}
use Rattle.wd_resolve_select.specs.declared.shown.KeyPlace.{KeyPlace as CodePlace}
use Rattle.wd_resolve_select.specs.declared.shown.KeyPlace.TheVariants as code
use Rattle.wd_resolve_select.specs.declared.shown.Sorted.{Sorted as CodeSorted}
use Rattle.wd_resolve_list.specs.Grouping.{below_of}
use Rattle.wd_resolve_list.specs.SelectLists.{Below, all_projected, are_wide, projected_shown}
use Rattle.wd_resolve_list.specs.Outputs.{BoundOutput, expressions_of, output_of}

-- what a select has before its ORDER BY: the columns of FROM, those of them that may appear, what is below its windows, whether it is
-- DISTINCT, and its outputs
pub record Shown : Type 0 where
  pub scope : ScopeRule
  pub groups : Option GroupedRule
  pub below : Below
  pub distinct : Bool
  pub outputs : List BoundOutput

abbrev pub shown_of : CodeShown → Shown
shown_of s = record { scope = scope_of s.scope.now; groups = option_map grouped_of s.groups; below = below_of s.below.now; distinct = s.distinct; outputs = map output_of s.outputs.now }

-- ---- sort keys

-- what a key sorts by: the output of that number, or an expression that is not an output
pub data KeyPlace : Type 0 where
  output : ℕ → KeyPlace
  hidden : BoundExpression SelectReference → KeyPlace

abbrev pub place_shown : CodePlace → KeyPlace
place_shown (code.Output number) = output number
place_shown (code.Hidden f) = hidden (bound_expression_of f)

-- an output shows an expression
abbrev pub shows : BoundExpression SelectReference → BoundOutput → Bool
shows f o = same_bound_expression same_reference f o.expression

-- the output of that number, or else the expression itself
abbrev pub output_or : BoundExpression SelectReference → Option ℕ → KeyPlace
output_or f None = hidden f
output_or f (Some number) = output number

-- the first output that shows the expression, or else the expression
abbrev pub sorted_place : BoundExpression SelectReference → List BoundOutput → KeyPlace
sorted_place f outputs = output_or f (position (shows f) outputs)

-- the expression of a key, over the columns that may appear
abbrev pub expression_place : Shown → Tree → Meant KeyPlace
expression_place s a = plain place.SortKey s.groups s.scope a >>= λ x. Ok (sorted_place (settled x) s.outputs)

abbrev pub is_named : List ℕ → BoundOutput → Bool
is_named name o = bytes_eq o.name name

-- all outputs of one name show one expression
abbrev pub are_one : List BoundOutput → Bool
are_one [] = true
are_one (o ∷ others) = list_all (shows o.expression) others

-- the first output of a name; all outputs of that name have to show its expression
abbrev pub first_named : List ℕ → List BoundOutput → Meant (Option ℕ)
first_named name outputs = if are_one (filter (is_named name) outputs) then Ok (position (is_named name) outputs) else Err Ambiguous

abbrev pub or_expression : Option ℕ → Meant KeyPlace → Meant KeyPlace
or_expression None other = other
or_expression (Some number) other = Ok (output number)

-- a bare name stands for the output of that name, or else for a column of FROM
abbrev pub named_place : Shown → Name → Tree → Meant KeyPlace
named_place s name a = first_named name.text s.outputs >>= λ number. or_expression number (expression_place s a)

-- an ordinal counts outputs from 1
abbrev pub ordinal : List BoundOutput → ℕ → Meant KeyPlace
ordinal outputs n = if nat_le 1 n && nat_le n (length outputs) then Ok (output (n - 1)) else Err WrongSortKey

-- a bare number is an ordinal, and no other bare literal may appear here (this project's choice)
abbrev pub literal_place : List BoundOutput → Literal → Meant KeyPlace
literal_place outputs (l.Number n) = number n >>= λ m. ordinal outputs m
literal_place outputs literal = Err WrongSortKey

-- a number with a sign is a literal too; any other place stays
abbrev pub unless_number : Option ℕ → KeyPlace → Meant KeyPlace
unless_number None p = Ok p
unless_number (Some n) p = Err WrongSortKey

abbrev pub signed_place : Option ℕ → Meant KeyPlace → Meant KeyPlace
signed_place number place = place >>= λ p. unless_number number p

-- A bare name stands for the output of that name, a bare number is an ordinal, and anything else is an expression over the columns of
-- FROM; brackets around a key don't count.
abbrev pub key_place : Shown → Tree → Meant KeyPlace
key_place s (tree.Bracket a) = key_place s a
key_place s (tree.Column name) = named_place s name (tree.Column name)
key_place s (tree.Constant x) = literal_place s.outputs x
key_place s (tree.Signed sign a) = signed_place (written_number a) (expression_place s (tree.Signed sign a))
key_place s a = expression_place s a

-- the sort keys over the outputs and the hidden columns after them, and the expressions of the hidden columns
pub record Sorted : Type 0 where
  pub items : List SortColumn
  pub hidden : List (BoundExpression SelectReference)

abbrev pub sorted_of : CodeSorted → Sorted
sorted_of s = record { items = s.items.items; hidden = map bound_expression_of s.hidden.items }

-- no sort keys yet
abbrev pub unsorted : Sorted
unsorted = record { items = []; hidden = [] }

-- a further key by the column of that number
abbrev pub with_item : ℕ → SortKey → Sorted → Sorted
with_item number key so_far = record { items = so_far.items ++ record { column = number; key = key } ∷ []; hidden = so_far.hidden }

-- a further key by a new hidden column, after the outputs and the hidden columns before it
abbrev pub with_column : Shown → BoundExpression SelectReference → SortKey → Sorted → Sorted
with_column s f key so_far = record {
  items = so_far.items ++ record { column = length s.outputs + length so_far.hidden; key = key } ∷ [];
  hidden = so_far.hidden ++ f ∷ [];
}

-- sort keys for which no node is too wide
abbrev pub narrow_keys : Shown → Sorted → Meant Sorted
narrow_keys s sorted = if are_wide s.below (expressions_of s.outputs) sorted.hidden then Err TooMany else Ok sorted

-- a further key by an output, or by a new hidden column; with DISTINCT each key is an output
abbrev pub with_key : Shown → KeyPlace → SortKey → Sorted → Meant Sorted
with_key s (output number) key so_far = Ok (with_item number key so_far)
with_key s (hidden f) key so_far = if s.distinct then Err ForeignSortKey else narrow_keys s (with_column s f key so_far)

-- a further key
abbrev pub key_sorted : Shown → Tree → SortKey → Sorted → Meant Sorted
key_sorted s a key so_far = key_place s a >>= λ place. with_key s place key so_far

abbrev pub keys_sorted : Shown → Keys → Sorted → Meant Sorted
keys_sorted s no_keys so_far = Ok so_far
keys_sorted s (more_keys a direction nulls keys) so_far = key_sorted s a (sort_key direction nulls) so_far >>= λ next. keys_sorted s keys next

-- no node is too wide for the outputs and the sort keys so far
abbrev pub IsNarrow : Shown → Sorted → Type 0
IsNarrow s so_far = are_wide s.below (expressions_of s.outputs) so_far.hidden ≡ false

-- the projected inputs are those of the outputs and the sort keys so far
abbrev pub IsCounted : Shown → CodeSorted → Type 0
IsCounted s so_far = projected_shown so_far.projected ≡ all_projected s.below (expressions_of s.outputs) (sorted_of so_far).hidden

-- ---- limits of rows

-- how many rows are left out, how many are then returned at most, and whether with ties
pub record RowLimit : Type 0 where
  pub offset : ℕ
  pub count : Option ℕ
  pub ties : Bool

-- an omitted number is 1
abbrev pub fetched : Option ℕ → ℕ
fetched None = 1
fetched (Some n) = n

-- WITH TIES needs ORDER BY
abbrev pub tied : Bool → Bool → ℕ → Meant (Option ℕ × Bool)
tied sorted with_ties n = if with_ties && not sorted then Err TiesWithoutOrder else Ok (Some n, with_ties)

-- the count, and whether with ties
abbrev pub count_meant : Bool → Option Count → Meant (Option ℕ × Bool)
count_meant sorted None = Ok (None, false)
count_meant sorted (Some (written.Limit n)) = number n >>= λ m. Ok (Some m, false)
count_meant sorted (Some (written.Fetch word n row with_ties)) = number (fetched n) >>= λ m. tied sorted with_ties m

abbrev pub offset_meant : Option Offset → Meant ℕ
offset_meant None = Ok 0
offset_meant (Some o) = number o.number

-- the limits, from left to right
abbrev pub row_limit_meant : Bool → Option Limits → Meant (Option RowLimit)
row_limit_meant sorted None = Ok None
row_limit_meant sorted (Some (OffsetFirst o c)) = do
  offset ← number o.number
  x ← count_meant sorted c
  Ok (Some (record { offset = offset; count = x.0; ties = x.1 }))
row_limit_meant sorted (Some (CountFirst c o)) = do
  x ← count_meant sorted (Some c)
  offset ← offset_meant o
  Ok (Some (record { offset = offset; count = x.0; ties = x.1 }))
