-- Functions by their names, over their arguments (SQL, window function; PG, Window Functions).
use Rattle.std.specs.Prelude.{ℕ, ℤ, pos, negsuc, codes, ◌&&◌, List, [], ◌∷◌, length, nat_le, Option, Some, None, Ok, Err, if◌then◌else◌}
use Rattle.std.specs.Str.{bytes_eq}
use Rattle.wd_value.specs.declared.value.Value.{Value}
use Rattle.wd_value.specs.declared.value.Value.TheVariants.{Null, Int}
use Rattle.wd_plan.specs.declared.expression.ValueKind.{ValueKind}
use Rattle.wd_plan.specs.declared.expression.ValueKind.TheVariants.{Number}
use Rattle.wd_plan.specs.Fits.{has_extremes, same_kind}
use Rattle.wd_plan.specs.Functions.{word}
use Rattle.wd_plan.specs.declared.function.Direction.{Direction}
use Rattle.wd_plan.specs.declared.function.Direction.TheVariants as way
use Rattle.wd_plan.specs.declared.function.FrameRow.TheVariants.{First, Last, Nth}
use Rattle.wd_plan.specs.declared.function.Ranking.TheVariants as rank
use Rattle.wd_plan.specs.declared.function.FunctionName.{FunctionName}
use Rattle.wd_plan.specs.declared.function.FunctionName.TheVariants.{RowNumber, Rank, DenseRank, Ntile, Lag, Lead, FirstValue, LastValue, NthValue, Count, Sum, Min, Max}
use Rattle.wd_resolve_operand.specs.declared.cause.Cause.TheVariants.{WrongCall}
use Rattle.wd_resolve_operand.specs.Causes.{Meant, ◌>>=◌}
use Rattle.wd_resolve_operand.specs.BoundExpressions.{BoundExpression, Reference, Literal}
use Rattle.wd_resolve_operand.specs.Operands.{Operand, bare_null, typed, settled, kind_of}
use Rattle.wd_resolve_call.specs.Rows.{BoundArgument, BoundAggregate, count_rows, count_of, sum_of, least_of, greatest_of, GroupCall, of_rows, grouping, RowExpression, column}
use Rattle.wd_resolve_call.specs.Calls.{BoundFunction, ranking, away, value_at, aggregate}
use Rattle.wd_resolve_call.specs.References.{SelectReference, of_row, over_columns, over_rows}

-- all functions
abbrev pub function_names : List FunctionName
function_names = RowNumber ∷ Rank ∷ DenseRank ∷ Ntile ∷ Lag ∷ Lead ∷ FirstValue ∷ LastValue ∷ NthValue ∷ Count ∷ Sum ∷ Min ∷ Max ∷ []

-- the function among these that has the name
abbrev pub function_in : List FunctionName → List ℕ → Option FunctionName
function_in [] name = None
function_in (function ∷ functions) name = if bytes_eq (word function) name then Some function else function_in functions name

abbrev pub function_named : List ℕ → Option FunctionName
function_named = function_in function_names

-- ---- arguments

-- a whole number that is not below a bound
abbrev pub at_least : ℕ → ℤ → Meant ℕ
at_least least (pos n) = if nat_le least n then Ok n else Err WrongCall
at_least least (negsuc n) = Err WrongCall

-- a literal whole number that is not below a bound
abbrev pub whole : ℕ → Operand SelectReference → Meant ℕ
whole least (typed (Literal (Int n) kind) other) = at_least least n
whole least a = Err WrongCall

-- a literal of a kind; a bare NULL takes the kind
abbrev pub default_of : ValueKind → Operand SelectReference → Meant Value
default_of kind bare_null = Ok Null
default_of kind (typed (Literal v other) k) = if same_kind kind other then Ok v else Err WrongCall
default_of kind (typed a other) = Err WrongCall

-- ---- functions over their arguments

-- an operand as a value argument, over the references that are allowed in one
abbrev pub argument : {E : Type 0} → (BoundExpression SelectReference → Meant E) → Operand SelectReference → Meant (BoundArgument E)
argument over x = over (settled x) >>= λ e. Ok (record { expression = e; kind = kind_of x })

-- a function over a value argument without window calls
abbrev pub over_argument : (BoundArgument RowExpression → BoundFunction) → Operand SelectReference → Meant BoundFunction
over_argument function x = argument over_rows x >>= λ a. Ok (function a)

-- a value argument of whole numbers; a bare NULL counts as one
abbrev pub numbers : {E : Type 0} → (BoundExpression SelectReference → Meant E) → Operand SelectReference → Meant (BoundArgument E)
numbers over bare_null = over (Literal Null Number) >>= λ e. Ok (record { expression = e; kind = Number })
numbers over (typed a Number) = argument over (typed a Number)
numbers over (typed a kind) = Err WrongCall

-- a value argument that MIN and MAX accept
abbrev pub ordered : {E : Type 0} → (BoundExpression SelectReference → Meant E) → Operand SelectReference → Meant (BoundArgument E)
ordered over x = if has_extremes (Some (kind_of x)) then argument over x else Err WrongCall

-- NTH_VALUE, with the number of the row, from 1
abbrev pub nth : Operand SelectReference → Operand SelectReference → Meant BoundFunction
nth x n = whole 1 n >>= λ m. over_argument (value_at (Nth m)) x

-- LAG and LEAD, with the distance and the default
abbrev pub shifted : Direction → Operand SelectReference → Operand SelectReference → Operand SelectReference → Meant BoundFunction
shifted direction x k d = whole 0 k >>= λ n. default_of (kind_of x) d >>= λ default. over_argument (λ a. away direction a n default) x

abbrev pub over_none : FunctionName → Meant BoundFunction
over_none RowNumber = Ok (ranking rank.RowNumber)
over_none Rank = Ok (ranking rank.Rank)
over_none DenseRank = Ok (ranking rank.DenseRank)
over_none name = Err WrongCall

-- an aggregate over its argument
abbrev pub aggregate_over : {E : Type 0} → (BoundExpression SelectReference → Meant E) → FunctionName → Operand SelectReference → Meant (BoundAggregate E)
aggregate_over over Count x = argument over x >>= λ a. Ok (count_of a)
aggregate_over over Sum x = numbers over x >>= λ a. Ok (sum_of a)
aggregate_over over Min x = ordered over x >>= λ a. Ok (least_of a)
aggregate_over over Max x = ordered over x >>= λ a. Ok (greatest_of a)
aggregate_over over name x = Err WrongCall

abbrev pub over_one : FunctionName → Operand SelectReference → Meant BoundFunction
over_one Ntile n = whole 1 n >>= λ buckets. Ok (ranking (rank.Ntile buckets))
over_one Lag x = over_argument (λ a. away way.Lag a 1 Null) x
over_one Lead x = over_argument (λ a. away way.Lead a 1 Null) x
over_one FirstValue x = over_argument (value_at First) x
over_one LastValue x = over_argument (value_at Last) x
over_one RowNumber x = Err WrongCall
over_one Rank x = Err WrongCall
over_one DenseRank x = Err WrongCall
over_one NthValue x = Err WrongCall
over_one name x = aggregate_over over_rows name x >>= λ a. Ok (aggregate a)

abbrev pub over_two : FunctionName → Operand SelectReference → Operand SelectReference → Meant BoundFunction
over_two Lag x k = shifted way.Lag x k bare_null
over_two Lead x k = shifted way.Lead x k bare_null
over_two NthValue x n = nth x n
over_two name x y = Err WrongCall

abbrev pub over_three : FunctionName → Operand SelectReference → Operand SelectReference → Operand SelectReference → Meant BoundFunction
over_three Lag x k d = shifted way.Lag x k d
over_three Lead x k d = shifted way.Lead x k d
over_three name x y z = Err WrongCall

abbrev pub over_arguments : FunctionName → List (Operand SelectReference) → Meant BoundFunction
over_arguments name [] = over_none name
over_arguments name (x ∷ []) = over_one name x
over_arguments name (x ∷ y ∷ []) = over_two name x y
over_arguments name (x ∷ y ∷ z ∷ []) = over_three name x y z
over_arguments name (x ∷ y ∷ z ∷ u ∷ others) = Err WrongCall

-- a star instead of arguments, which only COUNT takes
abbrev pub over_star : FunctionName → Meant BoundFunction
over_star Count = Ok (aggregate count_rows)
over_star name = Err WrongCall

-- a function by its name, over its arguments or a star
abbrev pub applied : Option FunctionName → Option (List (Operand SelectReference)) → Meant BoundFunction
applied None arguments = Err WrongCall
applied (Some name) None = over_star name
applied (Some name) (Some arguments) = over_arguments name arguments

-- ---- functions without OVER

-- the functions that are called without OVER: an aggregate, or GROUPING
pub data GroupFunction : Type 0 where
  aggregates : FunctionName → GroupFunction
  grouped : GroupFunction

abbrev pub if_aggregate : Option FunctionName → Option GroupFunction
if_aggregate (Some Count) = Some (aggregates Count)
if_aggregate (Some Sum) = Some (aggregates Sum)
if_aggregate (Some Min) = Some (aggregates Min)
if_aggregate (Some Max) = Some (aggregates Max)
if_aggregate name = None

abbrev pub group_function_named : List ℕ → Option GroupFunction
group_function_named name = if bytes_eq (codes "grouping") name then Some grouped else if_aggregate (function_named name)

-- the column of FROM that an operand is
abbrev pub column_only : Operand SelectReference → Meant ℕ
column_only (typed (Reference (of_row (column n))) kind) = Ok n
column_only x = Err WrongCall

abbrev pub columns_only : List (Operand SelectReference) → Meant (List ℕ)
columns_only [] = Ok []
columns_only (x ∷ xs) = column_only x >>= λ n. columns_only xs >>= λ ns. Ok (n ∷ ns)

-- GROUPING takes 1 to 31 columns (this project's choice)
abbrev pub grouping_over : List ℕ → Meant GroupCall
grouping_over columns = if nat_le 1 (length columns) && nat_le (length columns) 31 then Ok (grouping columns) else Err WrongCall

-- an aggregate over one argument, which reads only columns of FROM
abbrev pub aggregate_of_one : FunctionName → List (Operand SelectReference) → Meant GroupCall
aggregate_of_one name (x ∷ []) = aggregate_over over_columns name x >>= λ a. Ok (of_rows a)
aggregate_of_one name xs = Err WrongCall

-- a function without OVER over its arguments or a star
abbrev pub make_group_call : GroupFunction → Option (List (Operand SelectReference)) → Meant GroupCall
make_group_call (aggregates Count) None = Ok (of_rows count_rows)
make_group_call (aggregates name) None = Err WrongCall
make_group_call (aggregates name) (Some xs) = aggregate_of_one name xs
make_group_call grouped None = Err WrongCall
make_group_call grouped (Some xs) = columns_only xs >>= λ columns. grouping_over columns
