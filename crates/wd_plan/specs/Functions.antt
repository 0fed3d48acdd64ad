-- The window functions: the name of each, what it takes and what it returns (SQL, window function; PG, Window Functions).
use Rattle.std.specs.Prelude.{ℕ, Bool, true, false, codes, List, Option, Some, None}
use Rattle.wd_plan.specs.declared.function.Aggregate.{Aggregate}
use Rattle.wd_plan.specs.declared.function.Aggregate.TheVariants as of_rows
use Rattle.wd_plan.specs.declared.function.Argument.{Argument}
use Rattle.wd_plan.specs.declared.function.Argument.TheVariants.{Nothing, Any, Number, Ordered}
use Rattle.wd_plan.specs.declared.function.ByPeers.{ByPeers}
use Rattle.wd_plan.specs.declared.function.ByPeers.TheVariants.{Never, Always, OverStableFrames}
use Rattle.wd_plan.specs.declared.function.Direction.{Direction}
use Rattle.wd_plan.specs.declared.function.Direction.TheVariants as way
use Rattle.wd_plan.specs.declared.function.FrameFunction.{FrameFunction}
use Rattle.wd_plan.specs.declared.function.FrameFunction.TheVariants as of_frame
use Rattle.wd_plan.specs.declared.function.FrameRow.TheVariants.{First, Last, Nth}
use Rattle.wd_plan.specs.declared.function.Function.{Function}
use Rattle.wd_plan.specs.declared.function.Function.TheVariants.{Ranking as Ranked, Shift as Shifted, OfFrame}
use Rattle.wd_plan.specs.declared.function.FunctionName.{FunctionName}
use Rattle.wd_plan.specs.declared.function.FunctionName.TheVariants.{RowNumber, Rank, DenseRank, Ntile, Lag, Lead, FirstValue, LastValue, NthValue, Count, Sum, Min, Max}
use Rattle.wd_plan.specs.declared.function.Ranking.{Ranking}
use Rattle.wd_plan.specs.declared.function.Ranking.TheVariants as rank
use Rattle.wd_plan.specs.declared.function.ResultKind.{ResultKind}
use Rattle.wd_plan.specs.declared.function.ResultKind.TheVariants.{Number as Numbers, OfArgument}
use Rattle.wd_plan.specs.declared.function.Signature.{Signature}

-- ---- the table of functions

-- a function of the row's place: its arguments are literals
abbrev pub place_signature : ℕ → ByPeers → Signature
place_signature arguments by_peers = record { fewest = arguments; most = arguments; star = false; argument = Nothing; result = Numbers; by_peers = by_peers; nullable = false }

-- a function that shows the value of its argument at one row
abbrev pub value_signature : ℕ → ℕ → Signature
value_signature fewest most = record { fewest = fewest; most = most; star = false; argument = Any; result = OfArgument; by_peers = Never; nullable = true }

-- a function of all rows of a frame
abbrev pub rows_signature : Bool → Argument → ResultKind → Bool → Signature
rows_signature star argument result nullable = record { fewest = 1; most = 1; star = star; argument = argument; result = result; by_peers = OverStableFrames; nullable = nullable }

-- how many arguments a function takes, and whether a star; what its value argument has to be; the kind of its values; whether peers share
-- one value; whether its values can be NULL
abbrev pub signature : FunctionName → Signature
signature RowNumber = place_signature 0 Never
signature Rank = place_signature 0 Always
signature DenseRank = place_signature 0 Always
signature Ntile = place_signature 1 Never
signature Lag = value_signature 1 3
signature Lead = value_signature 1 3
signature FirstValue = value_signature 1 1
signature LastValue = value_signature 1 1
signature NthValue = value_signature 2 2
signature Count = rows_signature true Any Numbers false
signature Sum = rows_signature false Number Numbers true
signature Min = rows_signature false Ordered OfArgument true
signature Max = rows_signature false Ordered OfArgument true

-- a function's name as unquoted names are folded
abbrev pub word : FunctionName → List ℕ
word RowNumber = codes "row_number"
word Rank = codes "rank"
word DenseRank = codes "dense_rank"
word Ntile = codes "ntile"
word Lag = codes "lag"
word Lead = codes "lead"
word FirstValue = codes "first_value"
word LastValue = codes "last_value"
word NthValue = codes "nth_value"
word Count = codes "count"
word Sum = codes "sum"
word Min = codes "min"
word Max = codes "max"

-- ---- a function with its arguments

abbrev pub name_of_ranking : Ranking → FunctionName
name_of_ranking rank.RowNumber = RowNumber
name_of_ranking rank.Rank = Rank
name_of_ranking rank.DenseRank = DenseRank
name_of_ranking (rank.Ntile n) = Ntile

abbrev pub name_of_direction : Direction → FunctionName
name_of_direction way.Lag = Lag
name_of_direction way.Lead = Lead

abbrev pub name_of_aggregate : Aggregate → FunctionName
name_of_aggregate of_rows.CountRows = Count
name_of_aggregate (of_rows.Count c) = Count
name_of_aggregate (of_rows.Sum c) = Sum
name_of_aggregate (of_rows.Min c) = Min
name_of_aggregate (of_rows.Max c) = Max

abbrev pub name_of_frame_function : FrameFunction → FunctionName
name_of_frame_function (of_frame.ValueAt First c) = FirstValue
name_of_frame_function (of_frame.ValueAt Last c) = LastValue
name_of_frame_function (of_frame.ValueAt (Nth n) c) = NthValue
name_of_frame_function (of_frame.Aggregate a) = name_of_aggregate a

abbrev pub name_of : Function → FunctionName
name_of (Ranked r) = name_of_ranking r
name_of (Shifted s) = name_of_direction s.direction
name_of (OfFrame f) = name_of_frame_function f

abbrev pub argument_of_aggregate : Aggregate → Option ℕ
argument_of_aggregate of_rows.CountRows = None
argument_of_aggregate (of_rows.Count c) = Some c
argument_of_aggregate (of_rows.Sum c) = Some c
argument_of_aggregate (of_rows.Min c) = Some c
argument_of_aggregate (of_rows.Max c) = Some c

abbrev pub argument_of_frame_function : FrameFunction → Option ℕ
argument_of_frame_function (of_frame.ValueAt row c) = Some c
argument_of_frame_function (of_frame.Aggregate a) = argument_of_aggregate a

-- the column of the value argument; COUNT(*) and the functions of a row's place have none
abbrev pub argument_of : Function → Option ℕ
argument_of (Ranked r) = None
argument_of (Shifted s) = Some s.argument
argument_of (OfFrame f) = argument_of_frame_function f
