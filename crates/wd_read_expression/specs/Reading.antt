-- How the tokens of an expression or a window are read, from left to right.
use Rattle.std.specs.Prelude.{ℕ, zero, suc, ◌==◌, if◌then◌else◌, List, [], ◌∷◌, length, Bool, true, false, Option, Some, None, Result, Ok, Err}
use Rattle.wd_lex.specs.declared.token.Terminal.{Terminal}
use Rattle.wd_lex.specs.declared.token.Terminal.TheVariants as m
use Rattle.wd_lex.specs.declared.token.TokenKind.TheVariants as t
use Rattle.wd_read_cursor.specs.declared.words.KeyWord.TheVariants as k
use Rattle.wd_read_cursor.specs.declared.name.Name.{Name}
use Rattle.wd_syntax.specs.declared.frame.Frame.{Frame}
use Rattle.wd_syntax.specs.declared.frame.FrameMode.{FrameMode}
use Rattle.wd_syntax.specs.declared.frame.FrameMode.TheVariants.{Rows, Range, Groups}
use Rattle.wd_syntax.specs.declared.frame.Bound.{Bound}
use Rattle.wd_syntax.specs.declared.frame.Bound.TheVariants.{UnboundedPreceding, Preceding, CurrentRow, Following, UnboundedFollowing}
use Rattle.wd_syntax.specs.declared.frame.Extent.{Extent}
use Rattle.wd_syntax.specs.declared.frame.Extent.TheVariants.{Start, Between}
use Rattle.wd_syntax.specs.declared.frame.Exclusion.{Exclusion}
use Rattle.wd_syntax.specs.declared.frame.Exclusion.TheVariants as x
use Rattle.wd_syntax.specs.declared.expression.Operator.{Operator}
use Rattle.wd_syntax.specs.declared.expression.Operator.TheVariants as o
use Rattle.wd_syntax.specs.declared.expression.Sign.{Sign}
use Rattle.wd_syntax.specs.declared.expression.Sign.TheVariants as s
use Rattle.wd_syntax.specs.declared.expression.Literal.TheVariants as l
use Rattle.wd_syntax.specs.declared.expression.SortDirection.{SortDirection}
use Rattle.wd_syntax.specs.declared.expression.SortDirection.TheVariants.{Ascending, Descending}
use Rattle.wd_syntax.specs.declared.expression.NullsPlace.{NullsPlace}
use Rattle.wd_syntax.specs.declared.expression.NullsPlace.TheVariants as p
use Rattle.wd_read_cursor.specs.Tokens.{Kinds}
use Rattle.wd_syntax.specs.declared.expression.Height.TheVariants as height
use Rattle.wd_syntax.specs.Tokens.{operator_height, rank, whole_height}
use Rattle.wd_read_cursor.specs.Cursor.{Fault, Unexpected, Limit, ◌>>=◌, Reads, Parser, choose, eat, expect, eat_word, expect_word, with_rest, eat_name, name_at, number_at, list_at}
use Rattle.wd_syntax.specs.Tree.{Tree, Constant, Column, Qualified, CallAll, Call, Case, Bracket, Signed, Binary, IsNull, Negated, Otherwise, no_else, or_else, OverTree, no_over, over_name, over_window, WindowTree, window, Key, trees_of, arms_of, keys_of}

-- an operator of that height
abbrev pub operator_of : Terminal → Option Operator
operator_of m.Or = Some o.Or
operator_of m.And = Some o.And
operator_of m.Equals = Some o.Equal
operator_of m.NotEquals = Some o.NotEqual
operator_of m.Less = Some o.Less
operator_of m.LessOrEqual = Some o.LessOrEqual
operator_of m.Greater = Some o.Greater
operator_of m.GreaterOrEqual = Some o.GreaterOrEqual
operator_of m.Plus = Some o.Add
operator_of m.Minus = Some o.Subtract
operator_of m.Star = Some o.Multiply
operator_of m.Slash = Some o.Divide
operator_of m.Percent = Some o.Remainder
operator_of _ = None

abbrev pub operator_if : ℕ → Kinds → Option Operator → Option (Operator × Kinds)
operator_if h ts None = None
operator_if h ts (Some o) = if operator_height o == h then Some (o, ts) else None

unfoldable pub operator_at : ℕ → Kinds → Option (Operator × Kinds)
operator_at h [] = None
operator_at h (t.Terminal x ∷ ts) = operator_if h ts (operator_of x)
operator_at h (_ ∷ ts) = None

abbrev pub sign_of : Terminal → Option Sign
sign_of m.Plus = Some s.Plus
sign_of m.Minus = Some s.Minus
sign_of _ = None

unfoldable pub sign_at : Kinds → Option (Sign × Kinds)
sign_at [] = None
sign_at (t.Terminal x ∷ ts) = with_rest ts (sign_of x)
sign_at (_ ∷ ts) = None

-- ---- frames

abbrev pub mode_if : Terminal → Option FrameMode
mode_if m.Rows = Some Rows
mode_if m.Range = Some Range
mode_if m.Groups = Some Groups
mode_if _ = None

unfoldable pub mode_at : Kinds → Option (FrameMode × Kinds)
mode_at [] = None
mode_at (t.Terminal x ∷ ts) = with_rest ts (mode_if x)
mode_at (_ ∷ ts) = None

-- PRECEDING or FOLLOWING; the result is whether it is PRECEDING
unfoldable pub side_at : Parser Bool
side_at ts = choose (eat_word k.Preceding ts) (λ r. Ok (true, r)) (expect_word k.Following ts >>= λ r. Ok (false, r))

abbrev pub unbounded : Bool → Bound
unbounded true = UnboundedPreceding
unbounded false = UnboundedFollowing

abbrev pub away : ℕ → Bool → Bound
away n true = Preceding n
away n false = Following n

unfoldable pub bound_at : Parser Bound
bound_at ts =
    choose (eat_word k.Unbounded ts) (λ r. side_at r >>= λ side. Ok (unbounded side.0, side.1))
    (choose (eat_word k.Current ts) (λ r. expect_word k.Row r >>= λ r. Ok (CurrentRow, r))
    (number_at ts >>= λ n. side_at n.1 >>= λ side. Ok (away n.0 side.0, side.1)))

unfoldable pub extent_at : Parser Extent
extent_at ts =
    choose (eat_word k.Between ts) (λ r. bound_at r >>= λ a. expect m.And a.1 >>= λ r. bound_at r >>= λ b. Ok (Between a.0 b.0, b.1))
    (bound_at ts >>= λ a. Ok (Start a.0, a.1))

unfoldable pub exclusion_words_at : Parser Exclusion
exclusion_words_at ts =
    choose (eat_word k.Current ts) (λ r. expect_word k.Row r >>= λ r. Ok (x.CurrentRow, r))
    (choose (eat m.Group ts) (λ r. Ok (x.Group, r))
    (choose (eat_word k.Ties ts) (λ r. Ok (x.Ties, r))
    (expect_word k.No ts >>= λ r. expect_word k.Others r >>= λ r. Ok (x.NoOthers, r))))

unfoldable pub exclusion_at : Parser (Option Exclusion)
exclusion_at ts = choose (eat_word k.Exclude ts) (λ r. exclusion_words_at r >>= λ e. Ok (Some e.0, e.1)) (Ok (None, ts))

abbrev pub frame_if : Option (FrameMode × Kinds) → Kinds → Reads (Option Frame)
frame_if None ts = Ok (None, ts)
frame_if (Some x) ts = extent_at x.1 >>= λ a. exclusion_at a.1 >>= λ e. Ok (Some (record { mode = x.0; extent = a.0; exclusion = e.0 }), e.1)

unfoldable pub frame_at : Parser (Option Frame)
frame_at ts = frame_if (mode_at ts) ts

-- ---- sort keys, windows

unfoldable pub direction_at : Kinds → Option SortDirection × Kinds
direction_at ts = choose (eat m.Asc ts) (λ r. (Some Ascending, r)) (choose (eat m.Desc ts) (λ r. (Some Descending, r)) (None, ts))

unfoldable pub nulls_at : Parser (Option NullsPlace)
nulls_at ts = choose (eat_word k.Nulls ts) (λ r. choose (eat_word k.First r) (λ r. Ok (Some p.First, r)) (expect_word k.Last r >>= λ r. Ok (Some p.Last, r))) (Ok (None, ts))

unfoldable pub key_at : Parser Tree → Parser Key
key_at item ts = item ts >>= λ a. nulls_at (direction_at a.1).1 >>= λ n. Ok ((a.0, (direction_at a.1).0, n.0), n.1)

unfoldable pub partition_at : Parser Tree → Parser (List Tree)
partition_at item ts = choose (eat m.Partition ts) (λ r. expect m.By r >>= λ r. list_at m.Comma item r) (Ok ([], ts))

unfoldable pub order_at : Parser Tree → Parser (List Key)
order_at item ts = choose (eat m.Order ts) (λ r. expect m.By r >>= λ r. list_at m.Comma (key_at item) r) (Ok ([], ts))

abbrev pub base_if : Option (Name × Kinds) → Kinds → Option Name × Kinds
base_if None ts = (None, ts)
base_if (Some x) ts = (Some x.0, x.1)

unfoldable pub base_at : Kinds → Option Name × Kinds
base_at ts = base_if (eat_name ts) ts

-- after the opening bracket
unfoldable pub window_at : Parser Tree → Parser WindowTree
window_at item ts = partition_at item (base_at ts).1 >>= λ ps. order_at item ps.1 >>= λ ks. frame_at ks.1 >>= λ f. expect m.RightBracket f.1 >>= λ r. Ok (window (base_at ts).0 (trees_of ps.0) (keys_of ks.0) f.0, r)

-- ---- expressions

abbrev pub link : Option (Operator × Kinds) → Parser Tree → Tree → Kinds → (Tree → Parser Tree) → Reads Tree
link None operand a ts next = Ok (a, ts)
link (Some x) operand a ts next = operand x.1 >>= λ b. next (Binary x.0 a b.0) b.1

abbrev pub ended : Option (Operator × Kinds) → Tree → Parser Tree
ended None a ts = Ok (a, ts)
ended (Some x) a ts = Err (Limit (length ts))

-- A chain continues after its left side, with at most the given number of operators.
unfoldable pub links : Parser Tree → ℕ → ℕ → Tree → Parser Tree
links operand h zero a ts = ended (operator_at h ts) a ts
links operand h (suc n) a ts = link (operator_at h ts) operand a ts (λ b. links operand h n b)

-- one comparison at most
unfoldable pub compared : Parser Tree → Tree → Parser Tree
compared operand a ts = link (operator_at (rank height.Comparison) ts) operand a ts (λ b r. Ok (b, r))

-- [NOT] NULL
unfoldable pub null_at : Parser Bool
null_at ts = choose (eat m.Not ts) (λ r. expect m.Null r >>= λ r. Ok (true, r)) (expect m.Null ts >>= λ r. Ok (false, r))

-- tests for NULL, at most the given number of them
unfoldable pub tests : ℕ → Tree → Parser Tree
tests zero a ts = choose (eat m.Is ts) (λ r. Err (Limit (length ts))) (Ok (a, ts))
tests (suc n) a ts = choose (eat m.Is ts) (λ r. null_at r >>= λ x. tests n (IsNull a x.0) x.1) (Ok (a, ts))

-- the arguments after the opening bracket, or `*`
unfoldable pub arguments_at : Parser Tree → Parser (Option (List Tree))
arguments_at item ts =
    choose (eat m.Star ts) (λ r. expect m.RightBracket r >>= λ r. Ok (None, r))
    (choose (eat m.RightBracket ts) (λ r. Ok (Some [], r))
    (list_at m.Comma item ts >>= λ bs. expect m.RightBracket bs.1 >>= λ r. Ok (Some bs.0, r)))

abbrev pub call_of : Name → Option (List Tree) → OverTree → Tree
call_of f None over = CallAll f over
call_of f (Some bs) over = Call f (trees_of bs) over

-- How an operand is read one level deeper, if a level is left.
abbrev pub enter : {A B : Type 0} → ℕ → Option A → (A → Result B Fault) → Result B Fault
enter left None f = Err (Limit left)
enter left (Some p) f = f p

-- how an expression of each height is read one level deeper
abbrev pub Deeper : Type 0
Deeper = Option (ℕ → Parser Tree)

unfoldable pub over_at : Deeper → Parser OverTree
over_at deeper ts =
    choose (eat m.Over ts)
    (λ r. choose (eat m.LeftBracket r) (λ q. enter (length r) deeper (λ p. window_at (p whole_height) q >>= λ w. Ok (over_window w.0, w.1))) (name_at r >>= λ n. Ok (over_name n.0, n.1)))
    (Ok (no_over, ts))

-- a call, after its opening bracket
unfoldable pub call_at : Deeper → Name → Parser Tree
call_at deeper f ts = enter (suc (length ts)) deeper (λ p. arguments_at (p whole_height) ts) >>= λ bs. over_at deeper bs.1 >>= λ over. Ok (call_of f bs.0 over.0, over.1)

unfoldable pub named_at : Deeper → Name → Parser Tree
named_at deeper a ts =
    choose (eat m.Dot ts) (λ r. name_at r >>= λ b. Ok (Qualified a b.0, b.1))
    (choose (eat m.LeftBracket ts) (λ r. call_at deeper a r) (Ok (Column a, ts)))

-- a branch of a CASE, after WHEN
unfoldable pub arm_at : Parser Tree → Parser (Tree × Tree)
arm_at item ts = item ts >>= λ a. expect m.Then a.1 >>= λ r. item r >>= λ b. Ok ((a.0, b.0), b.1)

unfoldable pub else_at : Parser Tree → Parser Otherwise
else_at item ts = choose (eat m.Else ts) (λ r. item r >>= λ a. Ok (or_else a.0, a.1)) (Ok (no_else, ts))

-- the rest of a CASE, after CASE
unfoldable pub case_at : Parser Tree → Parser Tree
case_at item ts = expect m.When ts >>= λ r. list_at m.When (arm_at item) r >>= λ arms. else_at item arms.1 >>= λ other. expect m.End other.1 >>= λ r. Ok (Case (arms_of arms.0) other.0, r)

-- an expression in brackets, after the opening bracket
unfoldable pub bracket_at : Parser Tree → Parser Tree
bracket_at item ts = item ts >>= λ a. expect m.RightBracket a.1 >>= λ r. Ok (Bracket a.0, r)

abbrev pub primary_by_terminal : Deeper → Terminal → Parser Tree
primary_by_terminal deeper m.True ts = Ok (Constant (l.Truth true), ts)
primary_by_terminal deeper m.False ts = Ok (Constant (l.Truth false), ts)
primary_by_terminal deeper m.Null ts = Ok (Constant l.Null, ts)
primary_by_terminal deeper m.LeftBracket ts = enter (suc (length ts)) deeper (λ p. bracket_at (p whole_height) ts)
primary_by_terminal deeper m.Case ts = enter (suc (length ts)) deeper (λ p. case_at (p whole_height) ts)
primary_by_terminal deeper _ ts = Err (Unexpected (suc (length ts)))

unfoldable pub primary : Deeper → Parser Tree
primary deeper [] = Err (Unexpected 0)
primary deeper (t.Number n ∷ ts) = Ok (Constant (l.Number n), ts)
primary deeper (t.Literal text ∷ ts) = Ok (Constant (l.Text text), ts)
primary deeper (t.Word text ∷ ts) = named_at deeper (record { text = text; quoted = false }) ts
primary deeper (t.Quoted text ∷ ts) = named_at deeper (record { text = text; quoted = true }) ts
primary deeper (t.Terminal x ∷ ts) = primary_by_terminal deeper x ts

abbrev pub signed_by : Option (Sign × Kinds) → Deeper → Parser Tree → Parser Tree
signed_by None deeper tighter ts = tighter ts
signed_by (Some x) deeper tighter ts = enter (length ts) deeper (λ p. p (rank height.Sign) x.1 >>= λ a. Ok (Signed x.0 a.0, a.1))

-- how an expression of a height continues after its first operand
abbrev pub goes_on : ℕ → Parser Tree → ℕ → Tree → Parser Tree
goes_on (suc (suc (suc zero))) operand n = compared operand
goes_on (suc (suc (suc (suc zero)))) operand n = tests n
goes_on h operand n = links operand (suc h) n

-- one height above an expression that binds tighter
abbrev pub step : ℕ → Deeper → ℕ → Parser Tree → Parser Tree
step limit deeper zero tighter ts = signed_by (sign_at ts) deeper tighter ts
step limit deeper (suc (suc (suc (suc (suc zero))))) tighter ts = choose (eat m.Not ts) (λ r. enter (length ts) deeper (λ p. p (rank height.Negation) r >>= λ a. Ok (Negated a.0, a.1))) (tighter ts)
step limit deeper h tighter ts = tighter ts >>= λ a. goes_on h tighter limit a.0 a.1

-- an expression that binds at least as tightly as the height
unfoldable pub levels : ℕ → Deeper → ℕ → Parser Tree
levels limit deeper zero = primary deeper
levels limit deeper (suc h) = step limit deeper h (levels limit deeper h)

unfoldable pub deeper_of : ℕ → ℕ → Deeper
deeper_of limit zero = None
deeper_of limit (suc depth) = Some (levels limit (deeper_of limit depth))

-- an expression of a height, with the given number of levels left
abbrev pub read : ℕ → ℕ → ℕ → Parser Tree
read limit depth = levels limit (deeper_of limit depth)
