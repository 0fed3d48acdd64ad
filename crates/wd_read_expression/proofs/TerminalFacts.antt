-- Operators and signs that are read, and tokens that end what is read.
use Rattle.std.proofs.Common.{◌≡◌, ℕ, ◌<◌, ◌≤◌, Bool, true, false, eqb, List, [], ◌∷◌, Option, Some, None, refl, ap, arith, rules}
use Rattle.wd_lex.specs.declared.token.Terminal.{Terminal}
use Rattle.wd_lex.specs.declared.token.Terminal.TheVariants as m
use Rattle.wd_lex.specs.declared.token.TokenKind.TheVariants as t
use Rattle.wd_read_cursor.specs.declared.words.KeyWord.{KeyWord}
use Rattle.wd_read_cursor.specs.declared.name.Name.{Name}
use Rattle.wd_syntax.specs.declared.expression.Operator.{Operator}
use Rattle.wd_syntax.specs.declared.expression.Operator.TheVariants as o
use Rattle.wd_syntax.specs.declared.expression.Sign.{Sign}
use Rattle.wd_syntax.specs.declared.expression.Sign.TheVariants as s
use Rattle.wd_read_cursor.specs.Tokens.{Kinds, ◌▸◌, written, name_kind}
use Rattle.wd_syntax.specs.Tokens.{operator_terminal, sign_terminal, operator_height}
use Rattle.wd_read_cursor.proofs.Eaten.{eat_other}
use Rattle.wd_syntax.specs.Levels.{left_height}
use Rattle.wd_read_cursor.specs.Cursor.{eat, eat_word, eat_name}
use Rattle.wd_read_expression.specs.Reading.{operator_of, operator_at, operator_if, sign_at}

sign_written : (b : Bool) (text : List ℕ) (ts : Kinds) → sign_at (written b text ∷ ts) ≡ None
unfolding sign_at
sign_written true text ts = refl
sign_written false text ts = refl

pub sign_name_kind : (n : Name) (ts : Kinds) → sign_at (name_kind n ∷ ts) ≡ None
sign_name_kind n ts = sign_written n.quoted n.text ts

-- ---- what ends an expression

-- the height at which a terminal goes on with an expression, or 9
abbrev pub grip_by : Option Operator → Terminal → ℕ
grip_by (Some o) x = operator_height o
grip_by None m.Is = 5
grip_by None m.LeftBracket = 0
grip_by None m.Dot = 0
grip_by None m.Over = 0
grip_by None _ = 9

abbrev pub grip : Terminal → ℕ
grip x = grip_by (operator_of x) x

abbrev pub grips : Kinds → ℕ
grips [] = 9
grips (t.Terminal x ∷ ts) = grip x
grips (_ ∷ ts) = 9

grips_written : (b : Bool) (text : List ℕ) (ts : Kinds) → grips (written b text ∷ ts) ≡ 9
grips_written true text ts = refl
grips_written false text ts = refl

pub grips_name : (n : Name) (ts : Kinds) → grips (name_kind n ∷ ts) ≡ 9
grips_name n ts = grips_written n.quoted n.text ts

pub grip_stops : (x : Terminal) (ts : Kinds) → grip x < grips ts → eat x ts ≡ None
unfolding eat
grip_stops x [] lt = refl
grip_stops x (t.Terminal y ∷ ts) lt = eat_other x y ts (λ e. let q : grip y ≡ grip x = ap grip e in omega arith)
grip_stops x (t.Word text ∷ ts) lt = refl
grip_stops x (t.Quoted text ∷ ts) lt = refl
grip_stops x (t.Literal text ∷ ts) lt = refl
grip_stops x (t.Number n ∷ ts) lt = refl

pub eqb-differ : (a b : ℕ) → b < a → eqb a b ≡ false
eqb-differ a b lt = search rules

pub eqb-below : (a b : ℕ) → a < b → eqb a b ≡ false
eqb-below a b lt = search rules

operator_if_stops : (h : ℕ) (o : Option Operator) (x : Terminal) (ts : Kinds) → h < grip_by o x → operator_if h ts o ≡ None
operator_if_stops h None x ts lt = refl
operator_if_stops h (Some o) x ts lt = rw (eqb-differ (operator_height o) h lt) refl

pub operator_stops : (h : ℕ) (ts : Kinds) → h < grips ts → operator_at h ts ≡ None
unfolding operator_at
operator_stops h [] lt = refl
operator_stops h (t.Terminal x ∷ ts) lt = operator_if_stops h (operator_of x) x ts lt
operator_stops h (t.Word text ∷ ts) lt = refl
operator_stops h (t.Quoted text ∷ ts) lt = refl
operator_stops h (t.Literal text ∷ ts) lt = refl
operator_stops h (t.Number n ∷ ts) lt = refl

pub operator_same : (o : Operator) (ts : Kinds) → operator_at (operator_height o) (operator_terminal o ▸ ts) ≡ Some (o, ts)
unfolding operator_at
operator_same o.Or ts = refl
operator_same o.And ts = refl
operator_same o.Equal ts = refl
operator_same o.NotEqual ts = refl
operator_same o.Less ts = refl
operator_same o.LessOrEqual ts = refl
operator_same o.Greater ts = refl
operator_same o.GreaterOrEqual ts = refl
operator_same o.Add ts = refl
operator_same o.Subtract ts = refl
operator_same o.Multiply ts = refl
operator_same o.Divide ts = refl
operator_same o.Remainder ts = refl

pub operator_grip : (o : Operator) → grip (operator_terminal o) ≡ operator_height o
operator_grip o.Or = refl
operator_grip o.And = refl
operator_grip o.Equal = refl
operator_grip o.NotEqual = refl
operator_grip o.Less = refl
operator_grip o.LessOrEqual = refl
operator_grip o.Greater = refl
operator_grip o.GreaterOrEqual = refl
operator_grip o.Add = refl
operator_grip o.Subtract = refl
operator_grip o.Multiply = refl
operator_grip o.Divide = refl
operator_grip o.Remainder = refl

-- no operator is as tight as a sign, and what stands on its left is no looser
pub operator_bounds : (o : Operator) → (2 ≤ operator_height o) × (left_height o ≤ operator_height o) × (operator_height o ≤ 8)
operator_bounds o.Or = (omega arith, omega arith, omega arith)
operator_bounds o.And = (omega arith, omega arith, omega arith)
operator_bounds o.Equal = (omega arith, omega arith, omega arith)
operator_bounds o.NotEqual = (omega arith, omega arith, omega arith)
operator_bounds o.Less = (omega arith, omega arith, omega arith)
operator_bounds o.LessOrEqual = (omega arith, omega arith, omega arith)
operator_bounds o.Greater = (omega arith, omega arith, omega arith)
operator_bounds o.GreaterOrEqual = (omega arith, omega arith, omega arith)
operator_bounds o.Add = (omega arith, omega arith, omega arith)
operator_bounds o.Subtract = (omega arith, omega arith, omega arith)
operator_bounds o.Multiply = (omega arith, omega arith, omega arith)
operator_bounds o.Divide = (omega arith, omega arith, omega arith)
operator_bounds o.Remainder = (omega arith, omega arith, omega arith)

pub sign_same : (s : Sign) (ts : Kinds) → sign_at (sign_terminal s ▸ ts) ≡ Some (s, ts)
unfolding sign_at
sign_same s.Plus ts = refl
sign_same s.Minus ts = refl

-- ---- what ends a clause

-- The clause that a terminal begins, in the order of the clauses; 0 where it begins none.
abbrev pub clause : Terminal → ℕ
clause m.Comma = 1
clause m.Cross = 1
clause m.Inner = 1
clause m.Join = 1
clause m.From = 2
clause m.On = 2
clause m.Where = 2
clause m.Group = 3
clause m.Having = 4
clause m.Window = 5
clause m.Partition = 5
clause m.Order = 6
clause m.Offset = 7
clause m.Limit = 7
clause m.Fetch = 7
clause m.Rows = 7
clause m.Range = 7
clause m.Groups = 7
clause m.RightBracket = 8
clause m.Semicolon = 8
clause _ = 0

abbrev pub clauses : Kinds → ℕ
clauses [] = 8
clauses (t.Terminal x ∷ ts) = clause x
clauses (_ ∷ ts) = 0

pub clause_stops : (x : Terminal) (ts : Kinds) → clause x < clauses ts → eat x ts ≡ None
unfolding eat
clause_stops x [] lt = refl
clause_stops x (t.Terminal y ∷ ts) lt = eat_other x y ts (λ e. let q : clause y ≡ clause x = ap clause e in omega arith)
clause_stops x (t.Word text ∷ ts) lt = refl
clause_stops x (t.Quoted text ∷ ts) lt = refl
clause_stops x (t.Literal text ∷ ts) lt = refl
clause_stops x (t.Number n ∷ ts) lt = refl

clause_grip_of : (x : Terminal) → 0 < clause x → grip x ≡ 9
clause_grip_of m.Comma lt = refl
clause_grip_of m.Cross lt = refl
clause_grip_of m.Inner lt = refl
clause_grip_of m.Join lt = refl
clause_grip_of m.From lt = refl
clause_grip_of m.On lt = refl
clause_grip_of m.Where lt = refl
clause_grip_of m.Group lt = refl
clause_grip_of m.Having lt = refl
clause_grip_of m.Window lt = refl
clause_grip_of m.Partition lt = refl
clause_grip_of m.Order lt = refl
clause_grip_of m.Offset lt = refl
clause_grip_of m.Limit lt = refl
clause_grip_of m.Fetch lt = refl
clause_grip_of m.Rows lt = refl
clause_grip_of m.Range lt = refl
clause_grip_of m.Groups lt = refl
clause_grip_of m.RightBracket lt = refl
clause_grip_of m.Semicolon lt = refl
clause_grip_of _ lt = absurd (omega arith)

-- a clause ends each expression
pub clause_grips : (ts : Kinds) → 0 < clauses ts → grips ts ≡ 9
clause_grips [] lt = refl
clause_grips (t.Terminal x ∷ ts) lt = clause_grip_of x lt
clause_grips (t.Word text ∷ ts) lt = absurd (omega arith)
clause_grips (t.Quoted text ∷ ts) lt = absurd (omega arith)
clause_grips (t.Literal text ∷ ts) lt = absurd (omega arith)
clause_grips (t.Number n ∷ ts) lt = absurd (omega arith)

-- a clause begins with no name, and with no word
pub clause_no_name : (ts : Kinds) → 0 < clauses ts → eat_name ts ≡ None
unfolding eat_name
clause_no_name [] lt = refl
clause_no_name (t.Terminal x ∷ ts) lt = refl
clause_no_name (t.Word text ∷ ts) lt = absurd (omega arith)
clause_no_name (t.Quoted text ∷ ts) lt = absurd (omega arith)
clause_no_name (t.Literal text ∷ ts) lt = absurd (omega arith)
clause_no_name (t.Number n ∷ ts) lt = absurd (omega arith)

pub clause_no_word : (x : KeyWord) (ts : Kinds) → 0 < clauses ts → eat_word x ts ≡ None
unfolding eat_word
clause_no_word x [] lt = refl
clause_no_word x (t.Terminal y ∷ ts) lt = refl
clause_no_word x (t.Word text ∷ ts) lt = absurd (omega arith)
clause_no_word x (t.Quoted text ∷ ts) lt = absurd (omega arith)
clause_no_word x (t.Literal text ∷ ts) lt = absurd (omega arith)
clause_no_word x (t.Number n ∷ ts) lt = absurd (omega arith)
