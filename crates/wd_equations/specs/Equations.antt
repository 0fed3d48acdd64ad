-- What the standard defines a test, a call or a CASE to be, as the pieces that are written in its place. Parts are numbered from 0:
-- first comes what is tested, and then what it is tested against. An operand is written in brackets, so that it stays one operand
-- whatever it is made of.
use Rattle.std.specs.Prelude.{ℕ, zero, suc, ◌+◌, ◌-◌, ◌*◌, ◌/◌, ◌++◌, Bool, true, false, List, [], ◌∷◌}
use Rattle.wd_lex.specs.declared.token.Terminal.TheVariants as m
use Rattle.wd_equations.specs.declared.equation.Piece.{Piece}
use Rattle.wd_equations.specs.declared.equation.Piece.TheVariants.{Mark, One, Operand, Clause}
use Rattle.wd_equations.specs.declared.equation.Form.{Form}
use Rattle.wd_equations.specs.declared.equation.Form.TheVariants as form
use Rattle.wd_equations.specs.declared.equation.Arm.{Arm}
use Rattle.wd_equations.specs.declared.equation.Arm.TheVariants.{OrEqual, Known, Equal}

-- x BETWEEN a AND b: x >= a AND x <= b
abbrev pub between : List Piece
between = Mark m.LeftBracket ∷ Operand 0 ∷ Mark m.GreaterOrEqual ∷ Operand 1 ∷ Mark m.And ∷ Operand 0 ∷ Mark m.LessOrEqual ∷ Operand 2 ∷ Mark m.RightBracket ∷ []

-- x IS DISTINCT FROM y: where x is NULL, whether y is not; else true where y is NULL; else x <> y
abbrev pub distinct : List Piece
distinct = Mark m.Case ∷ Mark m.When ∷ Operand 0 ∷ Mark m.Is ∷ Mark m.Null ∷ Mark m.Then ∷ Operand 1 ∷ Mark m.Is ∷ Mark m.Not ∷ Mark m.Null ∷ Mark m.When ∷ Operand 1 ∷ Mark m.Is ∷ Mark m.Null ∷ Mark m.Then ∷ Mark m.True ∷ Mark m.Else ∷ Operand 0 ∷ Mark m.NotEquals ∷ Operand 1 ∷ Mark m.End ∷ []

-- x IS TRUE: true where x is true, false where x is false or unknown
abbrev pub is_true : List Piece
is_true = Mark m.Case ∷ Mark m.When ∷ Operand 0 ∷ Mark m.Then ∷ Mark m.True ∷ Mark m.Else ∷ Mark m.False ∷ Mark m.End ∷ []

-- x IS FALSE: true where NOT x is true, false where NOT x is false or unknown
abbrev pub is_false : List Piece
is_false = Mark m.Case ∷ Mark m.When ∷ Mark m.Not ∷ Operand 0 ∷ Mark m.Then ∷ Mark m.True ∷ Mark m.Else ∷ Mark m.False ∷ Mark m.End ∷ []

-- x IS UNKNOWN: x IS NULL
abbrev pub is_unknown : List Piece
is_unknown = Mark m.LeftBracket ∷ Operand 0 ∷ Mark m.Is ∷ Mark m.Null ∷ Mark m.RightBracket ∷ []

-- NULLIF(x, y): NULL where x = y, else x
abbrev pub null_if : List Piece
null_if = Mark m.Case ∷ Mark m.When ∷ Operand 0 ∷ Mark m.Equals ∷ Operand 1 ∷ Mark m.Then ∷ Mark m.Null ∷ Mark m.Else ∷ Operand 0 ∷ Mark m.End ∷ []

-- COUNT(*) FILTER (WHERE p): it counts 1 where p is true, and NULL elsewhere
abbrev pub count_all : List Piece
count_all = Clause 0 ∷ Mark m.LeftBracket ∷ Mark m.Case ∷ Mark m.When ∷ Operand 1 ∷ Mark m.Then ∷ One ∷ Mark m.End ∷ Mark m.RightBracket ∷ []

-- f(x) FILTER (WHERE p): it takes x where p is true, and NULL elsewhere
abbrev pub filter : List Piece
filter = Clause 0 ∷ Mark m.LeftBracket ∷ Mark m.Case ∷ Mark m.When ∷ Operand 1 ∷ Mark m.Then ∷ Operand 2 ∷ Mark m.End ∷ Mark m.RightBracket ∷ []

-- ---- equations of any number of parts

-- what is written for the value with this number, from 0: for IN, OR x = a; for COALESCE, WHEN a IS NOT NULL THEN a; for a CASE with an
-- operand x, WHEN x = a THEN r
abbrev pub arm : Arm → ℕ → List Piece
arm OrEqual index = Mark m.Or ∷ Operand 0 ∷ Mark m.Equals ∷ Operand (index + 2) ∷ []
arm Known index = Mark m.When ∷ Operand index ∷ Mark m.Is ∷ Mark m.Not ∷ Mark m.Null ∷ Mark m.Then ∷ Operand index ∷ []
arm Equal index = Mark m.When ∷ Operand 0 ∷ Mark m.Equals ∷ Operand (2 * index + 1) ∷ Mark m.Then ∷ Clause (2 * index + 2) ∷ []

-- what is written for the given number of values, from this number on
unfoldable pub each : Arm → ℕ → ℕ → List Piece
each repeated index zero = []
each repeated index (suc count) = arm repeated index ++ each repeated (index + 1) count

-- x IN (a, b, ..): x = a OR x = b OR ..
abbrev pub among : ℕ → List Piece
among count = (Mark m.LeftBracket ∷ Operand 0 ∷ Mark m.Equals ∷ Operand 1 ∷ []) ++ each OrEqual 0 (count - 2) ++ Mark m.RightBracket ∷ []

-- COALESCE(x, y, .., z): x where it is not NULL, else y where it is not, and so on, else z
abbrev pub coalesce : ℕ → List Piece
coalesce count = (Mark m.Case ∷ []) ++ each Known 0 (count - 1) ++ Mark m.Else ∷ Operand (count - 1) ∷ Mark m.End ∷ []

-- CASE x WHEN a THEN r .. END: CASE WHEN x = a THEN r .. END. The last r includes ELSE and its value
abbrev pub simple_case : ℕ → List Piece
simple_case count = (Mark m.Case ∷ []) ++ each Equal 0 (count / 2) ++ Mark m.End ∷ []

-- what is written in place of a form of the given number of parts
abbrev pub equation : Form → ℕ → List Piece
equation form.Between count = between
equation form.Among count = among count
equation form.Distinct count = distinct
equation form.IsTrue count = is_true
equation form.IsFalse count = is_false
equation form.IsUnknown count = is_unknown
equation form.Coalesce count = coalesce count
equation form.NullIf count = null_if
equation form.CountAll count = count_all
equation form.Filter count = filter
equation form.SimpleCase count = simple_case count

-- the pieces, or with NOT that they do not hold
abbrev pub stated : Bool → List Piece → List Piece
stated false pieces = pieces
stated true pieces = (Mark m.LeftBracket ∷ Mark m.Not ∷ []) ++ pieces ++ Mark m.RightBracket ∷ []
