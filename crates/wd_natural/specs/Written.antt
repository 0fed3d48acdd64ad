-- A FROM clause without NATURAL JOIN: each one becomes a JOIN USING the columns of its table that a table to its left has, in the order
-- of its table, or ON TRUE where there are none. Added tokens have the place of NATURAL.
use Rattle.std.specs.Prelude.{ℕ, if◌then◌else◌, Bool, true, false, List, [], ◌∷◌, ◌++◌, Option, Some, None}
use Rattle.std.specs.Str.{bytes_eq}
use Rattle.wd_lex.specs.declared.token.Terminal.{Terminal}
use Rattle.wd_lex.specs.declared.token.Terminal.TheVariants as m
use Rattle.wd_lex.specs.declared.token.Token.{Token}
use Rattle.wd_clauses.specs.Added.{added}
use Rattle.wd_distinct_on.specs.Written.{added_name}
use Rattle.wd_natural.specs.Naturals.{NaturalTable}

abbrev pub has_column : List ℕ → List (List ℕ) → Bool
has_column name [] = false
has_column name (column ∷ columns) = if bytes_eq column name then true else has_column name columns

-- the columns that a table to the left has, too
abbrev pub common : List (List ℕ) → List (List ℕ) → List (List ℕ)
common left [] = []
common left (column ∷ columns) = if has_column column left then column ∷ common left columns else common left columns

-- a bracket and a name, and a comma and each further name
abbrev pub listed : Terminal → List (List ℕ) → Token → List Token
listed first [] word = []
listed first (name ∷ names) word = (added first word ∷ added_name name word ∷ []) ++ listed m.Comma names word

-- USING ( names )
abbrev pub using : List (List ℕ) → Token → List Token
using names word = added m.Using word ∷ (listed m.LeftBracket names word ++ added m.RightBracket word ∷ [])

-- USING ( names ), or ON TRUE where there are no names
abbrev pub condition : List (List ℕ) → Token → List Token
condition [] word = added m.On word ∷ added m.True word ∷ []
condition (name ∷ names) word = using (name ∷ names) word

-- the condition of a NATURAL JOIN with a table of these columns, after tables of those
abbrev pub condition_if : List (List ℕ) → List (List ℕ) → Option Token → List Token
condition_if left columns None = []
condition_if left columns (Some natural) = condition (common left columns) natural

-- a table after tables of these columns, and the condition on which it is joined
abbrev pub joined : List (List ℕ) → NaturalTable → List Token
joined left table = table.join ∷ (table.table ++ condition_if left table.columns table.natural ++ table.rest)

-- tables after tables of these columns, and the conditions on which they are joined
abbrev pub all_joined : List (List ℕ) → List NaturalTable → List Token
all_joined left [] = []
all_joined left (table ∷ tables) = joined left table ++ all_joined (left ++ table.columns) tables
