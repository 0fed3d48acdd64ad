-- Queries whose reading without USING is written by hand.
use Rattle.std.specs.Prelude.{◌≡◌, codes, ℕ, true, List, [], ◌∷◌, ◌++◌, map, Ok}
use Rattle.wd_value.specs.declared.value.ColumnType.TheVariants.{BigInt}
use Rattle.wd_lex.specs.declared.token.Terminal.{Terminal}
use Rattle.wd_lex.specs.declared.token.Terminal.TheVariants as m
use Rattle.wd_lex.specs.declared.token.Span.{Span}
use Rattle.wd_lex.specs.declared.token.Token.{Token}
use Rattle.wd_lex.specs.declared.token.TokenKind.{TokenKind}
use Rattle.wd_lex.specs.declared.token.TokenKind.TheVariants as t
use Rattle.wd_schema.specs.declared.table.Column.{Column}
use Rattle.wd_schema.specs.Tables.{TableRule}
use Rattle.wd_using.specs.Respelled.{respelled}

abbrev pub mark : Terminal → TokenKind
mark terminal = t.Terminal terminal

abbrev pub a : TokenKind
a = t.Word (codes "a")

abbrev pub b : TokenKind
b = t.Word (codes "b")

abbrev pub c : TokenKind
c = t.Word (codes "c")

abbrev pub k : TokenKind
k = t.Word (codes "k")

abbrev pub n : TokenKind
n = t.Word (codes "n")

abbrev pub column : List ℕ → Column
column name = record { name = name; kind = BigInt; not_null = true }

abbrev pub table : List ℕ → List Column → TableRule
table name columns = record { name = name; columns = columns; keys = [] }

-- a and b have a column k, c has one and n, b has n
abbrev pub schema : List TableRule
schema =
    table (codes "a") (column (codes "k") ∷ [])
    ∷ table (codes "b") (column (codes "k") ∷ column (codes "n") ∷ [])
    ∷ table (codes "c") (column (codes "n") ∷ column (codes "k") ∷ [])
    ∷ []

-- these tokens, all at one place
abbrev pub all_at : Span → List TokenKind → List Token
all_at at kinds = map (λ kind. let token : Token = record { kind = kind; span = at } in token) kinds

-- the first tokens are respelled as the second
abbrev pub Becomes : List TokenKind → List TokenKind → Type 0
Becomes left right = (at : Span) → respelled schema (all_at at left) ≡ Ok (all_at at right)

abbrev pub its : TokenKind → TokenKind → List TokenKind
its name column = name ∷ mark m.Dot ∷ column ∷ []

abbrev pub using : TokenKind → List TokenKind
using name = mark m.Using ∷ mark m.LeftBracket ∷ name ∷ mark m.RightBracket ∷ []

abbrev pub equal : TokenKind → TokenKind → TokenKind → List TokenKind
equal left right name = its left name ++ mark m.Equals ∷ its right name

-- SELECT k FROM a
abbrev pub of_a : List TokenKind
of_a = mark m.Select ∷ k ∷ mark m.From ∷ a ∷ []

-- ( SELECT k FROM b )
abbrev pub query_of_b : List TokenKind
query_of_b = mark m.LeftBracket ∷ mark m.Select ∷ k ∷ mark m.From ∷ b ∷ mark m.RightBracket ∷ []

-- SELECT k FROM a LEFT JOIN b USING ( k )
abbrev pub outer : List TokenKind
outer = of_a ++ mark m.Left ∷ mark m.Join ∷ b ∷ using k

-- SELECT * FROM a JOIN b USING ( k )
abbrev pub starred : List TokenKind
starred = mark m.Select ∷ mark m.Star ∷ mark m.From ∷ a ∷ mark m.Join ∷ b ∷ using k

-- SELECT n AS k FROM a JOIN b USING ( k )
abbrev pub renamed : List TokenKind
renamed = mark m.Select ∷ n ∷ mark m.As ∷ k ∷ mark m.From ∷ a ∷ mark m.Join ∷ b ∷ using k

-- SELECT k FROM a JOIN b ON a.k = b.k JOIN c USING ( k )
abbrev pub two_on_the_left : List TokenKind
two_on_the_left = of_a ++ mark m.Join ∷ b ∷ mark m.On ∷ equal a b k ++ mark m.Join ∷ c ∷ using k

pub record UsingComesOut : Type 0 where
  -- SELECT k FROM a JOIN b USING ( k ) WHERE b.k < k becomes SELECT a.k FROM a JOIN b ON a.k = b.k WHERE b.k < a.k
  pub one : Becomes (of_a ++ mark m.Join ∷ b ∷ using k ++ mark m.Where ∷ its b k ++ mark m.Less ∷ k ∷ [])
      (mark m.Select ∷ its a k ++ mark m.From ∷ a ∷ mark m.Join ∷ b ∷ mark m.On ∷ equal a b k ++ mark m.Where ∷ its b k ++ mark m.Less ∷ its a k)
  -- SELECT k FROM a JOIN b USING ( k ) JOIN c AS n USING ( n, k ) becomes
  -- SELECT a.k FROM a JOIN b ON a.k = b.k JOIN c AS n ON b.n = n.n AND a.k = n.k
  pub two : Becomes (of_a ++ mark m.Join ∷ b ∷ using k ++ mark m.Join ∷ c ∷ mark m.As ∷ n ∷ mark m.Using ∷ mark m.LeftBracket ∷ n ∷ mark m.Comma ∷ k ∷ mark m.RightBracket ∷ [])
      (mark m.Select ∷ its a k ++ mark m.From ∷ a ∷ mark m.Join ∷ b ∷ mark m.On ∷ equal a b k ++ mark m.Join ∷ c ∷ mark m.As ∷ n ∷ mark m.On ∷ equal b n n ++ mark m.And ∷ equal a n k)
  -- SELECT k FROM a JOIN ( SELECT k FROM b ) AS n USING ( k ) becomes SELECT a.k FROM a JOIN ( SELECT k FROM b ) AS n ON a.k = n.k
  pub derived : Becomes (of_a ++ mark m.Join ∷ query_of_b ++ mark m.As ∷ n ∷ using k) (mark m.Select ∷ its a k ++ mark m.From ∷ a ∷ mark m.Join ∷ query_of_b ++ mark m.As ∷ n ∷ mark m.On ∷ equal a n k)
  pub outer_stays : Becomes outer outer
  pub star_stays : Becomes starred starred
  pub renamed_stays : Becomes renamed renamed
  pub two_on_the_left_stay : Becomes two_on_the_left two_on_the_left
