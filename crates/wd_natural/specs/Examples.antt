-- Queries whose reading without NATURAL JOIN is written by hand.
use Rattle.std.specs.Prelude.{◌≡◌, codes, List, [], ◌∷◌, ◌++◌, Ok}
use Rattle.wd_lex.specs.declared.token.Terminal.TheVariants as m
use Rattle.wd_lex.specs.declared.token.Span.{Span}
use Rattle.wd_lex.specs.declared.token.TokenKind.{TokenKind}
use Rattle.wd_lex.specs.declared.token.TokenKind.TheVariants as t
use Rattle.wd_using.specs.Examples.{a, all_at, b, c, equal, its, k, mark, n, of_a, query_of_b, schema, using}
use Rattle.wd_using.specs.Respelled as joins
use Rattle.wd_natural.specs.Respelled.{respelled}

-- the first tokens are respelled as the second; a and b have a column k, c has one and n, b has n
abbrev pub Becomes : List TokenKind → List TokenKind → Type 0
Becomes left right = (at : Span) → respelled schema (all_at at left) ≡ Ok (all_at at right)

-- an added name
abbrev pub the_k : TokenKind
the_k = t.Quoted (codes "k")

abbrev pub the_n : TokenKind
the_n = t.Quoted (codes "n")

abbrev pub natural : TokenKind → List TokenKind
natural name = mark m.Natural ∷ mark m.Join ∷ name ∷ []

-- SELECT n FROM ( SELECT n FROM c ) AS c NATURAL JOIN a
abbrev pub none_common : List TokenKind
none_common = mark m.Select ∷ n ∷ mark m.From ∷ mark m.LeftBracket ∷ mark m.Select ∷ n ∷ mark m.From ∷ c ∷ mark m.RightBracket ∷ mark m.As ∷ c ∷ []

-- SELECT k FROM a NATURAL LEFT JOIN b
abbrev pub outer : List TokenKind
outer = of_a ++ mark m.Natural ∷ mark m.Left ∷ mark m.Join ∷ b ∷ []

-- SELECT k FROM a , b NATURAL JOIN c
abbrev pub comma : List TokenKind
comma = of_a ++ mark m.Comma ∷ b ∷ natural c

-- SELECT k FROM a NATURAL JOIN n
abbrev pub unknown : List TokenKind
unknown = of_a ++ natural n

-- SELECT k FROM a ( n ) NATURAL JOIN b
abbrev pub renamed : List TokenKind
renamed = of_a ++ mark m.LeftBracket ∷ n ∷ mark m.RightBracket ∷ natural b

pub record NaturalComesOut : Type 0 where
  -- SELECT k FROM a NATURAL JOIN b WHERE n < k becomes SELECT k FROM a JOIN b USING ( "k" ) WHERE n < k
  pub one : Becomes (of_a ++ natural b ++ mark m.Where ∷ n ∷ mark m.Less ∷ k ∷ []) (of_a ++ mark m.Join ∷ b ∷ using the_k ++ mark m.Where ∷ n ∷ mark m.Less ∷ k ∷ [])
  -- SELECT k FROM a INNER JOIN b USING ( k ) NATURAL INNER JOIN c becomes SELECT k FROM a INNER JOIN b USING ( k ) JOIN c USING ( "n",
  -- "k" )
  pub two : Becomes (of_a ++ mark m.Inner ∷ mark m.Join ∷ b ∷ using k ++ mark m.Natural ∷ mark m.Inner ∷ mark m.Join ∷ c ∷ [])
      (of_a ++ mark m.Inner ∷ mark m.Join ∷ b ∷ using k ++ mark m.Join ∷ c ∷ mark m.Using ∷ mark m.LeftBracket ∷ the_n ∷ mark m.Comma ∷ the_k ∷ mark m.RightBracket ∷ [])
  -- SELECT k FROM a NATURAL JOIN ( SELECT k FROM b ) AS n becomes SELECT k FROM a JOIN ( SELECT k FROM b ) AS n USING ( "k" )
  pub derived : Becomes (of_a ++ mark m.Natural ∷ mark m.Join ∷ query_of_b ++ mark m.As ∷ n ∷ []) (of_a ++ mark m.Join ∷ query_of_b ++ mark m.As ∷ n ∷ using the_k)
  -- SELECT n FROM ( SELECT n FROM c ) AS c NATURAL JOIN a becomes SELECT n FROM ( SELECT n FROM c ) AS c JOIN a ON TRUE
  pub none : Becomes (none_common ++ natural a) (none_common ++ mark m.Join ∷ a ∷ mark m.On ∷ mark m.True ∷ [])
  -- SELECT k FROM a JOIN b USING ( "k" ) is SELECT a.k FROM a JOIN b ON a."k" = b."k"
  pub then_by_on : (at : Span) → joins.respelled schema (all_at at (of_a ++ mark m.Join ∷ b ∷ using the_k)) ≡ Ok (all_at at (mark m.Select ∷ its a k ++ mark m.From ∷ a ∷ mark m.Join ∷ b ∷ mark m.On ∷ equal a b the_k))
  pub outer_stays : Becomes outer outer
  pub comma_stays : Becomes comma comma
  pub unknown_stays : Becomes unknown unknown
  pub renamed_stays : Becomes renamed renamed
