-- Queries whose reading without COUNT( DISTINCT c ) is written by hand.
use Rattle.std.specs.Prelude.{◌≡◌, codes, List, [], ◌∷◌, ◌++◌, Ok}
use Rattle.wd_lex.specs.declared.token.Terminal.TheVariants as m
use Rattle.wd_lex.specs.declared.token.Span.{Span}
use Rattle.wd_lex.specs.declared.token.TokenKind.{TokenKind}
use Rattle.wd_lex.specs.declared.token.TokenKind.TheVariants as t
use Rattle.wd_using.specs.Examples.{a, all_at, b, its, k, mark, n}
use Rattle.wd_distinct_counts.specs.Respelled.{respelled}

-- tokens of the first kinds are written as tokens of the second
abbrev pub Becomes : List TokenKind → List TokenKind → Type 0
Becomes left right = (at : Span) → respelled (all_at at left) ≡ Ok (all_at at right)

-- COUNT ( what )
abbrev pub count : List TokenKind → List TokenKind
count what = t.Word (codes "count") ∷ mark m.LeftBracket ∷ what ++ mark m.RightBracket ∷ []

-- COUNT ( DISTINCT column )
abbrev pub count_distinct : List TokenKind → List TokenKind
count_distinct column = count (mark m.Distinct ∷ column)

-- SELECT k , such a call
abbrev pub select : List TokenKind → List TokenKind
select call = mark m.Select ∷ k ∷ mark m.Comma ∷ call

-- GROUP BY keys
abbrev pub by_keys : List TokenKind → List TokenKind
by_keys keys = mark m.Group ∷ mark m.By ∷ keys

-- FROM ( SELECT k , a.n FROM a WHERE k GROUP BY k , a.n ) AS a
abbrev pub grouped : List TokenKind
grouped =
    mark m.From ∷ mark m.LeftBracket ∷ select (its a n) ++ mark m.From ∷ a ∷ mark m.Where ∷ k ∷ by_keys (k ∷ mark m.Comma ∷ its a n)
    ++ mark m.RightBracket ∷ mark m.As ∷ a ∷ []

-- SELECT k , COUNT ( DISTINCT n ) , such a call FROM a
abbrev pub with_call : List TokenKind → List TokenKind
with_call call = select (count_distinct (n ∷ [])) ++ mark m.Comma ∷ call ++ mark m.From ∷ a ∷ []

abbrev pub both : TokenKind
both = t.Quoted (codes "grouped")

-- SELECT a.k , COUNT ( DISTINCT a.n ) FROM a, b GROUP BY b.k
abbrev pub other_table : List TokenKind
other_table = mark m.Select ∷ its a k ++ mark m.Comma ∷ count_distinct (its a n) ++ mark m.From ∷ a ∷ mark m.Comma ∷ b ∷ by_keys (its b k)

pub record CountsComeOut : Type 0 where
  -- SELECT k , COUNT ( DISTINCT a.n ) FROM a WHERE k GROUP BY k HAVING COUNT ( DISTINCT a.n ) becomes
  -- SELECT k , COUNT ( a.n ) FROM ( SELECT k , a.n FROM a WHERE k GROUP BY k , a.n ) AS a GROUP BY k HAVING COUNT ( a.n )
  pub by_a_key : Becomes (select (count_distinct (its a n)) ++ mark m.From ∷ a ∷ mark m.Where ∷ k ∷ by_keys (k ∷ mark m.Having ∷ count_distinct (its a n)))
      (select (count (its a n)) ++ grouped ++ by_keys (k ∷ mark m.Having ∷ count (its a n)))
  -- SELECT COUNT ( DISTINCT n ) FROM a becomes SELECT COUNT ( n ) FROM ( SELECT n FROM a GROUP BY n ) AS a
  pub of_all : Becomes (mark m.Select ∷ count_distinct (n ∷ []) ++ mark m.From ∷ a ∷ [])
      (mark m.Select ∷ count (n ∷ []) ++ mark m.From ∷ mark m.LeftBracket ∷ mark m.Select ∷ n ∷ mark m.From ∷ a ∷ by_keys (n ∷ mark m.RightBracket ∷ mark m.As ∷ a ∷ []))
  -- SELECT b.k , COUNT ( DISTINCT a.n ) FROM a, b GROUP BY b.k becomes
  -- SELECT "grouped".k , COUNT ( "grouped".n ) FROM ( SELECT b.k , a.n FROM a, b GROUP BY b.k , a.n ) AS "grouped" GROUP BY "grouped".k
  pub of_two_tables : Becomes (mark m.Select ∷ its b k ++ mark m.Comma ∷ count_distinct (its a n) ++ mark m.From ∷ a ∷ mark m.Comma ∷ b ∷ by_keys (its b k))
      (mark m.Select ∷ its both k ++ mark m.Comma ∷ count (its both n) ++ mark m.From ∷ mark m.LeftBracket ∷ mark m.Select ∷ its b k ++ mark m.Comma ∷ its a n
      ++ mark m.From ∷ a ∷ mark m.Comma ∷ b ∷ by_keys (its b k) ++ mark m.Comma ∷ its a n ++ mark m.RightBracket ∷ mark m.As ∷ both ∷ by_keys (its both k))
  -- SELECT a.k , COUNT ( DISTINCT a.n ) FROM a, b GROUP BY b.k stays
  pub another_table_stays : Becomes other_table other_table
  pub another_column_stays : Becomes (with_call (count_distinct (k ∷ []))) (with_call (count_distinct (k ∷ [])))
  pub another_aggregate_stays : Becomes (with_call (count (n ∷ []))) (with_call (count (n ∷ [])))
