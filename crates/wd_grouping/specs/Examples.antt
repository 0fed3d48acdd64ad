-- Queries whose reading by columns is written by hand.
use Rattle.std.specs.Prelude.{◌≡◌, codes, ℕ, List, [], ◌∷◌, ◌++◌, Ok}
use Rattle.wd_lex.specs.declared.token.Terminal.TheVariants as m
use Rattle.wd_lex.specs.declared.token.Span.{Span}
use Rattle.wd_lex.specs.declared.token.TokenKind.{TokenKind}
use Rattle.wd_lex.specs.declared.token.TokenKind.TheVariants as t
use Rattle.wd_using.specs.Examples.{a, all_at, b, c, its, k, mark, n}
use Rattle.wd_grouping.specs.Respelled.{respelled}

-- tokens of the first kinds are written as tokens of the second
abbrev pub Becomes : List TokenKind → List TokenKind → Type 0
Becomes left right = (at : Span) → respelled (all_at at left) ≡ Ok (all_at at right)

abbrev pub number : ℕ → TokenKind
number which = t.Number which

abbrev pub group_1 : TokenKind
group_1 = t.Quoted (codes "group 1")

-- k + n
abbrev pub sum : List TokenKind
sum = k ∷ mark m.Plus ∷ n ∷ []

-- GROUP BY key
abbrev pub by_key : List TokenKind → List TokenKind
by_key key = mark m.Group ∷ mark m.By ∷ key

-- SELECT k + n AS c , k + n * k
abbrev pub items : List TokenKind
items = mark m.Select ∷ sum ++ mark m.As ∷ c ∷ mark m.Comma ∷ sum ++ mark m.Star ∷ k ∷ []

-- SELECT "group 1" AS c , k + n * k
abbrev pub replaced_items : List TokenKind
replaced_items = mark m.Select ∷ group_1 ∷ mark m.As ∷ c ∷ mark m.Comma ∷ sum ++ mark m.Star ∷ k ∷ []

-- FROM ( SELECT * , k + n AS "group 1" FROM a WHERE k ) AS a
abbrev pub derived : List TokenKind
derived =
    mark m.From ∷ mark m.LeftBracket ∷ mark m.Select ∷ mark m.Star ∷ mark m.Comma ∷ sum ++ mark m.As ∷ group_1 ∷ mark m.From ∷ a ∷ mark m.Where ∷ k
    ∷ mark m.RightBracket ∷ mark m.As ∷ a ∷ []

-- SELECT b.k AS n FROM a, b
abbrev pub of_two : List TokenKind
of_two = mark m.Select ∷ its b k ++ mark m.As ∷ n ∷ mark m.From ∷ a ∷ mark m.Comma ∷ b ∷ []

abbrev pub grouped : TokenKind
grouped = t.Quoted (codes "grouped")

-- SELECT "grouped".k AS n FROM ( SELECT * , k + n AS "group 1" FROM a, b ) AS "grouped"
abbrev pub over_two : List TokenKind
over_two =
    mark m.Select ∷ its grouped k ++ mark m.As ∷ n ∷ mark m.From ∷ mark m.LeftBracket ∷ mark m.Select ∷ mark m.Star ∷ mark m.Comma ∷ sum ++ mark m.As ∷ group_1
    ∷ mark m.From ∷ a ∷ mark m.Comma ∷ b ∷ mark m.RightBracket ∷ mark m.As ∷ grouped ∷ []

pub record ExpressionsComeOut : Type 0 where
  -- SELECT b.k AS n FROM a, b GROUP BY 1 becomes SELECT b.k AS n FROM a, b GROUP BY b.k
  pub number_of_a_column : Becomes (of_two ++ by_key (number 1 ∷ [])) (of_two ++ by_key (its b k))
  -- SELECT k + n AS c , k + n * k FROM a WHERE k GROUP BY 1 ORDER BY k + n becomes
  -- SELECT "group 1" AS c , k + n * k FROM ( SELECT * , k + n AS "group 1" FROM a WHERE k ) AS a GROUP BY "group 1" ORDER BY "group 1"
  pub number_of_an_expression : Becomes (items ++ mark m.From ∷ a ∷ mark m.Where ∷ k ∷ by_key (number 1 ∷ mark m.Order ∷ mark m.By ∷ sum))
      (replaced_items ++ derived ++ by_key (group_1 ∷ mark m.Order ∷ mark m.By ∷ group_1 ∷ []))
  -- SELECT k + n FROM a WHERE k GROUP BY k + n becomes
  -- SELECT "group 1" AS "?column?" FROM ( SELECT * , k + n AS "group 1" FROM a WHERE k ) AS a GROUP BY "group 1"
  pub without_a_name : Becomes (mark m.Select ∷ sum ++ mark m.From ∷ a ∷ mark m.Where ∷ k ∷ by_key sum)
      (mark m.Select ∷ group_1 ∷ mark m.As ∷ t.Quoted (codes "?column?") ∷ derived ++ by_key (group_1 ∷ []))
  pub number_of_no_item_stays : Becomes (of_two ++ by_key (number 0 ∷ [])) (of_two ++ by_key (number 0 ∷ []))
  -- SELECT b.k AS n FROM a, b GROUP BY k + n, b.k becomes
  -- SELECT "grouped".k AS n FROM ( SELECT * , k + n AS "group 1" FROM a, b ) AS "grouped" GROUP BY "group 1", "grouped".k
  pub two_tables : Becomes (of_two ++ by_key (sum ++ mark m.Comma ∷ its b k)) (over_two ++ by_key (group_1 ∷ mark m.Comma ∷ its grouped k))
