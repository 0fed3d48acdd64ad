-- Tests, calls and CASE whose expansion is read off by hand.
use Rattle.std.specs.Prelude.{◌≡◌, codes, List, [], ◌∷◌, map}
use Rattle.wd_lex.specs.declared.token.Terminal.{Terminal}
use Rattle.wd_lex.specs.declared.token.Terminal.TheVariants as m
use Rattle.wd_lex.specs.declared.token.Span.{Span}
use Rattle.wd_lex.specs.declared.token.Token.{Token}
use Rattle.wd_lex.specs.declared.token.TokenKind.{TokenKind}
use Rattle.wd_lex.specs.declared.token.TokenKind.TheVariants as t
use Rattle.wd_equations.specs.Expanded.{expanded}

abbrev pub mark : Terminal → TokenKind
mark terminal = t.Terminal terminal

abbrev pub x : TokenKind
x = t.Word (codes "x")

abbrev pub y : TokenKind
y = t.Word (codes "y")

-- kinds in brackets, and what follows
abbrev pub within : TokenKind → List TokenKind → List TokenKind
within kind kinds = mark m.LeftBracket ∷ kind ∷ mark m.RightBracket ∷ kinds

-- tokens of these kinds, all at one place
abbrev pub all_at : Span → List TokenKind → List Token
all_at at kinds = map (λ kind. let token : Token = record { kind = kind; span = at } in token) kinds

-- tokens of the first kinds are written as tokens of the second
abbrev pub Becomes : List TokenKind → List TokenKind → Type 0
Becomes left right = (at : Span) → expanded (all_at at left) ≡ all_at at right

abbrev pub average : List TokenKind
average = t.Word (codes "avg") ∷ within x (t.Word (codes "filter") ∷ mark m.LeftBracket ∷ mark m.Where ∷ y ∷ mark m.RightBracket ∷ [])

abbrev pub compared : List TokenKind
compared = x ∷ mark m.Equals ∷ y ∷ mark m.Is ∷ mark m.True ∷ []

abbrev pub symmetric : List TokenKind
symmetric = x ∷ t.Word (codes "between") ∷ t.Word (codes "symmetric") ∷ t.Number 1 ∷ mark m.And ∷ t.Number 2 ∷ []

pub record EquationsComeOut : Type 0 where
  -- x BETWEEN 1 AND y
  pub between : Becomes (x ∷ t.Word (codes "between") ∷ t.Number 1 ∷ mark m.And ∷ y ∷ [])
      (mark m.LeftBracket ∷ within x (mark m.GreaterOrEqual ∷ within (t.Number 1) (mark m.And ∷ within x (mark m.LessOrEqual ∷ within y (mark m.RightBracket ∷ [])))))
  -- x NOT IN (1, 2)
  pub not_in : Becomes (x ∷ mark m.Not ∷ t.Word (codes "in") ∷ mark m.LeftBracket ∷ t.Number 1 ∷ mark m.Comma ∷ t.Number 2 ∷ mark m.RightBracket ∷ [])
      (mark m.LeftBracket ∷ mark m.Not ∷ mark m.LeftBracket ∷ within x (mark m.Equals ∷ within (t.Number 1) (mark m.Or ∷ within x (mark m.Equals ∷ within (t.Number 2) (mark m.RightBracket ∷ mark m.RightBracket ∷ [])))))
  -- COALESCE(x, y)
  pub coalesce : Becomes (t.Word (codes "coalesce") ∷ mark m.LeftBracket ∷ x ∷ mark m.Comma ∷ y ∷ mark m.RightBracket ∷ [])
      (mark m.Case ∷ mark m.When ∷ within x (mark m.Is ∷ mark m.Not ∷ mark m.Null ∷ mark m.Then ∷ within x (mark m.Else ∷ within y (mark m.End ∷ []))))
  -- CASE x WHEN 1 THEN y END
  pub simple_case : Becomes (mark m.Case ∷ x ∷ mark m.When ∷ t.Number 1 ∷ mark m.Then ∷ y ∷ mark m.End ∷ []) (mark m.Case ∷ mark m.When ∷ within x (mark m.Equals ∷ within (t.Number 1) (mark m.Then ∷ y ∷ mark m.End ∷ [])))
  -- COUNT(*) FILTER (WHERE x)
  pub count_all : Becomes (t.Word (codes "count") ∷ mark m.LeftBracket ∷ mark m.Star ∷ mark m.RightBracket ∷ t.Word (codes "filter") ∷ mark m.LeftBracket ∷ mark m.Where ∷ x ∷ mark m.RightBracket ∷ [])
      (t.Word (codes "count") ∷ mark m.LeftBracket ∷ mark m.Case ∷ mark m.When ∷ within x (mark m.Then ∷ t.Number 1 ∷ mark m.End ∷ mark m.RightBracket ∷ []))
  -- AVG(x) FILTER (WHERE y), x = y IS TRUE and x BETWEEN SYMMETRIC 1 AND 2 are left as they are
  pub average_stays : Becomes average average
  pub compared_stays : Becomes compared compared
  pub symmetric_stays : Becomes symmetric symmetric
