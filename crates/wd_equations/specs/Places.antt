-- What is known of a place in a list of tokens by what comes before it, and what applies there.
use Rattle.std.specs.Prelude.{Bool, List, map}
use Rattle.wd_lex.specs.declared.token.Terminal.TheVariants as m
use Rattle.wd_lex.specs.declared.token.Span.{Span}
use Rattle.wd_lex.specs.declared.token.Token.{Token}
use Rattle.wd_lex.specs.declared.token.TokenKind.{TokenKind}
use Rattle.wd_lex.specs.declared.token.TokenKind.TheVariants as t
use Rattle.wd_equations.specs.declared.equation.Form.{Form}
use Rattle.wd_equations.specs.declared.found.Before.{Before}
use Rattle.wd_equations.specs.declared.found.Before.TheVariants.{Open, Compared, Inside}
use Rattle.wd_equations.specs.declared.found.Found.{Found}

-- A NOT before what it negates leaves the place as it was. Otherwise it belongs to a test.
abbrev pub after_not : Before → Before
after_not Open = Open
after_not _ = Inside

-- An operand is the whole left side of a test after an opening bracket, a comma, a word that begins a condition or a value, and
-- AND, OR and NOT. A comparison binds less tightly than BETWEEN and IN, and more tightly than IS.
abbrev pub after : Before → TokenKind → Before
after before (t.Terminal m.LeftBracket) = Open
after before (t.Terminal m.Comma) = Open
after before (t.Terminal m.And) = Open
after before (t.Terminal m.Or) = Open
after before (t.Terminal m.When) = Open
after before (t.Terminal m.Then) = Open
after before (t.Terminal m.Else) = Open
after before (t.Terminal m.Where) = Open
after before (t.Terminal m.On) = Open
after before (t.Terminal m.Having) = Open
after before (t.Terminal m.Select) = Open
after before (t.Terminal m.Distinct) = Open
after before (t.Terminal m.By) = Open
after before (t.Terminal m.Equals) = Compared
after before (t.Terminal m.NotEquals) = Compared
after before (t.Terminal m.Less) = Compared
after before (t.Terminal m.LessOrEqual) = Compared
after before (t.Terminal m.Greater) = Compared
after before (t.Terminal m.GreaterOrEqual) = Compared
after before (t.Terminal m.Not) = after_not before
after before _ = Inside

-- what applies at a place: a form, whether it has NOT, the place of its word, its parts, and the tokens after it
pub record Place : Type 0 where
  pub form : Form
  pub is_not : Bool
  pub at : Span
  pub parts : List (List Token)
  pub rest : List Token

abbrev pub place : Form → Bool → Span → List (List Token) → List Token → Place
place form is_not at parts rest = record { form = form; is_not = is_not; at = at; parts = parts; rest = rest }

-- what the code found, as a place
abbrev pub seen : Found → Place
seen found = place found.form found.is_not found.at (map (λ part. part.now) found.parts.items) found.rest.now
