-- Brackets and operands whose length is read off by hand.
use Rattle.std.specs.Prelude.{◌≡◌, ℕ, codes, List, [], ◌∷◌, map}
use Rattle.wd_lex.specs.declared.token.Terminal.{Terminal}
use Rattle.wd_lex.specs.declared.token.Terminal.TheVariants as m
use Rattle.wd_lex.specs.declared.token.Span.{Span}
use Rattle.wd_lex.specs.declared.token.Token.{Token}
use Rattle.wd_lex.specs.declared.token.TokenKind.{TokenKind}
use Rattle.wd_lex.specs.declared.token.TokenKind.TheVariants as t
use Rattle.wd_operands.specs.Nests.{nest_length}
use Rattle.wd_operands.specs.Operands.{operand_length}

abbrev pub mark : Terminal → TokenKind
mark terminal = t.Terminal terminal

abbrev pub x : TokenKind
x = t.Word (codes "x")

-- tokens that say this, all at one place
abbrev pub all_at : Span → List TokenKind → List Token
all_at at kinds = map (λ kind. let token : Token = record { kind = kind; span = at } in token) kinds

abbrev pub NestTakes : List TokenKind → ℕ → Type 0
NestTakes kinds length = (at : Span) → nest_length (all_at at kinds) ≡ length

abbrev pub OperandTakes : List TokenKind → ℕ → Type 0
OperandTakes kinds length = (at : Span) → operand_length (all_at at kinds) ≡ length

pub record OperandsComeOut : Type 0 where
  -- ( x ) x
  pub closed : NestTakes (mark m.LeftBracket ∷ x ∷ mark m.RightBracket ∷ x ∷ []) 3
  -- ( CASE END ) x
  pub nested : NestTakes (mark m.LeftBracket ∷ mark m.Case ∷ mark m.End ∷ mark m.RightBracket ∷ x ∷ []) 4
  -- ( x
  pub never_closed : NestTakes (mark m.LeftBracket ∷ x ∷ []) 0
  -- CASE ( END )
  pub other_kind : NestTakes (mark m.Case ∷ mark m.LeftBracket ∷ mark m.End ∷ mark m.RightBracket ∷ []) 0
  -- x . x + x ( x ) * - 2 IN
  pub chain : OperandTakes (x ∷ mark m.Dot ∷ x ∷ mark m.Plus ∷ x ∷ mark m.LeftBracket ∷ x ∷ mark m.RightBracket ∷ mark m.Star ∷ mark m.Minus ∷ t.Number 2 ∷ t.Word (codes "in") ∷ []) 11
  -- x ( * ) FILTER ( x ) OVER x =
  pub call : OperandTakes (x ∷ mark m.LeftBracket ∷ mark m.Star ∷ mark m.RightBracket ∷ t.Word (codes "filter") ∷ mark m.LeftBracket ∷ x ∷ mark m.RightBracket ∷ mark m.Over ∷ x ∷ mark m.Equals ∷ []) 10
  -- x 'a' BETWEEN
  pub typed : OperandTakes (x ∷ t.Literal (codes "a") ∷ t.Word (codes "between") ∷ []) 2
  -- x + BETWEEN, where nothing follows the sign that is an operand
  pub ends_before_sign : OperandTakes (x ∷ mark m.Plus ∷ t.Word (codes "between") ∷ []) 1
  -- IN ( x )
  pub no_name : OperandTakes (t.Word (codes "in") ∷ mark m.LeftBracket ∷ x ∷ mark m.RightBracket ∷ []) 0
