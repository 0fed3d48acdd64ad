-- How literals, operators and signs are spelled, and how loosely operators bind.
use Rattle.std.specs.Prelude.{ℕ, true, false}
use Rattle.wd_lex.specs.declared.token.Terminal.{Terminal}
use Rattle.wd_lex.specs.declared.token.Terminal.TheVariants as m
use Rattle.wd_lex.specs.declared.token.TokenKind.{TokenKind}
use Rattle.wd_lex.specs.declared.token.TokenKind.TheVariants as t
use Rattle.wd_syntax.specs.declared.expression.Operator.{Operator}
use Rattle.wd_syntax.specs.declared.expression.Operator.TheVariants as o
use Rattle.wd_syntax.specs.declared.expression.Height.{Height}
use Rattle.wd_syntax.specs.declared.expression.Height.TheVariants as h
use Rattle.wd_syntax.specs.declared.expression.Sign.{Sign}
use Rattle.wd_syntax.specs.declared.expression.Sign.TheVariants as s
use Rattle.wd_syntax.specs.declared.expression.Literal.{Literal}
use Rattle.wd_syntax.specs.declared.expression.Literal.TheVariants as l

abbrev pub literal_kind : Literal → TokenKind
literal_kind (l.Number n) = t.Number n
literal_kind (l.Text text) = t.Literal text
literal_kind (l.Truth true) = t.Terminal m.True
literal_kind (l.Truth false) = t.Terminal m.False
literal_kind l.Null = t.Terminal m.Null

abbrev pub operator_terminal : Operator → Terminal
operator_terminal o.Or = m.Or
operator_terminal o.And = m.And
operator_terminal o.Equal = m.Equals
operator_terminal o.NotEqual = m.NotEquals
operator_terminal o.Less = m.Less
operator_terminal o.LessOrEqual = m.LessOrEqual
operator_terminal o.Greater = m.Greater
operator_terminal o.GreaterOrEqual = m.GreaterOrEqual
operator_terminal o.Add = m.Plus
operator_terminal o.Subtract = m.Minus
operator_terminal o.Multiply = m.Star
operator_terminal o.Divide = m.Slash
operator_terminal o.Remainder = m.Percent

abbrev pub sign_terminal : Sign → Terminal
sign_terminal s.Plus = m.Plus
sign_terminal s.Minus = m.Minus

-- ---- how loosely expressions bind

-- heights as numbers; tighter is lower
abbrev pub rank : Height → ℕ
rank h.Primary = 0
rank h.Sign = 1
rank h.Product = 2
rank h.Sum = 3
rank h.Comparison = 4
rank h.Test = 5
rank h.Negation = 6
rank h.Conjunction = 7
rank h.Disjunction = 8

-- a whole expression may bind as loosely as any
abbrev pub whole_height : ℕ
whole_height = rank h.Disjunction

abbrev pub binding : Operator → Height
binding o.Or = h.Disjunction
binding o.And = h.Conjunction
binding o.Equal = h.Comparison
binding o.NotEqual = h.Comparison
binding o.Less = h.Comparison
binding o.LessOrEqual = h.Comparison
binding o.Greater = h.Comparison
binding o.GreaterOrEqual = h.Comparison
binding o.Add = h.Sum
binding o.Subtract = h.Sum
binding o.Multiply = h.Product
binding o.Divide = h.Product
binding o.Remainder = h.Product

abbrev pub operator_height : Operator → ℕ
operator_height o = rank (binding o)
