-- Terminals are told apart by their numbers.
use Rattle.std.proofs.Common.{◌≡◌, refl, sym, ap, ◌∙◌}
use Rattle.wd_lex.specs.declared.token.Terminal.{Terminal}
use Rattle.wd_lex.specs.declared.token.Terminal.TheVariants as m
use Rattle.wd_lex.specs.Terminals.{terminal_code, terminal_at}

-- a terminal's number leads back to it
pub terminal_at-terminal_code : (terminal : Terminal) → terminal_at (terminal_code terminal) ≡ terminal
terminal_at-terminal_code m.All = refl
terminal_at-terminal_code m.And = refl
terminal_at-terminal_code m.As = refl
terminal_at-terminal_code m.Asc = refl
terminal_at-terminal_code m.By = refl
terminal_at-terminal_code m.Case = refl
terminal_at-terminal_code m.Constraint = refl
terminal_at-terminal_code m.Create = refl
terminal_at-terminal_code m.Cross = refl
terminal_at-terminal_code m.Desc = refl
terminal_at-terminal_code m.Distinct = refl
terminal_at-terminal_code m.Else = refl
terminal_at-terminal_code m.End = refl
terminal_at-terminal_code m.False = refl
terminal_at-terminal_code m.Fetch = refl
terminal_at-terminal_code m.From = refl
terminal_at-terminal_code m.Full = refl
terminal_at-terminal_code m.Group = refl
terminal_at-terminal_code m.Groups = refl
terminal_at-terminal_code m.Having = refl
terminal_at-terminal_code m.Inner = refl
terminal_at-terminal_code m.Is = refl
terminal_at-terminal_code m.IsNull = refl
terminal_at-terminal_code m.Join = refl
terminal_at-terminal_code m.Left = refl
terminal_at-terminal_code m.Limit = refl
terminal_at-terminal_code m.Natural = refl
terminal_at-terminal_code m.Not = refl
terminal_at-terminal_code m.NotNull = refl
terminal_at-terminal_code m.Null = refl
terminal_at-terminal_code m.Offset = refl
terminal_at-terminal_code m.On = refl
terminal_at-terminal_code m.Or = refl
terminal_at-terminal_code m.Order = refl
terminal_at-terminal_code m.Outer = refl
terminal_at-terminal_code m.Over = refl
terminal_at-terminal_code m.Partition = refl
terminal_at-terminal_code m.Primary = refl
terminal_at-terminal_code m.Range = refl
terminal_at-terminal_code m.Right = refl
terminal_at-terminal_code m.Rows = refl
terminal_at-terminal_code m.Select = refl
terminal_at-terminal_code m.Table = refl
terminal_at-terminal_code m.Then = refl
terminal_at-terminal_code m.True = refl
terminal_at-terminal_code m.Union = refl
terminal_at-terminal_code m.Unique = refl
terminal_at-terminal_code m.Using = refl
terminal_at-terminal_code m.When = refl
terminal_at-terminal_code m.Where = refl
terminal_at-terminal_code m.Window = refl
terminal_at-terminal_code m.With = refl
terminal_at-terminal_code m.LeftBracket = refl
terminal_at-terminal_code m.RightBracket = refl
terminal_at-terminal_code m.Comma = refl
terminal_at-terminal_code m.Dot = refl
terminal_at-terminal_code m.Semicolon = refl
terminal_at-terminal_code m.Star = refl
terminal_at-terminal_code m.Plus = refl
terminal_at-terminal_code m.Minus = refl
terminal_at-terminal_code m.Slash = refl
terminal_at-terminal_code m.Percent = refl
terminal_at-terminal_code m.Equals = refl
terminal_at-terminal_code m.NotEquals = refl
terminal_at-terminal_code m.Less = refl
terminal_at-terminal_code m.LessOrEqual = refl
terminal_at-terminal_code m.Greater = refl
terminal_at-terminal_code m.GreaterOrEqual = refl

-- terminals of one number are one
pub same_terminal : (first second : Terminal) → terminal_code first ≡ terminal_code second → first ≡ second
same_terminal first second same = sym (terminal_at-terminal_code first) ∙ ap terminal_at same ∙ terminal_at-terminal_code second
