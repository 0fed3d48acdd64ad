-- Terminals, the reserved words and the symbols: how they are spelled, and a number for each terminal.
use Rattle.std.specs.Prelude.{ℕ, codes, List, [], ◌∷◌, Option, Some, None, if◌then◌else◌, slice_index_or}
use Rattle.std.specs.Str.{bytes_eq}
use Rattle.wd_lex.specs.declared.token.Terminal.{Terminal}
use Rattle.wd_lex.specs.declared.token.Terminal.TheVariants as m

-- the reserved words, in lower case (this project's choice)
abbrev pub reserved_words : List (List ℕ × Terminal)
reserved_words =
    (codes "all", m.All)
    ∷ (codes "and", m.And)
    ∷ (codes "as", m.As)
    ∷ (codes "asc", m.Asc)
    ∷ (codes "by", m.By)
    ∷ (codes "case", m.Case)
    ∷ (codes "constraint", m.Constraint)
    ∷ (codes "create", m.Create)
    ∷ (codes "cross", m.Cross)
    ∷ (codes "desc", m.Desc)
    ∷ (codes "distinct", m.Distinct)
    ∷ (codes "else", m.Else)
    ∷ (codes "end", m.End)
    ∷ (codes "false", m.False)
    ∷ (codes "fetch", m.Fetch)
    ∷ (codes "from", m.From)
    ∷ (codes "full", m.Full)
    ∷ (codes "group", m.Group)
    ∷ (codes "groups", m.Groups)
    ∷ (codes "having", m.Having)
    ∷ (codes "inner", m.Inner)
    ∷ (codes "is", m.Is)
    ∷ (codes "isnull", m.IsNull)
    ∷ (codes "join", m.Join)
    ∷ (codes "left", m.Left)
    ∷ (codes "limit", m.Limit)
    ∷ (codes "natural", m.Natural)
    ∷ (codes "not", m.Not)
    ∷ (codes "notnull", m.NotNull)
    ∷ (codes "null", m.Null)
    ∷ (codes "offset", m.Offset)
    ∷ (codes "on", m.On)
    ∷ (codes "or", m.Or)
    ∷ (codes "order", m.Order)
    ∷ (codes "outer", m.Outer)
    ∷ (codes "over", m.Over)
    ∷ (codes "partition", m.Partition)
    ∷ (codes "primary", m.Primary)
    ∷ (codes "range", m.Range)
    ∷ (codes "right", m.Right)
    ∷ (codes "rows", m.Rows)
    ∷ (codes "select", m.Select)
    ∷ (codes "table", m.Table)
    ∷ (codes "then", m.Then)
    ∷ (codes "true", m.True)
    ∷ (codes "union", m.Union)
    ∷ (codes "unique", m.Unique)
    ∷ (codes "using", m.Using)
    ∷ (codes "when", m.When)
    ∷ (codes "where", m.Where)
    ∷ (codes "window", m.Window)
    ∷ (codes "with", m.With)
    ∷ []

-- the symbols; `!=` is a second spelling of `<>`
abbrev pub symbols : List (List ℕ × Terminal)
symbols =
    (codes "(", m.LeftBracket)
    ∷ (codes ")", m.RightBracket)
    ∷ (codes ",", m.Comma)
    ∷ (codes ".", m.Dot)
    ∷ (codes ";", m.Semicolon)
    ∷ (codes "*", m.Star)
    ∷ (codes "+", m.Plus)
    ∷ (codes "-", m.Minus)
    ∷ (codes "/", m.Slash)
    ∷ (codes "%", m.Percent)
    ∷ (codes "=", m.Equals)
    ∷ (codes "<>", m.NotEquals)
    ∷ (codes "!=", m.NotEquals)
    ∷ (codes "<", m.Less)
    ∷ (codes "<=", m.LessOrEqual)
    ∷ (codes ">", m.Greater)
    ∷ (codes ">=", m.GreaterOrEqual)
    ∷ []

-- the terminal that a table has for a spelling
abbrev pub lookup : List (List ℕ × Terminal) → List ℕ → Option Terminal
lookup [] bytes = None
lookup (entry ∷ table) bytes = if bytes_eq entry.0 bytes then Some entry.1 else lookup table bytes

-- a number for each terminal
abbrev pub terminal_code : Terminal → ℕ
terminal_code m.All = 0
terminal_code m.And = 1
terminal_code m.As = 2
terminal_code m.Asc = 3
terminal_code m.By = 4
terminal_code m.Case = 5
terminal_code m.Constraint = 6
terminal_code m.Create = 7
terminal_code m.Cross = 8
terminal_code m.Desc = 9
terminal_code m.Distinct = 10
terminal_code m.Else = 11
terminal_code m.End = 12
terminal_code m.False = 13
terminal_code m.Fetch = 14
terminal_code m.From = 15
terminal_code m.Full = 16
terminal_code m.Group = 17
terminal_code m.Groups = 18
terminal_code m.Having = 19
terminal_code m.Inner = 20
terminal_code m.Is = 21
terminal_code m.IsNull = 22
terminal_code m.Join = 23
terminal_code m.Left = 24
terminal_code m.Limit = 25
terminal_code m.Natural = 26
terminal_code m.Not = 27
terminal_code m.NotNull = 28
terminal_code m.Null = 29
terminal_code m.Offset = 30
terminal_code m.On = 31
terminal_code m.Or = 32
terminal_code m.Order = 33
terminal_code m.Outer = 34
terminal_code m.Over = 35
terminal_code m.Partition = 36
terminal_code m.Primary = 37
terminal_code m.Range = 38
terminal_code m.Right = 39
terminal_code m.Rows = 40
terminal_code m.Select = 41
terminal_code m.Table = 42
terminal_code m.Then = 43
terminal_code m.True = 44
terminal_code m.Union = 45
terminal_code m.Unique = 46
terminal_code m.Using = 47
terminal_code m.When = 48
terminal_code m.Where = 49
terminal_code m.Window = 50
terminal_code m.With = 51
terminal_code m.LeftBracket = 52
terminal_code m.RightBracket = 53
terminal_code m.Comma = 54
terminal_code m.Dot = 55
terminal_code m.Semicolon = 56
terminal_code m.Star = 57
terminal_code m.Plus = 58
terminal_code m.Minus = 59
terminal_code m.Slash = 60
terminal_code m.Percent = 61
terminal_code m.Equals = 62
terminal_code m.NotEquals = 63
terminal_code m.Less = 64
terminal_code m.LessOrEqual = 65
terminal_code m.Greater = 66
terminal_code m.GreaterOrEqual = 67

-- the terminals in the order of their numbers
abbrev pub all_terminals : List Terminal
all_terminals =
    m.All ∷ m.And ∷ m.As ∷ m.Asc ∷ m.By ∷ m.Case ∷ m.Constraint ∷ m.Create
    ∷ m.Cross ∷ m.Desc ∷ m.Distinct ∷ m.Else ∷ m.End ∷ m.False ∷ m.Fetch ∷ m.From
    ∷ m.Full ∷ m.Group ∷ m.Groups ∷ m.Having ∷ m.Inner ∷ m.Is ∷ m.IsNull ∷ m.Join
    ∷ m.Left ∷ m.Limit ∷ m.Natural ∷ m.Not ∷ m.NotNull ∷ m.Null ∷ m.Offset ∷ m.On
    ∷ m.Or ∷ m.Order ∷ m.Outer ∷ m.Over ∷ m.Partition ∷ m.Primary ∷ m.Range ∷ m.Right
    ∷ m.Rows ∷ m.Select ∷ m.Table ∷ m.Then ∷ m.True ∷ m.Union ∷ m.Unique ∷ m.Using
    ∷ m.When ∷ m.Where ∷ m.Window ∷ m.With ∷ m.LeftBracket ∷ m.RightBracket ∷ m.Comma ∷ m.Dot
    ∷ m.Semicolon ∷ m.Star ∷ m.Plus ∷ m.Minus ∷ m.Slash ∷ m.Percent ∷ m.Equals ∷ m.NotEquals
    ∷ m.Less ∷ m.LessOrEqual ∷ m.Greater ∷ m.GreaterOrEqual ∷ []

-- the terminal of that number
abbrev pub terminal_at : ℕ → Terminal
terminal_at code = slice_index_or all_terminals code m.GreaterOrEqual
