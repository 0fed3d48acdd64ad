-- How the tokens of a schema are read, from left to right.
use Rattle.std.specs.Prelude.{◌||◌, if◌then◌else◌, List, [], ◌∷◌, length, Bool, true, false, Option, Some, None, is_some, Ok}
use Rattle.wd_lex.specs.declared.token.Terminal.TheVariants as m
use Rattle.wd_read_cursor.specs.declared.name.Name.{Name}
use Rattle.wd_read_cursor.specs.declared.words.KeyWord.TheVariants as k
use Rattle.wd_read_cursor.specs.Tokens.{Kinds}
use Rattle.wd_read_cursor.specs.Cursor.{◌>>=◌, Parser, Chance, choose, eat, eat_word, expect, expect_word, name_at, many, list_at}
use Rattle.wd_read_statements.specs.declared.syntax.Nulls.{Nulls}
use Rattle.wd_read_statements.specs.declared.syntax.Nulls.TheVariants.{Unsaid, Distinct, NotDistinct}
use Rattle.wd_read_statements.specs.declared.syntax.KeyWords.{KeyWords}
use Rattle.wd_read_statements.specs.declared.syntax.KeyWords.TheVariants.{Primary, Unique}
use Rattle.wd_read_statements.specs.declared.syntax.Rule.{Rule}
use Rattle.wd_read_statements.specs.declared.syntax.Rule.TheVariants as rule
use Rattle.wd_read_statements.specs.declared.syntax.ColumnRule.{ColumnRule}
use Rattle.wd_read_statements.specs.Written.{ColumnTree, KeyTree, ElementTree, Column, Key, TableTree}

-- [NULLS [NOT] DISTINCT]
unfoldable pub nulls_at : Parser Nulls
nulls_at kinds =
    choose (eat_word k.Nulls kinds)
    (λ nulls. choose (eat m.Not nulls) (λ not. expect m.Distinct not >>= λ rest. Ok (NotDistinct, rest)) (expect m.Distinct nulls >>= λ rest. Ok (Distinct, rest)))
    (Ok (Unsaid, kinds))

-- PRIMARY KEY | UNIQUE [NULLS [NOT] DISTINCT]
unfoldable pub words_at : Parser KeyWords
words_at kinds =
    choose (eat m.Primary kinds) (λ primary. expect_word k.Key primary >>= λ rest. Ok (Primary, rest))
    (expect m.Unique kinds >>= λ unique. nulls_at unique >>= λ nulls. Ok (Unique nulls.0, nulls.1))

-- NOT NULL | NULL | the words of a key
unfoldable pub rule_at : Parser Rule
rule_at kinds =
    choose (eat m.Not kinds) (λ not. expect m.Null not >>= λ rest. Ok (rule.NotNull, rest))
    (choose (eat m.Null kinds) (λ rest. Ok (rule.Null, rest)) (words_at kinds >>= λ words. Ok (rule.Key words.0, words.1)))

-- [CONSTRAINT name]
unfoldable pub constraint_at : Parser (Option Name)
constraint_at kinds = choose (eat m.Constraint kinds) (λ rest. name_at rest >>= λ name. Ok (Some name.0, name.1)) (Ok (None, kinds))

unfoldable pub column_rule_at : Parser ColumnRule
column_rule_at kinds = constraint_at kinds >>= λ name. rule_at name.1 >>= λ r. Ok (record { constraint = name.0; rule = r.0 }, r.1)

-- a comma or a closing bracket ends a column
unfoldable pub ends_column : Kinds → Bool
ends_column kinds = is_some (eat m.Comma kinds) || is_some (eat m.RightBracket kinds)

-- a rule for a column, if the column's declaration does not end
unfoldable pub rule_if : Chance ColumnRule
rule_if kinds = if ends_column kinds then None else Some (column_rule_at kinds)

-- {[CONSTRAINT name] rule}
unfoldable pub rules_at : Parser (List ColumnRule)
rules_at kinds = many rule_if (length kinds) kinds

-- name type {rule}
unfoldable pub column_at : Parser ColumnTree
column_at kinds = name_at kinds >>= λ name. name_at name.1 >>= λ kind. rules_at kind.1 >>= λ rules. Ok (record { name = name.0; kind = kind.0; rules = rules.0 }, rules.1)

-- [CONSTRAINT name] words ( name {, name} )
unfoldable pub key_at : Parser KeyTree
key_at kinds =
    constraint_at kinds >>= λ name. words_at name.1 >>= λ words. expect m.LeftBracket words.1 >>= λ bracket. list_at m.Comma name_at bracket >>= λ columns. expect m.RightBracket columns.1
    >>= λ rest. Ok (record { constraint = name.0; words = words.0; columns = columns.0 }, rest)

-- the tokens begin a key that is an element of its own
unfoldable pub begins_key : Kinds → Bool
begins_key kinds = is_some (eat m.Constraint kinds) || is_some (eat m.Primary kinds) || is_some (eat m.Unique kinds)

unfoldable pub element_at : Parser ElementTree
element_at kinds =
    if begins_key kinds then (key_at kinds >>= λ key. Ok (Key key.0, key.1)) else (column_at kinds >>= λ column. Ok (Column column.0, column.1))

-- CREATE TABLE name ( element {, element} )
unfoldable pub table_at : Parser TableTree
table_at kinds =
    expect m.Create kinds >>= λ create. expect m.Table create >>= λ table. name_at table >>= λ name. expect m.LeftBracket name.1 >>= λ bracket. list_at m.Comma element_at bracket
    >>= λ elements. expect m.RightBracket elements.1 >>= λ rest. Ok (record { name = name.0; elements = elements.0 }, rest)

-- a semicolon, or the end of the tokens
unfoldable pub stop_at : Parser Bool
stop_at [] = Ok (false, [])
stop_at (y ∷ kinds) = expect m.Semicolon (y ∷ kinds) >>= λ rest. Ok (true, rest)

-- table [;]
unfoldable pub statement_at : Parser (TableTree × Bool)
statement_at kinds = table_at kinds >>= λ table. stop_at table.1 >>= λ stop. Ok ((table.0, stop.0), stop.1)
