-- The select that replaces one with GROUP BY: its keys are columns, and those for expressions are made by FROM ( SELECT * , e AS "group
-- 1" FROM .. WHERE .. ) AS a.
use Rattle.std.specs.Prelude.{ℕ, List, [], ◌∷◌, ◌++◌, Option, Some, None}
use Rattle.wd_lex.specs.declared.token.Terminal.TheVariants as m
use Rattle.wd_lex.specs.declared.token.Token.{Token}
use Rattle.wd_clauses.specs.Added.{added}
use Rattle.wd_distinct_on.specs.Written.{added_name, all_added, all_placed, comma_before, placed}
use Rattle.wd_grouping.specs.Keys.{GroupKey}
use Rattle.wd_grouping.specs.Pieces.{GroupedPieces, OneTable}
use Rattle.wd_grouping.specs.Replaced.{qualified, replaced, replaced_items}

abbrev pub key_by : Option Token → Token → List Token → Option (List ℕ) → List Token
key_by table word value None = qualified table value
key_by table word value (Some name) = added_name name word ∷ []

-- columns, one after another
abbrev pub listed : List GroupKey → Option Token → Token → List Token
listed [] table word = []
listed (key ∷ keys) table word = key_by table word key.value key.name ++ comma_before keys word ++ listed keys table word

-- GROUP BY columns
abbrev pub grouped : GroupedPieces → Option Token → List GroupKey → List Token
grouped select table keys = select.group ∷ select.by ∷ listed keys table select.group

-- , e AS "group 1"
abbrev pub column_by : Token → List Token → Option (List ℕ) → List Token
column_by word value None = []
column_by word value (Some name) = added m.Comma word ∷ (all_placed value word ++ added m.As word ∷ added_name name word ∷ [])

abbrev pub columns : List GroupKey → Token → List Token
columns [] word = []
columns (key ∷ keys) word = column_by word key.value key.name ++ columns keys word

-- FROM ( SELECT *
unfoldable pub opening : Token → List Token
opening word = all_added (m.From ∷ m.LeftBracket ∷ m.Select ∷ m.Star ∷ []) word

-- ) AS a
abbrev pub closing : Token → Token → List Token
closing alias word = all_added (m.RightBracket ∷ m.As ∷ []) word ++ placed alias word ∷ []

-- FROM ( SELECT * , e AS "group 1" FROM .. WHERE .. ) AS a
abbrev pub table : GroupedPieces → OneTable → List GroupKey → List Token
table select one keys = opening one.from ++ columns keys one.from ++ select.select.tables ++ select.condition ++ closing one.alias one.from

-- SELECT [DISTINCT]
abbrev pub select_words : GroupedPieces → List Token
select_words select = select.select.select ∷ select.select.distinct

-- SELECT [DISTINCT] items FROM tables [WHERE ..]
abbrev pub before_keys : GroupedPieces → List Token
before_keys select = select_words select ++ select.select.items ++ select.select.tables ++ select.condition

-- the select whose keys are columns of its tables, and what follows it
abbrev pub written_over : GroupedPieces → List GroupKey → List Token
written_over select keys = before_keys select ++ grouped select None keys ++ select.later ++ select.select.after

-- SELECT [DISTINCT] items FROM ( SELECT * , e AS "group 1" FROM .. ) AS a
abbrev pub head : GroupedPieces → OneTable → List (List Token) → List GroupKey → List Token
head select one items keys = select_words select ++ replaced_items keys one.qualifier select.select.select items ++ table select one keys

-- GROUP BY columns and the clauses after them
abbrev pub tail : GroupedPieces → OneTable → List GroupKey → List Token
tail select one keys = grouped select one.qualifier keys ++ replaced keys one.qualifier 0 select.select.select.kind select.later ++ select.select.after

-- the select over the table that has its keys, and what follows it
abbrev pub written : GroupedPieces → OneTable → List (List Token) → List GroupKey → List Token
written select one items keys = head select one items keys ++ tail select one keys
