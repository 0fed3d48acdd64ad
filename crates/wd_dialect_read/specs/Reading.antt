-- How the tokens of a schema are read, as PostgreSQL's tools write it. Tables are read, and what is added to them. Everything else in a
-- declaration is passed over: all tokens up to the next comma outside brackets, or to the end of the declaration. A statement or a
-- change of a table is passed over too if it begins with words after which everything that was read still holds; all others are
-- refused.
use Rattle.std.specs.Str.{bytes_eq}
use Rattle.std.specs.Prelude.{ℕ, ◌||◌, ◌&&◌, ◌==◌, if◌then◌else◌, codes, List, [], ◌∷◌, ◌++◌, length, Bool, true, false, Option, Some, None, is_some, Result, Ok, Err}
use Rattle.wd_lex.specs.declared.token.Terminal.TheVariants as m
use Rattle.wd_lex.specs.declared.token.TokenKind.{TokenKind}
use Rattle.wd_lex.specs.declared.token.TokenKind.TheVariants as t
use Rattle.wd_read_cursor.specs.declared.words.KeyWord.TheVariants as k
use Rattle.wd_read_cursor.specs.Tokens.{Kinds}
use Rattle.wd_read_cursor.specs.Cursor.{◌>>=◌, Fault, Parser, Chance, Reads, Unexpected, choose, eat, eat_word, expect, expect_word, is_terminal, name_at, number_at, many, list_at, some_or_unexpected}
use Rattle.wd_read_statements.specs.declared.syntax.Nulls.{Nulls}
use Rattle.wd_read_statements.specs.declared.syntax.Nulls.TheVariants.{Unsaid, Distinct, NotDistinct}
use Rattle.wd_read_statements.specs.declared.syntax.KeyWords.{KeyWords}
use Rattle.wd_read_statements.specs.declared.syntax.KeyWords.TheVariants.{Primary, Unique}
use Rattle.wd_dialect_read.specs.declared.kind.ColumnKind.{ColumnKind}
use Rattle.wd_dialect_read.specs.declared.kind.Modifier.{Modifier}
use Rattle.wd_dialect_read.specs.declared.kind.Modifier.TheVariants.{Nothing, One, Two, Array}
use Rattle.wd_dialect_read.specs.declared.said.Mark.{Mark}
use Rattle.wd_dialect_read.specs.declared.said.Note.{Note}
use Rattle.wd_dialect_read.specs.declared.said.Note.TheVariants as note
use Rattle.wd_dialect_read.specs.Said.{ColumnSaid, KeySaid, ItemSaid, Column, Key, Passed, StatementSaid, Table, Changed, Other}
use Rattle.wd_dialect_read.specs.Tokens.{begins_rule, depth_after, ends_item, is_among, is_text, kind_named, mark_of, note_in, table_notes, table_words, type_words, with_array, with_modifier}
use Rattle.wd_dialect_read.specs.Kept.{alter_words, change_words, column_words, create_words, drop_words, set_words, statement_words}

-- ---- single words

-- the tokens after this word, if they begin with it
unfoldable pub eat_text : List ℕ → Kinds → Option Kinds
eat_text word [] = None
eat_text word (y ∷ kinds) = if is_text word y then Some kinds else None

unfoldable pub expect_text : List ℕ → Kinds → Result Kinds Fault
expect_text word kinds = some_or_unexpected (length kinds) (eat_text word kinds)

-- a name that is not empty
unfoldable pub identifier_at : Parser (List ℕ)
identifier_at kinds = name_at kinds >>= λ name. if length name.0.text == 0 then Err (Unexpected (length kinds)) else Ok (name.0.text, name.1)

-- the tokens after the words of a list at the start
unfoldable pub past_words : List (List ℕ) → Kinds → Kinds
past_words words [] = []
past_words words (y ∷ kinds) = if is_among words y then past_words words kinds else y ∷ kinds

-- whether tokens begin with a word of a list
unfoldable pub begins_among : List (List ℕ) → Kinds → Bool
begins_among words [] = false
begins_among words (y ∷ kinds) = is_among words y

-- the tokens after a statement's semicolon
unfoldable pub past_statement : Kinds → Kinds
past_statement [] = []
past_statement (y ∷ kinds) = if is_terminal m.Semicolon y then kinds else past_statement kinds

-- name [. name [. name]]: the last of them
unfoldable pub qualified_at : Parser (List ℕ)
qualified_at kinds =
    identifier_at kinds >>= λ first. choose (eat m.Dot first.1)
    (λ dot. identifier_at dot >>= λ second. choose (eat m.Dot second.1) (λ last. identifier_at last) (Ok second))
    (Ok first)

-- ---- a column's type

-- number [, number] )
unfoldable pub numbers_at : Parser Modifier
numbers_at kinds =
    number_at kinds >>= λ first. choose (eat m.Comma first.1)
    (λ comma. number_at comma >>= λ second. expect m.RightBracket second.1 >>= λ rest. Ok (Two first.0 second.0, rest))
    (expect m.RightBracket first.1 >>= λ rest. Ok (One first.0, rest))

-- [( number [, number] ) | ( )]
unfoldable pub modifier_at : Parser Modifier
modifier_at kinds = choose (eat m.LeftBracket kinds) (λ inside. choose (eat m.RightBracket inside) (λ rest. Ok (Array, rest)) (numbers_at inside)) (Ok (Nothing, kinds))

-- [( )]
unfoldable pub array_at : Parser Bool
array_at kinds = choose (eat m.LeftBracket kinds) (λ inside. expect m.RightBracket inside >>= λ rest. Ok (true, rest)) (Ok (false, kinds))

-- [WITH] words
unfoldable pub past_zone : Kinds → Kinds
past_zone kinds = choose (eat m.With kinds) (λ rest. past_words type_words rest) (past_words type_words kinds)

-- name words [( number [, number] )] [WITH] words [( )]
unfoldable pub type_at : Parser ColumnKind
type_at kinds =
    qualified_at kinds >>= λ name. modifier_at (past_words type_words name.1) >>= λ modifier. array_at (past_zone modifier.1)
    >>= λ array. Ok (with_array array.0 (with_modifier (kind_named name.0) modifier.0), array.1)

-- ---- what comes after the type

abbrev pub with_marks : List Mark → List Mark × Kinds → List Mark × Kinds
with_marks marks read = (marks ++ read.0, read.1)

-- what a token says outside brackets
abbrev pub marks_at : ℕ → TokenKind → List Mark
marks_at depth y = if depth == 0 then mark_of y ∷ [] else []

-- what the tokens outside brackets say, up to a comma, a closing bracket or a semicolon; `depth` brackets are open
unfoldable pub tail_from : ℕ → Kinds → List Mark × Kinds
tail_from depth [] = ([], [])
tail_from depth (y ∷ kinds) = if depth == 0 && ends_item y then ([], y ∷ kinds) else with_marks (marks_at depth y) (tail_from (depth_after depth y) kinds)

-- whether a rule begins here, or the column ends
unfoldable pub begins_tail : Kinds → Bool
begins_tail [] = true
begins_tail (y ∷ kinds) = ends_item y || begins_rule (mark_of y)

unfoldable pub tail_at : Parser (List Mark)
tail_at kinds = if begins_tail kinds then Ok (tail_from 0 kinds) else Err (Unexpected (length kinds))

-- name type {rule}
unfoldable pub column_at : Parser ColumnSaid
column_at kinds = identifier_at kinds >>= λ name. type_at name.1 >>= λ kind. tail_at kind.1 >>= λ marks. Ok (record { name = name.0; kind = kind.0; marks = marks.0 }, marks.1)

-- ---- keys

-- [NULLS [NOT] DISTINCT]
unfoldable pub nulls_at : Parser Nulls
nulls_at kinds =
    choose (eat_word k.Nulls kinds)
    (λ nulls. choose (eat m.Not nulls) (λ not. expect m.Distinct not >>= λ rest. Ok (NotDistinct, rest)) (expect m.Distinct nulls >>= λ rest. Ok (Distinct, rest)))
    (Ok (Unsaid, kinds))

-- PRIMARY KEY | UNIQUE [NULLS [NOT] DISTINCT]
unfoldable pub words_at : Parser KeyWords
words_at kinds =
    choose (eat m.Primary kinds) (λ primary. expect_word k.Key primary >>= λ rest. Ok (Primary, rest))
    (expect m.Unique kinds >>= λ unique. nulls_at unique >>= λ nulls. Ok (Unique nulls.0, nulls.1))

-- ( name {, name} )
unfoldable pub names_at : Parser (List (List ℕ))
names_at kinds = expect m.LeftBracket kinds >>= λ inside. list_at m.Comma identifier_at inside >>= λ names. expect m.RightBracket names.1 >>= λ rest. Ok (names.0, rest)

-- words ( name {, name} ) ..
unfoldable pub key_at : Parser KeySaid
key_at kinds =
    words_at kinds >>= λ words. names_at words.1 >>= λ names. Ok (record { words = words.0; columns = names.0; marks = (tail_from 0 names.1).0 }, (tail_from 0 names.1).1)

unfoldable pub begins_key : Kinds → Bool
begins_key kinds = is_some (eat m.Primary kinds) || is_some (eat m.Unique kinds)

-- ---- entries between two commas

-- EXCLUDE [USING ..] ( .. ), which is not the name of a column
unfoldable pub exclude_note : Kinds → Option Note
exclude_note kinds = if is_some (eat m.Using kinds) || is_some (eat m.LeftBracket kinds) then Some note.Exclude else None

-- the note for what is passed over, by its first word
unfoldable pub note_at : Kinds → Option Note
note_at (t.Word word ∷ kinds) = if bytes_eq word (codes "exclude") then exclude_note kinds else note_in table_notes word
note_at _ = None

abbrev pub pass : Kinds → Option Note → Reads ItemSaid
pass kinds (Some found) = Ok (Passed found, (tail_from 0 kinds).1)
pass kinds None = Err (Unexpected (length kinds))

-- a key, or a rule that is passed over
unfoldable pub rule_at : Parser ItemSaid
rule_at kinds = if begins_key kinds then (key_at kinds >>= λ key. Ok (Key key.0, key.1)) else pass kinds (note_at kinds)

-- [CONSTRAINT name] rule | column
unfoldable pub item_at : Parser ItemSaid
item_at kinds =
    choose (eat m.Constraint kinds) (λ constraint. identifier_at constraint >>= λ name. rule_at name.1)
    (if begins_key kinds || is_some (note_at kinds) then rule_at kinds else (column_at kinds >>= λ column. Ok (Column column.0, column.1)))

-- ---- changes of a table

abbrev pub refused : {A : Type 0} → Parser A
refused kinds = Err (Unexpected (length kinds))

-- a change that is passed over if it begins with one of these words
unfoldable pub kept_change : List (List ℕ) → Parser ItemSaid
kept_change words kinds = if begins_among words kinds then pass kinds (Some note.Statement) else refused kinds

-- what is set for a table or a column: neither its schema nor its type
unfoldable pub set_at : Parser ItemSaid
set_at kinds = if begins_among set_words kinds then refused kinds else pass kinds (Some note.Statement)

-- [IF NOT EXISTS]
unfoldable pub past_not_exists : Parser Bool
past_not_exists kinds =
    choose (eat_text (codes "if") kinds) (λ word. expect m.Not word >>= λ not. expect_text (codes "exists") not >>= λ rest. Ok (true, rest)) (Ok (false, kinds))

-- [COLUMN]
unfoldable pub past_column : Kinds → Kinds
past_column kinds = choose (eat_text (codes "column") kinds) (λ rest. rest) kinds

-- [COLUMN] [IF NOT EXISTS] item
unfoldable pub added_at : Parser ItemSaid
added_at kinds = past_not_exists (past_column kinds) >>= λ exists. item_at exists.1

-- [COLUMN] name SET .. | DROP .. | ..
unfoldable pub altered_at : Parser ItemSaid
altered_at kinds =
    identifier_at (past_column kinds) >>= λ name. choose (eat_text (codes "set") name.1) set_at
    (choose (eat_text (codes "drop") name.1) (λ drop. kept_change drop_words drop) (kept_change column_words name.1))

-- ADD .. | ALTER .. | SET .. | ..
unfoldable pub change_at : Parser ItemSaid
change_at kinds =
    choose (eat_text (codes "add") kinds) added_at
    (choose (eat_text (codes "alter") kinds) altered_at (choose (eat_text (codes "set") kinds) set_at (kept_change change_words kinds)))

-- ---- statements

-- the end of a statement
unfoldable pub end_at : Kinds → Result Kinds Fault
end_at [] = Ok []
end_at (y ∷ kinds) = expect m.Semicolon (y ∷ kinds)

unfoldable pub passed_at : Parser StatementSaid
passed_at kinds = Ok (Other note.Statement, past_statement kinds)

-- a statement that is passed over if it continues with one of these words
unfoldable pub kept_statement : List (List ℕ) → Parser StatementSaid
kept_statement words kinds = if begins_among words kinds then passed_at kinds else refused kinds

-- ( item {, item} )
unfoldable pub items_at : Parser (List ItemSaid)
items_at kinds = expect m.LeftBracket kinds >>= λ inside. list_at m.Comma item_at inside >>= λ items. expect m.RightBracket items.1 >>= λ rest. Ok (items.0, rest)

-- what follows the brackets of a table: not INHERITS, since rows of such a table are rows of another table too
unfoldable pub table_end : Kinds → Result Kinds Fault
table_end kinds = if is_some (eat_text (codes "inherits") kinds) then Err (Unexpected (length kinds)) else Ok (past_statement kinds)

-- [IF NOT EXISTS] name ( item {, item} ) ..
unfoldable pub table_at : Parser StatementSaid
table_at kinds =
    past_not_exists kinds >>= λ exists. qualified_at exists.1 >>= λ name. items_at name.1 >>= λ items. table_end items.1 >>= λ rest. Ok (Table name.0 items.0, rest)

-- [OR REPLACE]
unfoldable pub past_replace : Kinds → Result Kinds Fault
past_replace kinds = choose (eat m.Or kinds) (λ rest. expect_text (codes "replace") rest) (Ok kinds)

-- [UNIQUE]
unfoldable pub past_unique : Kinds → Kinds
past_unique kinds = choose (eat m.Unique kinds) (λ rest. rest) kinds

-- [OR REPLACE] words (TABLE .. | [UNIQUE] ..)
unfoldable pub create_at : Parser StatementSaid
create_at kinds =
    past_replace kinds >>= λ words. choose (eat m.Table (past_words table_words words)) table_at
    (kept_statement create_words (past_unique (past_words table_words words)))

-- [IF EXISTS]
unfoldable pub past_exists : Parser Bool
past_exists kinds = choose (eat_text (codes "if") kinds) (λ word. expect_text (codes "exists") word >>= λ rest. Ok (true, rest)) (Ok (false, kinds))

-- [ONLY]
unfoldable pub past_only : Kinds → Kinds
past_only kinds = choose (eat_word k.Only kinds) (λ rest. rest) kinds

-- [IF EXISTS] [ONLY] name change {, change}
unfoldable pub changed_at : Parser StatementSaid
changed_at kinds =
    past_exists kinds >>= λ exists. qualified_at (past_only exists.1) >>= λ name. list_at m.Comma change_at name.1 >>= λ changes. end_at changes.1
    >>= λ rest. Ok (Changed name.0 changes.0, rest)

-- TABLE .. | ..
unfoldable pub alter_at : Parser StatementSaid
alter_at kinds = choose (eat m.Table kinds) changed_at (kept_statement alter_words kinds)

-- SELECT .. | ; | ..
unfoldable pub other_at : Parser StatementSaid
other_at kinds = if is_some (eat m.Select kinds) || is_some (eat m.Semicolon kinds) then passed_at kinds else kept_statement statement_words kinds

unfoldable pub statement_at : Parser StatementSaid
statement_at kinds = choose (eat m.Create kinds) create_at (choose (eat_text (codes "alter") kinds) alter_at (other_at kinds))

-- a statement begins where a token is left
unfoldable pub statement_if : Chance StatementSaid
statement_if [] = None
statement_if (y ∷ kinds) = Some (statement_at (y ∷ kinds))

-- {statement}
unfoldable pub statements_at : Parser (List StatementSaid)
statements_at kinds = many statement_if (length kinds) kinds
