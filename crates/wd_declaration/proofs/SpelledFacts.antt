-- The tokens of declarations can be printed, and are those of a schema.
use Rattle.std.proofs.Common.{◌≡◌, ◌≢◌, ℕ, ◌<◌, codes, Bool, true, false, List, [], ◌∷◌, length, map, refl, ap, sym, subst, arith}
use Rattle.std.specs.List.{All}
use Rattle.std.proofs.lemmas.List.{length-map}
use Rattle.std.proofs.lemmas.List.Elements.{All-nil, All-cons}
use Rattle.wd_value.specs.declared.value.ColumnType.{ColumnType}
use Rattle.wd_value.specs.declared.value.ColumnType.TheVariants.{SmallInt, Integer, BigInt, Text, Boolean}
use Rattle.wd_lex.specs.declared.token.Terminal.{Terminal}
use Rattle.wd_lex.specs.declared.token.Terminal.TheVariants as m
use Rattle.wd_lex.specs.declared.token.TokenKind.{TokenKind}
use Rattle.wd_lex.specs.declared.token.TokenKind.TheVariants as k
use Rattle.wd_lex.specs.Lexed.{IsReadable}
use Rattle.wd_read_cursor.specs.Tokens.{Kinds, ◌▸◌, name_kind}
use Rattle.wd_read_statements.specs.declared.syntax.KeyWords.{KeyWords}
use Rattle.wd_read_statements.specs.declared.syntax.KeyWords.TheVariants.{Primary, Unique}
use Rattle.wd_read_statements.specs.declared.syntax.Nulls.{Nulls}
use Rattle.wd_read_statements.specs.declared.syntax.Nulls.TheVariants.{Unsaid, Distinct, NotDistinct}
use Rattle.wd_read_statements.specs.Grammar.{HasColumns, IsSchema, IsTable, listed, spell_column, spell_element, spell_key, spell_name, spell_nulls, spell_rules, spell_schema, spell_table, spell_words}
use Rattle.wd_read_statements.specs.Written.{Column, Key}
use Rattle.wd_print.specs.Printed.{HasTokens, IsPlainWord, IsPrintable, printed}
use Rattle.wd_print.proofs.PrintedFacts.{printed_is_read}
use Rattle.wd_declaration.specs.declared.identifier.Identifier.{Identifier}
use Rattle.wd_declaration.specs.declared.declaration.DeclaredColumn.{DeclaredColumn}
use Rattle.wd_declaration.specs.declared.declaration.DeclaredKey.{DeclaredKey}
use Rattle.wd_declaration.specs.declared.declaration.DeclaredElement.{DeclaredElement}
use Rattle.wd_declaration.specs.declared.declaration.DeclaredElement.TheVariants as e
use Rattle.wd_declaration.specs.declared.declaration.Declaration.{Declaration}
use Rattle.wd_declaration.specs.Spelled.{Spells, column_of, element_of, key_of, name_of, rules_of, schema_of, table_of, tables_of, type_word}

abbrev Prints : Kinds → Type 0
Prints kinds = All IsPrintable kinds

add : (kind : TokenKind) (kinds : Kinds) → IsPrintable kind → Prints kinds → Prints (kind ∷ kinds)
add kind kinds first others = All-cons IsPrintable kind kinds first others

terminal : (t : Terminal) (kinds : Kinds) → Prints kinds → Prints (t ▸ kinds)
terminal t kinds prints = add (k.Terminal t) kinds tt prints

list_prints : {X A : Type 0} (tree : X → A) (spell : A → Kinds → Kinds) (t : Terminal) (xs : List X) (rest : Kinds)
    → ((x : X) (r : Kinds) → Prints r → Prints (spell (tree x) r)) → Prints rest → Prints (listed t spell (map tree xs) rest)
list_prints tree spell t [] rest each prints = prints
list_prints tree spell t (x ∷ []) rest each prints = each x rest prints
list_prints tree spell t (x ∷ y ∷ xs) rest each prints =
    each x (t ▸ listed t spell (map tree (y ∷ xs)) rest) (terminal t (listed t spell (map tree (y ∷ xs)) rest) (list_prints tree spell t (y ∷ xs) rest each prints))

name_prints : (name : Identifier) (rest : Kinds) → Prints rest → Prints (spell_name (name_of name) rest)
name_prints name rest prints = add (k.Quoted name.text) rest name.some prints

type_plain : (kind : ColumnType) → IsPlainWord (type_word kind)
type_plain SmallInt = record { run = (refl, refl); lower = refl; free = refl }
type_plain Integer = record { run = (refl, refl); lower = refl; free = refl }
type_plain BigInt = record { run = (refl, refl); lower = refl; free = refl }
type_plain Text = record { run = (refl, refl); lower = refl; free = refl }
type_plain Boolean = record { run = (refl, refl); lower = refl; free = refl }

key_plain : IsPlainWord (codes "key")
key_plain = record { run = (refl, refl); lower = refl; free = refl }

nulls_plain : IsPlainWord (codes "nulls")
nulls_plain = record { run = (refl, refl); lower = refl; free = refl }

rules_print : (not_null : Bool) (rest : Kinds) → Prints rest → Prints (spell_rules (rules_of not_null) rest)
rules_print false rest prints = prints
rules_print true rest prints = terminal m.Not (m.Null ▸ rest) (terminal m.Null rest prints)

column_prints : (column : DeclaredColumn) (rest : Kinds) → Prints rest → Prints (spell_column (column_of column) rest)
column_prints column rest prints =
    let after = spell_rules (rules_of column.not_null) rest in
    add (k.Quoted column.name.text) (k.Word (type_word column.kind) ∷ after) column.name.some (add (k.Word (type_word column.kind)) after (type_plain column.kind) (rules_print column.not_null rest prints))

nulls_print : (nulls : Nulls) (rest : Kinds) → Prints rest → Prints (spell_nulls nulls rest)
nulls_print Unsaid rest prints = prints
nulls_print Distinct rest prints = add (k.Word (codes "nulls")) (m.Distinct ▸ rest) nulls_plain (terminal m.Distinct rest prints)
nulls_print NotDistinct rest prints = add (k.Word (codes "nulls")) (m.Not ▸ m.Distinct ▸ rest) nulls_plain (terminal m.Not (m.Distinct ▸ rest) (terminal m.Distinct rest prints))

words_print : (words : KeyWords) (rest : Kinds) → Prints rest → Prints (spell_words words rest)
words_print Primary rest prints = terminal m.Primary (k.Word (codes "key") ∷ rest) (add (k.Word (codes "key")) rest key_plain prints)
words_print (Unique nulls) rest prints = terminal m.Unique (spell_nulls nulls rest) (nulls_print nulls rest prints)

key_prints : (key : DeclaredKey) (rest : Kinds) → Prints rest → Prints (spell_key (key_of key) rest)
key_prints key rest prints =
    let end = m.RightBracket ▸ rest in
    let names = listed m.Comma spell_name (map name_of key.columns.items) end in
    words_print key.words (m.LeftBracket ▸ names) (terminal m.LeftBracket names (list_prints name_of spell_name m.Comma key.columns.items end name_prints (terminal m.RightBracket rest prints)))

element_prints : (element : DeclaredElement) (rest : Kinds) → Prints rest → Prints (spell_element (element_of element) rest)
element_prints (e.Column column) rest prints = column_prints column rest prints
element_prints (e.Key key) rest prints = key_prints key rest prints

table_prints : (table : Declaration) (rest : Kinds) → Prints rest → Prints (spell_table (table_of table) rest)
table_prints table rest prints =
    let end = m.RightBracket ▸ rest in
    let elements = listed m.Comma spell_element (map element_of table.elements.items) end in
    let name = name_kind (name_of table.name) in
    terminal m.Create (m.Table ▸ (name ∷ (m.LeftBracket ▸ elements))) (terminal m.Table (name ∷ (m.LeftBracket ▸ elements)) (add name (m.LeftBracket ▸ elements) table.name.some
    (terminal m.LeftBracket elements (list_prints element_of spell_element m.Comma table.elements.items end element_prints (terminal m.RightBracket rest prints)))))

schema_prints : (tables : List Declaration) → Prints (spell_schema (schema_of tables))
schema_prints tables = list_prints table_of spell_table m.Semicolon tables [] table_prints (All-nil IsPrintable)

-- ---- the tree is a schema

map_some : {X Y : Type 0} (f : X → Y) (xs : List X) → 0 < length xs → map f xs ≢ []
map_some f xs some none = absurd (omega (arith, length-map xs f, ap length none))

elements_have : (elements : List DeclaredElement) → All HasColumns (map element_of elements)
elements_have [] = All-nil HasColumns
elements_have (e.Column column ∷ elements) = All-cons HasColumns (Column (column_of column)) (map element_of elements) tt (elements_have elements)
elements_have (e.Key key ∷ elements) = All-cons HasColumns (Key (key_of key)) (map element_of elements) (map_some name_of key.columns.items key.some) (elements_have elements)

table_is : (table : Declaration) → IsTable (table_of table)
table_is table = record { some = map_some element_of table.elements.items table.some; each = elements_have table.elements.items }

tables_are : (tables : List Declaration) → All IsTable (tables_of tables)
tables_are [] = All-nil IsTable
tables_are (table ∷ tables) = All-cons IsTable (table_of table) (tables_of tables) (table_is table) (tables_are tables)

-- printed declarations are spelled
pub printed_spells : (text : List ℕ) (tables : List Declaration) → text ≡ printed (spell_schema (schema_of tables)) → IsReadable (printed (spell_schema (schema_of tables))) → Spells text tables
printed_spells text tables is readable =
    let whole : IsSchema (schema_of tables) = record { tables = tables_are tables; ended = λ _. refl } in
    let kinds = spell_schema (schema_of tables) in
    let tokens = subst (λ t. HasTokens t kinds) (sym is) (printed_is_read kinds (schema_prints tables) readable) in
    record {
      whole = whole;
      spelled = tokens;
      declares = λ kept. record { tokens = tokens.tokens; tree = schema_of tables; lexed = tokens.lexed; spelled = tokens.are; whole = whole; kept = kept; are = refl };
    }
