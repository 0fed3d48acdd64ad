-- How a schema is spelled in tokens (this project's grammar of schemas, a part of SQL's CREATE TABLE).
use Rattle.std.specs.Prelude.{◌≡◌, ◌≢◌, ℕ, suc, ◌≤◌, Bool, true, false, List, [], ◌∷◌, ◌++◌, All, Option, Some, None, ⊤, length, take}
use Rattle.wd_lex.specs.declared.token.Terminal.{Terminal}
use Rattle.wd_lex.specs.declared.token.Terminal.TheVariants as m
use Rattle.wd_lex.specs.declared.token.TokenKind.TheVariants as k
use Rattle.wd_read_cursor.specs.declared.name.Name.{Name}
use Rattle.wd_read_cursor.specs.declared.words.KeyWord.TheVariants as w
use Rattle.wd_read_cursor.specs.Tokens.{Kinds, ◌▸◌, ◌▹◌, name_kind}
use Rattle.wd_read_statements.specs.declared.syntax.Nulls.{Nulls}
use Rattle.wd_read_statements.specs.declared.syntax.Nulls.TheVariants.{Unsaid, Distinct, NotDistinct}
use Rattle.wd_read_statements.specs.declared.syntax.KeyWords.{KeyWords}
use Rattle.wd_read_statements.specs.declared.syntax.KeyWords.TheVariants.{Primary, Unique}
use Rattle.wd_read_statements.specs.declared.syntax.Rule.{Rule}
use Rattle.wd_read_statements.specs.declared.syntax.Rule.TheVariants as rule
use Rattle.wd_read_statements.specs.declared.syntax.ColumnRule.{ColumnRule}
use Rattle.wd_read_statements.specs.Written.{ColumnTree, KeyTree, ElementTree, Column, Key, TableTree, SchemaTree}

-- each printer takes the tokens that follow
abbrev pub spell_name : Name → Kinds → Kinds
spell_name name rest = name_kind name ∷ rest

-- [NULLS [NOT] DISTINCT]
abbrev pub spell_nulls : Nulls → Kinds → Kinds
spell_nulls Unsaid rest = rest
spell_nulls Distinct rest = w.Nulls ▹ m.Distinct ▸ rest
spell_nulls NotDistinct rest = w.Nulls ▹ m.Not ▸ m.Distinct ▸ rest

-- PRIMARY KEY | UNIQUE [NULLS [NOT] DISTINCT]
abbrev pub spell_words : KeyWords → Kinds → Kinds
spell_words Primary rest = m.Primary ▸ w.Key ▹ rest
spell_words (Unique nulls) rest = m.Unique ▸ spell_nulls nulls rest

-- NOT NULL | NULL | the words of a key
abbrev pub spell_rule : Rule → Kinds → Kinds
spell_rule rule.NotNull rest = m.Not ▸ m.Null ▸ rest
spell_rule rule.Null rest = m.Null ▸ rest
spell_rule (rule.Key words) rest = spell_words words rest

-- [CONSTRAINT name]
abbrev pub spell_constraint : Option Name → Kinds → Kinds
spell_constraint None rest = rest
spell_constraint (Some name) rest = m.Constraint ▸ (name_kind name ∷ rest)

-- {[CONSTRAINT name] rule}
abbrev pub spell_rules : List ColumnRule → Kinds → Kinds
spell_rules [] rest = rest
spell_rules (r ∷ rules) rest = spell_constraint r.constraint (spell_rule r.rule (spell_rules rules rest))

-- items with a terminal between them
abbrev pub listed : {A : Type 0} → Terminal → (A → Kinds → Kinds) → List A → Kinds → Kinds
listed terminal spell [] rest = rest
listed terminal spell (x ∷ []) rest = spell x rest
listed terminal spell (x ∷ y ∷ others) rest = spell x (terminal ▸ listed terminal spell (y ∷ others) rest)

-- name type {rule}
abbrev pub spell_column : ColumnTree → Kinds → Kinds
spell_column column rest = name_kind column.name ∷ name_kind column.kind ∷ spell_rules column.rules rest

-- [CONSTRAINT name] words ( name {, name} )
abbrev pub spell_key : KeyTree → Kinds → Kinds
spell_key key rest = spell_constraint key.constraint (spell_words key.words (m.LeftBracket ▸ listed m.Comma spell_name key.columns (m.RightBracket ▸ rest)))

abbrev pub spell_element : ElementTree → Kinds → Kinds
spell_element (Column column) rest = spell_column column rest
spell_element (Key key) rest = spell_key key rest

-- CREATE TABLE name ( element {, element} )
abbrev pub spell_table : TableTree → Kinds → Kinds
spell_table table rest = m.Create ▸ m.Table ▸ (name_kind table.name ∷ (m.LeftBracket ▸ listed m.Comma spell_element table.elements (m.RightBracket ▸ rest)))

-- table {; table}
abbrev pub spell_tables : List TableTree → Kinds → Kinds
spell_tables tables rest = listed m.Semicolon spell_table tables rest

-- [;]
abbrev pub spell_stop : Bool → Kinds → Kinds
spell_stop true rest = m.Semicolon ▸ rest
spell_stop false rest = rest

-- [table {; table} [;]]
abbrev pub spell_schema : SchemaTree → Kinds
spell_schema schema = spell_tables schema.tables (spell_stop schema.ended [])

-- no list of columns is empty in a key
abbrev pub HasColumns : ElementTree → Type 0
HasColumns (Column column) = ⊤
HasColumns (Key key) = key.columns ≢ []

-- no list of elements or of columns is empty in a table
pub record IsTable (table : TableTree) : Type 0 where
  pub some : table.elements ≢ []
  pub each : All HasColumns table.elements

-- each table of a schema is one, and a semicolon comes only after a table
pub record IsSchema (schema : SchemaTree) : Type 0 where
  pub tables : All IsTable schema.tables
  pub ended : schema.tables ≡ [] → schema.ended ≡ false

-- a statement ends here: at a semicolon, or where no token is left
abbrev pub IsEnd : Kinds → Type 0
IsEnd [] = ⊤
IsEnd (k.Terminal m.Semicolon ∷ rest) = ⊤
IsEnd kinds = ⊥

-- the tables are the first statements of the tokens
pub record Begins (kinds : Kinds) (tables : List TableTree) : Type 0 where
  pub rest : Kinds
  pub each : All IsTable tables
  pub spelled : kinds ≡ spell_tables tables rest
  pub ends : tables ≢ [] → IsEnd rest

-- the tables are all the statements that the tokens begin with: any others that they begin with are the first of these
pub record AreStatements (kinds : Kinds) (tables : List TableTree) : Type 0 where
  pub begins : Begins kinds tables
  pub all : (others : List TableTree) → Begins kinds others → (more : List TableTree) × (tables ≡ others ++ more)

-- The first place where no schema continues: some schema has the tokens before it, and no schema has these and the token at the place;
-- where the place is the number of tokens, no schema ends there.
pub record IsUnexpected (kinds : Kinds) (place : ℕ) : Type 0 where
  pub within : place ≤ length kinds
  pub before : (tree : SchemaTree) × IsSchema tree × (take place (spell_schema tree) ≡ take place kinds)
  pub none : (tree : SchemaTree) → IsSchema tree → take (suc place) (spell_schema tree) ≢ take (suc place) kinds
