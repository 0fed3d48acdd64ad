-- Laws of the trees of schemas and their tokens, over the definitions alone.
use Rattle.std.specs.Prelude.{◌≡◌, ℕ}
use Rattle.wd_read_cursor.specs.Tokens.{Kinds}
use Rattle.wd_read_statements.specs.Grammar.{IsSchema, IsUnexpected, spell_schema}
use Rattle.wd_read_statements.specs.Written.{SchemaTree}

-- A token list has at most one tree of a schema.
abbrev pub HasOneTree : Type 0
HasOneTree = (first second : SchemaTree) → IsSchema first → IsSchema second → spell_schema first ≡ spell_schema second → first ≡ second

-- A token list has at most one place where no schema continues.
abbrev pub HasOnePlace : Type 0
HasOnePlace = (kinds : Kinds) (first second : ℕ) → IsUnexpected kinds first → IsUnexpected kinds second → first ≡ second
