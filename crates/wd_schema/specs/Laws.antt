-- Laws of schema texts, over the definitions alone.
use Rattle.std.specs.Prelude.{◌≡◌, ℕ, List}
use Rattle.wd_lex.specs.Lexed.{IsLexed, kinds_of}
use Rattle.wd_lex.specs.declared.token.Token.{Token}
use Rattle.wd_read_statements.specs.Grammar.{IsSchema, spell_schema}
use Rattle.wd_read_statements.specs.Written.{SchemaTree}
use Rattle.wd_schema.specs.declared.error.SchemaError.{SchemaError}
use Rattle.wd_schema.specs.declared.error.SchemaError.TheVariants.{Unexpected}
use Rattle.wd_schema.specs.Tables.{TableRule}
use Rattle.wd_schema.specs.Texts.{Declares, HasCause}

-- A text declares at most one list of tables.
abbrev pub HasOneMeaning : Type 0
HasOneMeaning = (text : List ℕ) (first second : List TableRule) → Declares text first → Declares text second → first ≡ second

-- A text that declares tables contains no cause of a refusal.
abbrev pub HasMeaningOrCause : Type 0
HasMeaningOrCause = (text : List ℕ) (tables : List TableRule) (refusal : SchemaError) → Declares text tables → HasCause text refusal → ⊥

-- Where a text is refused for an unexpected token, its tokens are no schema.
abbrev pub UnexpectedIsNoSchema : Type 0
UnexpectedIsNoSchema = (text : List ℕ) (place : ℕ) (tokens : List Token) (tree : SchemaTree) → HasCause text (Unexpected place) → IsLexed text tokens → IsSchema tree
    → kinds_of tokens ≡ spell_schema tree → ⊥
