-- Laws of the dialect's schema texts, over the definitions alone.
use Rattle.std.specs.Prelude.{◌≡◌, ◌≢◌, ℕ, List}
use Rattle.wd_dialect_read.specs.Said.{StatementSaid}
use Rattle.wd_dialect_schema.specs.declared.error.DialectError.{DialectError}
use Rattle.wd_dialect_schema.specs.declared.error.DialectError.TheVariants.{TooLong}
use Rattle.wd_dialect_schema.specs.Texts.{HasCause, Says}

-- A text has at most one list of statements.
abbrev pub HasOneMeaning : Type 0
HasOneMeaning = (text : List ℕ) (first second : List StatementSaid) → Says text first → Says text second → first ≡ second

-- A text that has statements has no cause of a refusal, except that its text in the profile would be too long.
abbrev pub HasMeaningOrCause : Type 0
HasMeaningOrCause = (text : List ℕ) (statements : List StatementSaid) (refusal : DialectError) → Says text statements → refusal ≢ TooLong → HasCause text refusal → ⊥
