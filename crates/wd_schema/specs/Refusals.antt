-- The numbers and places of a schema's refusals.
use Rattle.std.specs.Prelude.{ℕ, Option, Some, None}
use Rattle.wd_lex.specs.Causes as tokens
use Rattle.wd_schema.specs.declared.error.SchemaError.{SchemaError}
use Rattle.wd_schema.specs.declared.error.SchemaError.TheVariants.{Tokens, TableTwice, ColumnTwice, UnknownColumn, SecondPrimaryKey, KeyColumnTwice, TooMany, UnknownType, NullForbidden, Unexpected, OutOfMemory}

abbrev pub number_of : SchemaError → Option ℕ
number_of (Tokens error) = tokens.number_of error
number_of TableTwice = Some 301
number_of ColumnTwice = Some 302
number_of UnknownColumn = Some 303
number_of SecondPrimaryKey = Some 304
number_of KeyColumnTwice = Some 305
number_of TooMany = Some 306
number_of UnknownType = Some 307
number_of NullForbidden = Some 308
number_of (Unexpected place) = Some 309
number_of OutOfMemory = None

-- a byte of the text for a refusal of its tokens, and the number of a token for 309
abbrev pub place_of : SchemaError → Option ℕ
place_of (Tokens error) = tokens.place_of error
place_of (Unexpected place) = Some place
place_of TableTwice = None
place_of ColumnTwice = None
place_of UnknownColumn = None
place_of SecondPrimaryKey = None
place_of KeyColumnTwice = None
place_of TooMany = None
place_of UnknownType = None
place_of NullForbidden = None
place_of OutOfMemory = None
