-- What a function of the code returned, compared with what respelling gives.
use Rattle.std.specs.Prelude.{◌≡◌, ℕ, ◌<◌, List, ◌++◌, length, Option, Some, None, Result, Ok, Err}
use Rattle.wd_lex.specs.declared.token.Token.{Token}
use Rattle.wd_clauses.specs.declared.error.RespellError.{RespellError}
use Rattle.wd_clauses.specs.declared.error.RespellError.TheVariants as e

-- the most tokens of a query (this project's choice)
abbrev pub most_tokens : ℕ
most_tokens = 65536

-- What a function returned, seen through `view`, is what was to be made, unless that is too long or memory ran out.
abbrev pub Makes : {X Y : Type 0} → (X → Y) → (Y → List Token) → Result X RespellError → Y → Type 0
Makes view tokens (Ok x) made = made ≡ view x
Makes view tokens (Err e.TooLong) made = most_tokens < length (tokens made)
Makes view tokens (Err e.OutOfMemory) made = Unit {0}

-- Tokens were appended to those written so far, unless all together are too long or memory ran out.
abbrev pub Writes : {X : Type 0} → List Token → List Token → Result X RespellError → List Token → Type 0
Writes old new (Ok x) piece = new ≡ old ++ piece
Writes old new (Err e.TooLong) piece = most_tokens < length (old ++ piece)
Writes old new (Err e.OutOfMemory) piece = Unit {0}

-- What a function found, seen through `view`, is what is read.
abbrev pub Finds : {X Y : Type 0} → (X → Y) → Option X → Option Y → Type 0
Finds view None read = read ≡ None
Finds view (Some x) read = read ≡ Some (view x)
