-- Tokens that a function added to others.
use Rattle.std.specs.Prelude.{◌≡◌, ◌++◌, ◌<◌, ◌≤◌, ℕ, List, length, Result, Ok, Err}
use Rattle.wd_lex.specs.declared.token.Token.{Token}
use Rattle.wd_equations.specs.declared.error.ExpandError.{ExpandError}
use Rattle.wd_equations.specs.declared.error.ExpandError.TheVariants as e

-- the most tokens that are written (this project's choice)
abbrev pub most_tokens : ℕ
most_tokens = 65536

-- An error of adding tokens to others: they would be too many, unless memory ran out.
abbrev pub Fails : ExpandError → List Token → List Token → Type 0
Fails e.TooLong old added = most_tokens < length (old ++ added)
Fails e.OutOfMemory old added = Unit {0}

-- A function added these tokens to others, all of them, or refused.
abbrev pub Adds : {X : Type 0} → Result X ExpandError → List Token → List Token → List Token → Type 0
Adds (Ok x) old new added = (new ≡ old ++ added) × (length new ≤ most_tokens)
Adds (Err refusal) old new added = Fails refusal old added
