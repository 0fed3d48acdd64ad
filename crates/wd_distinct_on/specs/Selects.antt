-- A query whose selects are respelled from the last to the first, so that each is respelled before the select that it is part of.
use Rattle.std.specs.Prelude.{ℕ, zero, suc, ◌-◌, ◌==◌, if◌then◌else◌, nat_lt, Bool, List, length, drop, Option, Some, None, Result, Ok, Err}
use Rattle.wd_lex.specs.declared.token.Token.{Token}
use Rattle.wd_clauses.specs.declared.error.RespellError.{RespellError}
use Rattle.wd_clauses.specs.declared.error.RespellError.TheVariants.{TooLong}
use Rattle.wd_clauses.specs.Given.{most_tokens}

-- how many selects are left to be looked at, if one may begin here
abbrev pub fewer : (List Token → Bool) → ℕ → List Token → ℕ
fewer begins left tokens = if begins tokens then left - 1 else left

-- the search goes on with the query as it is, or with the respelled query, if that is not too long
abbrev pub turned : (List Token → Result (List Token) RespellError) → List Token → Option (List Token) → Result (List Token) RespellError
turned go tokens None = go tokens
turned go tokens (Some new) = if nat_lt most_tokens (length new) then Err TooLong else go new

-- a query in which selects are respelled that begin at the first N places, from the last to the first, at most the given number of them
unfoldable pub respelled_below : (List Token → Bool) → (ℕ → List Token → Option (List Token)) → ℕ → ℕ → List Token → Result (List Token) RespellError
respelled_below begins respell_at left zero tokens = Ok tokens
respelled_below begins respell_at left (suc place) tokens =
    if left == 0 then Ok tokens
    else turned (λ query. respelled_below begins respell_at (fewer begins left (drop place tokens)) place query) tokens (respell_at place tokens)

-- a query in which at most the given number of selects are looked at, and each is respelled at its place if it can be
abbrev pub respell_backwards : (List Token → Bool) → (ℕ → List Token → Option (List Token)) → ℕ → List Token → Result (List Token) RespellError
respell_backwards begins respell_at most tokens = if nat_lt most_tokens (length tokens) then Err TooLong else respelled_below begins respell_at most (length tokens) tokens
