-- A query without WITH clauses within brackets. The last one is taken out first, so that a clause within another is taken out before it.
use Rattle.std.specs.Prelude.{ℕ, zero, suc, ◌-◌, ◌==◌, ◌<◌, ◌≡◌, ◌&&◌, if◌then◌else◌, nat_lt, Bool, false, List, [], ◌∷◌, ◌++◌, length, take, drop, Option, Some, None, Result, Ok, Err}
use Rattle.wd_lex.specs.declared.token.Token.{Token}
use Rattle.wd_clauses.specs.declared.error.RespellError.{RespellError}
use Rattle.wd_clauses.specs.declared.error.RespellError.TheVariants.{TooLong, OutOfMemory}
use Rattle.wd_clauses.specs.Given.{most_tokens}
use Rattle.wd_clauses.specs.Reach.{closing, opens}
use Rattle.wd_distinct_on.specs.Kinds.{begins}
use Rattle.wd_with.specs.Expanded.{Said, expanded}
use Rattle.wd_with.specs.Members.{is_with}

-- whether tokens begin with a bracket and WITH
abbrev pub begins_inner : List Token → Bool
begins_inner [] = false
begins_inner (bracket ∷ tokens) = opens bracket.kind && begins is_with tokens

-- a query in brackets, put between tokens
abbrev pub between : List Token → Token → Said → List Token → Said
between front bracket inner after = record { tokens = front ++ bracket ∷ (inner.tokens ++ after); read_twice = inner.read_twice }

-- the query up to the bracket that closes it, put between these tokens
abbrev pub up_to : List Token → Token → List Token → Option ℕ → Option Said
up_to front bracket tokens None = None
up_to front bracket tokens (Some place) = Some (between front bracket (expanded (take place tokens)) (drop place tokens))

abbrev pub opened : List Token → List Token → Option Said
opened front [] = None
opened front (bracket ∷ tokens) = if begins_inner (bracket ∷ tokens) then up_to front bracket tokens (closing tokens) else None

-- a query without the WITH clause in the bracket at a place, and the names that are read more than once there
unfoldable pub open_at : ℕ → List Token → Option Said
open_at place tokens = opened (take place tokens) (drop place tokens)

-- the most WITH clauses within brackets that are looked at (this project's choice)
abbrev pub most_inner : ℕ
most_inner = 128

abbrev pub fewer : ℕ → List Token → ℕ
fewer left tokens = if begins_inner tokens then left - 1 else left

-- a query, with these names before the names that are read more than once there
abbrev pub following : List Token → Said → Said
following names query = record { tokens = query.tokens; read_twice = names ++ query.read_twice }

abbrev pub turned : (Said → Result Said RespellError) → Said → Option Said → Result Said RespellError
turned go query None = go query
turned go query (Some new) = if nat_lt most_tokens (length new.tokens) then Err TooLong else go (following query.read_twice new)

-- a query without the WITH clauses in brackets at the first N places, from the last to the first, at most the given number of them
unfoldable pub opened_below : ℕ → ℕ → Said → Result Said RespellError
opened_below left zero query = Ok query
opened_below left (suc place) query =
    if left == 0 then Ok query else turned (opened_below (fewer left (drop place query.tokens)) place) query (open_at place query.tokens)

-- a query without WITH clauses within brackets, and the names that are read more than once there, those of the last clause first
abbrev pub without_inner : List Token → Result Said RespellError
without_inner tokens =
    if nat_lt most_tokens (length tokens) then Err TooLong
    else opened_below most_inner (length tokens) (let query : Said = record { tokens = tokens; read_twice = [] } in query)

-- What a function returned is the query that is given, unless memory ran out.
abbrev pub GivesSaid : {X : Type 0} → (X → Said) → Result X RespellError → Result Said RespellError → Type 0
GivesSaid view (Ok found) made = made ≡ Ok (view found)
GivesSaid view (Err TooLong) made = made ≡ Err TooLong
GivesSaid view (Err OutOfMemory) made = Unit {0}

abbrev pub IsTooLong : Option Said → Type 0
IsTooLong None = ⊥
IsTooLong (Some query) = most_tokens < length query.tokens

-- What a function returned is the query that is written, if that is not too long, unless memory ran out.
abbrev pub MaySay : {X : Type 0} → (X → Said) → Result (Option X) RespellError → Option Said → Type 0
MaySay view (Ok None) made = made ≡ None
MaySay view (Ok (Some found)) made = made ≡ Some (view found)
MaySay view (Err TooLong) made = IsTooLong made
MaySay view (Err OutOfMemory) made = Unit {0}
