-- What a function of the code returned, beside what a definition gives.
use Rattle.std.specs.Prelude.{◌≡◌, List, Option, Some, None}
use Rattle.std.specs.Borrow.{Bor}
use Rattle.wd_lex.specs.declared.token.Token.{Token}

-- What a function found, seen by view.
abbrev pub Finds : {X Y : Type 0} → (X → Y) → Option X → Option Y → Type 0
Finds view None found = found ≡ None
Finds view (Some x) found = found ≡ Some (view x)

-- two lists of tokens
abbrev pub pair : Bor (List Token) × Bor (List Token) → List Token × List Token
pair found = (found.0.now, found.1.now)
