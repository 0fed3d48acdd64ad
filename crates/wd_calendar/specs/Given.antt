-- What a function of the code returned, compared with what a definition gives.
use Rattle.std.specs.Prelude.{◌≡◌, Option, Some, None}

-- What a function found, seen through `view`.
abbrev pub Finds : {X Y : Type 0} → (X → Y) → Option X → Option Y → Type 0
Finds view None found = found ≡ None
Finds view (Some x) found = found ≡ Some (view x)
