-- Lists each of whose elements has to be read.
use Rattle.std.specs.Prelude.{List, ◌∷◌, Option, Some, None}

-- an element before those that are read
abbrev pub with_front : {A : Type 0} → A → Option (List A) → Option (List A)
with_front first None = None
with_front first (Some rest) = Some (first ∷ rest)
