-- What a typed read says of the value that it takes.
use Rattle.std.specs.Prelude.{◌≡◌, ◌≢◌, ℕ, List, Option, Some, None}
use Rattle.json.specs.Token.{Token}
use Rattle.serde_json.specs.Data.{Data}
use Rattle.wd_json_tokens.specs.Values.{value_at}

-- d is the JSON value of this x, or of none
abbrev pub IsForm : {A : Type 0} → (A → Data) → Option A → Data → Type 0
IsForm form (Some x) d = d ≡ form x
IsForm form None d = (x : _) → d ≢ form x

-- a value is taken from the tokens, which is the JSON value of this x, or of none
abbrev pub Takes : {A : Type 0} → (A → Data) → Option A → ℕ → List Token → List Token → Type 0
Takes form o depth old new = (d : Data) × (value_at depth old ≡ Some (d, new)) × IsForm form o d
