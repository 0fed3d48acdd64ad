-- What the definitions of lines imply.
use Rattle.std.specs.Prelude.{◌≡◌, ℕ, List, map}
use Rattle.serde_json.specs.Data.{Data}
use Rattle.wd_json_lines.specs.Lines.{AreLines}

-- lines are those of at most one list of JSON values
abbrev pub HaveOneList : {A : Type 0} → (A → Data) → Type 0
HaveOneList {A} json = (bytes : List ℕ) (xs ys : List A) → AreLines json xs bytes → AreLines json ys bytes → map json xs ≡ map json ys
