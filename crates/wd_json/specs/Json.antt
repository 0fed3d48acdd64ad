-- The JSON values of numbers, lists and objects, and what bytes are JSON of a value.
use Rattle.std.specs.Prelude.{◌≡◌, ℕ, List, map, Option, Some, None, IsUtf8}
use Rattle.serde_json.specs.Data.{Data, null, number, unsigned, array, object, member, no_members}
use Rattle.serde_json.specs.Read.{read}
use Rattle.serde_json.specs.View.{items_of}

-- a whole number
abbrev pub number_json : ℕ → Data
number_json n = number (unsigned n)

-- the list of the elements' JSON values
abbrev pub list_json : {A : Type 0} → (A → Data) → List A → Data
list_json f xs = array (items_of (map f xs))

-- a number, or null for none
abbrev pub optional_json : Option ℕ → Data
optional_json None = null
optional_json (Some n) = number_json n

-- an object of exactly two members
abbrev pub two_members_json : List ℕ → Data → List ℕ → Data → Data
two_members_json first a second b = object (member first a (member second b no_members))

-- the bytes are JSON of this value, in UTF-8
abbrev pub IsJsonOf : Data → List ℕ → Type 0
IsJsonOf d bytes = IsUtf8 bytes × (read bytes ≡ Some d)
