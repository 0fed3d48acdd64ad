-- What is held of a list's elements while they are read.
use Rattle.std.specs.Prelude.{◌≡◌, ◌≢◌, List, map, All, Bool, true, false}
use Rattle.serde_json.specs.Data.{Data}

-- the elements are the JSON values of these, which all fit; or, once one is of another form, they are those of no list that fits
abbrev pub HoldsList : {A : Type 0} → (A → Data) → (A → Type 0) → List A → Bool → List Data → Type 0
HoldsList form Fits xs true ds = (ys : List _) → All Fits ys → ds ≢ map form ys
HoldsList form Fits xs false ds = (ds ≡ map form xs) × All Fits xs
