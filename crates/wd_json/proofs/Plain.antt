-- Lists and numbers have no float, and how deep they nest.
use Rattle.std.proofs.Common.{◌≡◌, ℕ, ◌≤◌, List, [], ◌∷◌, map, Option, Some, None, false, refl, arith}
use Rattle.serde_json.specs.Data.{Data, depth, items_depth}
use Rattle.serde_json.specs.View.{items_of}
use Rattle.serde_json.specs.Written.{has_float, items_have_float}
use Rattle.wd_json.specs.Json.{number_json, list_json, optional_json}

pub no_float : {A : Type 0} (f : A → Data) → ((x : A) → has_float (f x) ≡ false) → (xs : List A) → items_have_float (items_of (map f xs)) ≡ false
no_float f each [] = refl
no_float f each (x ∷ xs) = rw (each x, no_float f each xs)

pub deep : {A : Type 0} (f : A → Data) (n : ℕ) → ((x : A) → depth (f x) ≤ n) → (xs : List A) → items_depth (items_of (map f xs)) ≤ n
deep f n each [] = omega arith
deep f n each (x ∷ xs) = omega (arith, each x, deep f n each xs)

pub plain_numbers : (ns : List ℕ) → has_float (list_json number_json ns) ≡ false
plain_numbers ns = no_float number_json (λ n. refl) ns

pub plain_optional : (o : Option ℕ) → has_float (optional_json o) ≡ false
plain_optional None = refl
plain_optional (Some n) = refl

pub deep_optional : (o : Option ℕ) → depth (optional_json o) ≤ 0
deep_optional None = omega arith
deep_optional (Some n) = omega arith
