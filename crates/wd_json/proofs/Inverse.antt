-- A JSON value is that of one list and of one number.
use Rattle.std.proofs.Common.{◌≡◌, ℕ, List, [], ◌∷◌, map, Some, None, refl, ap, ap₂}
use Rattle.serde_json.specs.Data.{Data, string}
use Rattle.serde_json.specs.View.{items_of}
use Rattle.wd_json.specs.Json.{number_json, list_json, optional_json, two_members_json}

-- no two x have one JSON value
abbrev pub One : {A : Type 0} → (A → Data) → Type 0
One {A} f = (x y : A) → f x ≡ f y → x ≡ y

one_items : {A : Type 0} (f : A → Data) → One f → (xs ys : List A) → items_of (map f xs) ≡ items_of (map f ys) → xs ≡ ys
one_items f one [] [] e = refl
one_items f one [] (y ∷ ys) e = absurd (cc)
one_items f one (x ∷ xs) [] e = absurd (cc)
one_items f one (x ∷ xs) (y ∷ ys) e =
    let first : f x ≡ f y = cc in
    let rest : items_of (map f xs) ≡ items_of (map f ys) = cc in
    ap₂ (λ a b. a ∷ b) (one x y first) (one_items f one xs ys rest)

pub one_list : {A : Type 0} (f : A → Data) → One f → One (list_json f)
one_list f one xs ys e = one_items f one xs ys (let h : items_of (map f xs) ≡ items_of (map f ys) = cc in h)

pub one_number : One number_json
one_number m n e = let h : m ≡ n = cc in h

pub one_optional : One optional_json
one_optional None None e = refl
one_optional None (Some n) e = absurd (cc)
one_optional (Some m) None e = absurd (cc)
one_optional (Some m) (Some n) e = let h : m ≡ n = cc in ap (λ x. Some x) h

pub two_same : (k l : List ℕ) (a b c d : Data) → two_members_json k a l b ≡ two_members_json k c l d → (a ≡ c) × (b ≡ d)
two_same k l a b c d e = (cc, cc)

pub string_same : (s t : List ℕ) → string s ≡ string t → s ≡ t
string_same s t e = cc

-- what a list of bytes reads as is one value
pub some_same : (d e : Data) → Some d ≡ Some e → d ≡ e
some_same d e h = cc
