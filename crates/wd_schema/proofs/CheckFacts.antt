-- The tests of a declaration decide what it has to keep.
use Rattle.std.proofs.Common.{◌≡◌, ◌≢◌, ◌∙◌, ◌<◌, sym, ap, subst, ℕ, ◌+◌, take, length, get_or, List, [], ◌∷◌, ◌++◌, Bool, true, false, refl, arith, add-one, map}
use Rattle.std.proofs.lemmas.Bool.{true≢false}
use Rattle.std.proofs.lemmas.List.{length-map, length-take, get_or-map, get_or-take}
use Rattle.std.proofs.lemmas.List.Quantifiers.{all_pairs_push}
use Rattle.std.proofs.lemmas.Map.Views.{Contains-from_any}
use Rattle.std.proofs.lemmas.Slice.Eq.{bytes_eq-Decides}
use Rattle.std.proofs.Math.Seq.{take-suc}
use Rattle.std.specs.List.{list_any, All, AllPairs, Contains}
use Rattle.std.specs.Str.{bytes_eq}
use Rattle.wd_schema.proofs.MeetsFacts.{none_from_test}

no_if : (b : Bool) → (b ≡ true → ⊥) → b ≡ false
no_if true h = absurd (h refl)
no_if false h = refl

pub other_bytes : (a b : List ℕ) → (b ≡ a → ⊥) → bytes_eq a b ≡ false
other_bytes a b ne = no_if (bytes_eq a b) (λ t. ne (sym ((bytes_eq-Decides a b).0 t)))

pub differs_more : (names : List (List ℕ)) (i : ℕ) (x : List ℕ) → i < length names → get_or names i x ≡ x → list_any (bytes_eq x) (take i names) ≡ false → AllPairs (λ a b. a ≢ b) (take i names) → AllPairs (λ a b. a ≢ b) (take (i + 1) names)
differs_more names i x within is none differ =
    let Differ : List (List ℕ) → Type 0 = λ xs. AllPairs (λ a b. a ≢ b) xs in
    let e : take (i + 1) names ≡ take i names ++ x ∷ [] = ap (λ n. take n names) (add-one i) ∙ take-suc names i x within ∙ ap (λ y. take i names ++ y ∷ []) is in
    let other : (k : ℕ) (d : List ℕ) → k < length (take i names) → get_or (take i names) k d ≢ x =
    λ k d lt same. true≢false (sym ((bytes_eq-Decides x (get_or (take i names) k d)).1 (sym same)) ∙ none_from_test (bytes_eq x) (take i names) none k d lt) in
    subst Differ (sym e) (all_pairs_push (λ a b. a ≢ b) (take i names) x differ other)

pub repeat_found : (names : List (List ℕ)) (i : ℕ) (x : List ℕ) → i < length names → get_or names i x ≡ x → list_any (bytes_eq x) (take i names) ≡ true → AllPairs (λ a b. a ≢ b) names → ⊥
repeat_found names i x within is some differ =
    let found : Contains (take i names) x = Contains-from_any (λ a b. (bytes_eq-Decides a b).0) x (take i names) some in
    let below : found.0 < i = omega (arith, length-take i names, found.1) in
    differ found.0 i x below within (sym (get_or-take i names found.0 x below) ∙ found.2 ∙ sym is)

-- what holds of each image holds of that of an element
pub at_image : {X Y : Type 0} (P : Y → Type 0) (f : X → Y) (xs : List X) (i : ℕ) (x : X) → i < length xs → x ≡ get_or xs i x → All P (map f xs) → P (f x)
at_image P f xs i x within is all = subst P (get_or-map f xs i x (f x) within ∙ ap f (sym is)) (all i (f x) (rw length-map within))

-- what holds of each two holds of each two among the first
pub pairs_take : {X : Type 0} (R : X → X → Type 0) (n : ℕ) (xs : List X) → AllPairs R xs → AllPairs R (take n xs)
pairs_take R n xs pairs = λ i j d lt within.
    let below : j < n = omega (arith, length-take n xs) in
    let whole : j < length xs = omega (arith, length-take n xs) in
    rw (get_or-take n xs i d (omega arith), get_or-take n xs j d below) (pairs i j d lt whole)
