-- Lists of which each element has to be read.
use Rattle.std.proofs.Common.{◌≡◌, ◌++◌, List, [], ◌∷◌, map, Option, Some, None, refl, ap, sym, append_assoc}
use Rattle.std.proofs.lemmas.List.{map_push}
use Rattle.wd_distinct_on.specs.Lists.{with_front}

-- those after others
abbrev pub following : {A : Type 0} → List A → Option (List A) → Option (List A)
following front None = None
following front (Some found) = Some (front ++ found)

pub after_front : {A : Type 0} (front : List A) (first : A) (found : Option (List A)) → following front (with_front first found) ≡ following (front ++ first ∷ []) found
after_front front first None = refl
after_front {A} front first (Some found) = ap (λ (xs : List A). let m : Option (List A) = Some xs in m) (sym (append_assoc front (first ∷ []) found))

-- an element that was read stands after the others
pub after_push : {X A : Type 0} (view : X → A) (items pushed : List X) (first : X) (found : Option (List A)) → pushed ≡ items ++ first ∷ [] → following (map view pushed) found ≡ following (map view items) (with_front (view first) found)
after_push view items pushed first found e = rw (e, map_push view items first) (sym (after_front (map view items) (view first) found))
