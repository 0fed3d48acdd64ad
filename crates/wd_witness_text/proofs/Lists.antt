-- Lists that are written, against those that they spell.
use Rattle.std.proofs.Common.{◌≡◌, ℕ, ◌+◌, ◌<◌, List, [], ◌∷◌, ◌++◌, length, get_or, map, take, Vec, Global, refl, sym, ap, ◌∙◌}
use Rattle.std.proofs.lemmas.List.{map-append, take_more}
use Rattle.serde_json.specs.Data.{Data}
use Rattle.wd_value.specs.Rows.{rows_of}
use Rattle.wd_value.specs.declared.value.Value.{Value as SpecValue}
use Rattle.wd_witness_text.specs.Json.{row_json}

-- with one more element on both sides the lists spell the same
pub one_more : {A X : Type 0} (f : A → Data) (g : X → Data) (vs ws : List A) (v : A) (xs : List X) (i : ℕ) (x : X)
    → ws ≡ vs ++ v ∷ [] → map f vs ≡ map g (take i xs) → i < length xs → x ≡ get_or xs i x → f v ≡ g x → map f ws ≡ map g (take (i + 1) xs)
one_more f g vs ws v xs i x pushed before within is e =
    ap (map f) pushed ∙ map-append f vs (v ∷ []) ∙ rw (before, e, is) (sym (ap (map g) (take_more xs i x within) ∙ map-append g (take i xs) (get_or xs i x ∷ [])))

-- rows of the code and as lists
pub rows_spelled : (rows : List (Vec SpecValue Global)) → map (λ r. row_json r.items) rows ≡ map row_json (rows_of rows)
rows_spelled [] = refl
rows_spelled (r ∷ rows) = ap (λ ds. row_json r.items ∷ ds) (rows_spelled rows)
