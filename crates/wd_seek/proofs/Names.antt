-- The names of a schema's tables differ, as the keys of a map do.
use Rattle.std.proofs.Common.{◌≡◌, ◌≢◌, ◌<◌, false, All, AllPairs, List, [], ◌∷◌, map, String, Global, string_bytes, refl, sym, ◌∙◌, subst}
use Rattle.std.proofs.Math.ListN.{get_or-map}
use Rattle.std.proofs.lemmas.List.{length-map}
use Rattle.std.proofs.lemmas.List.Elements.{All-head, All-tail}
use Rattle.std.proofs.lemmas.Map.Made.{AllPairs-from_IsDistinct}
use Rattle.std.proofs.lemmas.Slice.Eq.{bytes_eq-Decides}
use Rattle.std.specs.List.{AllByRecursion, IsDistinct}
use Rattle.std.specs.Str.{bytes_eq}
use Rattle.std.specs.String.{string_eq}
use Rattle.wd_schema.specs.Tables.{TableRule, table_of}
use Rattle.wd_schema.specs.declared.table.Table.{Table}
use Rattle.wd_seek.specs.Witnesses.{NamesDiffer}

abbrev Entry : Type 0
Entry = String Global × Table

other_bytes : (k : String Global) (ks : List (String Global)) → AllByRecursion (λ y. string_eq k y ≡ false) ks → AllByRecursion (λ y. bytes_eq (string_bytes k) y ≡ false) (map string_bytes ks)
other_bytes k [] h = tt
other_bytes k (y ∷ ks) h = (h.0, other_bytes k ks h.1)

bytes_differ : (ks : List (String Global)) → IsDistinct string_eq ks → IsDistinct bytes_eq (map string_bytes ks)
unfolding IsDistinct
bytes_differ [] h = tt
bytes_differ (k ∷ ks) h = (other_bytes k ks h.0, bytes_differ ks h.1)

keys_are_names : (es : List Entry) → All (λ e. string_bytes e.0 ≡ e.1.name) es → map string_bytes (map (λ e. e.0) es) ≡ map (λ (t : TableRule). t.name) (map (λ e. table_of e.1) es)
keys_are_names [] h = refl
keys_are_names (e ∷ es) h =
    let head = All-head (λ e. string_bytes e.0 ≡ e.1.name) e es h in
    let tail = keys_are_names es (All-tail (λ e. string_bytes e.0 ≡ e.1.name) e es h) in
    λ i. head i ∷ tail i

of_names : (tables : List TableRule) → AllPairs (λ a b. a ≢ b) (map (λ (t : TableRule). t.name) tables) → NamesDiffer tables
of_names tables h i j d before within same =
    h i j d.name before (subst (λ n. j < n) (sym (length-map tables (λ (t : TableRule). t.name))) within)
    (get_or-map (λ (t : TableRule). t.name) tables i d ∙ same ∙ sym (get_or-map (λ (t : TableRule). t.name) tables j d))

pub names_differ : (es : List Entry) → All (λ e. string_bytes e.0 ≡ e.1.name) es → IsDistinct string_eq (map (λ e. e.0) es) → NamesDiffer (map (λ e. table_of e.1) es)
names_differ es named unique =
    of_names (map (λ e. table_of e.1) es)
    (subst (AllPairs (λ a b. a ≢ b)) (keys_are_names es named) (AllPairs-from_IsDistinct bytes_eq-Decides (map string_bytes (map (λ e. e.0) es)) (bytes_differ (map (λ e. e.0) es) unique)))
