-- The columns of sort keys, one after another.
use Rattle.std.proofs.Common.{◌≡◌, ℕ, List, [], ◌∷◌, ◌++◌, flat_map, refl, ap}
use Rattle.wd_value.specs.Keys.{key_columns}
use Rattle.wd_value.specs.declared.order.SortColumn.{SortColumn}

pub of_keys : {X : Type 0} (f : ℕ → List X) (keys : List SortColumn) → flat_map (λ (key : SortColumn). f key.column) keys ≡ flat_map f (key_columns keys)
of_keys f [] = refl
of_keys f (key ∷ keys) = ap (λ rest. f key.column ++ rest) (of_keys f keys)
