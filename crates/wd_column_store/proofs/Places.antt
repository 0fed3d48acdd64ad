-- Rows taken out of a list, one after another.
use Rattle.std.proofs.Common.{◌≡◌, ℕ, zero, suc, List, [], ◌∷◌, set, refl, ap}
use Rattle.std.specs.declared.alloc.Global.{Global}
use Rattle.std.specs.declared.vec.Vec.{Vec}
use Rattle.wd_value.specs.declared.value.Value.{Value}
use Rattle.wd_value.specs.Rows.{Row, row_at, rows_of}

-- a row of the code
abbrev pub items : Vec Value Global → Row
items row = row.items

-- the other rows stay
pub others : (rows : List (Vec Value Global)) (i p : ℕ) (row : Vec Value Global) → (p ≡ i → ⊥) → row_at (rows_of (set rows i row)) p ≡ row_at (rows_of rows) p
others [] i p row apart = refl
others (r ∷ rows) zero zero row apart = absurd (apart refl)
others (r ∷ rows) zero (suc p) row apart = refl
others (r ∷ rows) (suc i) zero row apart = refl
others (r ∷ rows) (suc i) (suc p) row apart = others rows i p row (λ e. apart (ap suc e))
