-- How the loop over the values of an equation goes on.
use Rattle.std.proofs.Common.{◌≡◌, ◌<◌, ◌≤◌, ◌+◌, ◌-◌, ◌++◌, ℕ, suc, List, refl, append_assoc, arith}
use Rattle.std.proofs.lemmas.List.{append-nil}
use Rattle.wd_equations.specs.declared.equation.Piece.{Piece}
use Rattle.wd_equations.specs.declared.equation.Arm.{Arm}
use Rattle.wd_equations.specs.Equations.{arm, each}

pub each_more : (repeated : Arm) (index count : ℕ) (front : List Piece) → index < count
    → front ++ each repeated index (count - index) ≡ (front ++ arm repeated index) ++ each repeated (index + 1) (count - (index + 1))
unfolding each
each_more repeated index count front lt =
    let k : count - index ≡ suc (count - (index + 1)) = omega arith in
    rw (k, append_assoc front (arm repeated index) (each repeated (index + 1) (count - (index + 1)))) refl

pub each_end : (repeated : Arm) (index count : ℕ) (front : List Piece) → count ≤ index → front ++ each repeated index (count - index) ≡ front
unfolding each
each_end repeated index count front le =
    let k : count - index ≡ 0 = omega arith in
    rw k (append-nil front)
