-- Columns with a further value each.
use Rattle.std.proofs.Common.{◌≡◌, ◌∙◌, ℕ, suc, ◌+◌, ◌<◌, ◌≤◌, List, [], ◌∷◌, ◌++◌, length, set, refl, sym, ap, arith, inl, inr}
use Rattle.std.specs.declared.alloc.Global.{Global}
use Rattle.std.specs.declared.vec.Vec.{Vec}
use Rattle.std.proofs.lemmas.Bool.{cases_lt}
use Rattle.std.proofs.lemmas.List.{length-map, length_push}
use Rattle.wd_value.specs.declared.value.Value.{Value}
use Rattle.wd_value.specs.Rows.{Row, row_at, rows_of}
use Rattle.wd_column_store.specs.Along.{with_row}
use Rattle.wd_column_store.proofs.Places.{items}

pub none : (columns : List Row) → with_row columns [] ≡ columns
none [] = refl
none (c ∷ columns) = refl

-- the next column has one
pub next : (columns : List Row) (done : Row) (v : Value) → length done < length columns
    → set (with_row columns done) (length done) (row_at (with_row columns done) (length done) ++ v ∷ []) ≡ with_row columns (done ++ v ∷ [])
next [] done v h = absurd (omega arith)
next (c ∷ columns) [] v h = ap (λ cs. (c ++ v ∷ []) ∷ cs) (sym (none columns))
next (c ∷ columns) (d ∷ done) v h = ap (λ cs. (c ++ d ∷ []) ∷ cs) (next columns done v (omega arith))

-- there is no further column
pub past : (columns : List Row) (done : Row) (v : Value) → length columns ≤ length done → with_row columns done ≡ with_row columns (done ++ v ∷ [])
past [] done v h = refl
past (c ∷ columns) [] v h = absurd (omega arith)
past (c ∷ columns) (d ∷ done) v h = ap (λ cs. (c ++ d ∷ []) ∷ cs) (past columns done v (omega arith))

pub long : (columns : List Row) (done : Row) → length (with_row columns done) ≡ length columns
long [] done = refl
long (c ∷ columns) [] = refl
long (c ∷ columns) (d ∷ done) = ap suc (long columns done)

-- a value is appended to those of the column at a place, if there is one
pub step : (given : List Row) (rows new : List (Vec Value Global)) (done : Row) (v : Value) (place : ℕ) → place ≡ length done → rows_of rows ≡ with_row given done
    → (place < length rows → rows_of new ≡ set (rows_of rows) place (row_at (rows_of rows) place ++ v ∷ [])) → (length rows ≤ place → new ≡ rows) → rows_of new ≡ with_row given (done ++ v ∷ [])
step given rows new done v place at is within none_left =
    let wide : length rows ≡ length given = sym (length-map rows items) ∙ ap length is ∙ long given done in
    elim (cases_lt place (length rows)) [
      | inl less ↦ within less ∙ (λ i. set (is i) (at i) (row_at (is i) (at i) ++ v ∷ [])) ∙ next given done v (omega arith)
      | inr all ↦ ap rows_of (none_left all) ∙ is ∙ past given done v (omega arith)
    ]

pub one_more : (done : Row) (v : Value) (place : ℕ) → place ≡ length done → place + 1 ≡ length (done ++ v ∷ [])
one_more done v place at = omega (arith, length_push done v)
