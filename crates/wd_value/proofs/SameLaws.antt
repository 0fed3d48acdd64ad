-- The tests on values and rows tell them apart: what they call the same is equal.
use Rattle.std.proofs.Common.{◌≡◌, ◌==◌, refl, ap, Decides}
use Rattle.std.proofs.lemmas.Bool.{false≢true}
use Rattle.std.proofs.lemmas.Bool.Decides.{Decides-int_eq, Decides-eqb}
use Rattle.std.proofs.lemmas.Slice.Eq.{slice_eq-Decides}
use Rattle.std.specs.Cmp.{booleans_Decides}
use lib.Pointwise.{pointwise}
use Rattle.wd_value.specs.declared.value.Value.{Value}
use Rattle.wd_value.specs.declared.value.Value.TheVariants.{Null, Int, Text, Bool as Truth}
use Rattle.wd_value.specs.Values.{same}
use Rattle.wd_value.specs.Rows.{Row, same_row}

pub same-Decides : (a b : Value) → Decides (same a b) (a ≡ b)
same-Decides Null Null = (λ _. refl, λ _. refl)
same-Decides (Int m) (Int n) = (λ e. ap Int ((Decides-int_eq m n).0 e), λ e. (Decides-int_eq m n).1 (cc))
same-Decides (Text s) (Text t) =
    let d = slice_eq-Decides Decides-eqb s t (pointwise ◌==◌ s t) refl in
    (λ e. ap Text (d.0 e), λ e. d.1 (cc))
same-Decides (Truth p) (Truth q) = (λ e. ap Truth ((booleans_Decides p q).0 e), λ e. (booleans_Decides p q).1 (cc))
same-Decides a b = (λ e. absurd (false≢true e), λ e. cc)

pub same_row-Decides : (a b : Row) → Decides (same_row a b) (a ≡ b)
same_row-Decides a b = slice_eq-Decides same-Decides a b (same_row a b) refl
