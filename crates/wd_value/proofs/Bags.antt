-- Rows that stand in either of two lists stand equally often in both, so all rows do.
use Rattle.std.proofs.Common.{◌≡◌, Bool, true, false, List, [], ◌∷◌, refl, sym, ◌∙◌, All}
use Rattle.std.proofs.lemmas.List.Elements.{All-head, All-tail}
use Rattle.wd_value.specs.Bags.{times, SameBag}
use Rattle.wd_value.specs.Rows.{Row, same_row}
use Rattle.wd_value.proofs.Perms.{count_by-no}
use Rattle.wd_value.proofs.SameLaws.{same_row-Decides}

by_test : (b : Bool) (P : Type 0) → (b ≡ true → P) → (b ≡ false → P) → P
by_test true P = λ yes no. yes refl
by_test false P = λ yes no. no refl

-- a fact of each row of a list is one of any row, where it is shown of those that do not stand in the list
at_counted : (P : Row → Type 0) (r : Row) (xs : List Row) → All P xs → (times same_row r xs ≡ 0 → P r) → P r
at_counted P r [] all none = none refl
at_counted P r (x ∷ xs) all none =
    by_test (same_row r x) (P r)
    (λ e. let same : r ≡ x = (same_row-Decides r x).0 e in rw same (All-head P x xs all))
    (λ e. at_counted P r xs (All-tail P x xs all) (λ zero. none (count_by-no (same_row r) x xs e ∙ zero)))

pub SameBag-from_all : (xs ys : List Row) → All (λ r. times same_row r xs ≡ times same_row r ys) xs → All (λ r. times same_row r xs ≡ times same_row r ys) ys → SameBag same_row xs ys
SameBag-from_all xs ys p q r =
    at_counted (λ r. times same_row r xs ≡ times same_row r ys) r xs p (λ e. at_counted (λ r. times same_row r xs ≡ times same_row r ys) r ys q (λ f. e ∙ sym f))
