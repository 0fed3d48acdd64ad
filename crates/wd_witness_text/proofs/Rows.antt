-- Whether each of some rows has a length.
use Rattle.std.proofs.Common.{◌≡◌, ◌==◌, ℕ, List, ◌≤◌, length, All, Vec, Global, true, false, true≢false, sym, subst, ◌∙◌}
use Rattle.std.proofs.lemmas.Bool.{eqb-true, eq-eqb}
use Rattle.std.proofs.lemmas.List.{length-map}
use Rattle.std.proofs.lemmas.List.Elements.{All-weaker}
use Rattle.std.proofs.lemmas.List.Folds.{list_all-map}
use Rattle.std.specs.List.{list_all}
use Rattle.wd_schema.proofs.MeetsFacts.{all_from_test, test_from_all}
use Rattle.wd_value.specs.Rows.{Row, rows_of}
use Rattle.wd_value.specs.declared.value.Value.{Value}

abbrev Rows : Type 0
Rows = List (Vec Value Global)

same_test : (n : ℕ) (rows : Rows) → list_all (λ row. length row == n) (rows_of rows) ≡ list_all (λ row. length row.items == n) rows
same_test n rows = list_all-map (λ (row : Row). length row == n) (λ (row : Vec Value Global). row.items) rows

pub have_length : (n : ℕ) (rows : Rows) → list_all (λ row. length row.items == n) rows ≡ true → All (λ row. length row ≡ n) (rows_of rows)
have_length n rows h =
    All-weaker (λ (row : Row). (length row == n) ≡ true) (λ row. length row ≡ n) (λ row e. eqb-true (length row) n e) (rows_of rows) (all_from_test (λ (row : Row). length row == n) (rows_of rows) (same_test n rows ∙ h))

pub have_other_length : (n : ℕ) (rows : Rows) → list_all (λ row. length row.items == n) rows ≡ false → ¬ All (λ row. length row ≡ n) (rows_of rows)
have_other_length n rows h all =
    let each = All-weaker (λ (row : Row). length row ≡ n) (λ row. (length row == n) ≡ true) (λ row e. eq-eqb (length row) n e) (rows_of rows) all in
    true≢false (sym (sym (same_test n rows) ∙ test_from_all (λ (row : Row). length row == n) (rows_of rows) each) ∙ h)

pub few_rows : (n : ℕ) (rows : Rows) → length rows ≤ n → length (rows_of rows) ≤ n
few_rows n rows h = subst (λ k. k ≤ n) (sym (length-map rows (λ (row : Vec Value Global). row.items))) h
