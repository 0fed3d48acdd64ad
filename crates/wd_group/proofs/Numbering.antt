-- Numbers for the rows by several columns.
use Rattle.std.proofs.Common.{◌≡◌, ◌∙◌, ℕ, ◌+◌, ◌<◌, Bool, true, false, ◌&&◌, List, [], ◌∷◌, ◌++◌, get_or, length, nat_eq, refl, sym, ap, subst, arith, ◌≤◌, ◌⊎◌, inl, inr}
use Rattle.std.proofs.lemmas.Bool.{cases_lt}
use Rattle.std.proofs.lemmas.List.{get_or_append_left, get_or_push, length_push}
use Rattle.wd_value.specs.Rows.{Row, column_of, columns_of, row_at, same_row}
use Rattle.wd_value.specs.Values.{same}
use Rattle.wd_sort.specs.declared.coding.Coding.{Coding}
use Rattle.wd_sort.specs.Numbers.{AreNumbersBy}
use Rattle.wd_group.specs.Numbered.{AreNumbersOfEach}
use Rattle.wd_group.specs.Pairs.{ArePairNumbers}

and_assoc : (a b c : Bool) → (a && (b && c)) ≡ ((a && b) && c)
and_assoc true b c = refl
and_assoc false b c = refl

same_more : (cs : List ℕ) (c : ℕ) (r s : Row) → same_row (columns_of (cs ++ c ∷ []) r) (columns_of (cs ++ c ∷ []) s) ≡ (same_row (columns_of cs r) (columns_of cs s) && same_row (columns_of (c ∷ []) r) (columns_of (c ∷ []) s))
same_more [] c r s = refl
same_more (d ∷ cs) c r s = ap (λ b. same (column_of r d) (column_of s d) && b) (same_more cs c r s) ∙ and_assoc (same (column_of r d) (column_of s d)) (same_row (columns_of cs r) (columns_of cs s)) (same_row (columns_of (c ∷ []) r) (columns_of (c ∷ []) s))

pub AreNumbersBy-both : (columns : List ℕ) (column : ℕ) (rows : List Row) (n m bound : ℕ) (first second numbers : List ℕ) → AreNumbersBy columns rows n first → AreNumbersBy (column ∷ []) rows m second → ArePairNumbers first second bound numbers → AreNumbersBy (columns ++ column ∷ []) rows bound numbers
AreNumbersBy-both columns column rows n m bound first second numbers a b pairs =
    let long = a.long in
    record {
      long = pairs.long ∙ long;
      below = λ p low. pairs.below p (omega arith);
      alike = λ p q low high. pairs.alike p q (omega arith) (omega arith) ∙ (λ i. a.alike p q low high i && b.alike p q low high i) ∙ sym (same_more columns column (row_at rows p) (row_at rows q));
    }

-- one number tells no rows apart
pub AreNumbersBy-none : (rows : List Row) (numbers : List ℕ) → length numbers ≡ length rows → ((p : ℕ) → p < length numbers → get_or numbers p 0 ≡ 0) → AreNumbersBy [] rows 1 numbers
AreNumbersBy-none rows numbers long zeros = record {
  long = long;
  below = λ p low. (let z = zeros p (omega arith) in omega arith);
  alike = λ p q low high. (λ t. nat_eq (zeros p (omega arith) t) (zeros q (omega arith) t));
}

-- numbers of a column more
pub AreNumbersOfEach-more : (rows : List Row) (n : ℕ) (numbers : List Coding) (more : Coding) → AreNumbersOfEach n rows numbers → AreNumbersBy (n ∷ []) rows more.bound more.codes.items → AreNumbersOfEach (n + 1) rows (numbers ++ more ∷ [])
AreNumbersOfEach-more rows n numbers more are own = record {
  long = length_push numbers more ∙ ap (λ k. k + 1) are.long;
  each = λ column d low. by column d (cases_lt column n) low;
}
  where
    by : (column : ℕ) (d : Coding) → (column < n) ⊎ (n ≤ column) → column < n + 1 → AreNumbersBy (column ∷ []) rows (get_or (numbers ++ more ∷ []) column d).bound (get_or (numbers ++ more ∷ []) column d).codes.items
    by column d (inl low) h = subst (λ (of : Coding). AreNumbersBy (column ∷ []) rows of.bound of.codes.items) (sym (get_or_append_left numbers (more ∷ []) d column (subst (λ k. column < k) (sym are.long) low))) (are.each column d low)
    by column d (inr high) h =
        let last : n ≡ column = omega arith in
        subst (λ (of : Coding). AreNumbersBy (column ∷ []) rows of.bound of.codes.items) (sym (get_or_push numbers more d column (are.long ∙ last))) (subst (λ k. AreNumbersBy (k ∷ []) rows more.bound more.codes.items) last own)
