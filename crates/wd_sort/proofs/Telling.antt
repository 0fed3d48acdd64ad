-- Numbers that tell the values of a column apart: places among the known ones, and codes.
use Rattle.std.proofs.Common.{◌≡◌, ◌∙◌, ℕ, ◌<◌, Bool, true, false, List, [], ◌∷◌, get_or, length, nat_eq, refl, sym, ap, arith, Option, Some, None, Equal}
use Rattle.std.specs.Prelude.{IfSome}
use Rattle.std.specs.Cmp.{nat_cmp_is}
use Rattle.std.specs.Ordering.{nat_cmp}
use Rattle.std.proofs.lemmas.Bool.Decides.{Decides-eqb}
use Rattle.std.proofs.lemmas.Cmp.{ranked}
use Rattle.std.proofs.lemmas.List.FromFn.{get_or-range_with_len, length-range_with_len}
use Rattle.wd_value.specs.Bags.{positions}
use Rattle.wd_value.specs.Keys.{compare_keys}
use Rattle.wd_value.specs.Rows.{Row, column_of, columns_of, row_at, same_row}
use Rattle.wd_value.specs.declared.order.SortColumn.{SortColumn}
use Rattle.wd_value.specs.declared.value.Value.{Value}
use Rattle.wd_value.proofs.KeyLaws.{compare_keys-exact, compare_keys-ties}
use Rattle.wd_value.proofs.SameLaws.{same_row-Decides}
use Rattle.wd_sort.specs.declared.known.Known.{Known}
use Rattle.wd_sort.specs.AllCodes.{AreCodesOfAll}
use Rattle.wd_sort.specs.Codes.{IsCodingBelow}
use Rattle.wd_sort.specs.Known.{AreKnown, AreNumbers, IsAt, place_in}
use Rattle.wd_sort.specs.Numbers.{AreNumbersBy}
use Rattle.wd_sort.specs.Ranks.{value_in}
use Rattle.wd_sort.proofs.AllCodings.{AreCodesOfAll-from}

same_tests : (t u : Bool) → (t ≡ true → u ≡ true) → (u ≡ true → t ≡ true) → t ≡ u
same_tests true u f g = sym (f refl)
same_tests false true f g = g refl
same_tests false false f g = refl

pub some_weaker : {X : Type 0} (P Q : X → Type 0) → ((x : X) → P x → Q x) → (o : Option X) → IfSome o P → IfSome o Q
some_weaker P Q f None h = tt
some_weaker P Q f (Some x) h = f x h

-- ---- codes

pub AreNumbersBy-codes : (key : SortColumn) (rows : List Row) (n bound : ℕ) (codes : List ℕ) → n ≡ length rows → IsCodingBelow (key ∷ []) rows (positions n) bound codes → AreNumbersBy (key.column ∷ []) rows bound codes
AreNumbersBy-codes key rows n bound codes is coding =
    let are : AreCodesOfAll (key ∷ []) rows bound codes = AreCodesOfAll-from (key ∷ []) rows n bound codes is coding in
    record {
      long = are.long;
      below = are.below;
      alike = λ p q low high. (
          let a = get_or codes p 0 in
          let b = get_or codes q 0 in
          let forth : nat_eq a b ≡ true → same_row (columns_of (key.column ∷ []) (row_at rows p)) (columns_of (key.column ∷ []) (row_at rows q)) ≡ true = λ t. (
          let equal : a ≡ b = (Decides-eqb a b).0 t in
          let tie : compare_keys (key ∷ []) (row_at rows p) (row_at rows q) ≡ Equal = sym (are.alike p q low high) ∙ sym (nat_cmp_is a b Equal equal) in
          (same_row-Decides (columns_of (key.column ∷ []) (row_at rows p)) (columns_of (key.column ∷ []) (row_at rows q))).1 (compare_keys-exact (key ∷ []) (row_at rows p) (row_at rows q) tie)) in
          let back : same_row (columns_of (key.column ∷ []) (row_at rows p)) (columns_of (key.column ∷ []) (row_at rows q)) ≡ true → nat_eq a b ≡ true = λ t. (
          let equal = (same_row-Decides (columns_of (key.column ∷ []) (row_at rows p)) (columns_of (key.column ∷ []) (row_at rows q))).0 t in
          let tie : nat_cmp a b ≡ Equal = are.alike p q low high ∙ compare_keys-ties (key ∷ []) (row_at rows p) (row_at rows q) equal in
          (Decides-eqb a b).1 (ranked a b Equal (sym tie))) in
          same_tests (nat_eq a b) (same_row (columns_of (key.column ∷ []) (row_at rows p)) (columns_of (key.column ∷ []) (row_at rows q))) forth back);
    }

-- ---- places among the known values

module _ (column : ℕ) (rows : List Row) (known : Known) (all : AreKnown known) (numbers : List ℕ) (are : AreNumbers known column rows (positions (length rows)) numbers) where
  abbrev value_at : ℕ → Value
  value_at p = column_of (row_at rows p) column

  long : length (positions (length rows)) ≡ length rows
  long = length-range_with_len 0 (length rows)

  placed : (p : ℕ) → p < length rows → place_in known (value_at p) ≡ Some (get_or numbers p 0)
  placed p low =
      let here : get_or (positions (length rows)) p 0 ≡ p = get_or-range_with_len 0 (length rows) p 0 low ∙ omega arith in
      ap (λ q. place_in known (value_at q)) (sym here) ∙ are.each p (omega (arith, long))

  stands : (p : ℕ) → p < length rows → IsAt known (get_or numbers p 0) (value_at p)
  stands p low = all (value_at p) (get_or numbers p 0) (placed p low)

  some_same : {a b : ℕ} → Some a ≡ Some b → a ≡ b
  some_same e = cc

  pub AreNumbersBy-known : AreNumbersBy (column ∷ []) rows (length known.values.items) numbers
  AreNumbersBy-known = record {
    long = are.long ∙ long;
    below = λ p low. (stands p low).0;
    alike = λ p q low high. (
        let a = get_or numbers p 0 in
        let b = get_or numbers q 0 in
        let forth : nat_eq a b ≡ true → same_row (value_at p ∷ []) (value_at q ∷ []) ≡ true = λ t. (
        let equal : a ≡ b = (Decides-eqb a b).0 t in
        let values : value_at p ≡ value_at q = sym (stands p low).1 ∙ ap (value_in known.values.items) equal ∙ (stands q high).1 in
        (same_row-Decides (value_at p ∷ []) (value_at q ∷ [])).1 (ap (λ v. v ∷ []) values)) in
        let back : same_row (value_at p ∷ []) (value_at q ∷ []) ≡ true → nat_eq a b ≡ true = λ t. (
        let equal : value_at p ∷ [] ≡ value_at q ∷ [] = (same_row-Decides (value_at p ∷ []) (value_at q ∷ [])).0 t in
        let value : value_at p ≡ value_at q = cc in
        (Decides-eqb a b).1 (some_same (sym (placed p low) ∙ ap (place_in known) value ∙ placed q high))) in
        same_tests (nat_eq a b) (same_row (value_at p ∷ []) (value_at q ∷ [])) forth back);
  }
