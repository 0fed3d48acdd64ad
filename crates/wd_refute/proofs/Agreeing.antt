-- Lists of rows have each row equally often exactly where they show the same rows when sorted.
use Rattle.std.proofs.Common.{◌≡◌, ℕ, suc, ◌<◌, ◌≤◌, false, ◌↔◌, List, [], ◌∷◌, cond, length, get_or, refl, sym, ◌∙◌, ap, subst, arith, IsPermutation}
use Rattle.std.specs.Ordering.{is_lt}
use Rattle.std.proofs.lemmas.List.{get_or-map, length-map}
use Rattle.std.proofs.lemmas.List.Elements.{recursion_from_All}
use Rattle.std.proofs.lemmas.List.FromFn.{fill_by_all}
use Rattle.std.proofs.lemmas.List.Sorted.{IsPermutation-map, sorted_far, sum_by-IsPermutation}
use Rattle.wd_value.specs.Bags.{SameBag, positions, times}
use Rattle.wd_value.specs.Rows.{Row, row_at, rows_at, same_row}
use Rattle.wd_value.proofs.Perms.{Perm, Perm-all, Perm-from_SameBag, Perm-length, Perm-sym, SameBag-tail}
use Rattle.wd_value.proofs.SameLaws.{same_row-Decides}
use Rattle.wd_refute.specs.Ready.{IsRowSort, compare_rows, compare_rows_at}
use Rattle.wd_refute.proofs.RowOrder.{compare_rows-ties, rows_order}

-- the second row does not stand before the first
abbrev NotAfter : Row → Row → Type 0
NotAfter a b = is_lt (compare_rows b a) ≡ false

abbrev InOrder : List Row → Type 0
InOrder rows = (i j : ℕ) (d : Row) → i ≤ j → j < length rows → NotAfter (get_or rows i d) (get_or rows j d)

-- ---- the rows of a sort are the rows, each as often, in order

as_often : (rows : List Row) (order : List ℕ) → IsRowSort rows order → SameBag same_row rows (rows_at rows order)
as_often rows order s r =
    let moved = IsPermutation-map (row_at rows) (positions (length rows)) order s.each_once in
    let all : rows ≡ rows_at rows (positions (length rows)) = fill_by_all (row_at rows) rows (length rows) [] refl (λ k l. refl) in
    sym (sum_by-IsPermutation (λ q. cond (same_row r q) 1 0) rows (rows_at rows order) (subst (λ l. IsPermutation l (rows_at rows order)) (sym all) moved))

in_order : (rows : List Row) (order : List ℕ) → IsRowSort rows order → InOrder (rows_at rows order)
in_order rows order s i j d k l =
    let n : j < length order = subst (λ m. j < m) (length-map order (row_at rows)) l in
    (λ m. is_lt (compare_rows (get_or-map (row_at rows) order j 0 d n m) (get_or-map (row_at rows) order i 0 d (omega arith) m)))
    ∙ sorted_far (λ p q. is_lt (compare_rows_at rows p q)) (rows_order rows) order s.sorted i j 0 k n

-- ---- lists in order that have each row equally often are the same

not_after : (x y : Row) (xs ys : List Row) → InOrder (x ∷ xs) → Perm Row (x ∷ xs) (y ∷ ys) → NotAfter x y
not_after x y xs ys h p = (Perm-all (NotAfter x) p (recursion_from_All (NotAfter x) (x ∷ xs) (λ k d l. h 0 k d (omega arith) l))).0

tail : (x : Row) (xs : List Row) → InOrder (x ∷ xs) → InOrder xs
tail x xs h = λ i j d k l. h (suc i) (suc j) d (omega arith) (omega arith)

same_in_order : (xs ys : List Row) → InOrder xs → InOrder ys → SameBag same_row xs ys → xs ≡ ys
same_in_order [] [] g h same = refl
same_in_order [] (y ∷ ys) g h same = absurd (let l = Perm-length (Perm-from_SameBag same_row same_row-Decides [] (y ∷ ys) same) in omega arith)
same_in_order (x ∷ xs) [] g h same = absurd (let l = Perm-length (Perm-from_SameBag same_row same_row-Decides (x ∷ xs) [] same) in omega arith)
same_in_order (x ∷ xs) (y ∷ ys) g h same =
    let p = Perm-from_SameBag same_row same_row-Decides (x ∷ xs) (y ∷ ys) same in
    let e : x ≡ y = compare_rows-ties x y (not_after y x ys xs h (Perm-sym p)) (not_after x y xs ys g p) in
    let rest = SameBag-tail same_row same_row-Decides y xs ys (subst (λ r. SameBag same_row (r ∷ xs) (y ∷ ys)) e same) in
    λ i. e i ∷ same_in_order xs ys (tail x xs g) (tail y ys h) rest i

pub SameBag-by_order : (rows others : List Row) (order other_order : List ℕ) → IsRowSort rows order → IsRowSort others other_order → (rows_at rows order ≡ rows_at others other_order) ↔ SameBag same_row rows others
SameBag-by_order rows others order other_order s t =
    let own = as_often rows order s in
    let other = as_often others other_order t in (
      λ e r. own r ∙ ap (times same_row r) e ∙ sym (other r),
      λ h. same_in_order (rows_at rows order) (rows_at others other_order) (in_order rows order s) (in_order others other_order t) (λ r. sym (own r) ∙ h r ∙ other r),
    )
