-- The order of rows is total, and rows that tie are equal.
use Rattle.std.proofs.Common.{◌≡◌, ℕ, ◌+◌, min, true, false, List, [], ◌∷◌, drop, length, length-drop, refl, sym, ap, subst, arith, Decides, Ordering, Less, Equal, Greater, nat_cmp}
use Rattle.std.specs.Ordering.{is_eq, is_lt, ordering_reverse}
use Rattle.std.specs.Cmp.{IsStrictWeakOrder, IsTotalOrder, nat_cmp_is}
use Rattle.std.specs.FinMap.{slice_cmp-IsAntisymmetric}
use Rattle.std.proofs.lemmas.Cmp.{lists_total, tied_itself}
use Rattle.std.proofs.lemmas.List.Sorted.{ranks_by}
use Rattle.wd_value.specs.Rows.{Row, row_at}
use Rattle.wd_value.proofs.OrderLaws.{compare_total, compare-exact}
use Rattle.wd_refute.specs.Ready.{ascending, compare_rows, compare_rows_at}

compare_rows_total : IsTotalOrder compare_rows
compare_rows_total = lists_total (compare_total ascending)

-- positions by their rows
pub rows_order : (rows : List Row) → IsStrictWeakOrder (λ p q. is_lt (compare_rows_at rows p q))
rows_order rows = ranks_by compare_rows_total (row_at rows)

-- ---- rows that tie are equal

exact : (a b : Row) → compare_rows a b ≡ Equal → a ≡ b
exact a b e = slice_cmp-IsAntisymmetric (compare-exact ascending) a b e

is_equal : (o : Ordering) → is_eq o ≡ true → o ≡ Equal
is_equal Less h = cc
is_equal Equal h = refl
is_equal Greater h = cc

pub compare_rows-Decides : (a b : Row) → Decides (is_eq (compare_rows a b)) (a ≡ b)
compare_rows-Decides a b = (λ h. exact a b (is_equal (compare_rows a b) h), λ e. ap is_eq (subst (λ r. compare_rows a r ≡ Equal) e (tied_itself compare_rows_total a)))

not_less : (o o' : Ordering) → o ≡ ordering_reverse o' → is_lt o ≡ false → is_lt o' ≡ false → o ≡ Equal
not_less o Less e h g = cc
not_less o Equal e h g = e
not_less o Greater e h g = absurd (let k = ap is_lt (sym e) in cc)

-- and so are rows of which none stands before the other
pub compare_rows-ties : (a b : Row) → is_lt (compare_rows a b) ≡ false → is_lt (compare_rows b a) ≡ false → a ≡ b
compare_rows-ties a b h g = exact a b (not_less (compare_rows a b) (compare_rows b a) (compare_rows_total.antisymm a b) h g)

-- ---- the lengths

by_lengths : (xs ys : Row) (i m n : ℕ) → m ≡ i + length xs → n ≡ i + length ys → i ≡ min m n → compare_rows xs ys ≡ nat_cmp m n
by_lengths [] [] i m n p q e = nat_cmp_is m n Equal (omega arith)
by_lengths [] (y ∷ ys) i m n p q e = nat_cmp_is m n Less (omega arith)
by_lengths (x ∷ xs) [] i m n p q e = nat_cmp_is m n Greater (omega arith)
by_lengths (x ∷ xs) (y ∷ ys) i m n p q e = absurd (omega arith)

-- past the last place of the shorter row the lengths decide
pub compare_rows-end : (a b : Row) (i : ℕ) → i ≡ min (length a) (length b) → compare_rows (drop i a) (drop i b) ≡ nat_cmp (length a) (length b)
compare_rows-end a b i e =
    let l = length-drop i a in
    let m = length-drop i b in
    by_lengths (drop i a) (drop i b) i (length a) (length b) (omega arith) (omega arith) e
