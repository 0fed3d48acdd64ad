-- The rows of a partition under two orderings: where the class's columns tell what is looked at, they look alike place by place.
use Rattle.std.proofs.Common.{◌≡◌, ℕ, zero, suc, ◌+◌, ◌<◌, ◌≤◌, Bool, false, List, [], ◌∷◌, ◌++◌, map, length, get_or, refl, sym, ◌∙◌, ap, subst, arith, Decides, Ordering, Less, Equal, Greater, is_gt}
use Rattle.std.specs.List.{AllByRecursion, range_with_len}
use Rattle.std.specs.Ordering.{ordering_reverse}
use Rattle.std.proofs.lemmas.List.{map-append, map-id}
use Rattle.std.proofs.lemmas.Cmp.{alike_right}
use Rattle.wd_value.proofs.KeyLaws.{compare_keys-exact, compare_keys-ties, compare_keys_total}
use Rattle.wd_laws.proofs.Sorted.{same_sorted}
use Rattle.wd_plan.specs.Plans.{ClassRule}
use Rattle.wd_plan.specs.Sorting.{IsInOrder, class_columns, order_columns, same_partition}
use Rattle.wd_value.proofs.Perms.{Perm, Perm-all, Perm-filter, Perm-map, Perm-sym, SameBag-from_Perm, both}
use Rattle.wd_value.proofs.SameLaws.{same_row-Decides}
use Rattle.wd_value.specs.Bags.{EachOnce, positions}
use Rattle.wd_value.specs.Rows.{Row, column_of, columns_of, row_at, same_row}
use Rattle.wd_plan.proofs.Parts.{all_filter, ordered, part, same_partition_is, NotAfter, rising_part, Perm-ordering}

pub map_positions : {X : Type 0} (f : ℕ → X) (d : X) (xs : List X) (a : ℕ) → ((k : ℕ) → k < length xs → f (a + k) ≡ get_or xs k d) → map f (range_with_len a (length xs)) ≡ xs
map_positions f d [] a h = refl
map_positions f d (x ∷ xs) a h =
    let head : f a ≡ x = ap f (omega arith) ∙ h 0 (omega arith) in
    let tail = map_positions f d xs (a + 1) (λ k l. ap f (omega arith) ∙ h (suc k) (omega arith)) in
    λ i. head i ∷ tail i

-- the positions of a range lie below its end
pub below_all : (a n m : ℕ) → a + n ≤ m → AllByRecursion (λ i. i < m) (range_with_len a n)
below_all a zero m h = tt
below_all a (suc n) m h = (omega arith, below_all (a + 1) n m (omega arith))

pub rows_at_positions : (rows : List Row) → map (row_at rows) (positions (length rows)) ≡ rows
rows_at_positions rows = map_positions (row_at rows) [] rows 0 (λ k l. ap (row_at rows) (omega arith))

-- ---- rows that may stand in either order

-- neither stands after the other: the same on the order's columns
reversed : (a b : Ordering) → a ≡ ordering_reverse b → is_gt a ≡ false → is_gt b ≡ false → a ≡ Equal
reversed a Less e g h = cc
reversed a Equal e g h = e
reversed a Greater e g h = cc

pub NotAfter-ties : (class : ClassRule) (a b : Row) → NotAfter class a b → NotAfter class b a → columns_of (order_columns class) a ≡ columns_of (order_columns class) b
NotAfter-ties class a b g h = compare_keys-exact class.order a b (reversed _ _ ((compare_keys_total class.order).antisymm a b) g h)

-- NotAfter goes by the order's columns
pub NotAfter-alike : (class : ClassRule) (a b z : Row) → columns_of (order_columns class) a ≡ columns_of (order_columns class) b → NotAfter class z a → NotAfter class z b
NotAfter-alike class a b z e h = subst (λ o. is_gt o ≡ false) (alike_right (compare_keys_total class.order) a b z (compare_keys-ties class.order a b e)) h

-- ---- the ordered rows are the rows

pub Perm-ordered : (rows : List Row) (ordering : List ℕ) → EachOnce (length rows) ordering → Perm Row rows (ordered rows ordering)
Perm-ordered rows ordering once = subst (λ l. Perm Row l (ordered rows ordering)) (rows_at_positions rows) (Perm-map (row_at rows) (Perm-ordering rows ordering once))

-- a row of the list
abbrev pub IsAt : List Row → Row → Type 0
IsAt rows r = (p : ℕ) × (p < length rows) × (row_at rows p ≡ r)

all_at_from : (rows : List Row) (xs : List Row) (a : ℕ) → ((k : ℕ) → k < length xs → (a + k < length rows) × (row_at rows (a + k) ≡ row_at xs k)) → AllByRecursion (IsAt rows) xs
all_at_from rows [] a h = tt
all_at_from rows (x ∷ xs) a h = (
  (a + 0, (h 0 (omega arith)).0, (h 0 (omega arith)).1),
  all_at_from rows xs (a + 1) (λ k l. let g = h (suc k) (omega arith) in let e : (a + 1) + k ≡ a + suc k = omega arith in (omega (arith, g.0), ap (row_at rows) e ∙ g.1)),
)

pub all_at : (rows : List Row) → AllByRecursion (IsAt rows) rows
all_at rows = all_at_from rows rows 0 (λ k l. (omega arith, ap (row_at rows) (omega arith)))

-- ---- one partition under two orderings

-- the class's columns are those of the partition and those of the order
pub class_columns_from : (class : ClassRule) (a b : Row) → columns_of class.partition a ≡ columns_of class.partition b → columns_of (order_columns class) a ≡ columns_of (order_columns class) b → columns_of (class_columns class) a ≡ columns_of (class_columns class) b
class_columns_from class a b p o =
    map-append (column_of a) class.partition (order_columns class) ∙ (λ i. p i ++ o i) ∙ sym (map-append (column_of b) class.partition (order_columns class))

-- rows of a list that are the same on the class's columns look alike
abbrev pub LooksBy : {Y : Type 0} → ClassRule → List Row → (Row → Y) → Type 0
LooksBy class rows look = (a b : Row) → IsAt rows a → IsAt rows b → columns_of (class_columns class) a ≡ columns_of (class_columns class) b → look a ≡ look b

-- what is known of each member of a partition list
abbrev pub Member : ClassRule → List Row → Row → Row → Type 0
Member class rows x r = IsAt rows r × (columns_of class.partition x ≡ columns_of class.partition r)

pub members_all : (class : ClassRule) (rows : List Row) (x : Row) (ws : List Row) → Perm Row rows ws → AllByRecursion (Member class rows x) (part class x ws)
members_all class rows x ws p = all_filter (same_partition class x) (IsAt rows) (Member class rows x) (λ r a s. (a, same_partition_is class x r s)) ws (Perm-all (IsAt rows) p (all_at rows))

module _ {Y : Type 0} (eq : Y → Y → Bool) (exact : (a b : Y) → Decides (eq a b) (a ≡ b)) (look : Row → Y) (class : ClassRule) (rows : List Row) where
  -- two orders of the same rows put like rows at each place of a partition
  pub same_parts : LooksBy class rows look → ((a b : Row) → look a ≡ look b → columns_of (order_columns class) a ≡ columns_of (order_columns class) b) → (x : Row) (ws vs : List Row) → Perm Row rows ws → Perm Row rows vs → IsInOrder class ws → IsInOrder class vs → map look (part class x ws) ≡ map look (part class x vs)
  same_parts looks shows x ws vs p q r s =
      same_sorted eq exact look (Member class rows x) (NotAfter class)
      (λ a b m n g h. looks a b m.0 n.0 (class_columns_from class a b (sym m.1 ∙ n.1) (NotAfter-ties class a b g h)))
      (λ a b z e h. NotAfter-alike class a b z (shows a b e) h)
      (part class x ws) (part class x vs)
      (members_all class rows x ws p) (members_all class rows x vs q)
      (rising_part class x ws r) (rising_part class x vs s)
      (SameBag-from_Perm eq exact (Perm-map look (Perm-filter (same_partition class x) (both (Perm-sym p) q))))

-- rows that are the same on the class's columns are the same row: two orders put the same rows at each place of a partition
pub same_rows_at_places : (class : ClassRule) (rows : List Row) → LooksBy class rows (λ r. r) → (x : Row) (ws vs : List Row) → Perm Row rows ws → Perm Row rows vs → IsInOrder class ws → IsInOrder class vs → part class x ws ≡ part class x vs
same_rows_at_places class rows looks x ws vs p q r s =
    sym (map-id (part class x ws)) ∙ same_parts same_row same_row-Decides (λ r. r) class rows looks (λ a b e. ap (columns_of (order_columns class)) e) x ws vs p q r s ∙ map-id (part class x vs)
