-- The partition list of a row under an ordering, as rows: a filter of the ordered rows, which rise in it.
use Rattle.std.proofs.Common.{◌≡◌, ℕ, Bool, true, false, List, [], ◌∷◌, map, length, filter, refl, sym, ◌∙◌, ap, is_gt, eqb}
use Rattle.std.specs.List.{AllByRecursion}
use Rattle.std.proofs.lemmas.Bool.Decides.{Decides-eqb}
use Rattle.wd_plan.proofs.Sorted.{Rising}
use Rattle.wd_value.specs.Keys.{compare_keys}
use Rattle.wd_plan.specs.Partitions.{partition_of}
use Rattle.wd_plan.specs.Plans.{ClassRule}
use Rattle.wd_plan.specs.Sorting.{IsInOrder, same_partition}
use Rattle.wd_value.proofs.Perms.{Perm, Perm-from_SameBag}
use Rattle.wd_value.proofs.SameLaws.{same_row-Decides}
use Rattle.wd_value.specs.Bags.{EachOnce, positions}
use Rattle.wd_value.specs.Rows.{Row, columns_of, row_at}

-- ---- lists

map_filter_step : {X Y : Type 0} (f : X → Y) (t : Y → Bool) (x : X) (xs : List X) (b : Bool) → t (f x) ≡ b → map f (filter (λ q. t (f q)) xs) ≡ filter t (map f xs) → map f (filter (λ q. t (f q)) (x ∷ xs)) ≡ filter t (map f (x ∷ xs))
map_filter_step f t x xs true e h = rw e (ap (λ l. f x ∷ l) h)
map_filter_step f t x xs false e h = rw e h

pub map_filter : {X Y : Type 0} (f : X → Y) (t : Y → Bool) (xs : List X) → map f (filter (λ q. t (f q)) xs) ≡ filter t (map f xs)
map_filter f t [] = refl
map_filter f t (x ∷ xs) = map_filter_step f t x xs (t (f x)) refl (map_filter f t xs)

all_filter_step : {X : Type 0} (t : X → Bool) (P Q : X → Type 0) → ((x : X) → P x → t x ≡ true → Q x) → (x : X) (xs : List X) (b : Bool) → t x ≡ b → P x → AllByRecursion Q (filter t xs) → AllByRecursion Q (filter t (x ∷ xs))
all_filter_step t P Q f x xs true e p h = rw e (f x p e, h)
all_filter_step t P Q f x xs false e p h = rw e h

-- what follows of each element that passes
pub all_filter : {X : Type 0} (t : X → Bool) (P Q : X → Type 0) → ((x : X) → P x → t x ≡ true → Q x) → (xs : List X) → AllByRecursion P xs → AllByRecursion Q (filter t xs)
all_filter t P Q f [] a = tt
all_filter t P Q f (x ∷ xs) a = all_filter_step t P Q f x xs (t x) refl a.0 (all_filter t P Q f xs a.1)

-- ---- partitions

-- the ordered rows, and those of a row's partition
abbrev pub ordered : List Row → List ℕ → List Row
ordered rows ordering = map (row_at rows) ordering

abbrev pub part : ClassRule → Row → List Row → List Row
part class x ws = filter (same_partition class x) ws

pub partition_of-is : (class : ClassRule) (rows : List Row) (ordering : List ℕ) (r : ℕ) → partition_of class rows ordering r ≡ part class (row_at rows r) (ordered rows ordering)
partition_of-is class rows ordering r = map_filter (row_at rows) (same_partition class (row_at rows r)) ordering

pub same_partition_is : (class : ClassRule) (a b : Row) → same_partition class a b ≡ true → columns_of class.partition a ≡ columns_of class.partition b
same_partition_is class a b e = (same_row-Decides _ _).0 e

pub same_partition_from : (class : ClassRule) (a b : Row) → columns_of class.partition a ≡ columns_of class.partition b → same_partition class a b ≡ true
same_partition_from class a b e = (same_row-Decides _ _).1 e

-- a may stand before b in the order of the class
abbrev pub NotAfter : ClassRule → Row → Row → Type 0
NotAfter class a b = is_gt (compare_keys class.order a b) ≡ false

rising_step : (class : ClassRule) (x w : Row) (ws : List Row) (b : Bool) → same_partition class x w ≡ b → AllByRecursion (λ q. same_partition class w q ≡ true → NotAfter class w q) ws → Rising (NotAfter class) (part class x ws) → Rising (NotAfter class) (part class x (w ∷ ws))
rising_step class x w ws true e a h = rw e (
  all_filter (same_partition class x) (λ q. same_partition class w q ≡ true → NotAfter class w q) (NotAfter class w)
      (λ q f s. f (same_partition_from class w q (sym (same_partition_is class x w e) ∙ same_partition_is class x q s))) ws a,
  h,
)
rising_step class x w ws false e a h = rw e h

pub rising_part : (class : ClassRule) (x : Row) (ws : List Row) → IsInOrder class ws → Rising (NotAfter class) (part class x ws)
rising_part class x [] h = tt
rising_part class x (w ∷ ws) h = rising_step class x w ws (same_partition class x w) refl h.0 (rising_part class x ws h.1)

-- ---- the ordered rows are the rows

pub Perm-ordering : (rows : List Row) (ordering : List ℕ) → EachOnce (length rows) ordering → Perm ℕ (positions (length rows)) ordering
Perm-ordering rows ordering once = Perm-from_SameBag eqb Decides-eqb _ _ once
