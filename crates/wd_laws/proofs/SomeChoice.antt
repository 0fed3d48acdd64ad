-- Every instance has a valid choice for each plan: any rows can be sorted by the keys of a class.
use Rattle.std.proofs.Common.{◌≡◌, ℕ, Bool, true, false, cond, List, [], ◌∷◌, ◌++◌, map, length, drop, refl, sym, ◌∙◌, ap, subst, arith, Ordering, Less, Equal, Greater, is_gt, eqb, Ok, Err}
use Rattle.std.specs.List.{AllByRecursion}
use Rattle.std.specs.Ordering.{ordering_reverse}
use Rattle.std.proofs.lemmas.Bool.Decides.{Decides-eqb}
use Rattle.std.proofs.lemmas.List.{length-append, length-map, get_or-map}
use Rattle.std.proofs.Math.Seq.{drop-append_seam}
use Rattle.wd_value.specs.Bags.{positions}
use Rattle.wd_value.specs.Rows.{Row, row_at, rows_at}
use Rattle.wd_value.proofs.Perms.{Perm, done, keep, flip, both, Perm-refl, Perm-all, SameBag-from_Perm}
use Rattle.wd_plan.specs.Choices.{AreOrderingsOver, AreLawful}
use Rattle.wd_value.specs.Keys.{compare_keys}
use Rattle.wd_laws.specs.Laws.{HasValidChoice}
use Rattle.wd_plan.specs.Outcomes.{RowsOrFault, outcome, class_among, ordering_at}
use Rattle.wd_plan.specs.Plans.{ClassRule, Scan, Join, Over, step_classes, ordering_count}
use Rattle.wd_plan.specs.Sorting.{IsInOrder, IsOrdering, same_partition}
use Rattle.wd_plan.proofs.ChoiceLaws.{AreLawful-append}
use Rattle.wd_laws.proofs.ChoiceLaws.{AreLawful-over}
use Rattle.wd_value.proofs.KeyLaws.{compare_keys_total}
use Rattle.wd_plan.proofs.Parts.{NotAfter}
use Rattle.wd_plan.proofs.Sorted.{Rising}

-- ---- may stand before is transitive, and of two rows one may stand before the other

module _ (class : ClassRule) (x y z : Row) where
  by_orders : (o p : Ordering) → compare_keys class.order x y ≡ o → compare_keys class.order y z ≡ p → NotAfter class x y → NotAfter class y z → NotAfter class x z
  by_orders Less Less e f g h = ap is_gt ((compare_keys_total class.order).trans x y z e f)
  by_orders Less Equal e f g h =
      let total = compare_keys_total class.order in
      ap is_gt (total.antisymm x z ∙ ap ordering_reverse (sym (total.congr y z x f)) ∙ sym (total.antisymm x y) ∙ e)
  by_orders Less Greater e f g h = absurd (let k : is_gt (compare_keys class.order y z) ≡ true = ap is_gt f in cc)
  by_orders Equal p e f g h = ap is_gt ((compare_keys_total class.order).congr x y z e) ∙ h
  by_orders Greater p e f g h = absurd (let k : is_gt (compare_keys class.order x y) ≡ true = ap is_gt e in cc)

not_after_trans : (class : ClassRule) (x y z : Row) → NotAfter class x y → NotAfter class y z → NotAfter class x z
not_after_trans class x y z g h = by_orders class x y z (compare_keys class.order x y) (compare_keys class.order y z) refl refl g h

turned : (a b : Ordering) → a ≡ ordering_reverse b → is_gt b ≡ true → is_gt a ≡ false
turned a Less e g = cc
turned a Equal e g = cc
turned a Greater e g = ap is_gt e

not_after_other : (class : ClassRule) (x y : Row) → is_gt (compare_keys class.order x y) ≡ true → NotAfter class y x
not_after_other class x y g = turned (compare_keys class.order y x) (compare_keys class.order x y) ((compare_keys_total class.order).antisymm y x) g

-- ---- sorting positions by insertion

module _ (class : ClassRule) (rows : List Row) where
  abbrev stands_after : ℕ → ℕ → Bool
  stands_after p q = is_gt (compare_keys class.order (row_at rows p) (row_at rows q))

  abbrev R : ℕ → ℕ → Type 0
  R p q = NotAfter class (row_at rows p) (row_at rows q)

  abbrev inserted : ℕ → List ℕ → List ℕ
  inserted p [] = p ∷ []
  inserted p (q ∷ qs) = cond (stands_after p q) (q ∷ inserted p qs) (p ∷ q ∷ qs)

  abbrev pub sorted : List ℕ → List ℕ
  sorted [] = []
  sorted (p ∷ ps) = inserted p (sorted ps)

  insert_step : (p q : ℕ) (qs : List ℕ) (b : Bool) → stands_after p q ≡ b → Perm ℕ (p ∷ qs) (inserted p qs) → Perm ℕ (p ∷ q ∷ qs) (inserted p (q ∷ qs))
  insert_step p q qs true e h = rw e (both (flip p q qs) (keep q h))
  insert_step p q qs false e h = rw e (Perm-refl (p ∷ q ∷ qs))

  Perm-inserted : (p : ℕ) (qs : List ℕ) → Perm ℕ (p ∷ qs) (inserted p qs)
  Perm-inserted p [] = Perm-refl (p ∷ [])
  Perm-inserted p (q ∷ qs) = insert_step p q qs (stands_after p q) refl (Perm-inserted p qs)

  Perm-sorted : (ps : List ℕ) → Perm ℕ ps (sorted ps)
  Perm-sorted [] = done
  Perm-sorted (p ∷ ps) = both (keep p (Perm-sorted ps)) (Perm-inserted p (sorted ps))

  before_all : (p q : ℕ) (qs : List ℕ) → R p q → AllByRecursion (R q) qs → AllByRecursion (R p) qs
  before_all p q [] h a = tt
  before_all p q (y ∷ qs) h a = (not_after_trans class (row_at rows p) (row_at rows q) (row_at rows y) h a.0, before_all p q qs h a.1)

  rising_step : (p q : ℕ) (qs : List ℕ) (b : Bool) → stands_after p q ≡ b → Rising R (q ∷ qs) → Rising R (inserted p qs) → Rising R (inserted p (q ∷ qs))
  rising_step p q qs true e h g = rw e (Perm-all (R q) (Perm-inserted p qs) (not_after_other class (row_at rows p) (row_at rows q) e, h.0), g)
  rising_step p q qs false e h g = rw e ((e, before_all p q qs e h.0), h)

  Rising-inserted : (p : ℕ) (qs : List ℕ) → Rising R qs → Rising R (inserted p qs)
  Rising-inserted p [] h = (tt, tt)
  Rising-inserted p (q ∷ qs) h = rising_step p q qs (stands_after p q) refl h (Rising-inserted p qs h.1)

  Rising-sorted : (ps : List ℕ) → Rising R (sorted ps)
  Rising-sorted [] = tt
  Rising-sorted (p ∷ ps) = Rising-inserted p (sorted ps) (Rising-sorted ps)

  all_rows : (p : ℕ) (qs : List ℕ) → AllByRecursion (R p) qs → AllByRecursion (λ q. same_partition class (row_at rows p) q ≡ true → NotAfter class (row_at rows p) q) (rows_at rows qs)
  all_rows p [] a = tt
  all_rows p (q ∷ qs) a = ((λ same. a.0), all_rows p qs a.1)

  in_order : (qs : List ℕ) → Rising R qs → IsInOrder class (rows_at rows qs)
  in_order [] h = tt
  in_order (q ∷ qs) h = (all_rows q qs h.0, in_order qs h.1)

  pub some_ordering : IsOrdering class rows (sorted (positions (length rows)))
  some_ordering = record {
    once = SameBag-from_Perm eqb Decides-eqb (Perm-sorted (positions (length rows)));
    in_order = in_order (sorted (positions (length rows))) (Rising-sorted (positions (length rows)));
  }

-- ---- choices

-- an ordering for each of several classes, over a node's input
abbrev own : RowsOrFault → List ClassRule → List (List ℕ)
own (Ok rows) classes = map (λ class. sorted class rows (positions (length rows))) classes
own (Err fault) classes = map (λ class. []) classes

length-own : (input : RowsOrFault) (classes : List ClassRule) → length (own input classes) ≡ length classes
length-own (Ok rows) classes = length-map classes (λ class. sorted class rows (positions (length rows)))
length-own (Err fault) classes = length-map classes (λ class. [])

all_empty : (classes : List ClassRule) → AllByRecursion (λ (o : List ℕ). o ≡ []) (map (λ (class : ClassRule). []) classes)
all_empty [] = tt
all_empty (class ∷ classes) = (refl, all_empty classes)

own_lawful : (classes : List ClassRule) (input : RowsOrFault) → AreOrderingsOver classes input (own input classes)
own_lawful classes (Ok rows) = record {
  number = length-own (Ok rows) classes;
  each = λ n within. (
      let order = λ (class : ClassRule). sorted class rows (positions (length rows)) in
      let at : ordering_at (own (Ok rows) classes) n ≡ order (class_among classes n) = get_or-map order classes n (record { partition = []; order = [] }) [] within in
      subst (IsOrdering (class_among classes n) rows) (sym at) (some_ordering (class_among classes n) rows));
}
own_lawful classes (Err fault) = all_empty classes

pub has_valid_choice : HasValidChoice
has_valid_choice (Scan table columns) instance = ([], record { number = refl; lawful = tt })
has_valid_choice (Join condition left right) instance =
    let l = has_valid_choice left instance in
    let r = has_valid_choice right instance in
    let n : length l.0 ≡ ordering_count left = l.1.number in
    let m : length r.0 ≡ ordering_count right = r.1.number in
    let following : drop (ordering_count left) (l.0 ++ r.0) ≡ r.0 = subst (λ k. drop k (l.0 ++ r.0) ≡ r.0) n (drop-append_seam l.0 r.0) in (
      l.0 ++ r.0,
      record {
        number = length-append l.0 r.0 ∙ omega arith;
        lawful = (AreLawful-append left instance l.0 r.0 (omega arith) l.1.lawful, subst (AreLawful right instance) (sym following) r.1.lawful);
      },
    )
has_valid_choice (Over step input) instance =
    let b = has_valid_choice input instance in
    let n : length b.0 ≡ ordering_count input = b.1.number in
    let rows = outcome input instance b.0 in
    let o = own rows (step_classes step) in
    let m : length o ≡ length (step_classes step) = length-own rows (step_classes step) in (
      b.0 ++ o,
      record { number = length-append b.0 o ∙ omega arith; lawful = AreLawful-over step input instance b.0 o n m b.1.lawful (own_lawful (step_classes step) rows) },
    )
