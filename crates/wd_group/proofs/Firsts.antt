-- A row is the first of its group exactly where the group's positions begin with its own.
use Rattle.std.proofs.Common.{◌≡◌, ◌∙◌, ℕ, zero, suc, ◌+◌, ◌<◌, Bool, true, false, cond, not, ◌||◌, List, [], ◌∷◌, filter, length, nat_eq, refl, sym, ap, arith, None, Some, slice_get}
use Rattle.std.specs.List.{list_any, range_with_len}
use Rattle.std.proofs.lemmas.Bool.{eq-eqb, ne_eqb}
use Rattle.wd_value.specs.Bags.{positions}
use Rattle.wd_value.specs.Rows.{Row, columns_of, row_at}
use Rattle.wd_value.proofs.SameLaws.{same_row-Decides}
use Rattle.wd_plan.specs.Partitions.{members}
use Rattle.wd_plan.specs.Sorting.{same_partition}
use Rattle.wd_group.specs.Sets.{begins_at, is_first, set_class}

module _ (t : ℕ → Bool) where
  begins_after : (n a d : ℕ) → begins_at (filter t (range_with_len (a + 1) n)) ((a + 1) + d) ≡ not (list_any t (range_with_len (a + 1) d)) → (b : Bool) → begins_at (cond b (a ∷ filter t (range_with_len (a + 1) n)) (filter t (range_with_len (a + 1) n))) (a + suc d) ≡ not (b || list_any t (range_with_len (a + 1) d))
  begins_after n a d after true = ne_eqb a (a + suc d) (λ s. absurd (omega arith))
  begins_after n a d after false =
      let next : (a + 1) + d ≡ a + suc d = omega arith in
      ap (begins_at (filter t (range_with_len (a + 1) n))) (sym next) ∙ after

  begins : (n a d : ℕ) → d < n → t (a + d) ≡ true → begins_at (filter t (range_with_len a n)) (a + d) ≡ not (list_any t (range_with_len a d))
  begins zero a d h e = absurd (omega arith)
  begins (suc n) a zero h e =
      let here : t a ≡ true = ap t (omega arith) ∙ e in
      ap (λ b. begins_at (cond b (a ∷ filter t (range_with_len (a + 1) n)) (filter t (range_with_len (a + 1) n))) (a + zero)) here
      ∙ eq-eqb a (a + zero) (omega arith)
  begins (suc n) a (suc d) h e =
      let next : (a + 1) + d ≡ a + suc d = omega arith in
      begins_after n a d (begins n (a + 1) d (omega arith) (ap t next ∙ e)) (t a)

-- whether the group of a row begins at it
pub begins_group : (columns : ℕ) (set : List ℕ) (rows : List Row) (p : ℕ) → p < length rows → begins_at (members (set_class columns set) rows (positions (length rows)) p) p ≡ is_first columns set rows p
begins_group columns set rows p low =
    let class = set_class columns set in
    let own : ℕ → Bool = λ q. same_partition class (row_at rows p) (row_at rows q) in
    let itself : own p ≡ true = (same_row-Decides (columns_of class.partition (row_at rows p)) (columns_of class.partition (row_at rows p))).1 refl in
    ap (begins_at (filter own (positions (length rows)))) (omega arith)
    ∙ begins own (length rows) 0 p low (ap own (omega arith) ∙ itself)

-- ---- the first element

some_same : {a b : ℕ} → Some a ≡ Some b → a ≡ b
some_same e = cc

pub begins_first : (xs : List ℕ) (q p : ℕ) → Some q ≡ slice_get xs 0 → nat_eq q p ≡ begins_at xs p
begins_first [] q p e = absurd cc
begins_first (x ∷ xs) q p e = ap (λ y. nat_eq y p) (some_same e)

pub begins_none : (xs : List ℕ) (p : ℕ) → None ≡ slice_get xs 0 → false ≡ begins_at xs p
begins_none [] p e = refl
begins_none (x ∷ xs) p e = absurd cc
