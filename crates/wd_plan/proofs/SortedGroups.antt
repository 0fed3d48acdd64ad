-- Along a sorted partition list the group goes up by one where the key changes: what an evaluator counts.
use Rattle.std.proofs.Common.{◌≡◌, suc, ◌+◌, Bool, true, false, cond, not, ◌&&◌, ◌||◌, List, [], ◌∷◌, ◌++◌, map, length, filter, refl, sym, ◌∙◌, ap, arith, zero-add, Ordering, Less, Equal, Greater, is_lt, is_gt}
use Rattle.std.specs.List.{AllByRecursion, list_any}
use Rattle.std.specs.Ordering.{ordering_reverse}
use Rattle.std.proofs.lemmas.Cmp.{tied_itself}
use Rattle.std.proofs.lemmas.Bool.{and_parts}
use Rattle.std.proofs.lemmas.List.{get_or_at, length-append}
use Rattle.wd_plan.proofs.Groups.{below, group_alike, group_split, passes_some}
use Rattle.wd_value.proofs.KeyLaws.{compare_keys-exact, compare_keys_total}
use Rattle.wd_plan.proofs.Parts.{NotAfter, all_filter}
use Rattle.wd_plan.proofs.Sorted.{Rising}
use Rattle.wd_value.specs.Keys.{compare_keys}
use Rattle.wd_plan.specs.Partitions.{different, group_of}
use Rattle.wd_plan.specs.Plans.{ClassRule}
use Rattle.wd_plan.specs.Sorting.{order_columns}
use Rattle.wd_value.proofs.SameLaws.{same_row-Decides}
use Rattle.wd_value.specs.Rows.{Row, columns_of, row_at, same_row}
use Rattle.wd_value.specs.declared.value.Value.{Value}

module _ (class : ClassRule) where
  not_less : (a b : Ordering) → a ≡ ordering_reverse b → is_gt b ≡ false → is_lt a ≡ false
  not_less a Less e g = rw e refl
  not_less a Equal e g = rw e refl
  not_less a Greater e g = cc

  none_below : (r : Row) (rs : List Row) → AllByRecursion (NotAfter class r) rs → filter (λ q. is_lt (compare_keys class.order q r)) rs ≡ []
  none_below r [] a = refl
  none_below r (q ∷ rs) a = rw (not_less _ _ ((compare_keys_total class.order).antisymm q r) a.0) (none_below r rs a.1)

  -- the first row's group is 0
  pub first_group : (r : Row) (rs : List Row) → AllByRecursion (NotAfter class r) rs → group_of class (r ∷ rs) r ≡ 0
  first_group r rs a =
      let self : is_lt (compare_keys class.order r r) ≡ false = ap is_lt (tied_itself (compare_keys_total class.order) r) in
      ap (λ (l : List Row). different (map (columns_of (order_columns class)) l)) ((rw self refl) ∙ none_below r rs a)

  -- a row with the same key as the one before it has the same group
  pub tied_group : (part : List Row) (q r : Row) → compare_keys class.order q r ≡ Equal → group_of class part r ≡ group_of class part q
  tied_group part q r e = sym (group_alike class part q r (compare_keys-exact class.order q r e))

  -- ---- where the key changes

  all_in : (P : Row → Type 0) (pre : List Row) (q : Row) (post : List Row) → AllByRecursion P (pre ++ q ∷ post) → P q
  all_in P [] q post a = a.0
  all_in P (x ∷ pre) q post a = all_in P pre q post a.1

  tie_or_less : (a : Ordering) → is_gt a ≡ false → is_lt a ≡ false → a ≡ Equal
  tie_or_less Less e f = cc
  tie_or_less Equal e f = refl
  tie_or_less Greater e f = cc

  not_both : (b : Bool) → not b ≡ true → b ≡ false
  not_both true e = cc
  not_both false e = refl

  -- of the members up to r, those that are not before q have q's key
  abbrev Tied : Row → Row → Row → Type 0
  Tied q r y = (below class r y && not (below class q y)) ≡ true → columns_of (order_columns class) y ≡ columns_of (order_columns class) q

  after : (q r : Row) (post : List Row) → AllByRecursion (NotAfter class r) post → AllByRecursion (Tied q r) post
  after q r [] a = tt
  after q r (y ∷ post) a = ((λ e. absurd (let f = and_parts (below class r y) (not (below class q y)) e in let g = not_less _ _ ((compare_keys_total class.order).antisymm y r) a.0 in cc)), after q r post a.1)

  tied_members : (pre : List Row) (q r : Row) (post : List Row) → Rising (NotAfter class) (pre ++ q ∷ r ∷ post) → AllByRecursion (Tied q r) (pre ++ q ∷ r ∷ post)
  tied_members [] q r post h =
      ((λ e. refl), ((λ e. absurd (let f = and_parts (below class r r) (not (below class q r)) e in let g = tied_itself (compare_keys_total class.order) r in let k : is_lt (compare_keys class.order r r) ≡ false = ap is_lt g in cc)), after q r post h.1.0))
  tied_members (x ∷ pre) q r post h =
      ((λ e. let f = and_parts (below class r x) (not (below class q x)) e in compare_keys-exact class.order x q (tie_or_less (compare_keys class.order x q) (all_in (NotAfter class x) pre q (r ∷ post) h.0) (not_both (below class q x) f.1))), tied_members pre q r post h.1)

  one_key : (k : List Value) (rs : List Row) → AllByRecursion (λ y. columns_of (order_columns class) y ≡ k) rs → (y : Row) (ys : List Row) → rs ≡ y ∷ ys → different (map (columns_of (order_columns class)) rs) ≡ 1
  one_key k [] a y ys e = absurd (cc)
  one_key k (z ∷ []) a y ys e = refl
  one_key k (z ∷ x ∷ rs) a y ys e =
      let same : same_row (columns_of (order_columns class) z) (columns_of (order_columns class) x) ≡ true = (same_row-Decides _ _).1 (a.0 ∙ sym a.1.0) in
      let rest = one_key k (x ∷ rs) a.1 x rs refl in
      ap (λ b. cond (b || list_any (same_row (columns_of (order_columns class) z)) (map (columns_of (order_columns class)) rs)) 0 1 + different (map (columns_of (order_columns class)) (x ∷ rs))) same ∙ zero-add _ ∙ rest

  -- neighbours in the sorted list: where the key changes the group goes up by one
  pub next_group : (pre : List Row) (q r : Row) (post : List Row) → Rising (NotAfter class) (pre ++ q ∷ r ∷ post) → compare_keys class.order q r ≡ Less → group_of class (pre ++ q ∷ r ∷ post) r ≡ group_of class (pre ++ q ∷ r ∷ post) q + 1
  next_group pre q r post h less =
      let part = pre ++ q ∷ r ∷ post in
      let t = λ (y : Row). below class r y && not (below class q y) in
      let keys : AllByRecursion (λ y. columns_of (order_columns class) y ≡ columns_of (order_columns class) q) (filter t part) = all_filter t (Tied q r) (λ y. columns_of (order_columns class) y ≡ columns_of (order_columns class) q) (λ y f e. f e) part (tied_members pre q r post h) in
      let q_below : below class r q ≡ true = ap is_lt less in
      let q_not : below class q q ≡ false = ap is_lt (tied_itself (compare_keys_total class.order) q) in
      let q_passes : t q ≡ true = (λ k. q_below k && not (q_not k)) in
      let at_q : row_at part (length pre) ≡ q = get_or_at pre q (r ∷ post) [] (length pre) refl in
      let long : length part ≡ length pre + suc (suc (length post)) = length-append pre (q ∷ r ∷ post) in
      let some = passes_some t part (length pre) [] (omega arith) (ap t at_q ∙ q_passes) in
      group_split class part q r less ∙ ap (λ n. group_of class part q + n) (one_key (columns_of (order_columns class) q) (filter t part) keys some.0 some.1 some.2)
