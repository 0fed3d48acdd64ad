-- The group of a row, counted without an ordering, rises with its key.
use Rattle.std.proofs.Common.{◌≡◌, ℕ, zero, suc, ◌+◌, ◌<◌, Bool, true, false, cond, not, ◌&&◌, ◌||◌, List, [], ◌∷◌, ◌++◌, map, length, filter, get_or, refl, sym, ◌∙◌, ap, subst, arith, Ordering, Less, Equal, Greater, is_lt}
use Rattle.std.specs.List.{AllByRecursion, list_any}
use Rattle.std.specs.Ordering.{ordering_reverse}
use Rattle.std.proofs.lemmas.List.{map-append}
use Rattle.std.proofs.lemmas.Cmp.{alike_right, tied_itself}
use Rattle.wd_value.proofs.KeyLaws.{compare_keys-exact, compare_keys-ties, compare_keys_total}
use Rattle.wd_value.specs.Keys.{compare_keys}
use Rattle.wd_plan.specs.Partitions.{different, group_of}
use Rattle.wd_plan.specs.Plans.{ClassRule}
use Rattle.wd_plan.specs.Sorting.{order_columns}
use Rattle.wd_value.specs.declared.order.SortColumn.{SortColumn}
use Rattle.wd_value.proofs.Perms.{Perm, Perm-map, Perm-middle, Perm-refl, Perm-sym, both, keep, Perm-list_any, done, flip}
use Rattle.wd_value.proofs.SameLaws.{same_row-Decides}
use Rattle.wd_value.specs.Rows.{Row, columns_of, row_at, same_row}
use Rattle.wd_value.specs.declared.value.Value.{Value}

-- ---- different keys

if_swaps : (ks : List (List Value)) (k l : List Value) (a b : Bool) → same_row k l ≡ a → same_row l k ≡ b → different (k ∷ l ∷ ks) ≡ different (l ∷ k ∷ ks)
if_swaps ks k l true true e f = ap (λ m. different (m ∷ l ∷ ks)) ((same_row-Decides k l).0 e) ∙ ap (λ m. different (l ∷ m ∷ ks)) (sym ((same_row-Decides k l).0 e))
if_swaps ks k l true false e f = absurd (let g = (same_row-Decides l k).1 (sym ((same_row-Decides k l).0 e)) in cc)
if_swaps ks k l false true e f = absurd (let g = (same_row-Decides k l).1 (sym ((same_row-Decides l k).0 f)) in cc)
if_swaps ks k l false false e f = rw (e, f) (omega arith)

pub Perm-different : {ks ls : List (List Value)} → Perm (List Value) ks ls → different ks ≡ different ls
Perm-different done = refl
Perm-different (keep k {xs = xs} {ys = ys} p) = (λ i. cond (Perm-list_any (same_row k) p i) 0 1 + Perm-different p i)
Perm-different (flip k l ks) = if_swaps ks k l (same_row k l) (same_row l k) refl refl
Perm-different (both p q) = Perm-different p ∙ Perm-different q

pub any_append : {X : Type 0} (t : X → Bool) (xs ys : List X) → list_any t (xs ++ ys) ≡ (list_any t xs || list_any t ys)
any_append t [] ys = refl
any_append t (x ∷ xs) ys = ap (λ b. t x || b) (any_append t xs ys) ∙ or_assoc (t x) (list_any t xs) (list_any t ys)
  where
    or_assoc : (a b c : Bool) → (a || (b || c)) ≡ ((a || b) || c)
    or_assoc true b c = refl
    or_assoc false b c = refl

different_step : (k : List Value) (ks ls : List (List Value)) (b : Bool) → list_any (same_row k) ks ≡ b → list_any (same_row k) ls ≡ false → different (ks ++ ls) ≡ different ks + different ls → different (k ∷ (ks ++ ls)) ≡ different (k ∷ ks) + different ls
different_step k ks ls true e f h = rw (any_append (same_row k) ks ls, e) (omega arith)
different_step k ks ls false e f h = rw (any_append (same_row k) ks ls, e, f) (omega arith)

-- lists with no key in common
pub different-append : (ks ls : List (List Value)) → AllByRecursion (λ k. list_any (same_row k) ls ≡ false) ks → different (ks ++ ls) ≡ different ks + different ls
different-append [] ls a = omega arith
different-append (k ∷ ks) ls a = different_step k ks ls (list_any (same_row k) ks) refl a.0 (different-append ks ls a.1)

pub different_some : (k : List Value) (ks : List (List Value)) → 0 < different (k ∷ ks)
different_some k [] = omega arith
different_some k (l ∷ ks) = let h = different_some l ks in omega arith

-- a filter by a stronger test, and what it leaves
split_step : {X : Type 0} (s t : X → Bool) (x : X) (xs : List X) (b c : Bool) → s x ≡ b → t x ≡ c → (b ≡ true → c ≡ true) → Perm X (filter t xs) (filter s xs ++ filter (λ y. t y && not (s y)) xs) → Perm X (filter t (x ∷ xs)) (filter s (x ∷ xs) ++ filter (λ y. t y && not (s y)) (x ∷ xs))
split_step s t x xs true true e f h p = rw (e, f) (keep x p)
split_step s t x xs true false e f h p = absurd (let g = h refl in cc)
split_step s t x xs false true e f h p = rw (e, f) (both (keep x p) (Perm-sym (Perm-middle (filter s xs) x (filter (λ y. t y && not (s y)) xs))))
split_step s t x xs false false e f h p = rw (e, f) p

pub Perm-split : {X : Type 0} (s t : X → Bool) → ((x : X) → s x ≡ true → t x ≡ true) → (xs : List X) → Perm X (filter t xs) (filter s xs ++ filter (λ y. t y && not (s y)) xs)
Perm-split s t h [] = Perm-refl []
Perm-split s t h (x ∷ xs) = split_step s t x xs (s x) (t x) refl refl (h x) (Perm-split s t h xs)

passing : {X : Type 0} (t : X → Bool) (xs : List X) → AllByRecursion (λ x. t x ≡ true) (filter t xs)
passing t [] = tt
passing t (x ∷ xs) = by (t x) refl (passing t xs)
  where
    by : (b : Bool) → t x ≡ b → AllByRecursion (λ x'. t x' ≡ true) (filter t xs) → AllByRecursion (λ x'. t x' ≡ true) (cond b (x ∷ filter t xs) (filter t xs))
    by true e h = (e, h)
    by false e h = h

-- something passes
pub passes_some : {X : Type 0} (t : X → Bool) (xs : List X) (i : ℕ) (d : X) → i < length xs → t (get_or xs i d) ≡ true → (y : X) × (ys : List X) × (filter t xs ≡ y ∷ ys)
passes_some t [] i d l e = absurd (omega arith)
passes_some t (x ∷ xs) zero d l e = (x, filter t xs, rw e refl)
passes_some t (x ∷ xs) (suc i) d l e = by (t x) (passes_some t xs i d (omega arith) e)
  where
    by : (b : Bool) → (y : _) × (ys : _) × (filter t xs ≡ y ∷ ys) → (y : _) × (ys : _) × (cond b (x ∷ filter t xs) (filter t xs) ≡ y ∷ ys)
    by true r = (x, filter t xs, refl)
    by false r = r

-- ---- keys

less_chain : (items : List SortColumn) (a b c : Row) → is_lt (compare_keys items a b) ≡ true → compare_keys items b c ≡ Less → is_lt (compare_keys items a c) ≡ true
less_chain items a b c e f = ap is_lt ((compare_keys_total items).trans a b c (is_lt_Less _ e) f)
  where
    is_lt_Less : (o : Ordering) → is_lt o ≡ true → o ≡ Less
    is_lt_Less Less e = refl
    is_lt_Less Equal e = cc
    is_lt_Less Greater e = cc

module _ (class : ClassRule) where
  abbrev pub key : Row → List Value
  key r = columns_of (order_columns class) r

  abbrev pub below : Row → Row → Bool
  below q r = is_lt (compare_keys class.order r q)

  -- rows with one key stand on one side of q
  below_alike : (q a b : Row) → key a ≡ key b → below q a ≡ below q b
  below_alike q a b e = ap is_lt ((compare_keys_total class.order).congr a b q (compare_keys-ties class.order a b e))

  apart_step : (q a b : Row) (bs : List Row) (c : Bool) → same_row (key a) (key b) ≡ c → below q a ≡ true → below q b ≡ false → list_any (same_row (key a)) (map key bs) ≡ false → list_any (same_row (key a)) (map key (b ∷ bs)) ≡ false
  apart_step q a b bs true f e h rest = absurd (let g = below_alike q a b ((same_row-Decides (key a) (key b)).0 f) in cc)
  apart_step q a b bs false f e h rest = rw f rest

  apart_keys : (q a : Row) (bs : List Row) → below q a ≡ true → AllByRecursion (λ b. below q b ≡ false) bs → list_any (same_row (key a)) (map key bs) ≡ false
  apart_keys q a [] e h = refl
  apart_keys q a (b ∷ bs) e h = apart_step q a b bs (same_row (key a) (key b)) refl e h.0 (apart_keys q a bs e h.1)

  all_apart : (q : Row) (as' bs : List Row) → AllByRecursion (λ a. below q a ≡ true) as' → AllByRecursion (λ b. below q b ≡ false) bs → AllByRecursion (λ k. list_any (same_row k) (map key bs) ≡ false) (map key as')
  all_apart q [] bs h g = tt
  all_apart q (a ∷ as') bs h g = (apart_keys q a bs h.0 g, all_apart q as' bs h.1 g)

  second_part : (t s : Row → Bool) (xs : List Row) → AllByRecursion (λ y. (t y && not (s y)) ≡ true) xs → AllByRecursion (λ y. s y ≡ false) xs
  second_part t s [] a = tt
  second_part t s (x ∷ xs) a = (by (t x) (s x) a.0, second_part t s xs a.1)
    where
      by : (b c : Bool) → (b && not c) ≡ true → c ≡ false
      by true true e = cc
      by true false e = refl
      by false true e = cc
      by false false e = refl

  -- the group of a greater row counts the keys from the lesser one up to it besides
  pub group_split : (part : List Row) (q r : Row) → compare_keys class.order q r ≡ Less → group_of class part r ≡ group_of class part q + different (map key (filter (λ y. below r y && not (below q y)) part))
  group_split part q r less =
      let rest = λ (y : Row). below r y && not (below q y) in
      let split : Perm Row (filter (below r) part) (filter (below q) part ++ filter rest part) = Perm-split (below q) (below r) (λ x h. less_chain class.order x q r h less) part in
      Perm-different (Perm-map key split)
      ∙ ap different (map-append key (filter (below q) part) (filter rest part))
      ∙ different-append (map key (filter (below q) part)) (map key (filter rest part)) (all_apart q (filter (below q) part) (filter rest part) (passing (below q) part) (second_part (below r) (below q) (filter rest part) (passing rest part)))

  -- a member with a lesser key has a lower group
  pub group-lt : (part : List Row) (i : ℕ) (q r : Row) → i < length part → row_at part i ≡ q → compare_keys class.order q r ≡ Less → group_of class part q < group_of class part r
  group-lt part i q r l e less =
      let rest = λ (y : Row). below r y && not (below q y) in
      let q_below : below r q ≡ true = ap is_lt less in
      let q_not : below q q ≡ false = ap is_lt (tied_itself (compare_keys_total class.order) q) in
      let q_rest : rest q ≡ true = (λ k. q_below k && not (q_not k)) in
      let some = passes_some rest part i [] l (ap rest e ∙ q_rest) in
      let more : 0 < different (map key (filter rest part)) = subst (λ (l : List Row). 0 < different (map key l)) (sym some.2) (different_some (key some.0) (map key some.1)) in
      let sums = group_split part q r less in
      omega arith

  -- rows with one key have one group
  pub group_alike : (part : List Row) (q r : Row) → key q ≡ key r → group_of class part q ≡ group_of class part r
  group_alike part q r e =
      let tie = compare_keys-ties class.order q r e in
      let same_below : below q ≡ below r = λ k y. is_lt (alike_right (compare_keys_total class.order) q r y tie k) in
      ap (λ (t : Row → Bool). different (map key (filter t part))) same_below

  -- members of one group have one key
  pub key_from_group : (part : List Row) (i j : ℕ) → i < length part → j < length part → group_of class part (row_at part i) ≡ group_of class part (row_at part j) → key (row_at part i) ≡ key (row_at part j)
  key_from_group part i j k l e = by (compare_keys class.order (row_at part i) (row_at part j)) refl
    where
      by : (o : Ordering) → compare_keys class.order (row_at part i) (row_at part j) ≡ o → key (row_at part i) ≡ key (row_at part j)
      by Less f = absurd (let g = group-lt part i (row_at part i) (row_at part j) k refl f in omega arith)
      by Equal f = compare_keys-exact class.order (row_at part i) (row_at part j) f
      by Greater f = absurd (let g = group-lt part j (row_at part j) (row_at part i) l refl ((compare_keys_total class.order).antisymm (row_at part j) (row_at part i) ∙ ap ordering_reverse f) in omega arith)
