-- A Window keeps outcomes that agree.
use Rattle.std.proofs.Common.{◌≡◌, ℕ, ◌<◌, List, [], ◌∷◌, ◌++◌, map, length, filter, get_or, refl, sym, ◌∙◌, ap, subst, arith, ◌⊎◌, inl, inr, Ok, Result}
use Rattle.std.specs.List.{AllByRecursion}
use Rattle.std.proofs.lemmas.List.{length-map}
use Rattle.std.proofs.lemmas.List.Elements.{filter_passes}
use Rattle.wd_laws.proofs.Calls.{by_row}
use Rattle.wd_laws.proofs.Exchange.{SamePlace, below_filter, by_places, gives_all_looks}
use Rattle.wd_plan.proofs.Places.{same_shows}
use Rattle.wd_laws.proofs.Grouped.{Matches, Perm-from_matches}
use Rattle.wd_laws.proofs.Outcomes.{Alike, Alike-all_ok}
use Rattle.wd_laws.proofs.Parts.{LooksBy, rows_at_positions}
use Rattle.wd_plan.proofs.Parts.{map_filter}
use Rattle.wd_plan.specs.Calls.{call_value, value_at}
use Rattle.wd_plan.specs.Choices.{AreOrderings}
use Rattle.wd_plan.specs.Facts.{DeterminesAll, HasWidth}
use Rattle.wd_plan.specs.Faults.{all_ok, and_then}
use Rattle.wd_plan.specs.Settled.{IsByRow, IsSettledCall}
use Rattle.wd_plan.specs.Outcomes.{call_at, class_at, extended, ordering_at, window_outcome}
use Rattle.wd_plan.specs.Plans.{NameBelow, NamesClasses, WindowRule}
use Rattle.wd_plan.specs.Sorting.{class_columns}
use Rattle.wd_plan.specs.declared.window.Call.{Call}
use Rattle.wd_value.proofs.Perms.{Perm, Perm-filter, Perm-length}
use Rattle.wd_value.proofs.SameLaws.{same_row-Decides}
use Rattle.wd_value.specs.Bags.{EachOnce, positions}
use Rattle.wd_value.specs.Rows.{Row, row_at, same_row}
use Rattle.wd_value.specs.declared.value.Fault.{Fault}

-- ---- a row with the values of its calls

map_agrees : {X Y : Type 0} (f g : X → Y) (xs : List X) → AllByRecursion (λ x. f x ≡ g x) xs → map f xs ≡ map g xs
map_agrees f g [] a = refl
map_agrees f g (x ∷ xs) a = λ i. a.0 i ∷ map_agrees f g xs a.1 i

all_weaker : {X : Type 0} (P Q : X → Type 0) → ((x : X) → P x → Q x) → (xs : List X) → AllByRecursion P xs → AllByRecursion Q xs
all_weaker P Q f [] a = tt
all_weaker P Q f (x ∷ xs) a = (f x a.0, all_weaker P Q f xs a.1)

pub extended_agrees : (w : WindowRule) (rows others : List Row) (os1 os2 : List (List ℕ)) (p q : ℕ) → row_at rows p ≡ row_at others q → AllByRecursion (λ call. call_at w rows os1 p call ≡ call_at w others os2 q call) w.calls → extended w rows os1 p ≡ extended w others os2 q
extended_agrees w rows others os1 os2 p q e a = λ i. and_then (all_ok (map_agrees (call_at w rows os1 p) (call_at w others os2 q) w.calls a i)) (λ values. Ok (e i ++ values))

-- a call of the Window that goes by the row
abbrev pub IsCallByRow : WindowRule → List Row → Call → Type 0
IsCallByRow w rows call = IsByRow (class_at w call.class) call.frame call.function rows

module _ (w : WindowRule) (rows others : List Row) (os1 os2 : List (List ℕ)) (perm : Perm Row rows others) (v1 : AreOrderings w.classes rows os1) (v2 : AreOrderings w.classes others os2) where
  pub call_by_row : (call : Call) → call.class < length w.classes → IsCallByRow w rows call → (p q : ℕ) → p < length rows → q < length others → row_at rows p ≡ row_at others q → call_at w rows os1 p call ≡ call_at w others os2 q call
  call_by_row call n h p q k l e = by_row (class_at w call.class) call.frame call.function rows others (ordering_at os1 call.class) (ordering_at os2 call.class) p q h perm (v1.each call.class n) (v2.each call.class n) k l e

  same_length : length rows ≡ length others
  same_length = Perm-length perm

  -- every call is by the row: a row shows the same wherever it stands
  pub rows_by_row : AllByRecursion (λ call. (call.class < length w.classes) × IsCallByRow w rows call) w.calls → Perm (Result Row Fault) (map (extended w rows os1) (positions (length rows))) (map (extended w others os2) (positions (length others)))
  rows_by_row h = Perm-from_matches same_row same_row-Decides (λ (r : Row). r) (row_at rows) (row_at others) (extended w rows os1) (extended w others os2) (positions (length rows)) (positions (length others)) matches
    where
      once1 : EachOnce (length rows) (positions (length rows))
      once1 x = refl

      once2 : EachOnce (length others) (positions (length others))
      once2 x = refl

      matches : Matches same_row same_row-Decides (λ (r : Row). r) (row_at rows) (row_at others) (extended w rows os1) (extended w others os2) (positions (length rows)) (positions (length others))
      matches x =
          let t = λ (p : ℕ). same_row x (row_at rows p) in
          let s = λ (q : ℕ). same_row x (row_at others q) in
          let us = filter t (positions (length rows)) in
          let vs = filter s (positions (length others)) in
          let long1 : length us ≡ length (filter (same_row x) rows) = sym (length-map us (row_at rows)) ∙ ap length (map_filter (row_at rows) (same_row x) (positions (length rows)) ∙ ap (filter (same_row x)) (rows_at_positions rows)) in
          let long2 : length vs ≡ length (filter (same_row x) others) = sym (length-map vs (row_at others)) ∙ ap length (map_filter (row_at others) (same_row x) (positions (length others)) ∙ ap (filter (same_row x)) (rows_at_positions others)) in
          let long : length us ≡ length vs = long1 ∙ Perm-length (Perm-filter (same_row x) perm) ∙ sym long2 in
          same_shows (extended w rows os1) (extended w others os2) us vs 0 0 long (λ i l.
          let l' : i < length vs = omega arith in
          let u = get_or us i 0 in
          let v = get_or vs i 0 in
          let e : row_at rows u ≡ row_at others v = sym ((same_row-Decides x (row_at rows u)).0 (filter_passes t (positions (length rows)) i 0 l)) ∙ (same_row-Decides x (row_at others v)).0 (filter_passes s (positions (length others)) i 0 l') in
          extended_agrees w rows others os1 os2 u v e (all_weaker (λ call. (call.class < length w.classes) × IsCallByRow w rows call) (λ call. call_at w rows os1 u call ≡ call_at w others os2 v call)
          (λ call j. call_by_row call j.0 j.1 u v (below_filter rows (positions (length rows)) t i once1 l) (below_filter others (positions (length others)) s i once2 l') e) w.calls h))

  -- one class gives every column, and each other call is by the row
  module _ (e : ℕ) (range_asks : e < length w.classes) (looks : LooksBy (class_at w e) rows (λ r. r)) where
    at_same_place : (u v : ℕ) → SamePlace (class_at w e) rows others (ordering_at os1 e) (ordering_at os2 e) u v → (call : Call) → (call.class < length w.classes) × (IsCallByRow w rows call ⊎ (call.class ≡ e)) → call_at w rows os1 u call ≡ call_at w others os2 v call
    at_same_place u v s call (n, inl h) = call_by_row call n h u v s.here s.there s.row
    at_same_place u v s call (n, inr is_e) =
        ap (λ c. value_at (class_at w c) call.frame call.function rows (ordering_at os1 c) u) is_e
        ∙ (λ i. call_value (class_at w e) call.frame call.function (s.partition i) (s.place i))
        ∙ sym (ap (λ c. value_at (class_at w c) call.frame call.function others (ordering_at os2 c) v) is_e)

    pub rows_by_exchange : AllByRecursion (λ call. (call.class < length w.classes) × (IsCallByRow w rows call ⊎ (call.class ≡ e))) w.calls → Perm (Result Row Fault) (map (extended w rows os1) (positions (length rows))) (map (extended w others os2) (positions (length others)))
    rows_by_exchange h = by_places (class_at w e) rows others (ordering_at os1 e) (ordering_at os2 e) looks perm (v1.each e range_asks) (v2.each e range_asks) (extended w rows os1) (extended w others os2) (λ u v s.
        extended_agrees w rows others os1 os2 u v s.row (all_weaker (λ call. (call.class < length w.classes) × (IsCallByRow w rows call ⊎ (call.class ≡ e))) (λ call. call_at w rows os1 u call ≡ call_at w others os2 v call) (at_same_place u v s) w.calls h))

-- ---- the law

-- every call is by the row, or the exchange class is a class and gives every column
sorts_out : (w : WindowRule) (e width : ℕ) (rows : List Row) (calls : List Call) → NameBelow (length w.classes) calls → AllByRecursion (IsSettledCall w e width rows) calls →
    AllByRecursion (λ call. (call.class < length w.classes) × IsCallByRow w rows call) calls ⊎ ((e < length w.classes) × DeterminesAll rows width (class_columns (class_at w e)))
sorts_out w e width rows [] n a = inl tt
sorts_out w e width rows (call ∷ calls) n a = with_rest a.0 (sorts_out w e width rows calls n.1 a.1)
  where
    with_rest : IsSettledCall w e width rows call → AllByRecursion (λ call'. (call'.class < length w.classes) × IsCallByRow w rows call') calls ⊎ ((e < length w.classes) × DeterminesAll rows width (class_columns (class_at w e))) →
        AllByRecursion (λ call'. (call'.class < length w.classes) × IsCallByRow w rows call') (call ∷ calls) ⊎ ((e < length w.classes) × DeterminesAll rows width (class_columns (class_at w e)))
    with_rest j (inr r) = inr r
    with_rest (inl by_the_row) (inl r) = inl ((n.0, by_the_row), r)
    with_rest (inr exchange) (inl r) = inr (subst (λ c. c < length w.classes) exchange.0 n.0, subst (λ c. DeterminesAll rows width (class_columns (class_at w c))) exchange.0 exchange.1)

by_row_or_exchange : (w : WindowRule) (e width : ℕ) (rows : List Row) (call : Call) → IsSettledCall w e width rows call → IsCallByRow w rows call ⊎ (call.class ≡ e)
by_row_or_exchange w e width rows call (inl h) = inl h
by_row_or_exchange w e width rows call (inr h) = inr h.0

all_both : {X : Type 0} (P Q R : X → Type 0) → ((x : X) → P x → Q x → R x) → (xs : List X) → AllByRecursion P xs → AllByRecursion Q xs → AllByRecursion R xs
all_both P Q R f [] a b = tt
all_both P Q R f (x ∷ xs) a b = (f x a.0 b.0, all_both P Q R f xs a.1 b.1)

pub Alike-window : (w : WindowRule) (e width : ℕ) (rows others : List Row) (os1 os2 : List (List ℕ)) → Perm Row rows others → AreOrderings w.classes rows os1 → AreOrderings w.classes others os2 → HasWidth width rows → NamesClasses w → AllByRecursion (IsSettledCall w e width rows) w.calls → Alike (window_outcome w rows os1) (window_outcome w others os2)
Alike-window w e width rows others os1 os2 perm v1 v2 wide n a = by_cases (sorts_out w e width rows w.calls n a)
  where
    by_cases : AllByRecursion (λ call. (call.class < length w.classes) × IsCallByRow w rows call) w.calls ⊎ ((e < length w.classes) × DeterminesAll rows width (class_columns (class_at w e))) → Alike (window_outcome w rows os1) (window_outcome w others os2)
    by_cases (inl h) = Alike-all_ok _ _ (rows_by_row w rows others os1 os2 perm v1 v2 h)
    by_cases (inr h) =
        let p = rows_by_exchange w rows others os1 os2 perm v1 v2 e h.0 (gives_all_looks (class_at w e) rows width wide h.1)
        (all_both (λ (call : Call). call.class < length w.classes) (IsSettledCall w e width rows) (λ call. (call.class < length w.classes) × (IsCallByRow w rows call ⊎ (call.class ≡ e))) (λ call k j. (k, by_row_or_exchange w e width rows call j)) w.calls n a) in
        Alike-all_ok _ _ p
