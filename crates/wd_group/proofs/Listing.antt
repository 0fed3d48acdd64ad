-- The lists of the positions that have one number.
use Rattle.std.proofs.Common.{◌≡◌, ◌∙◌, ℕ, suc, ◌+◌, ◌<◌, Bool, true, false, cond, List, [], ◌∷◌, ◌++◌, filter, get_or, length, nat_eq, set, refl, sym, ap, subst, arith}
use Rattle.std.specs.List.{AllByRecursion}
use Rattle.std.proofs.lemmas.Bool.{eqb-true, eqb-false}
use Rattle.std.proofs.lemmas.Grind.{get_or-set_at}
use Rattle.std.proofs.lemmas.List.{append-nil, get_or-set_other, length-set, nil_from_length}
use Rattle.std.proofs.lemmas.List.Elements.{All-filter, All-from_recursion, All-get_or, filter-append, recursion_from_All}
use Rattle.std.specs.Prelude.{All}
use Rattle.std.proofs.lemmas.List.Elements.{All-from_get_or}
use Rattle.std.proofs.lemmas.List.FromFn.{get_or-range_with_len, length-range_with_len}
use Rattle.wd_value.specs.Bags.{positions}
use Rattle.wd_value.specs.Rows.{Row, columns_of, row_at}
use Rattle.wd_laws.proofs.Parts.{below_all}
use Rattle.wd_plan.specs.Plans.{has}
use Rattle.wd_plan.specs.Sorting.{same_partition}
use Rattle.wd_sort.specs.Numbers.{AreNumbersBy}
use Rattle.wd_group.specs.declared.groups.Groups.{Groups}
use Rattle.wd_group.specs.Groups.{AreLists, list_at, lists_of}
use Rattle.wd_group.specs.Sets.{AreGroups, set_class, set_columns}
use Rattle.wd_group.proofs.Sets.{one_more, turned}

-- those of the first n positions that have a number
abbrev pub places_before : List ℕ → ℕ → ℕ → List ℕ
places_before numbers n number = filter (λ p. nat_eq (get_or numbers p 0) number) (positions n)

-- the lists of the first n positions
pub record AreBefore (numbers : List ℕ) (bound n : ℕ) (lists : List (List ℕ)) : Type 0 where
  pub long : length lists ≡ bound
  pub each : (number : ℕ) → number < bound → list_at lists number ≡ places_before numbers n number

one_before : (numbers : List ℕ) (n number : ℕ) → places_before numbers (n + 1) number ≡ places_before numbers n number ++ cond (nat_eq (get_or numbers n 0) number) (n ∷ []) []
one_before numbers n number =
    let next : n + 1 ≡ suc n = omega arith in
    ap (λ k. places_before numbers k number) next ∙ ap (filter (λ p. nat_eq (get_or numbers p 0) number)) (one_more n) ∙ filter-append (λ p. nat_eq (get_or numbers p 0) number) (positions n) (n ∷ [])

module _ (numbers : List ℕ) (bound n : ℕ) (old : List (List ℕ)) (are : AreBefore numbers bound n old) (low : get_or numbers n 0 < bound) where
  abbrev own : ℕ
  own = get_or numbers n 0

  abbrev new : List (List ℕ)
  new = set old own (list_at old own ++ n ∷ [])

  by_number : (number : ℕ) → number < bound → (b : Bool) → nat_eq own number ≡ b → list_at new number ≡ places_before numbers n number ++ cond b (n ∷ []) []
  by_number number h true e =
      let same : own ≡ number = eqb-true own number e in
      let here : own < length old = omega (arith, are.long) in
      get_or-set_at old own number (list_at old own ++ n ∷ []) [] (sym same) here ∙ ap (λ l. l ++ n ∷ []) (ap (list_at old) same ∙ are.each number h)
  by_number number h false e =
      let other : own ≡ number → ⊥ = eqb-false own number e in
      get_or-set_other old own number (list_at old own ++ n ∷ []) [] (λ s. other (sym s)) ∙ are.each number h ∙ sym (append-nil (places_before numbers n number))

  pub AreBefore-more : AreBefore numbers bound (n + 1) new
  AreBefore-more = record {
    long = length-set old own (list_at old own ++ n ∷ []) ∙ are.long;
    each = λ number h. by_number number h (nat_eq own number) refl ∙ sym (one_before numbers n number);
  }

-- before the first position
pub AreBefore-none : (numbers : List ℕ) (bound : ℕ) (lists : List (List ℕ)) → length lists ≡ bound → All (λ l. length l ≡ 0) lists → AreBefore numbers bound 0 lists
AreBefore-none numbers bound lists long empty = record {
  long = long;
  each = λ number low. nil_from_length (list_at lists number) (All-get_or (λ l. length l ≡ 0) lists number [] (omega (arith, long)) empty);
}

-- all of them
pub AreLists-all : (numbers : List ℕ) (bound n : ℕ) (lists : List (List ℕ)) → n ≡ length numbers → AreBefore numbers bound n lists → AreLists numbers bound lists
AreLists-all numbers bound n lists is are = record { each = λ number h. are.each number h ∙ ap (λ k. places_before numbers k number) is }

-- a set's columns are among the grouping columns
pub set_columns_within : (columns : ℕ) (set : List ℕ) → All (λ c. c < columns) (set_columns columns set)
set_columns_within columns set = All-filter (has set) (λ c. c < columns) (positions columns) (All-from_recursion (λ c. c < columns) (positions columns) (below_all 0 columns columns (omega arith)))

-- ---- the lists are the groups

same_filter : (t u : ℕ → Bool) (xs : List ℕ) → AllByRecursion (λ x. t x ≡ u x) xs → filter t xs ≡ filter u xs
same_filter t u [] all = refl
same_filter t u (x ∷ xs) all = λ i. cond (all.0 i) (x ∷ same_filter t u xs all.1 i) (same_filter t u xs all.1 i)

pub AreGroups-lists : (columns : ℕ) (set : List ℕ) (rows : List Row) (bound : ℕ) (numbers : List ℕ) (groups : Groups) → AreNumbersBy (set_columns columns set) rows bound numbers → groups.numbers.items ≡ numbers → AreLists numbers bound (lists_of groups.lists.items) → AreGroups (set_class columns set) rows groups
AreGroups-lists columns set rows bound numbers groups by is are p low =
    let number = get_or numbers p 0 in
    let class = set_class columns set in
    let mine : ℕ → Bool = λ q. nat_eq (get_or numbers q 0) number in
    let theirs : ℕ → Bool = λ q. same_partition class (row_at rows p) (row_at rows q) in
    let at : (q : ℕ) → q < length rows → mine q ≡ theirs q = λ q high. by.alike q p high low ∙ turned (columns_of (set_columns columns set) (row_at rows q)) (columns_of (set_columns columns set) (row_at rows p)) in
    ap (λ ns. list_at (lists_of groups.lists.items) (get_or ns p 0)) is
    ∙ are.each number (by.below p low)
    ∙ ap (λ n. filter mine (positions n)) by.long
    ∙ same_filter mine theirs (positions (length rows))
    (recursion_from_All (λ q. mine q ≡ theirs q) (positions (length rows))
    (All-from_get_or (λ q. mine q ≡ theirs q) (positions (length rows)) 0 (λ i h. (
    let long = length-range_with_len 0 (length rows) in
    let here : get_or (positions (length rows)) i 0 ≡ i = get_or-range_with_len 0 (length rows) i 0 (omega arith) ∙ omega arith in
    subst (λ q. mine q ≡ theirs q) (sym here) (at i (omega arith))))))
