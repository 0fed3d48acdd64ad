-- The columns that a select is grouped by are in scope, and each of them stands in some set.
use Rattle.std.proofs.Common.{◌≡◌, ◌∙◌, ap, refl, subst, ℕ, Bool, true, false, cond, ◌||◌, nat_eq, nat_lt, ◌*◌, eq-eqb, List, [], ◌∷◌, ◌++◌, map, length, Option, Some, None, is_some, option_map, Ok, Err}
use Rattle.std.specs.Prelude.{flat_map}
use Rattle.std.specs.List.{AllByRecursion, list_any}
use Rattle.std.proofs.lemmas.Bool.{false≢true, or_left, or_right}
use Rattle.std.proofs.lemmas.List.Folds.{list_any-append}
use Rattle.wd_read_cursor.specs.declared.name.Name.{Name}
use Rattle.wd_syntax.specs.declared.query.GroupColumn.{GroupColumn}
use Rattle.wd_syntax.specs.declared.query.GroupingWord.{GroupingWord}
use Rattle.wd_syntax.specs.declared.query.GroupingWord.TheVariants.{Rollup, Cube, Sets}
use Rattle.wd_syntax.specs.Levels.{IsSome}
use Rattle.wd_syntax.specs.Tree.{SetTree, one_column, columns, GroupTree, grouped_by, constructed, Parts}
use Rattle.wd_plan.specs.Plans.{has}
use Rattle.wd_resolve_operand.specs.declared.cause.Cause.TheVariants.{TooManySets}
use Rattle.wd_resolve_operand.specs.Causes.{◌>>=◌}
use Rattle.wd_resolve_scope.specs.Grouped.{is_grouped}
use Rattle.wd_resolve_scope.specs.Names.{column_named}
use Rattle.wd_resolve_scope.specs.Scopes.{ScopeRule}
use Rattle.wd_resolve_scope.specs.Typed.{kinds_in}
use Rattle.wd_resolve_scope.proofs.TypedTrees.{column_named_is}
use Rattle.wd_resolve_call.proofs.Meanings.{bound, ok_is}
use Rattle.wd_resolve_list.specs.Grouping.{all_grouped, count_made, cross_sets, cubed, group_column, group_columns, grouped_meant, item_grouped, join_sets, made_of, no_groups, roll_up, set_meant, sets_meant, with_sets}
use Rattle.wd_resolve_list.specs.SelectLists.{GroupedBy}
use Rattle.wd_resolve_list.proofs.Among.{all_append, all_on_each, all_with_new}

-- ---- sets with a column

abbrev SomeHas : ℕ → List (List ℕ) → Type 0
SomeHas n sets = list_any (λ set. has set n) sets ≡ true

either : {A : Type 0} (a b : Bool) → (a || b) ≡ true → (a ≡ true → A) → (b ≡ true → A) → A
either true b h f g = f refl
either false b h f g = g h

has_append : (n : ℕ) (set other : List ℕ) → has (set ++ other) n ≡ (has set n || has other n)
has_append n set other = list_any-append (nat_eq n) set other

some_append : (n : ℕ) (sets others : List (List ℕ)) → list_any (λ set. has set n) (sets ++ others) ≡ (list_any (λ set. has set n) sets || list_any (λ set. has set n) others)
some_append n sets others = list_any-append (λ set. has set n) sets others

-- a column of a set is in its union with others
each_left : (n : ℕ) (set : List ℕ) (others : List (List ℕ)) → has set n ≡ true → IsSome others → SomeHas n (map (λ t. set ++ t) others)
each_left n set [] h some = absurd some
each_left n set (other ∷ others) h some = or_left _ _ (has_append n set other ∙ or_left _ _ h)

each_right : (n : ℕ) (set : List ℕ) (others : List (List ℕ)) → SomeHas n others → SomeHas n (map (λ t. set ++ t) others)
each_right n set [] h = absurd (false≢true h)
each_right n set (other ∷ others) h = either (has other n) (list_any (λ s. has s n) others) h
    (λ e. or_left _ _ (has_append n set other ∙ or_right _ _ e))
    (λ e. or_right _ _ (each_right n set others e))

crossed_left : (n : ℕ) (sets others : List (List ℕ)) → SomeHas n sets → IsSome others → SomeHas n (cross_sets sets others)
crossed_left n [] others h some = absurd (false≢true h)
crossed_left n (set ∷ sets) others h some = some_append n (map (λ t. set ++ t) others) (cross_sets sets others) ∙ either (has set n) (list_any (λ s. has s n) sets) h
    (λ e. or_left _ _ (each_left n set others e some))
    (λ e. or_right _ _ (crossed_left n sets others e some))

crossed_right : (n : ℕ) (sets others : List (List ℕ)) → IsSome sets → SomeHas n others → SomeHas n (cross_sets sets others)
crossed_right n [] others some h = absurd some
crossed_right n (set ∷ sets) others some h = some_append n (map (λ t. set ++ t) others) (cross_sets sets others) ∙ or_left _ _ (each_right n set others h)

some_map : {A B : Type 0} (f : A → B) (xs ys : List B) (zs : List A) → IsSome zs → IsSome (map f zs ++ ys)
some_map f xs ys [] h = absurd h
some_map f xs ys (z ∷ zs) h = tt

crossed_some : (sets others : List (List ℕ)) → IsSome sets → IsSome others → IsSome (cross_sets sets others)
crossed_some [] others some h = absurd some
crossed_some (set ∷ sets) others some h = some_map (λ t. set ++ t) [] (cross_sets sets others) others h

-- ---- what a word makes of sets

rolled_some : (sets : List (List ℕ)) → IsSome (roll_up sets)
rolled_some [] = tt
rolled_some (set ∷ sets) = some_map (λ t. set ++ t) [] ([] ∷ []) (roll_up sets) (rolled_some sets)

cubed_some : (sets : List (List ℕ)) → IsSome (cubed sets)
cubed_some [] = tt
cubed_some (set ∷ sets) = some_map (λ t. set ++ t) [] (cubed sets) (cubed sets) (cubed_some sets)

made_some : (word : GroupingWord) (sets : List (List ℕ)) → IsSome (made_of word sets)
made_some Rollup sets = rolled_some sets
made_some Cube sets = cubed_some sets
made_some Sets [] = tt
made_some Sets (set ∷ sets) = tt

rolled_has : (n : ℕ) (sets : List (List ℕ)) → SomeHas n sets → SomeHas n (roll_up sets)
rolled_has n [] h = absurd (false≢true h)
rolled_has n (set ∷ sets) h = some_append n (map (λ t. set ++ t) (roll_up sets)) ([] ∷ []) ∙ or_left _ _ (either (has set n) (list_any (λ s. has s n) sets) h
    (λ e. each_left n set (roll_up sets) e (rolled_some sets))
    (λ e. each_right n set (roll_up sets) (rolled_has n sets e)))

cubed_has : (n : ℕ) (sets : List (List ℕ)) → SomeHas n sets → SomeHas n (cubed sets)
cubed_has n [] h = absurd (false≢true h)
cubed_has n (set ∷ sets) h = some_append n (map (λ t. set ++ t) (cubed sets)) (cubed sets) ∙ or_left _ _ (either (has set n) (list_any (λ s. has s n) sets) h
    (λ e. each_left n set (cubed sets) e (cubed_some sets))
    (λ e. each_right n set (cubed sets) (cubed_has n sets e)))

made_has : (word : GroupingWord) (n : ℕ) (sets : List (List ℕ)) → SomeHas n sets → SomeHas n (made_of word sets)
made_has Rollup n sets h = rolled_has n sets h
made_has Cube n sets h = cubed_has n sets h
made_has Sets n [] h = absurd (false≢true h)
made_has Sets n (set ∷ sets) h = h

-- ---- the members of GROUP BY

-- each member of a list stands in it
members_there : (before set : List ℕ) → AllByRecursion (λ n. has (before ++ set) n ≡ true) set
members_there before [] = tt
members_there before (n ∷ set) = (
  has_append n before (n ∷ set) ∙ or_right _ _ (or_left _ _ (eq-eqb n n refl)),
  subst (λ all. AllByRecursion (λ m. has all m ≡ true) set) (one before n set) (members_there (before ++ n ∷ []) set),
)
  where
    one : (xs : List ℕ) (x : ℕ) (ys : List ℕ) → (xs ++ x ∷ []) ++ ys ≡ xs ++ x ∷ ys
    one [] x ys = refl
    one (y ∷ xs) x ys = ap (λ zs. y ∷ zs) (one xs x ys)

-- so do the columns of sets, in one of these
columns_there : (before sets : List (List ℕ)) → AllByRecursion (λ n. SomeHas n (before ++ sets)) (flat_map (λ s. s) sets)
columns_there before [] = tt
columns_there before (set ∷ sets) =
    all_append (λ n. SomeHas n (before ++ set ∷ sets)) set (flat_map (λ s. s) sets)
    (all_on_each (λ n. has set n ≡ true) (λ n. SomeHas n (before ++ set ∷ sets)) (λ n h. some_append n before (set ∷ sets) ∙ or_right _ _ (or_left _ _ h)) set (members_there [] set))
    (subst (λ all. AllByRecursion (λ n. SomeHas n all) (flat_map (λ s. s) sets)) (one before set sets) (columns_there (before ++ set ∷ []) sets))
  where
    one : (xs : List (List ℕ)) (x : List ℕ) (ys : List (List ℕ)) → (xs ++ x ∷ []) ++ ys ≡ xs ++ x ∷ ys
    one [] x ys = refl
    one (y ∷ xs) x ys = ap (λ zs. y ∷ zs) (one xs x ys)

module _ (scope : ScopeRule) where
  abbrev pub IsColumn : ℕ → Type 0
  IsColumn n = is_some (kinds_in scope n) ≡ true

  -- what a select is grouped by
  pub record IsGrouped (g : GroupedBy) : Type 0 where
    pub columns_are : AllByRecursion IsColumn g.columns
    pub in_sets : AllByRecursion (λ n. SomeHas n g.sets) g.columns
    pub some : IsSome g.sets

  column_is : (c : GroupColumn) (n : ℕ) → group_column scope c ≡ Ok n → IsColumn n
  column_is c n h =
      let table = option_map (λ (name : Name). name.text) c.table in
      let x = bound (column_named scope table c.name.text) (λ y. Ok y.0) n h in
      subst IsColumn (ok_is _ _ x.2) (rw (column_named_is scope table c.name.text x.0 x.1) refl)

  columns_are : (cs : List GroupColumn) (ns : List ℕ) → group_columns scope cs ≡ Ok ns → AllByRecursion IsColumn ns
  columns_are [] ns h = subst (AllByRecursion IsColumn) (ok_is _ _ h) tt
  columns_are (c ∷ cs) ns h =
      let n = bound (group_column scope c) (λ m. group_columns scope cs >>= λ ms. Ok (m ∷ ms)) ns h in
      let more = bound (group_columns scope cs) (λ ms. Ok (n.0 ∷ ms)) ns n.2 in
      subst (AllByRecursion IsColumn) (ok_is _ _ more.2) (column_is c n.0 n.1, columns_are cs more.0 more.1)

  set_is : (s : SetTree) (set : List ℕ) → set_meant scope s ≡ Ok set → AllByRecursion IsColumn set
  set_is (one_column c) set h = columns_are (c ∷ []) set h
  set_is (columns cs) set h = columns_are cs set h

  sets_are : (trees : List SetTree) (sets : List (List ℕ)) → sets_meant scope trees ≡ Ok sets → AllByRecursion IsColumn (flat_map (λ s. s) sets)
  sets_are [] sets h = subst (λ all. AllByRecursion IsColumn (flat_map (λ s. s) all)) (ok_is _ _ h) tt
  sets_are (s ∷ trees) sets h =
      let set = bound (set_meant scope s) (λ x. sets_meant scope trees >>= λ xs. Ok (x ∷ xs)) sets h in
      let more = bound (sets_meant scope trees) (λ xs. Ok (set.0 ∷ xs)) sets set.2 in
      subst (λ all. AllByRecursion IsColumn (flat_map (λ s. s) all)) (ok_is _ _ more.2) (all_append IsColumn set.0 (flat_map (λ s. s) more.0) (set_is s set.0 set.1) (sets_are trees more.0 more.1))

  joined_is : (so_far : GroupedBy) (word : GroupingWord) (sets : List (List ℕ)) → IsGrouped so_far → AllByRecursion IsColumn (flat_map (λ s. s) sets) → IsGrouped (join_sets so_far word sets)
  joined_is so_far word sets h are =
      let made = made_of word sets in
      let crossed = cross_sets so_far.sets made in
      let fresh = flat_map (λ s. s) sets in
      record {
        columns_are = all_with_new nat_eq IsColumn so_far.columns fresh h.columns_are are;
        in_sets = all_with_new nat_eq (λ n. SomeHas n crossed) so_far.columns fresh
            (all_on_each (λ n. SomeHas n so_far.sets) (λ n. SomeHas n crossed) (λ n e. crossed_left n so_far.sets made e (made_some word sets)) so_far.columns h.in_sets)
            (all_on_each (λ n. SomeHas n sets) (λ n. SomeHas n crossed) (λ n e. crossed_right n so_far.sets made h.some (made_has word n sets e)) fresh (columns_there [] sets));
        some = crossed_some so_far.sets made h.some (made_some word sets);
      }

  with_sets_is : (so_far : GroupedBy) (word : GroupingWord) (sets : List (List ℕ)) (g : GroupedBy) → IsGrouped so_far → AllByRecursion IsColumn (flat_map (λ s. s) sets) → with_sets so_far word sets ≡ Ok g → IsGrouped g
  with_sets_is so_far word sets g h are e = by (nat_lt 64 (length so_far.sets * count_made word (length sets))) e
    where
      by : (b : Bool) → cond b (Err TooManySets) (Ok (join_sets so_far word sets)) ≡ Ok g → IsGrouped g
      by true e = cc
      by false e = subst IsGrouped (ok_is _ _ e) (joined_is so_far word sets h are)

  item_is : (so_far : GroupedBy) (item : GroupTree) (g : GroupedBy) → IsGrouped so_far → item_grouped scope so_far item ≡ Ok g → IsGrouped g
  item_is so_far (grouped_by s) g h e =
      let sets = bound (sets_meant scope (s ∷ [])) (λ xs. with_sets so_far Sets xs) g e in
      with_sets_is so_far Sets sets.0 g h (sets_are (s ∷ []) sets.0 sets.1) sets.2
  item_is so_far (constructed word members) g h e =
      let sets = bound (sets_meant scope members) (λ xs. with_sets so_far word xs) g e in
      with_sets_is so_far word sets.0 g h (sets_are members sets.0 sets.1) sets.2

  pub all_grouped_is : (so_far : GroupedBy) (items : List GroupTree) (g : GroupedBy) → IsGrouped so_far → all_grouped scope so_far items ≡ Ok g → IsGrouped g
  all_grouped_is so_far [] g h e = subst IsGrouped (ok_is _ _ e) h
  all_grouped_is so_far (item ∷ items) g h e =
      let next = bound (item_grouped scope so_far item) (λ n. all_grouped scope n items) g e in
      all_grouped_is next.0 items g (item_is so_far item next.0 h next.1) next.2

  -- without GROUP BY
  pub no_groups_are : IsGrouped no_groups
  no_groups_are = record { columns_are = tt; in_sets = tt; some = tt }

  -- by what a select is grouped, if it is
  abbrev pub AreGrouped : Option GroupedBy → Type 0
  AreGrouped None = Unit {0}
  AreGrouped (Some g) = IsGrouped g

  pub grouped_meant_is : (parts : Parts) (g : Option GroupedBy) → grouped_meant scope parts ≡ Ok g → AreGrouped g
  grouped_meant_is parts g e = by (is_grouped parts) e
    where
      by : (b : Bool) → cond b (all_grouped scope no_groups parts.tail.grouping.items >>= λ x. Ok (Some x)) (Ok None) ≡ Ok g → AreGrouped g
      by true e =
          let x = bound (all_grouped scope no_groups parts.tail.grouping.items) (λ y. Ok (Some y)) g e in
          subst AreGrouped (ok_is _ _ x.2) (all_grouped_is no_groups parts.tail.grouping.items x.0 no_groups_are x.1)
      by false e = subst AreGrouped (ok_is _ _ e) tt
