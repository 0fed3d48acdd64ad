-- A Group over rearranged rows, what a set shows of a row, and the kinds of a group's values.
use Rattle.std.proofs.Common.{◌≡◌, ℕ, suc, ◌+◌, ◌<◌, Bool, true, false, cond, ◌||◌, List, [], ◌∷◌, ◌++◌, map, filter, length, refl, sym, ◌∙◌, ap, subst, arith, nat_eq, nat_lt, Ok, Result}
use Rattle.std.specs.List.{enumerate_from, list_all, list_any}
use Rattle.std.proofs.lemmas.Bool.{and_parts, eq-eqb, eqb-true, false≢true, ltb-true}
use Rattle.std.proofs.lemmas.List.{get_or-map, length-map}
use Rattle.std.proofs.lemmas.List.Folds.{list_any_at}
use Rattle.std.proofs.lemmas.List.FromFn.{get_or-map-range_with_len}
use Rattle.wd_value.specs.declared.value.Fault.{Fault}
use Rattle.wd_value.specs.declared.value.Value.TheVariants.{Null}
use Rattle.wd_value.specs.Bags.{positions, times}
use Rattle.wd_value.specs.Rows.{Row, column_of, columns_of, row_at, same_row}
use Rattle.wd_value.proofs.Perms.{Perm, Perm-filter, Perm-map, Perm-refl, Perm-same, both, count_by-yes}
use Rattle.wd_value.proofs.SameLaws.{same_row-Decides}
use Rattle.wd_plan.specs.Calls.{aggregate_value}
use Rattle.wd_plan.specs.Faults.{all_ok, and_then}
use Rattle.wd_plan.specs.Fits.{AreBelow}
use Rattle.wd_plan.specs.Frames.{frame_of}
use Rattle.wd_plan.specs.Outcomes.{group_outcome, group_row, group_value, groups, set_rows, shown}
use Rattle.wd_plan.specs.Partitions.{members, partition_of, place_in}
use Rattle.wd_plan.specs.Plans.{ClassRule, GroupCall, OfRows, Grouping, GroupRule, has}
use Rattle.wd_plan.specs.Sorting.{same_partition}
use Rattle.wd_plan.proofs.Parts.{ordered, partition_of-is}
use Rattle.wd_laws.proofs.Parts.{Perm-ordered}
use Rattle.wd_laws.specs.Laws.{GroupsAreWindows, GroupsGoByColumns, GroupsPartRows, whole_frame}
use Rattle.wd_laws.proofs.Outcomes.{Alike, Alike-all_ok, Perm-distinct, flat_map_each, times-distinct}
use Rattle.wd_laws.proofs.Peers.{Perm-aggregate}

-- ---- rearranged rows

-- the groups of a set are rearranged with the rows
Perm-groups : (columns : ℕ) (set : List ℕ) {rows others : List Row} → Perm Row rows others → Perm Row (groups columns set rows) (groups columns set others)
Perm-groups columns [] p = Perm-refl _
Perm-groups columns (c ∷ set) p = Perm-distinct (Perm-map (shown columns (c ∷ set)) p)

-- the calls of a group have the same values
same_value : (set : List ℕ) {rows others : List Row} → Perm Row rows others → (call : GroupCall) → group_value set rows call ≡ group_value set others call
same_value set p (OfRows aggregate) = Perm-aggregate aggregate p
same_value set p (Grouping columns) = refl

same_row_of : (rule : GroupRule) {rows others : List Row} → Perm Row rows others → (set : List ℕ) (group : Row) → group_row rule rows set group ≡ group_row rule others set group
same_row_of rule {rows = rows} {others = others} p set group =
    let test : Row → Bool = λ row. same_row group (shown rule.columns set row) in
    let values : group_value set (filter test rows) ≡ group_value set (filter test others) = λ i call. same_value set (Perm-filter test p) call i in
    λ i. and_then (all_ok (map (values i) rule.calls)) (λ vs. Ok (group ++ vs))

Perm-set_rows : (rule : GroupRule) {rows others : List Row} → Perm Row rows others → (set : List ℕ) → Perm (Result Row Fault) (set_rows rule rows set) (set_rows rule others set)
Perm-set_rows rule {rows = rows} {others = others} p set =
    let same : group_row rule rows set ≡ group_row rule others set = λ i group. same_row_of rule p set group i in
    both (Perm-map (group_row rule rows set) (Perm-groups rule.columns set p))
    (Perm-same _ _ (λ i. map (same i) (groups rule.columns set others)))

pub Alike-group : (rule : GroupRule) (rows others : List Row) → Perm Row rows others → Alike (group_outcome rule rows) (group_outcome rule others)
Alike-group rule rows others p = Alike-all_ok _ _ (flat_map_each (set_rows rule rows) (set_rows rule others) rule.sets (λ set. Perm-set_rows rule p set))

-- ---- what a set shows

-- the value that a set shows in a grouping column
pub shown_at : (columns : ℕ) (set : List ℕ) (row : Row) (c : ℕ) → c < columns → column_of (shown columns set row) c ≡ cond (has set c) (column_of row c) Null
shown_at columns set row c h = get_or-map-range_with_len (λ (d : ℕ). cond (has set d) (column_of row d) Null) 0 columns c c Null h (omega arith)

-- rows that are the same on a set's columns are the same on each of them
in_set_step : (a b : Row) (c d : ℕ) (set : List ℕ) (t : Bool) → nat_eq c d ≡ t → has (d ∷ set) c ≡ true → column_of a d ≡ column_of b d → (has set c ≡ true → column_of a c ≡ column_of b c) → column_of a c ≡ column_of b c
in_set_step a b c d set true e h own rest = subst (λ x. column_of a x ≡ column_of b x) (sym (eqb-true c d e)) own
in_set_step a b c d set false e h own rest = rest (rw e at h)

pub in_set : (a b : Row) (c : ℕ) (set : List ℕ) → has set c ≡ true → columns_of set a ≡ columns_of set b → column_of a c ≡ column_of b c
in_set a b c [] h e = absurd (false≢true h)
in_set a b c (d ∷ set) h e =
    let own : column_of a d ≡ column_of b d = cc in
    let others : columns_of set a ≡ columns_of set b = cc in
    in_set_step a b c d set (nat_eq c d) refl h own (λ g. in_set a b c set g others)

either_shown : (a b : Row) (set : List ℕ) (c : ℕ) (t : Bool) → has set c ≡ t → columns_of set a ≡ columns_of set b → cond t (column_of a c) Null ≡ cond t (column_of b c) Null
either_shown a b set c true h e = in_set a b c set h e
either_shown a b set c false h e = refl

pub shown_same : (columns : ℕ) (set : List ℕ) (a b : Row) → columns_of set a ≡ columns_of set b → shown columns set a ≡ shown columns set b
shown_same columns set a b e = λ i. map (λ c. either_shown a b set c (has set c) refl e i) (positions columns)

has_first : (c : ℕ) (set : List ℕ) → has (c ∷ set) c ≡ true
has_first c set = ap (λ t. t || has set c) (eq-eqb c c refl)

has_rest : (c d : ℕ) (set : List ℕ) → has set d ≡ true → has (c ∷ set) d ≡ true
has_rest c d set h = by (nat_eq d c)
  where
    by : (t : Bool) → (t || has set d) ≡ true
    by true = refl
    by false = h

shown_columns : (columns : ℕ) (set : List ℕ) (a b : Row) → shown columns set a ≡ shown columns set b → (sub : List ℕ) → AreBelow columns sub → ((c : ℕ) → has sub c ≡ true → has set c ≡ true) → columns_of sub a ≡ columns_of sub b
shown_columns columns set a b e [] below within = refl
shown_columns columns set a b e (c ∷ sub) below within =
    let parts = and_parts (nat_lt c columns) (list_all (λ d. nat_lt d columns) sub) below in
    let l = ltb-true c columns parts.0 in
    let there : has set c ≡ true = within c (has_first c sub) in
    let at_a : column_of (shown columns set a) c ≡ column_of a c = shown_at columns set a c l ∙ ap (λ t. cond t (column_of a c) Null) there in
    let at_b : column_of (shown columns set b) c ≡ column_of b c = shown_at columns set b c l ∙ ap (λ t. cond t (column_of b c) Null) there in
    let own : column_of a c ≡ column_of b c = sym at_a ∙ ap (λ (r : Row). column_of r c) e ∙ at_b in
    let rest = shown_columns columns set a b e sub parts.1 (λ d h. within d (has_rest c d sub h)) in
    λ i. own i ∷ rest i

same_tests : (t u : Bool) → (t ≡ true → u ≡ true) → (u ≡ true → t ≡ true) → t ≡ u
same_tests true true f g = refl
same_tests true false f g = sym (f refl)
same_tests false true f g = g refl
same_tests false false f g = refl

pub groups_go_by_columns : GroupsGoByColumns
groups_go_by_columns columns set a b below =
    same_tests (same_row (shown columns set a) (shown columns set b)) (same_row (columns_of set a) (columns_of set b))
    (λ h. (same_row-Decides _ _).1 (shown_columns columns set a b ((same_row-Decides _ _).0 h) set below (λ c g. g)))
    (λ h. (same_row-Decides _ _).1 (shown_same columns set a b ((same_row-Decides _ _).0 h)))

-- ---- the groups of a set

-- under the empty set all rows show the same
nothing_shown : (columns : ℕ) (row : Row) → shown columns [] row ≡ shown columns [] []
nothing_shown columns row = refl

one_group : (columns : ℕ) (set : List ℕ) (rows : List Row) (p : ℕ) → p < length rows → times same_row (shown columns set (row_at rows p)) (groups columns set rows) ≡ 1
one_group columns [] rows p h =
    let own = shown columns [] [] in
    count_by-yes (same_row own) own [] ((same_row-Decides own own).1 refl)
one_group columns (c ∷ set) rows p h =
    let look = shown columns (c ∷ set) in
    let x = look (row_at rows p) in
    let there : row_at (map look rows) p ≡ x = get_or-map look rows p [] [] h in
    let within : p < length (map look rows) = subst (λ n. p < n) (sym (length-map rows look)) h in
    let found : list_any (same_row x) (map look rows) ≡ true = list_any_at (same_row x) (map look rows) p [] within ((same_row-Decides x _).1 (sym there)) in
    times-distinct x (map look rows) ∙ ap (λ t. cond t 1 0) found

find_step : (look : Row → Row) (group r : Row) (rows : List Row) (t : Bool) → same_row group (look r) ≡ t → (list_any (same_row group) (map look rows) ≡ true → (p : ℕ) × (p < length rows) × (group ≡ look (row_at rows p))) → list_any (same_row group) (map look (r ∷ rows)) ≡ true → (p : ℕ) × (p < length (r ∷ rows)) × (group ≡ look (row_at (r ∷ rows) p))
find_step look group r rows true e later h = (0, omega arith, (same_row-Decides group (look r)).0 e)
find_step look group r rows false e later h =
    let g : list_any (same_row group) (map look rows) ≡ true = rw e at h in
    let found = later g in
    (suc found.0, omega (arith, found.1), found.2)

find_row : (look : Row → Row) (group : Row) (rows : List Row) → list_any (same_row group) (map look rows) ≡ true → (p : ℕ) × (p < length rows) × (group ≡ look (row_at rows p))
find_row look group [] h = absurd (false≢true h)
find_row look group (r ∷ rows) h = find_step look group r rows (same_row group (look r)) refl (find_row look group rows) h

positive : (t : Bool) → 0 < cond t 1 0 → t ≡ true
positive true h = refl
positive false h = absurd (omega arith)

a_row : (columns : ℕ) (set : List ℕ) (rows : List Row) (group : Row) → 0 < times same_row group (groups columns set rows) → 0 < length set → (p : ℕ) × (p < length rows) × (group ≡ shown columns set (row_at rows p))
a_row columns [] rows group h some = absurd (omega arith)
a_row columns (c ∷ set) rows group h some =
    let look = shown columns (c ∷ set) in
    find_row look group rows (positive _ (subst (λ n. 0 < n) (times-distinct group (map look rows)) h))

pub groups_part_rows : GroupsPartRows
groups_part_rows columns set rows = record { once = one_group columns set rows; no_other = a_row columns set rows }

-- ---- groups and windows

everything : {X : Type 0} (xs : List X) → filter (λ x. true) xs ≡ xs
everything [] = refl
everything (x ∷ xs) = ap (λ l. x ∷ l) (everything xs)

unnumbered : (n : ℕ) (rows : List Row) → map (λ (m : ℕ × Row). m.1) (enumerate_from n rows) ≡ rows
unnumbered n [] = refl
unnumbered n (r ∷ rows) = ap (λ l. r ∷ l) (unnumbered (n + 1) rows)

-- between both unbounded ends a frame is the partition
whole : (class : ClassRule) (partition : List Row) (i : ℕ) → frame_of class whole_frame partition i ≡ partition
whole class partition i = ap (map (λ (m : ℕ × Row). m.1)) (everything (enumerate_from 0 partition)) ∙ unnumbered 0 partition

pub groups_are_windows : GroupsAreWindows
groups_are_windows columns set aggregate rows ordering r below once =
    let class : ClassRule = record { partition = set; order = [] } in
    let x = row_at rows r in
    let tests : (λ (row : Row). same_row (shown columns set x) (shown columns set row)) ≡ same_partition class x = λ i row. groups_go_by_columns columns set x row below i in
    let all : Perm Row (filter (same_partition class x) rows) (filter (same_partition class x) (ordered rows ordering)) = Perm-filter (same_partition class x) (Perm-ordered rows ordering once) in
    ap (λ (t : Row → Bool). aggregate_value aggregate (filter t rows)) tests
    ∙ Perm-aggregate aggregate all
    ∙ ap (aggregate_value aggregate) (sym (partition_of-is class rows ordering r) ∙ sym (whole class (partition_of class rows ordering r) (place_in (members class rows ordering r) r)))
