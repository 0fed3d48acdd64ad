-- The tables in which columns of joined rows stand, without the others.
use Rattle.std.proofs.Common.{◌≡◌, ◌⊎◌, ◌∙◌, ℕ, zero-add, ◌+◌, ◌<◌, ◌≤◌, Bool, true, false, List, [], ◌∷◌, ◌++◌, All, Option, Some, None, map, length, get_or, set, refl, sym, ap, subst, arith, inl, inr}
use Rattle.std.specs.Prelude.{if◌then◌else◌}
use Rattle.std.proofs.lemmas.Bool.{cases_eq, cases_lt}
use Rattle.std.proofs.lemmas.List.{append-nil, get_or_append_left, get_or_past, get_or_push, get_or-set_other, get_or-set_same, length-append, length-map, length-set, length_push, map-append}
use Rattle.std.proofs.lemmas.List.Elements.{All-map, All-push}
use Rattle.std.proofs.lemmas.List.FromFn.{get_or-map-range_with_len, length-range_with_len}
use Rattle.wd_value.specs.Bags.{positions}
use Rattle.wd_value.specs.Rows.{Row, table_at}
use Rattle.wd_joined.specs.declared.needed.Needed.{Needed}
use Rattle.wd_joined.specs.declared.origin.Origin.{Origin}
use Rattle.wd_joined.specs.Alike.{AreAlikeIn, IsAlikeIn}
use Rattle.wd_joined.specs.Joined.{AreOfTables, row_joined, rows_joined, value_in}
use Rattle.wd_joined.specs.Needed.{AreNeeded, IsMore, IsUnder, origins_marked}
use Rattle.wd_joined.proofs.Joining.{StandsIn, row_before, stands_at, stands_in_more, value_is}

-- the columns stand among the needed tables as they do among all
pub record ArePlaced (tables : List (List Row)) (lists : List (List ℕ)) (needed : Needed) (origins placed : List (Option Origin)) : Type 0 where
  pub needed_are : AreNeeded tables lists needed
  pub within : All (StandsIn (length needed.tables.items)) placed
  pub same : (p : ℕ) → row_joined needed.tables.items needed.positions.items placed p ≡ row_joined tables lists origins p

some_same : (n m : ℕ) → ◌≡◌ {A = Option ℕ} (Some n) (Some m) → n ≡ m
some_same n m e = cc

-- ---- a table is added

pub none_more : (needed : Needed) → IsMore needed needed
none_more needed = record {
  tables = [];
  lists = [];
  tables_are = sym (append-nil needed.tables.items);
  lists_are = sym (append-nil needed.positions.items);
}

-- what was under a number still is
pub still_under : (tables : List (List Row)) (lists : List (List ℕ)) (old new : Needed) (t n : ℕ) → length old.positions.items ≡ length old.tables.items → IsMore old new → IsUnder tables lists old t n → IsUnder tables lists new t n
still_under tables lists old new t n long more is =
    let low = is.within in
    let there : n < length old.positions.items = omega arith in
    let all = ap length more.tables_are ∙ length-append old.tables.items more.tables in
    record {
      within = omega arith;
      table = ap (λ ts. table_at ts n) more.tables_are ∙ get_or_append_left old.tables.items more.tables [] n low ∙ is.table;
      list = ap (λ ls. get_or ls n []) more.lists_are ∙ get_or_append_left old.positions.items more.lists [] n there ∙ is.list;
    }

-- a table is added behind the others, with its positions, under the next number
pub one_added : (tables : List (List Row)) (lists : List (List ℕ)) (old new : Needed) (t : ℕ) (table : List Row) (list : List ℕ)
    → AreNeeded tables lists old → t < length tables → table ≡ table_at tables t → list ≡ get_or lists t []
    → new.tables.items ≡ old.tables.items ++ table ∷ [] → new.positions.items ≡ old.positions.items ++ list ∷ []
    → new.numbers.items ≡ set old.numbers.items t (Some (length old.tables.items))
    → IsMore old new × AreNeeded tables lists new
one_added tables lists old new t table list are low table_is list_is tables_are lists_are numbers_are = (
  more,
  record {
    lists_too = ap length lists_are ∙ length_push old.positions.items list ∙ ap (λ n. n + 1) are.lists_too ∙ sym (ap length tables_are ∙ length_push old.tables.items table);
    numbers = ap length numbers_are ∙ length-set old.numbers.items t (Some (length old.tables.items)) ∙ are.numbers;
    numbered = λ u n is. by u n (ap (λ ns. get_or ns u None) (sym numbers_are) ∙ is) (cases_eq u t);
  },
) where
  more : IsMore old new
  more = record { tables = table ∷ []; lists = list ∷ []; tables_are = tables_are; lists_are = lists_are }

  own : IsUnder tables lists new t (length old.tables.items)
  own =
      let all = ap length tables_are ∙ length_push old.tables.items table in
      record {
        within = omega arith;
        table = ap (λ ts. table_at ts (length old.tables.items)) tables_are ∙ get_or_push old.tables.items table [] (length old.tables.items) refl ∙ table_is;
        list = ap (λ ls. get_or ls (length old.tables.items) []) lists_are ∙ get_or_push old.positions.items list [] (length old.tables.items) are.lists_too ∙ list_is;
      }

  within : t < length old.numbers.items
  within = let long = are.numbers in omega arith

  by : (u n : ℕ) → get_or (set old.numbers.items t (Some (length old.tables.items))) u None ≡ Some n → (u ≡ t) ⊎ (u ≡ t → ⊥) → IsUnder tables lists new u n
  by u n is (inl same) =
      let number : length old.tables.items ≡ n = some_same (length old.tables.items) n (sym (get_or-set_same old.numbers.items t (Some (length old.tables.items)) None within) ∙ ap (λ k. get_or (set old.numbers.items t (Some (length old.tables.items))) k None) (sym same) ∙ is) in
      subst (λ k. IsUnder tables lists new k n) (sym same) (subst (IsUnder tables lists new t) number own)
  by u n is (inr other) =
      still_under tables lists old new u n are.lists_too more (are.numbered u n (sym (get_or-set_other old.numbers.items t u (Some (length old.tables.items)) None other) ∙ is))

-- a column of a table with a number stands among these
pub placed_in : (tables : List (List Row)) (lists : List (List ℕ)) (needed : Needed) (t n column : ℕ) → AreNeeded tables lists needed → get_or needed.numbers.items t None ≡ Some n → StandsIn (length needed.tables.items) (Some (record { table = n; column = column }))
placed_in tables lists needed t n column are is origin e =
    let number : n ≡ origin.table = cc in
    let low = (are.numbered t n is).within in
    omega arith

-- ---- columns are placed

pub none_placed : (tables : List (List Row)) (lists : List (List ℕ)) (needed : Needed) → AreNeeded tables lists needed → ArePlaced tables lists needed [] []
none_placed tables lists needed are = record {
  needed_are = are;
  within = λ k d low. absurd (omega arith);
  same = λ p. refl;
}

pub one_placed : (tables : List (List Row)) (lists : List (List ℕ)) (old new : Needed) (origins placed : List (Option Origin)) (o moved : Option Origin)
    → ArePlaced tables lists old origins placed → AreNeeded tables lists new → IsMore old new → StandsIn (length new.tables.items) moved
    → ((p : ℕ) → value_in new.tables.items new.positions.items p moved ≡ value_in tables lists p o)
    → ArePlaced tables lists new (origins ++ o ∷ []) (placed ++ moved ∷ [])
one_placed tables lists old new origins placed o moved are needed more within same =
    let all = ap length more.tables_are ∙ length-append old.tables.items more.tables in
    let fewer : length old.tables.items ≤ length new.tables.items = omega arith in
    record {
      needed_are = needed;
      within = All-push (StandsIn (length new.tables.items)) placed moved (stands_in_more (length old.tables.items) (length new.tables.items) fewer placed are.within) within;
      same = λ p. (
          map-append (value_in new.tables.items new.positions.items p) placed (moved ∷ [])
          ∙ (λ i. row_joined (more.tables_are i) (more.lists_are i) placed p ++ same p i ∷ [])
          ∙ (λ i. row_before old.tables.items more.tables old.positions.items more.lists p are.needed_are.lists_too placed are.within i ++ value_in tables lists p o ∷ [])
          ∙ ap (λ row. row ++ value_in tables lists p o ∷ []) (are.same p)
          ∙ sym (map-append (value_in tables lists p) origins (o ∷ [])));
    }

pub rows_placed : (tables : List (List Row)) (lists : List (List ℕ)) (needed : Needed) (origins placed : List (Option Origin)) (n : ℕ) → ArePlaced tables lists needed origins placed
    → rows_joined needed.tables.items needed.positions.items placed n ≡ rows_joined tables lists origins n
rows_placed tables lists needed origins placed n are = λ i. map (λ p. are.same p i) (positions n)

pub placed_within : (tables : List (List Row)) (lists : List (List ℕ)) (needed : Needed) (origins placed : List (Option Origin)) → ArePlaced tables lists needed origins placed → AreOfTables needed.tables.items needed.positions.items placed
placed_within tables lists needed origins placed are = record { lists = are.needed_are.lists_too; within = are.within }

-- ---- columns that are marked

marked_long : (marks : List Bool) (origins : List (Option Origin)) → length (origins_marked marks origins) ≡ length origins
marked_long marks origins = length-map (positions (length origins)) (λ c. if get_or marks c true then get_or origins c None else None) ∙ length-range_with_len 0 (length origins)

marked_at : (marks : List Bool) (origins : List (Option Origin)) (c : ℕ) → get_or marks c true ≡ true → get_or (origins_marked marks origins) c None ≡ get_or origins c None
marked_at marks origins c is = by (cases_lt c (length origins)) where
  by : (c < length origins) ⊎ (length origins ≤ c) → get_or (origins_marked marks origins) c None ≡ get_or origins c None
  by (inl low) = get_or-map-range_with_len (λ k. if get_or marks k true then get_or origins k None else None) 0 (length origins) c c None low (zero-add c) ∙ ap (λ b. if b then get_or origins c None else None) is
  by (inr high) = get_or_past (origins_marked marks origins) c None (rw (marked_long marks origins) high) ∙ sym (get_or_past origins c None high)

row_marked : (tables : List (List Row)) (lists : List (List ℕ)) (marks : List Bool) (origins : List (Option Origin)) (p : ℕ) → IsAlikeIn marks (row_joined tables lists (origins_marked marks origins) p) (row_joined tables lists origins p)
row_marked tables lists marks origins p = (
  length-map (origins_marked marks origins) (value_in tables lists p) ∙ marked_long marks origins ∙ sym (length-map origins (value_in tables lists p)),
  λ c is. value_is tables lists (origins_marked marks origins) p c ∙ ap (value_in tables lists p) (marked_at marks origins c is) ∙ sym (value_is tables lists origins p c),
)

alike_along : (tables : List (List Row)) (lists : List (List ℕ)) (marks : List Bool) (origins : List (Option Origin)) (ps : List ℕ) → AreAlikeIn marks (map (row_joined tables lists (origins_marked marks origins)) ps) (map (row_joined tables lists origins) ps)
alike_along tables lists marks origins [] = tt
alike_along tables lists marks origins (p ∷ ps) = (row_marked tables lists marks origins p, alike_along tables lists marks origins ps)

pub rows_marked : (tables : List (List Row)) (lists : List (List ℕ)) (marks : List Bool) (origins : List (Option Origin)) (n : ℕ) → AreAlikeIn marks (rows_joined tables lists (origins_marked marks origins) n) (rows_joined tables lists origins n)
rows_marked tables lists marks origins n = alike_along tables lists marks origins (positions n)

stands_marked : (n : ℕ) (b : Bool) (o : Option Origin) → StandsIn n o → StandsIn n (if b then o else None)
stands_marked n true o within = within
stands_marked n false o within = λ origin is. absurd cc

pub marked_within : (tables : List (List Row)) (lists : List (List ℕ)) (marks : List Bool) (origins : List (Option Origin)) → AreOfTables tables lists origins → AreOfTables tables lists (origins_marked marks origins)
marked_within tables lists marks origins are = record {
  lists = are.lists;
  within = All-map (StandsIn (length tables)) (λ c. if get_or marks c true then get_or origins c None else None) (positions (length origins))
      (λ k d low. stands_marked (length tables) (get_or marks (get_or (positions (length origins)) k d) true) (get_or origins (get_or (positions (length origins)) k d) None) (stands_at (length tables) (get_or (positions (length origins)) k d) origins are.within));
}

-- ---- rows that are alike

pub same_alike : (marks : List Bool) (rows : List Row) → AreAlikeIn marks rows rows
same_alike marks [] = tt
same_alike marks (row ∷ rows) = ((refl, λ c is. refl), same_alike marks rows)
