-- Joined rows: those of one table, of pairs, at some positions, with some of the columns, with one column more.
use Rattle.std.proofs.Common.{◌≡◌, ◌∙◌, ℕ, zero, suc, ◌+◌, ◌<◌, ◌≤◌, List, [], ◌∷◌, ◌++◌, All, Option, Some, None, map, length, get_or, refl, sym, ap, arith, zero-add, inl, inr}
use Rattle.std.specs.Option.{ForSome}
use Rattle.std.proofs.lemmas.Bool.{cases_lt}
use Rattle.std.proofs.lemmas.List.{get_or-map as get_or_mapped, get_or_append_left, get_or-append-add, get_or_past, get_or_push, length-append, length-map, length_push, map-append, map_push}
use Rattle.std.proofs.lemmas.List.Elements.{All-append, All-map, All-push, All-weaker}
use Rattle.std.proofs.lemmas.List.FromFn.{fill_by_all, get_or-map-range_with_len, get_or-range_with_len, length-range_with_len}
use Rattle.std.proofs.lemmas.Simd.{map-map}
use Rattle.std.proofs.Math.ListN.{get_or-map}
use Rattle.std.specs.declared.alloc.Global.{Global}
use Rattle.std.specs.declared.vec.Vec.{Vec}
use Rattle.wd_value.specs.declared.value.Value.TheVariants.{Null}
use Rattle.wd_value.specs.Bags.{positions}
use Rattle.wd_value.specs.Rows.{Row, column_of, columns_of, row_at, rows_at, table_at}
use Rattle.wd_joined.specs.declared.origin.Origin.{Origin}
use Rattle.wd_joined.specs.declared.pairs.Pair.{Pair}
use Rattle.wd_column_store.specs.Along.{rows_along, with_values}
use Rattle.wd_joined.specs.Joined.{AreOfTables, behind, position_in, positions_at, positions_of_pairs, row_joined, rows_joined, value_in}
use Rattle.wd_column_store.specs.Moves.{AreWithin}
use Rattle.wd_joined.specs.Pairs.{AreOf, row_paired, rows_paired}
use Rattle.wd_column_store.proofs.Copied.{all_columns}
use Rattle.wd_column_store.proofs.RowsAlong as along

-- a column of the first table
abbrev pub own : ℕ → Option Origin
own c = Some (record { table = 0; column = c })

-- a list of the code
abbrev pub list_items : Vec ℕ Global → List ℕ
list_items list = list.items

-- a column stands in one of so many tables, or nowhere
abbrev pub StandsIn : ℕ → Option Origin → Type 0
StandsIn n o = ForSome o (λ origin. origin.table < n)

pub count : (tables : List (List Row)) (ps : List (List ℕ)) (origins : List (Option Origin)) (n : ℕ) → length (rows_joined tables ps origins n) ≡ n
count tables ps origins n = length-map (positions n) (row_joined tables ps origins) ∙ length-range_with_len 0 n

pub row_is : (tables : List (List Row)) (ps : List (List ℕ)) (origins : List (Option Origin)) (n p : ℕ) → p < n → row_at (rows_joined tables ps origins n) p ≡ row_joined tables ps origins p
row_is tables ps origins n p low = get_or-map-range_with_len (row_joined tables ps origins) 0 n p p [] low (zero-add p)

pub past_is : (tables : List (List Row)) (ps : List (List ℕ)) (origins : List (Option Origin)) (n p : ℕ) → n ≤ p → row_at (rows_joined tables ps origins n) p ≡ []
past_is tables ps origins n p high = get_or_past (rows_joined tables ps origins n) p [] (rw (count tables ps origins n) high)

pub value_is : (tables : List (List Row)) (ps : List (List ℕ)) (origins : List (Option Origin)) (p c : ℕ) → column_of (row_joined tables ps origins p) c ≡ value_in tables ps p (get_or origins c None)
value_is tables ps origins p c = get_or-map (value_in tables ps p) origins c None

-- ---- one table

-- the row at a position, by its position in the table
own_row : (table : List Row) (n width p : ℕ) → p < n → length (row_at table p) ≡ width → row_joined (table ∷ []) (positions n ∷ []) (map own (positions width)) p ≡ row_at table p
own_row table n width p low wide =
    let at : get_or (positions n) p 0 ≡ p = get_or-range_with_len 0 n p 0 low ∙ zero-add p in
    map-map (value_in (table ∷ []) (positions n ∷ []) p) own (positions width)
    ∙ ap (λ q. map (column_of (row_at table q)) (positions width)) at
    ∙ all_columns (row_at table p) width wide

pub of_table : (table : List Row) (n width : ℕ) → length table ≡ n → All (λ row. length row ≡ width) table → rows_joined (table ∷ []) (positions n ∷ []) (map own (positions width)) n ≡ table
of_table table n width long wide =
    sym (fill_by_all (row_joined (table ∷ []) (positions n ∷ []) (map own (positions width))) table n [] long (λ k low. (
    let within : k < length table = omega arith in
    sym (own_row table n width k low (wide k [] within)))))

stands_first : (c : ℕ) → StandsIn 1 (own c)
stands_first c origin is = let e : 0 ≡ origin.table = cc in omega arith

pub own_within : (table : List Row) (ps : List (List ℕ)) (width : ℕ) → length ps ≡ 1 → AreOfTables (table ∷ []) ps (map own (positions width))
own_within table ps width one = record {
  lists = one;
  within = All-map (StandsIn 1) own (positions width) (λ k d low. stands_first (get_or (positions width) k d));
}

-- ---- the rows at some positions

position_picked : (ps : List (List ℕ)) (places : List ℕ) (table k : ℕ) → k < length places → position_in (map (positions_at places) ps) table k ≡ position_in ps table (get_or places k 0)
position_picked [] places table k low = refl
position_picked (list ∷ ps) places zero k low = get_or_mapped (λ p. get_or list p 0) places k 0 0 low
position_picked (list ∷ ps) places (suc table) k low = position_picked ps places table k low

value_picked : (tables : List (List Row)) (ps : List (List ℕ)) (places : List ℕ) (k : ℕ) → k < length places → (o : Option Origin) → value_in tables (map (positions_at places) ps) k o ≡ value_in tables ps (get_or places k 0) o
value_picked tables ps places k low None = refl
value_picked tables ps places k low (Some origin) = ap (λ q. column_of (row_at (table_at tables origin.table) q) origin.column) (position_picked ps places origin.table k low)

row_picked : (tables : List (List Row)) (ps : List (List ℕ)) (origins : List (Option Origin)) (places : List ℕ) (k : ℕ) → k < length places → row_joined tables (map (positions_at places) ps) origins k ≡ row_joined tables ps origins (get_or places k 0)
row_picked tables ps origins places k low = λ i. map (λ o. value_picked tables ps places k low o i) origins

pub picked : (tables : List (List Row)) (ps : List (List ℕ)) (origins : List (Option Origin)) (n : ℕ) (places : List ℕ) → AreWithin n places
    → rows_joined tables (map (positions_at places) ps) origins (length places) ≡ rows_at (rows_joined tables ps origins n) places
picked tables ps origins n places all =
    let rows = rows_joined tables ps origins n in
    sym (fill_by_all (row_joined tables (map (positions_at places) ps) origins) (rows_at rows places) (length places) [] (length-map places (row_at rows)) (λ k low. (
    get_or_mapped (row_at rows) places k 0 [] low
    ∙ row_is tables ps origins n (get_or places k 0) (all k 0 low)
    ∙ sym (row_picked tables ps origins places k low))))

pub other_positions : (tables : List (List Row)) (old new : List (List ℕ)) (origins : List (Option Origin)) → length new ≡ length old → AreOfTables tables old origins → AreOfTables tables new origins
other_positions tables old new origins long are = record { lists = long ∙ are.lists; within = are.within }

-- ---- some of the columns

row_selected : (tables : List (List Row)) (ps : List (List ℕ)) (origins : List (Option Origin)) (columns : List ℕ) (p : ℕ) → row_joined tables ps (map (λ c. get_or origins c None) columns) p ≡ columns_of columns (row_joined tables ps origins p)
row_selected tables ps origins [] p = refl
row_selected tables ps origins (c ∷ columns) p = λ i. sym (value_is tables ps origins p c) i ∷ row_selected tables ps origins columns p i

selected_along : (tables : List (List Row)) (ps : List (List ℕ)) (origins : List (Option Origin)) (columns qs : List ℕ)
    → map (row_joined tables ps (map (λ c. get_or origins c None) columns)) qs ≡ map (columns_of columns) (map (row_joined tables ps origins) qs)
selected_along tables ps origins columns [] = refl
selected_along tables ps origins columns (q ∷ qs) = λ i. row_selected tables ps origins columns q i ∷ selected_along tables ps origins columns qs i

pub selected : (tables : List (List Row)) (ps : List (List ℕ)) (origins : List (Option Origin)) (columns : List ℕ) (n : ℕ) → rows_joined tables ps (map (λ c. get_or origins c None) columns) n ≡ map (columns_of columns) (rows_joined tables ps origins n)
selected tables ps origins columns n = selected_along tables ps origins columns (positions n)

stands_nowhere : (n : ℕ) → StandsIn n None
stands_nowhere n origin is = absurd cc

pub stands_at : (n c : ℕ) (origins : List (Option Origin)) → All (StandsIn n) origins → StandsIn n (get_or origins c None)
stands_at n c origins within = elim (cases_lt c (length origins)) [
  | inl less ↦ within c None less
  | inr past ↦ rw (get_or_past origins c None past) (stands_nowhere n)
]

pub selected_within : (tables : List (List Row)) (ps : List (List ℕ)) (origins : List (Option Origin)) (columns : List ℕ) → AreOfTables tables ps origins → AreOfTables tables ps (map (λ c. get_or origins c None) columns)
selected_within tables ps origins columns are = record {
  lists = are.lists;
  within = All-map (StandsIn (length tables)) (λ c. get_or origins c None) columns (λ k d low. stands_at (length tables) (get_or columns k d) origins are.within);
}

-- ---- further tables behind these

table_before : (tables more : List (List Row)) (t : ℕ) → t < length tables → table_at (tables ++ more) t ≡ table_at tables t
table_before tables more t low = get_or_append_left tables more [] t low

position_before : (ps more : List (List ℕ)) (t p : ℕ) → t < length ps → position_in (ps ++ more) t p ≡ position_in ps t p
position_before ps more t p low = ap (λ list. get_or list p 0) (get_or_append_left ps more [] t low)

value_before : (tables more : List (List Row)) (ps further : List (List ℕ)) (p : ℕ) → length ps ≡ length tables → (o : Option Origin) → StandsIn (length tables) o → value_in (tables ++ more) (ps ++ further) p o ≡ value_in tables ps p o
value_before tables more ps further p long None within = refl
value_before tables more ps further p long (Some origin) within =
    let low : origin.table < length tables = within origin refl in
    let there : origin.table < length ps = omega arith in
    (λ i. column_of (row_at (table_before tables more origin.table low i) (position_before ps further origin.table p there i)) origin.column)

pub row_before : (tables more : List (List Row)) (ps further : List (List ℕ)) (p : ℕ) → length ps ≡ length tables → (origins : List (Option Origin)) → All (StandsIn (length tables)) origins → row_joined (tables ++ more) (ps ++ further) origins p ≡ row_joined tables ps origins p
row_before tables more ps further p long [] within = refl
row_before tables more ps further p long (o ∷ origins) within =
    λ i. value_before tables more ps further p long o (within 0 None (omega arith)) i ∷ row_before tables more ps further p long origins (λ k d low. within (suc k) d (omega arith)) i

value_behind : (tables more : List (List Row)) (ps further : List (List ℕ)) (p : ℕ) → length ps ≡ length tables → (o : Option Origin) → value_in (tables ++ more) (ps ++ further) p (behind (length tables) o) ≡ value_in more further p o
value_behind tables more ps further p long None = refl
value_behind tables more ps further p long (Some origin) =
    let moved : get_or (ps ++ further) (length tables + origin.table) [] ≡ get_or further origin.table [] = ap (λ n. get_or (ps ++ further) (n + origin.table) []) (sym long) ∙ get_or-append-add ps further origin.table [] in
    (λ i. column_of (row_at (get_or-append-add tables more origin.table [] i) (get_or (moved i) p 0)) origin.column)

row_behind : (tables more : List (List Row)) (ps further : List (List ℕ)) (p : ℕ) → length ps ≡ length tables → (origins : List (Option Origin)) → row_joined (tables ++ more) (ps ++ further) (map (behind (length tables)) origins) p ≡ row_joined more further origins p
row_behind tables more ps further p long [] = refl
row_behind tables more ps further p long (o ∷ origins) = λ i. value_behind tables more ps further p long o i ∷ row_behind tables more ps further p long origins i

pub stands_in_more : (n m : ℕ) → n ≤ m → (origins : List (Option Origin)) → All (StandsIn n) origins → All (StandsIn m) origins
stands_in_more n m low = All-weaker (StandsIn n) (StandsIn m) (λ o within origin is. (let less = within origin is in omega arith))

-- ---- one column more

-- a table of one column
column_at : (values : Row) (p : ℕ) → column_of (row_at (rows_along (values ∷ []) (length values)) p) 0 ≡ get_or values p Null
column_at values p = elim (cases_lt p (length values)) [
  | inl less ↦ ap (λ row. column_of row 0) (along.row_is (values ∷ []) (length values) p less)
  | inr past ↦ ap (λ row. column_of row 0) (along.past_is (values ∷ []) (length values) p past) ∙ sym (get_or_past values p Null past)
]

-- a column of the last of so many tables and one
abbrev pub last_of : ℕ → ℕ → Option Origin
last_of n column = Some (record { table = n; column = column })

last_value : (tables : List (List Row)) (ps : List (List ℕ)) (table : List Row) (list : List ℕ) (column p : ℕ) → length ps ≡ length tables
    → value_in (tables ++ table ∷ []) (ps ++ list ∷ []) p (last_of (length tables) column) ≡ column_of (row_at table (get_or list p 0)) column
last_value tables ps table list column p long =
    let there : get_or (ps ++ list ∷ []) (length tables) [] ≡ list = get_or_push ps list [] (length tables) long in
    (λ i. column_of (row_at (get_or_push tables table [] (length tables) refl i) (get_or (there i) p 0)) column)

-- a table of one column that all rows read at their own position
pub own_value : (values : Row) (n p : ℕ) → p < n → column_of (row_at (rows_along (values ∷ []) (length values)) (get_or (positions n) p 0)) 0 ≡ get_or values p Null
own_value values n p low =
    let at : get_or (positions n) p 0 ≡ p = get_or-range_with_len 0 n p 0 low ∙ zero-add p in
    (λ i. column_of (row_at (rows_along (values ∷ []) (length values)) (at i)) 0) ∙ column_at values p

module _ (tables : List (List Row)) (ps : List (List ℕ)) (origins : List (Option Origin)) (n : ℕ) (table : List Row) (list : List ℕ) (column : ℕ) (are : AreOfTables tables ps origins) where
  pub one_more : (values : Row) → ((p : ℕ) → p < n → column_of (row_at table (get_or list p 0)) column ≡ get_or values p Null)
      → rows_joined (tables ++ table ∷ []) (ps ++ list ∷ []) (origins ++ last_of (length tables) column ∷ []) n ≡ with_values (rows_joined tables ps origins n) values
  one_more values is =
      let rows = rows_joined tables ps origins n in
      let all = tables ++ table ∷ [] in
      let lists = ps ++ list ∷ [] in
      let beside = λ (p : ℕ). row_at rows p ++ get_or values p Null ∷ [] in
      let last = last_of (length tables) column in
      fill_by_all beside (rows_joined all lists (origins ++ last ∷ []) n) n [] (count all lists (origins ++ last ∷ []) n) (λ k low. (
      let value = last_value tables ps table list column k are.lists ∙ is k low in
      row_is all lists (origins ++ last ∷ []) n k low
      ∙ map_push (value_in all lists k) origins last
      ∙ (λ i. row_before tables (table ∷ []) ps (list ∷ []) k are.lists origins are.within i ++ value i ∷ [])
      ∙ ap (λ (row : Row). row ++ get_or values k Null ∷ []) (sym (row_is tables ps origins n k low))))
      ∙ ap (λ m. map beside (positions m)) (sym (count tables ps origins n))

  pub one_more_within : AreOfTables (tables ++ table ∷ []) (ps ++ list ∷ []) (origins ++ last_of (length tables) column ∷ [])
  one_more_within =
      let m = length (tables ++ table ∷ []) in
      let long : m ≡ length tables + 1 = length_push tables table in
      let lists = are.lists in
      record {
        lists = length_push ps list ∙ ap (λ n. n + 1) lists ∙ sym long;
        within = All-push (StandsIn m) origins (last_of (length tables) column) (stands_in_more (length tables) m (omega arith) origins are.within) (λ origin is. (let e : length tables ≡ origin.table = cc in omega arith));
      }

-- ---- pairs

no_pair : Pair
no_pair = record { left = 0; right = 0 }

module _ (tables : List (List Row)) (ps : List (List ℕ)) (origins : List (Option Origin)) (n : ℕ) (more : List (List Row)) (further : List (List ℕ)) (others : List (Option Origin)) (m : ℕ) (pairs : List Pair) where
  pub of_pairs : AreOf n m pairs → AreOfTables tables ps origins
      → rows_joined (tables ++ more) (positions_of_pairs ps further pairs) (origins ++ map (behind (length tables)) others) (length pairs) ≡ rows_paired (rows_joined tables ps origins n) (rows_joined more further others m) pairs
  of_pairs all are =
      let left = rows_joined tables ps origins n in
      let right = rows_joined more further others m in
      let lefts = map (λ (pair : Pair). pair.left) pairs in
      let rights = map (λ (pair : Pair). pair.right) pairs in
      let here = map (positions_at lefts) ps in
      let there = map (positions_at rights) further in
      let long : length here ≡ length tables = length-map ps (positions_at lefts) ∙ are.lists in
      sym (fill_by_all (row_joined (tables ++ more) (here ++ there) (origins ++ map (behind (length tables)) others)) (rows_paired left right pairs) (length pairs) [] (length-map pairs (row_paired left right)) (λ k low. (
      let pair = get_or pairs k no_pair in
      let within = all k no_pair low in
      let l : get_or lefts k 0 ≡ pair.left = get_or_mapped (λ (p : Pair). p.left) pairs k no_pair 0 low in
      let r : get_or rights k 0 ≡ pair.right = get_or_mapped (λ (p : Pair). p.right) pairs k no_pair 0 low in
      let first : k < length lefts = rw (length-map pairs (λ (p : Pair). p.left)) low in
      let second : k < length rights = rw (length-map pairs (λ (p : Pair). p.right)) low in
      let one : row_at left pair.left ≡ row_joined (tables ++ more) (here ++ there) origins k =
      row_is tables ps origins n pair.left within.0 ∙ ap (row_joined tables ps origins) (sym l) ∙ sym (row_picked tables ps origins lefts k first) ∙ sym (row_before tables more here there k long origins are.within) in
      let other : row_at right pair.right ≡ row_joined (tables ++ more) (here ++ there) (map (behind (length tables)) others) k =
      row_is more further others m pair.right within.1 ∙ ap (row_joined more further others) (sym r) ∙ sym (row_picked more further others rights k second) ∙ sym (row_behind tables more here there k long others) in
      get_or_mapped (row_paired left right) pairs k no_pair [] low
      ∙ (λ i. one i ++ other i)
      ∙ sym (map-append (value_in (tables ++ more) (here ++ there) k) origins (map (behind (length tables)) others)))))

  stands_behind : (o : Option Origin) → StandsIn (length more) o → StandsIn (length (tables ++ more)) (behind (length tables) o)
  stands_behind None within origin is = absurd cc
  stands_behind (Some other) within origin is =
      let low : other.table < length more = within other refl in
      let e : length tables + other.table ≡ origin.table = cc in
      let long = length-append tables more in
      omega arith

  pub of_pairs_within : AreOfTables tables ps origins → AreOfTables more further others → AreOfTables (tables ++ more) (positions_of_pairs ps further pairs) (origins ++ map (behind (length tables)) others)
  of_pairs_within are also =
      let here = map (positions_at (map (λ (pair : Pair). pair.left) pairs)) ps in
      let there = map (positions_at (map (λ (pair : Pair). pair.right) pairs)) further in
      let first : length here ≡ length tables = length-map ps (positions_at (map (λ (pair : Pair). pair.left) pairs)) ∙ are.lists in
      let second : length there ≡ length more = length-map further (positions_at (map (λ (pair : Pair). pair.right) pairs)) ∙ also.lists in
      let both = length-append here there in
      let long = length-append tables more in
      let fewer : length tables ≤ length (tables ++ more) = omega arith in
      record {
        lists = omega arith;
        within = All-append (StandsIn (length (tables ++ more))) origins (map (behind (length tables)) others)
            (stands_in_more (length tables) (length (tables ++ more)) fewer origins are.within)
            (All-map (StandsIn (length (tables ++ more))) (behind (length tables)) others (λ k d low. stands_behind (get_or others k d) (also.within k d low)));
      }
