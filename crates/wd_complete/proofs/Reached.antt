-- A key of the table among the columns of the window: the facts above the Map say that they give the row.
use Rattle.std.proofs.Common.{◌≡◌, ◌≢◌, ℕ, ◌+◌, ◌<◌, ◌≤◌, Bool, true, false, ◌&&◌, AllPairs, List, [], ◌∷◌, ◌++◌, filter, get_or, length, map, nat_lt, refl, sym, ◌∙◌, ap, subst, arith, Some}
use Rattle.std.specs.List.{list_all}
use Rattle.std.proofs.lemmas.Bool.{ltb-true, ltb-false}
use Rattle.std.proofs.lemmas.List.{append_assoc, length-map}
use Rattle.wd_schema.specs.Tables.{KeyRule, TableRule}
use Rattle.wd_plan.specs.Expressions.{Expression, Column}
use Rattle.wd_plan.specs.Plans.{PlanTree, Over, Scan, Window}
use Rattle.wd_plan.specs.Sorting.{class_columns}
use Rattle.wd_step_facts.specs.declared.facts.Member.TheVariants as member
use Rattle.wd_step_facts.specs.Facts.{Fact, FactList, Holds, Same, columns_named, key_fact, moved_fact, moved_facts}
use Rattle.wd_facts.specs.Given.{given, gives_row, names_columns, row_keys, table_rule}
use Rattle.wd_step_facts.specs.Steps.{column_fact, outputs_facts}
use Rattle.wd_close.specs.Closure.{Follows}
use Rattle.wd_analyse.specs.Evidence.{Closing, IsClosing, once as each_once}
use Rattle.wd_analyse.specs.Findings.{Finding, IsFinding, facts_kept}
use Rattle.wd_analyse.specs.Kept.{kept_fact}
use Rattle.wd_analyse.specs.Sources.{Keeps, columns_in, left_sides, outputs_of}
use Rattle.wd_complete.specs.Plain.{PlainPlan, input_of, window_rule}
use Rattle.wd_complete.proofs.Lists.{Among, Within, all_at, among_back, among_filter, among_front, among_get, among_map}
use Rattle.wd_complete.proofs.Tried.{IsSame, claimed, filter_short, front_closed, row_fact as kept_row, same_once}
use Rattle.wd_complete.proofs.Gives.{HaveCopies, IsCopy, columns_named_in, copy_given, has_row, have_copies, left_among, left_append, left_short, moved_from, named_at, own_columns, row_fact, row_follows}

-- columns that are read once each have one place
pub one_place : (read : List ℕ) → AllPairs (λ a b. a ≢ b) read → (i j : ℕ) → i < length read → j < length read → get_or read i 0 ≡ get_or read j 0 → i ≡ j
one_place read once i j v w e = by (nat_lt i j) refl (nat_lt j i) refl
  where
    by : (a : Bool) → nat_lt i j ≡ a → (b : Bool) → nat_lt j i ≡ b → i ≡ j
    by true l b g = absurd (once i j 0 (ltb-true i j l) w e)
    by false l true g = absurd (once j i 0 (ltb-true j i g) v (sym e))
    by false l false g = omega (arith, ltb-false i j l, ltb-false j i g)

-- columns are claimed that are the same as these, and they give the row
pub record IsClaimed (claims : List Closing) (X : List ℕ) : Type 0 where
  pub closing : Closing
  pub at : Among closing claims
  pub same : IsSame X (each_once closing.from)
  pub gives : closing.has member.Row ≡ true

-- of a front of no more than 64, columns that give the row are claimed
front_claimed : (facts : FactList) (width : ℕ) (front back : List (List ℕ)) (claims : List Closing) → Keeps facts width (front ++ back) claims → (X : List ℕ) → length front ≤ 64 → Among X front
    → ((Y : List ℕ) → IsSame X Y → Follows facts Y member.Row) → IsClaimed claims X
front_claimed facts width front back claims k X few at follows =
    let c = front_closed facts width front back claims k X few at in
    let gives = has_row facts c.closing (all_at (IsClosing facts) c.closing k.tried k.closings c.at) (follows c.closing.from c.same) in
    record { closing = c.closing; at = subst (Among c.closing) (sym k.kept) (claimed width c.closing gives k.tried c.at); same = same_once X c.closing.from c.same; gives = gives }

-- the fact that it keeps
claim_kept : (width : ℕ) (claims : List Closing) (X : List ℕ) (c : IsClaimed claims X) → Among (row_fact (each_once c.closing.from)) (map (kept_fact width) claims)
claim_kept width claims X c = subst (λ (f : Fact). Among f (map (kept_fact width) claims)) (kept_row width c.closing c.gives) (among_map (kept_fact width) c.closing claims c.at)

module _ (tables : List TableRule) (p : PlainPlan) where
  abbrev pub rule : TableRule
  rule = table_rule tables p.table

  abbrev pub scan : PlanTree
  scan = Scan p.table p.columns

  abbrev pub outputs : List Expression
  outputs = map Column p.read

  -- a column of the table that the window's columns show
  pub record IsOrdered (c : ℕ) : Type 0 where
    pub number : ℕ
    pub at : Among number (class_columns p.class)
    pub copy : IsCopy p.read c number

-- the key gives the row, and the window's columns show its columns
pub record IsOrderedKey (tables : List TableRule) (p : PlainPlan) (key : KeyRule) : Type 0 where
  pub at : Among key (rule tables p).keys
  pub named : names_columns (rule tables p) key ≡ true
  pub gives : gives_row (rule tables p) key ≡ true
  pub ordered : (c : ℕ) → Among c key.columns → IsOrdered tables p c

-- the facts at the Scan
abbrev scan_facts : List TableRule → PlainPlan → FactList
scan_facts tables p = given tables (scan tables p) [] []

-- what the Scan's finding keeps
abbrev scan_kept : List TableRule → PlainPlan → Finding → List Fact
scan_kept tables p f = facts_kept (scan tables p) f

abbrev map_facts : List TableRule → PlainPlan → Finding → FactList
map_facts tables p f = given tables (input_of p) (scan_kept tables p f) []

abbrev map_kept : PlainPlan → Finding → List Fact
map_kept p f = facts_kept (input_of p) f

abbrev pub window_facts : List TableRule → PlainPlan → Finding → FactList
window_facts tables p f = given tables (Over (Window (window_rule p)) (input_of p)) (map_kept p f) []

module _ (tables : List TableRule) (p : PlainPlan) (columns : p.columns ≡ length (rule tables p).columns) (few : length (rule tables p).keys ≤ 64) (key : KeyRule) (k : IsOrderedKey tables p key) where
  -- ---- at the Scan

  both : (a b : Bool) → a ≡ true → b ≡ true → (a && b) ≡ true
  both a b e f = λ i. e i && f i

  abbrev is_row_key : KeyRule → Bool
  is_row_key key = names_columns (rule tables p) key && gives_row (rule tables p) key

  key_among : Among key.columns (row_keys (rule tables p))
  key_among = among_map (λ (key : KeyRule). key.columns) key (filter is_row_key (rule tables p).keys) (among_filter is_row_key key (rule tables p).keys k.at (both (names_columns (rule tables p) key) (gives_row (rule tables p) key) k.named k.gives))

  fact_among : Among (row_fact key.columns) (scan_facts tables p).list
  fact_among = among_map (key_fact member.Row) key.columns (row_keys (rule tables p)) key_among

  own : outputs_of [] p.columns (columns_in (columns_named key.columns)) ≡ Some key.columns
  own = ap (outputs_of [] p.columns) (columns_named_in key.columns) ∙ own_columns p.columns key.columns (subst (λ n. list_all (λ c. nat_lt c n) key.columns ≡ true) (sym columns) k.named)

  keys_few : length (left_sides [] p.columns (scan_facts tables p).list) ≤ 64
  keys_few =
      let short = left_short [] p.columns (scan_facts tables p).list in
      let mapped : length (scan_facts tables p).list ≡ length (row_keys (rule tables p)) = length-map (row_keys (rule tables p)) (key_fact member.Row) in
      let named : length (row_keys (rule tables p)) ≡ length (filter is_row_key (rule tables p).keys) = length-map (filter is_row_key (rule tables p).keys) (λ (key : KeyRule). key.columns) in
      omega (arith, short, mapped, named, filter_short is_row_key (rule tables p).keys, few)

  scan_claims : (f : Finding) → IsFinding tables (scan tables p) [] [] 0 f → IsClaimed f.claims key.columns
  scan_claims f is =
      front_claimed (scan_facts tables p) p.columns (left_sides [] p.columns (scan_facts tables p).list) ([] ∷ []) f.claims is.keeps key.columns keys_few
      (left_among [] p.columns (scan_facts tables p).list (row_fact key.columns) key.columns fact_among own)
      (λ Y same. row_follows (scan_facts tables p) Y key.columns fact_among same.to)

  -- ---- at the Map

  module _ (f : Finding) (c : IsClaimed f.claims key.columns) (claims_few : length f.claims ≤ 64) where
    abbrev m : ℕ
    m = length (outputs tables p)

    long : m ≡ length p.read
    long = length-map p.read Column

    abbrev from : List ℕ
    from = each_once c.closing.from

    abbrev moved_front : List Fact
    moved_front = moved_facts (λ d. m + d) member.Row (scan_kept tables p f)

    from_read : Within from p.read
    from_read d at = let o = k.ordered d (c.same.back d at) in subst (λ e. Among e p.read) o.copy.is (among_get o.number p.read 0 o.copy.within)

    h : HaveCopies p.read m from
    h = have_copies p.read m from from_read

    moved_at : Among (moved_fact (λ d. m + d) member.Row (row_fact from)) moved_front
    moved_at = among_map (moved_fact (λ d. m + d) member.Row) (row_fact from) (scan_kept tables p f) (claim_kept p.columns f.claims key.columns c)

    front_few : length (left_sides (outputs tables p) m moved_front) ≤ 64
    front_few =
        let short = left_short (outputs tables p) m moved_front in
        let mapped : length moved_front ≡ length (scan_kept tables p f) = length-map (scan_kept tables p f) (moved_fact (λ d. m + d) member.Row) in
        let kept : length (scan_kept tables p f) ≡ length f.claims = length-map f.claims (kept_fact p.columns) in
        omega (arith, short, mapped, kept, claims_few)

    abbrev list : List Fact
    list = (map_facts tables p f).list

    -- the copies of the key's columns give the row
    copies_follow : (Y : List ℕ) → IsSame h.copies Y → Follows (map_facts tables p f) Y member.Row
    copies_follow Y same n sides holds a b ha hb equal =
        all_at (Holds n) (moved_fact (λ d. m + d) member.Row (row_fact from)) list holds (among_front _ moved_front (outputs_facts m 0 (outputs tables p)) moved_at) a b ha hb
        (moved_from (Same n a b) m from each)
      where
        each : (d : ℕ) → Among d from → Same n a b (member.Column (m + d))
        each d at =
            let r = h.are.found d at in
            let there = same.to r.0 r.1 in
            let fact = among_back _ moved_front (outputs_facts m 0 (outputs tables p)) (copy_given m 0 p.read r.0 r.2.within) in
            let none : 0 + r.0 ≡ r.0 = omega arith in
            let own = named_at (Same n a b) Y r.0 equal there in
            let gives = all_at (Holds n) (column_fact (0 + r.0) (m + get_or p.read r.0 0)) list holds fact a b ha hb (subst (λ x. Same n a b (member.Column x)) (sym none) own, tt) in
            subst (λ x. Same n a b (member.Column (m + x))) r.2.is gives.0

    map_claims : (g : Finding) (node : ℕ) → IsFinding tables (input_of p) (scan_kept tables p f) [] node g → IsClaimed g.claims h.copies
    map_claims g node is =
        front_claimed (map_facts tables p f) m (left_sides (outputs tables p) m moved_front) (left_sides (outputs tables p) m (outputs_facts m 0 (outputs tables p)) ++ ([] ∷ [])) g.claims
        (subst (λ Xs. Keeps (map_facts tables p f) m Xs g.claims) split is.keeps)
        h.copies front_few
        (left_among (outputs tables p) m moved_front (moved_fact (λ d. m + d) member.Row (row_fact from)) h.copies moved_at h.is)
        copies_follow
      where
        split : left_sides (outputs tables p) m (moved_front ++ outputs_facts m 0 (outputs tables p)) ++ ([] ∷ []) ≡ left_sides (outputs tables p) m moved_front ++ (left_sides (outputs tables p) m (outputs_facts m 0 (outputs tables p)) ++ ([] ∷ []))
        split = ap (λ l. l ++ ([] ∷ [])) (left_append (outputs tables p) m moved_front (outputs_facts m 0 (outputs tables p))) ∙ append_assoc (left_sides (outputs tables p) m moved_front) (left_sides (outputs tables p) m (outputs_facts m 0 (outputs tables p))) ([] ∷ [])

    -- ---- at the Window

    copies_ordered : AllPairs (λ a b. a ≢ b) p.read → Within h.copies (class_columns p.class)
    copies_ordered once y at =
        let r = h.are.each y at in
        let o = k.ordered (get_or p.read y 0) (c.same.back (get_or p.read y 0) r.1) in
        subst (λ x. Among x (class_columns p.class)) (one_place p.read once o.number y o.copy.within r.0 o.copy.is) o.at

    pub window_follows : AllPairs (λ a b. a ≢ b) p.read → (g : Finding) (node : ℕ) → IsFinding tables (input_of p) (scan_kept tables p f) [] node g → Follows (window_facts tables p g) (class_columns p.class) member.Row
    window_follows once g node is =
        let d = map_claims g node is in
        row_follows (window_facts tables p g) (class_columns p.class) (each_once d.closing.from)
        (among_front _ (map_kept p g) _ (claim_kept m g.claims h.copies d))
        (λ y at. copies_ordered once y (d.same.back y at))

  -- by what is found at the Scan and at the Map, the window's columns give the row
  pub row_reached : AllPairs (λ a b. a ≢ b) p.read → (f g : Finding) (node : ℕ) → IsFinding tables (scan tables p) [] [] 0 f → IsFinding tables (input_of p) (facts_kept (scan tables p) f) [] node g → Follows (window_facts tables p g) (class_columns p.class) member.Row
  row_reached once f g node below is = window_follows f (scan_claims f below) below.keeps.few once g node is
