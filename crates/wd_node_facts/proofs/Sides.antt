-- The facts that the children of a node keep, among its given facts.
use Rattle.std.proofs.Common.{◌≡◌, ℕ, zero, suc, ◌+◌, ◌-◌, ◌<◌, ◌≤◌, Bool, true, false, ◌&&◌, List, [], ◌∷◌, ◌++◌, map, filter, flat_map, length, refl, sym, ◌∙◌, ap, arith, cond, Option, slice_get, nat_lt, nat_eq}
use Rattle.std.specs.List.{list_all}
use Rattle.std.proofs.lemmas.List.{append_assoc, append-nil, map-append}
use Rattle.std.proofs.lemmas.Bool.{and_parts}
use Rattle.std.proofs.lemmas.List.Folds.{list_all-map}
use Rattle.wd_schema.specs.Tables.{TableRule}
use Rattle.wd_plan.specs.Fits.{fits, width}
use Rattle.wd_plan.specs.Plans.{PlanTree, Scan, Join, Over, Filter, Map, Group, Window, Distinct, Limit, GroupRule}
use Rattle.wd_step_facts.specs.declared.facts.Member.{Member}
use Rattle.wd_step_facts.specs.declared.facts.Member.TheVariants as member
use Rattle.wd_step_facts.specs.Facts.{Fact, FactList, columns_named, is_column, is_plain, is_plain_fact, moved, moved_facts}
use Rattle.wd_step_facts.specs.Steps.{restrict_fact, facts_of_group, group_key_facts}
use Rattle.wd_facts.specs.Given.{given}
use Rattle.wd_facts.specs.Laws.{AreOfChildren, ArePlain}
use Rattle.wd_facts.proofs.Asked.{input_kept, left_kept, right_kept}
use Rattle.wd_facts.proofs.Plain.{facts_wider}
use Rattle.wd_plan.proofs.Ranges.{narrow}
use Rattle.wd_node_facts.specs.declared.facts.KeptFact.{KeptFact}
use Rattle.wd_node_facts.specs.Seen.{HasNoOther, first_below, first_beside, is_group, kept_through, row_below, with_own}

-- ---- a list's elements by number

pub get_left : {X : Type 0} (xs ys : List X) (n : ℕ) → n < length xs → slice_get (xs ++ ys) n ≡ slice_get xs n
get_left [] ys n h = absurd (omega arith)
get_left (x ∷ xs) ys zero h = refl
get_left (x ∷ xs) ys (suc n) h = get_left xs ys n (omega arith)

pub get_right : {X : Type 0} (xs ys : List X) (n : ℕ) → length xs ≤ n → slice_get (xs ++ ys) n ≡ slice_get ys (n - length xs)
get_right [] ys n h = let e : n ≡ n - 0 = omega arith in ap (slice_get ys) e
get_right (x ∷ xs) ys zero h = absurd (omega arith)
get_right (x ∷ xs) ys (suc n) h = let e : n - length xs ≡ suc n - length (x ∷ xs) = omega arith in get_right xs ys n (omega arith) ∙ ap (slice_get ys) e

-- ---- cut facts

pub columns_are : (n : ℕ) (columns : List ℕ) → list_all (is_column n) (columns_named columns) ≡ list_all (λ c. nat_lt c n) columns
columns_are n columns = list_all-map (is_column n) (λ c. member.Column c) columns

pub cut_next : (columns : ℕ) (before : List Fact) (fact : Fact) (facts : List Fact) → (before ++ restrict_fact columns fact) ++ flat_map (restrict_fact columns) facts ≡ before ++ flat_map (restrict_fact columns) (fact ∷ facts)
cut_next columns before fact facts = append_assoc before (restrict_fact columns fact) (flat_map (restrict_fact columns) facts)

-- a fact that begins with some of so many columns is cut to these, another one is left out
pub cut_in : (n : ℕ) (columns : List ℕ) (to : List Member) → list_all (λ c. nat_lt c n) columns ≡ true → restrict_fact n (record { from = columns_named columns; to = to }) ≡ record { from = columns_named columns; to = filter (is_plain n) to } ∷ []
cut_in n columns to e = ap (λ b. cond b (record { from = columns_named columns; to = filter (is_plain n) to } ∷ []) []) (columns_are n columns ∙ e)

pub cut_out : (n : ℕ) (columns : List ℕ) (to : List Member) → list_all (λ c. nat_lt c n) columns ≡ false → restrict_fact n (record { from = columns_named columns; to = to }) ≡ []
cut_out n columns to e = ap (λ b. cond b (record { from = columns_named columns; to = filter (is_plain n) to } ∷ []) []) (columns_are n columns ∙ e)

-- ---- renumbered by none

moved_same : (X : List Member) → map (moved (λ c. 0 + c) member.Row) X ≡ X
moved_same [] = refl
moved_same (member.Column c ∷ X) = let e : 0 + c ≡ c = omega arith in λ i. member.Column (e i) ∷ moved_same X i
moved_same (member.Left ∷ X) = ap (λ Y. member.Left ∷ Y) (moved_same X)
moved_same (member.Right ∷ X) = ap (λ Y. member.Right ∷ Y) (moved_same X)
moved_same (member.Row ∷ X) = ap (λ Y. member.Row ∷ Y) (moved_same X)

facts_same : (facts : List Fact) → moved_facts (λ c. 0 + c) member.Row facts ≡ facts
facts_same [] = refl
facts_same (f ∷ facts) = λ i. record { from = moved_same f.from i; to = moved_same f.to i } ∷ facts_same facts i

-- ---- the given facts of a node

pub none_named : (plan : PlanTree) → AreOfChildren plan [] []
none_named (Scan table columns) = tt
none_named (Join condition left right) = (tt, tt)
none_named (Over step input) = tt

-- what one child keeps, before others
one : (kept more own : List Fact) → more ≡ [] → kept ++ own ≡ moved_facts (λ c. 0 + c) member.Row kept ++ (moved_facts (λ c. 0 + c) member.Right more ++ own)
one kept more own e = λ i. sym (facts_same kept) i ++ (moved_facts (λ c. 0 + c) member.Right (sym e i) ++ own)

abbrev with_facts : ℕ → Option ℕ → List Fact → FactList
with_facts columns split list = record { columns = columns; split = split; list = list }

with_all : (columns : ℕ) (split : Option ℕ) (xs ys : List Fact) → xs ≡ ys → with_facts columns split xs ≡ with_facts columns split ys
with_all columns split xs ys e = ap (with_facts columns split) e

plus_none : ◌≡◌ {A = ℕ → ℕ} (λ c. c) (λ c. 0 + c)
plus_none = λ i c. at c i
  where
    at : (c : ℕ) → c ≡ 0 + c
    at c = omega arith

five : (a b c d e : List Fact) → (((a ++ b) ++ c) ++ d) ++ e ≡ a ++ (b ++ ((c ++ d) ++ e))
five a b c d e =
    append_assoc ((a ++ b) ++ c) d e
    ∙ append_assoc (a ++ b) c (d ++ e)
    ∙ append_assoc a b (c ++ (d ++ e))
    ∙ (λ i. a ++ (b ++ sym (append_assoc c d e) i))

of_none : (g : GroupRule) → facts_of_group g [] ≡ []
of_none g = by (nat_eq (length g.sets) 1)
  where
    by : (b : Bool) → cond b (flat_map (restrict_fact g.columns) []) [] ≡ []
    by true = refl
    by false = refl

of_group : (keys of_kept more : List Fact) (none : List Fact) → none ≡ [] → more ≡ [] → keys ++ of_kept ≡ (keys ++ none) ++ (moved_facts (λ c. 0 + c) member.Row of_kept ++ (moved_facts (λ c. 0 + c) member.Right more ++ []))
of_group keys of_kept more none e f =
    (λ i. sym (append-nil keys) i ++ sym (append-nil of_kept) i)
    ∙ (λ i. (keys ++ sym e i) ++ (sym (facts_same of_kept) i ++ (moved_facts (λ c. 0 + c) member.Right (sym f i) ++ [])))

-- what is given at a node: what its children keep, and what is given where they keep nothing
pub given_pieces : (tables : List TableRule) (plan : PlanTree) (kept more : List Fact) → HasNoOther plan kept more
    → with_own (is_group plan) (given tables plan [] []) (moved_facts (λ c. first_below plan + c) (row_below plan) (kept_through plan kept)) (moved_facts (λ c. first_beside plan + c) member.Right more) ≡ given tables plan kept more
given_pieces tables plan kept more h = sym (pieces plan h)
  where
    Pieces : PlanTree → Type 0
    Pieces plan = given tables plan kept more ≡ with_own (is_group plan) (given tables plan [] []) (moved_facts (λ c. first_below plan + c) (row_below plan) (kept_through plan kept)) (moved_facts (λ c. first_beside plan + c) member.Right more)

    pieces : (plan : PlanTree) → HasNoOther plan kept more → Pieces plan
    pieces (Scan table columns) h = with_all _ _ _ _ (λ i. moved_facts (λ c. 0 + c) member.Row (sym h.0 i) ++ (moved_facts (λ c. 0 + c) member.Right (sym h.1 i) ++ (given tables (Scan table columns) [] []).list))
    pieces (Join condition left right) h = with_all _ _ _ _ (
        five (moved_facts (λ c. c) member.Left kept) (moved_facts (λ c. width left + c) member.Right more) _ _ _
        ∙ ap (λ f. moved_facts f member.Left kept ++ (moved_facts (λ c. width left + c) member.Right more ++ (given tables (Join condition left right) [] []).list)) plus_none)
    pieces (Over (Filter condition) input) h = with_all _ _ _ _ (append_assoc kept _ _ ∙ one kept more _ h)
    pieces (Over (Map outputs) input) h = with_all _ _ _ _ (λ i. moved_facts (λ c. length outputs + c) member.Row kept ++ (moved_facts (λ c. 0 + c) member.Right (sym h i) ++ (given tables (Over (Map outputs) input) [] []).list))
    pieces (Over (Group g) input) h = with_all _ _ _ _ (of_group (group_key_facts g) (facts_of_group g kept) more (facts_of_group g []) (of_none g) h)
    pieces (Over (Window w) input) h = with_all _ _ _ _ (one kept more _ h)
    pieces (Over Distinct input) h = with_all _ _ _ _ (one kept more _ h)
    pieces (Over (Limit limit) input) h = with_all _ _ _ _ (sym (append-nil kept) ∙ one kept more [] h)

-- the same, of what the code finds
pub given_seen : (tables : List TableRule) (plan : PlanTree) (kept more : List Fact) (group : Bool) (own : FactList) (by beside : ℕ) (row : Member) (through : List Fact) → HasNoOther plan kept more
    → group ≡ is_group plan → own ≡ given tables plan [] [] → by ≡ first_below plan → row ≡ row_below plan → through ≡ kept_through plan kept → beside ≡ first_beside plan
    → with_own group own (moved_facts (λ c. by + c) row through) (moved_facts (λ c. beside + c) member.Right more) ≡ given tables plan kept more
given_seen tables plan kept more group own by beside row through h g o b r t e =
    (λ i. with_own (g i) (o i) (moved_facts (λ c. b i + c) (r i) (t i)) (moved_facts (λ c. e i + c) member.Right more)) ∙ given_pieces tables plan kept more h

-- what is cut is appended, or nothing
pub cut_after : (f : KeptFact → Fact) (before after : List KeptFact) (one kept : KeptFact) (n : ℕ) (X : List ℕ) → after ≡ before ++ one ∷ [] → f kept ≡ record { from = columns_named X; to = kept.to.items } → f one ≡ record { from = columns_named X; to = one.to.items } → one.to.items ≡ filter (is_plain n) kept.to.items → list_all (λ c. nat_lt c n) X ≡ true
    → map f after ≡ map f before ++ restrict_fact n (f kept)
cut_after f before after one kept n X e k o to inside =
    ap (map f) e ∙ map-append f before (one ∷ [])
    ∙ (λ i. map f before ++ ((o ∙ (λ j. record { from = columns_named X; to = to j })) i ∷ []))
    ∙ (λ i. map f before ++ sym (ap (restrict_fact n) k ∙ cut_in n X kept.to.items inside) i)

pub none_after : (f : KeptFact → Fact) (before : List KeptFact) (kept : KeptFact) (n : ℕ) (X : List ℕ) → f kept ≡ record { from = columns_named X; to = kept.to.items } → list_all (λ c. nat_lt c n) X ≡ false → map f before ≡ map f before ++ restrict_fact n (f kept)
none_after f before kept n X k outside = sym (append-nil (map f before)) ∙ (λ i. map f before ++ sym (ap (restrict_fact n) k ∙ cut_out n X kept.to.items outside) i)

-- ---- columns that can be renumbered

filter_all : (t q : Member → Bool) (X : List Member) → list_all t X ≡ true → list_all t (filter q X) ≡ true
filter_all t q [] e = refl
filter_all t q (x ∷ X) e = let parts = and_parts (t x) (list_all t X) e in by (q x) parts.0 (filter_all t q X parts.1)
  where
    by : (b : Bool) → t x ≡ true → list_all t (filter q X) ≡ true → list_all t (cond b (x ∷ filter q X) (filter q X)) ≡ true
    by true own rest = λ i. own i && rest i
    by false own rest = rest

cut_plain : (columns n : ℕ) (kept : List Fact) → list_all (is_plain_fact n) kept ≡ true → list_all (is_plain_fact n) (flat_map (restrict_fact columns) kept) ≡ true
cut_plain columns n [] e = refl
cut_plain columns n (fact ∷ kept) e =
    let parts = and_parts (is_plain_fact n fact) (list_all (is_plain_fact n) kept) e in
    by (list_all (is_column columns) fact.from) (and_parts (list_all (is_plain n) fact.from) (list_all (is_plain n) fact.to) parts.0) (cut_plain columns n kept parts.1)
  where
    by : (b : Bool) → (list_all (is_plain n) fact.from ≡ true) × (list_all (is_plain n) fact.to ≡ true) → list_all (is_plain_fact n) (flat_map (restrict_fact columns) kept) ≡ true
        → list_all (is_plain_fact n) (cond b (record { from = fact.from; to = filter (is_plain columns) fact.to } ∷ []) [] ++ flat_map (restrict_fact columns) kept) ≡ true
    by true own rest = λ i. (own.0 i && filter_all (is_plain n) (is_plain columns) fact.to own.1 i) && rest i
    by false own rest = rest

group_plain : (g : GroupRule) (n : ℕ) (kept : List Fact) → list_all (is_plain_fact n) kept ≡ true → list_all (is_plain_fact n) (facts_of_group g kept) ≡ true
group_plain g n kept e = by (nat_eq (length g.sets) 1)
  where
    by : (b : Bool) → list_all (is_plain_fact n) (cond b (flat_map (restrict_fact g.columns) kept) []) ≡ true
    by true = cut_plain g.columns n kept e
    by false = refl

none_plain : (n : ℕ) (facts : List Fact) → facts ≡ [] → list_all (is_plain_fact n) facts ≡ true
none_plain n facts e = λ i. list_all (is_plain_fact n) (e i)

module _ (tables : List TableRule) where
  wide : (plan : PlanTree) (kept : List Fact) → fits tables plan ≡ true → ArePlain (width plan) kept → list_all (is_plain_fact 65536) kept ≡ true
  wide plan kept f h = let n = narrow tables plan f in facts_wider (width plan) 65536 (omega arith) kept h

  pub left_narrow : (plan : PlanTree) (kept more : List Fact) → fits tables plan ≡ true → AreOfChildren plan kept more → HasNoOther plan kept more → list_all (is_plain_fact (65536 - first_below plan)) (kept_through plan kept) ≡ true
  left_narrow (Scan table columns) kept more f h o = none_plain 65536 kept o.0
  left_narrow (Join condition left right) kept more f h o = left_kept tables condition left right f kept h.0
  left_narrow (Over (Filter condition) input) kept more f h o = wide (Over (Filter condition) input) kept f h
  left_narrow (Over (Map outputs) input) kept more f h o = input_kept tables outputs input f kept h
  left_narrow (Over (Group g) input) kept more f h o = group_plain g 65536 kept (wide input kept (and_parts (fits tables input) _ f).0 h)
  left_narrow (Over (Window w) input) kept more f h o = wide input kept (and_parts (fits tables input) _ f).0 h
  left_narrow (Over Distinct input) kept more f h o = wide (Over Distinct input) kept f h
  left_narrow (Over (Limit limit) input) kept more f h o = wide (Over (Limit limit) input) kept f h

  pub right_narrow : (plan : PlanTree) (kept more : List Fact) → fits tables plan ≡ true → AreOfChildren plan kept more → HasNoOther plan kept more → list_all (is_plain_fact (65536 - first_beside plan)) more ≡ true
  right_narrow (Scan table columns) kept more f h o = none_plain 65536 more o.1
  right_narrow (Join condition left right) kept more f h o = right_kept tables condition left right f more h.1
  right_narrow (Over step input) kept more f h o = none_plain 65536 more o
