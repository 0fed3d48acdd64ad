-- The first state, and what the last one is.
use Rattle.std.proofs.Common.{◌≡◌, ℕ, zero, suc, ◌+◌, ◌<◌, ◌≤◌, Bool, true, cond, ◌&&◌, List, [], ◌∷◌, length, refl, sym, ◌∙◌, ap, arith, subst, eq-eqb, ◌⊎◌, inl, inr, ⊎_elim, Option, Some, None, nat_eq, get_or, filter}
use Rattle.std.specs.List.{list_all, AllByRecursion, range_with_len}
use Rattle.std.proofs.lemmas.Bool.{cases_eq, and_parts, false≢true}
use Rattle.std.proofs.lemmas.List.{length-map, take_all}
use Rattle.wd_step_facts.specs.declared.facts.Member.{Member}
use Rattle.wd_step_facts.specs.declared.facts.Member.TheVariants.{Left, Right}
use Rattle.wd_step_facts.specs.Facts.{Fact, FactList}
use Rattle.wd_sets.specs.Sets.{has, stands_in}
use Rattle.wd_close.specs.Closure.{all_members, columns_between, is_named, side_facts}
use Rattle.wd_close.specs.Reached.{all_added, fired, is_done}
use Rattle.wd_close.proofs.Gives.{Gives, itself_given}
use Rattle.wd_close.proofs.Lists.{Within, all_added_from, all_added_has, all_at, all_from, between_from, different, front_within, lacking, lacking_nil, none_lacking}
use Rattle.wd_close.proofs.Model.{IsClosed, closed_has}
use Rattle.wd_close.proofs.Names.{HasSplit, IsNamed, left_at, right_at, right_named, sides_named}
use Rattle.wd_close.proofs.Queue.{Good, good_all}
use Rattle.wd_close.proofs.Steps.{Sides, State, fired_good, fired_has, front_fired, occurs, sizes, sizes_at}
use Rattle.wd_close.proofs.Step.{done_gives, done_is, is_done-lt, left_reached}

abbrev pub started : List Fact → List Member → List Member
started list from = fired list (sizes list) (all_added [] from) (range_with_len 0 (length list))

-- the facts whose left sides are empty
abbrev pub ready_first : List Fact → List ℕ
ready_first list = filter (is_done (sizes list)) (range_with_len 0 (length list))

good_nil : (facts : FactList) (from : List Member) → Good facts from []
good_nil facts from = record {
  apart = tt;
  room = omega (arith, lacking_nil (all_members facts.columns));
  named = λ x e. absurd (false≢true e);
  sound = λ x e. absurd (false≢true e);
}

occurs_range : (a n i : ℕ) → a ≤ i → i < a + n → 0 < occurs i (range_with_len a n)
occurs_range a zero i h k = absurd (omega (arith, h, k))
occurs_range a (suc n) i h k = by (λ (ne : i ≡ a → ⊥). occurs_range (a + 1) n i (omega (arith, h, ne)) (omega (arith, k))) (cases_eq i a)
  where
    by : ((i ≡ a → ⊥) → 0 < occurs i (range_with_len (a + 1) n)) → (i ≡ a) ⊎ (i ≡ a → ⊥) → 0 < cond (nat_eq i a) 1 0 + occurs i (range_with_len (a + 1) n)
    by later (inl e) = let u : ◌≡◌ {A = ℕ} (cond (nat_eq i a) 1 0) 1 = ap (λ (b : Bool). cond b 1 0) (eq-eqb i a e) in omega (arith, u)
    by later (inr e) = omega (arith, later e)

pub sizes_long : (list : List Fact) → length (sizes list) ≡ length list
sizes_long list = length-map list (λ (fact : Fact). length (different fact.from))

-- the counters of facts, and which of them are at 0
pub ready_is : (list : List Fact) (cs ready : List ℕ) → cs ≡ sizes list → ready ≡ filter (is_done cs) (range_with_len 0 (length cs)) → ready ≡ ready_first list
ready_is list cs ready e f = f ∙ ap (λ (c : List ℕ). filter (is_done c) (range_with_len 0 (length c))) e ∙ ap (λ n. filter (is_done (sizes list)) (range_with_len 0 n)) (sizes_long list)

first_good : (facts : FactList) (from : List Member) → list_all (is_named facts) from ≡ true → Good facts from (all_added [] from)
first_good facts from from_named = good_all facts from [] from (good_nil facts from) (λ x e. all_at (is_named facts) from x from_named e) (itself_given facts from)

first_counts : (list : List Fact) (i : ℕ) → i < length list → get_or (sizes list) i 0 ≡ lacking (different (left_at list i)) []
first_counts list i h = sizes_at list i h ∙ sym (lacking_nil (different (left_at list i)))

-- the facts whose counters are at 0 have their left sides reached
pub first_left : (facts : FactList) (from : List Member) → list_all (is_named facts) from ≡ true → (i : ℕ) → is_done (sizes facts.list) i ≡ true → (i < length facts.list) × Within (left_at facts.list i) (all_added [] from)
first_left facts from from_named i e = (
  omega (arith, is_done-lt (sizes facts.list) i e, sizes_long facts.list),
  left_reached facts from (all_added [] from) [] (sizes facts.list) (first_good facts from from_named) (λ x f. absurd (false≢true f)) (sizes_long facts.list) (first_counts facts.list) i e,
)

pub first_state : (facts : FactList) (from : List Member) → AllByRecursion (IsNamed facts) facts.list → list_all (is_named facts) from ≡ true → State facts from 0 (started facts.list from) (sizes facts.list)
first_state facts from names from_named = record {
  good = fired_good facts.list (sizes facts.list) facts from (all_added [] from) (range_with_len 0 (length facts.list)) good0 (λ i x e f. all_at (is_named facts) (right_at facts.list i) x (right_named facts facts.list i names) f) (done_gives facts from (all_added [] from) [] (sizes facts.list) good0 (λ x e. absurd (false≢true e)) (sizes_long facts.list) (first_counts facts.list));
  start = λ x e. front_within (all_added [] from) (started facts.list from) (front_fired facts.list (sizes facts.list) (all_added [] from) (range_with_len 0 (length facts.list))) x (all_added_has [] from x e);
  reached = omega arith;
  sides = record { row = λ e. absurd (false≢true e); left = λ s e f. absurd (false≢true f); right = λ s e f. absurd (false≢true f); both = λ s e f. absurd (false≢true f) };
  long = sizes_long facts.list;
  counts = first_counts facts.list;
  fires = λ i h e x f. fired_has facts.list (sizes facts.list) (all_added [] from) (range_with_len 0 (length facts.list)) i x (occurs_range 0 (length facts.list) i (omega arith) (omega (arith, h))) (done_is (sizes facts.list) i (omega (arith, h, sizes_long facts.list)) e) f;
}
  where
    good0 : Good facts from (all_added [] from)
    good0 = first_good facts from from_named

-- ---- the last state

-- the sides' facts add nothing to members that bring what they do
sides_closed : (facts : FactList) (q : List Member) → Sides facts q q → AllByRecursion (IsClosed (stands_in q)) (side_facts facts.split facts.columns)
sides_closed facts q sides = by facts.split refl
  where
    first : (a b : Bool) → (a && b) ≡ true → a ≡ true
    first a b e = (and_parts a b e).0

    by : (o : Option ℕ) → facts.split ≡ o → AllByRecursion (IsClosed (stands_in q)) (side_facts o facts.columns)
    by None e = tt
    by (Some s) e = (
      (λ f. all_from (stands_in q) (columns_between 0 s) (λ x g. let r = between_from 0 s x g in subst (λ y. stands_in q y ≡ true) (sym r.is) (sides.left s e (first (stands_in q Left) true f) r.number r.high))),
      (
        (λ f. all_from (stands_in q) (columns_between s facts.columns) (λ x g. let r = between_from s facts.columns x g in subst (λ y. stands_in q y ≡ true) (sym r.is) (sides.right s e (first (stands_in q Right) true f) r.number r.low r.high))),
        ((λ f. let both = and_parts (stands_in q Left) (stands_in q Right && true) f in let row = sides.both s e both.0 (first (stands_in q Right) true both.1) in λ i. row i && true), tt),
      ),
    )

every_fact : (has : Member → Bool) (list : List Fact) → ((i : ℕ) → i < length list → list_all has (left_at list i) ≡ true → list_all has (right_at list i) ≡ true) → AllByRecursion (IsClosed has) list
every_fact has [] h = tt
every_fact has (f ∷ fs) h = (h 0 (omega arith), every_fact has fs (λ i k. h (suc i) (omega (arith, k))))

pub complete : (facts : FactList) (from : List Member) (k : ℕ) (q : List Member) (cs : List ℕ) → HasSplit facts → AllByRecursion (IsNamed facts) facts.list → list_all (is_named facts) from ≡ true → State facts from k q cs → length q ≤ k → (m : Member) → is_named facts m ≡ true → Gives facts from m → stands_in q m ≡ true
complete facts from k q cs within names from_named st last m n gives =
    closed_has facts (stands_in q) from m (λ e. sides.row e m n) (sides_named facts within) names (sides_closed facts q sides) (every_fact (stands_in q) facts.list one) from_named (all_from (stands_in q) from st.start) n gives
  where
    sides : Sides facts q q
    sides = subst (λ t. Sides facts t q) (take_all k q last) st.sides

    one : (i : ℕ) → i < length facts.list → list_all (stands_in q) (left_at facts.list i) ≡ true → list_all (stands_in q) (right_at facts.list i) ≡ true
    one i h e =
        let none_left : lacking (different (left_at facts.list i)) q ≡ 0 = none_lacking (different (left_at facts.list i)) q (λ x f. ⊎_elim (λ g. absurd (false≢true g)) (all_at (stands_in q) (left_at facts.list i) x e) (all_added_from [] (left_at facts.list i) x f)) in
        all_from (stands_in q) (right_at facts.list i) (st.fires i h (st.counts i h ∙ ap (lacking (different (left_at facts.list i))) (take_all k q last) ∙ none_left))
