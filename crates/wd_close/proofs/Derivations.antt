-- The facts that the closure notes show what it reaches.
use Rattle.std.proofs.Common.{◌≡◌, ℕ, zero, suc, ◌<◌, ◌≤◌, Bool, true, false, ◌&&◌, ◌||◌, List, [], ◌∷◌, ◌++◌, length, slice_get, refl, sym, ◌∙◌, ap, arith, subst, ⊎_elim, Option, Some, None, nat_lt, nat_le, if◌then◌else◌}
use Rattle.std.specs.List.{list_all}
use Rattle.std.proofs.lemmas.Bool.{and_parts, or_cases, false≢true, ltb-true, ltb-false, lt-ltb, le-leb}
use Rattle.std.proofs.lemmas.List.{append-nil, length-append}
use Rattle.wd_step_facts.specs.declared.facts.Member.{Member}
use Rattle.wd_step_facts.specs.declared.facts.Member.TheVariants.{Column, Left, Right, Row}
use Rattle.wd_step_facts.specs.Facts.{Fact, FactList}
use Rattle.wd_sets.specs.Reaches.{also, by_side, has_row, reaches, reaches_each}
use Rattle.wd_sets.specs.Sets.{stands_in}
use Rattle.wd_close.specs.Closure.{Derives, columns_between, is_named}
use Rattle.wd_close.specs.Reached.{added, all_added, brought, fired, fired_one, is_done, row_if, used, used_one, with_left, with_right, with_sides}
use Rattle.wd_close.proofs.Ends.{first_left, ready_first}
use Rattle.wd_close.proofs.Lists.{Front, Within, added_from, all_added_from, all_from, between_from, front_all, front_within, or_left, or_right}
use Rattle.wd_close.proofs.Names.{left_at, right_at}
use Rattle.wd_close.proofs.Queue.{if_row}
use Rattle.wd_close.proofs.Steps.{front_one, one_cases, sizes}

-- ---- what is reached with more members

abbrev AllHas : (Member → Bool) → (Member → Bool) → Type 0
AllHas has more = (m : Member) → has m ≡ true → more m ≡ true

and_both : (a b : Bool) → a ≡ true → b ≡ true → (a && b) ≡ true
and_both a b e f = λ i. e i && f i

module _ (has more : Member → Bool) (h : AllHas has more) where
  row_more : (o : Option ℕ) → has_row o has ≡ true → has_row o more ≡ true
  row_more None e = h Row e
  row_more (Some s) e =
      ⊎_elim (λ f. or_left (more Row) (more Left && more Right) (h Row f))
      (λ f. let p = and_parts (has Left) (has Right) f in or_right (more Row) (more Left && more Right) (and_both (more Left) (more Right) (h Left p.0) (h Right p.1)))
      (or_cases (has Row) (has Left && has Right) e)

  side_more : (o : Option ℕ) (columns c : ℕ) → by_side o columns has c ≡ true → by_side o columns more c ≡ true
  side_more None columns c e = absurd (false≢true e)
  side_more (Some s) columns c e =
      ⊎_elim
      (λ f. let p = and_parts (has Left) (nat_lt c s) f in or_left (more Left && nat_lt c s) (more Right && (nat_le s c && nat_lt c columns)) (and_both (more Left) (nat_lt c s) (h Left p.0) p.1))
      (λ f. let p = and_parts (has Right) (nat_le s c && nat_lt c columns) f in or_right (more Left && nat_lt c s) (more Right && (nat_le s c && nat_lt c columns)) (and_both (more Right) (nat_le s c && nat_lt c columns) (h Right p.0) p.1))
      (or_cases (has Left && nat_lt c s) (has Right && (nat_le s c && nat_lt c columns)) e)

  pub reaches_more : (facts : FactList) (m : Member) → reaches facts has m ≡ true → reaches facts more m ≡ true
  reaches_more facts (Column c) e =
      ⊎_elim (λ f. or_left (more (Column c)) (by_side facts.split facts.columns more c || has_row facts.split more) (h (Column c) f))
      (λ f. or_right (more (Column c)) (by_side facts.split facts.columns more c || has_row facts.split more) (
      ⊎_elim (λ g. or_left (by_side facts.split facts.columns more c) (has_row facts.split more) (side_more facts.split facts.columns c g))
      (λ g. or_right (by_side facts.split facts.columns more c) (has_row facts.split more) (row_more facts.split g))
      (or_cases (by_side facts.split facts.columns has c) (has_row facts.split has) f)
      ))
      (or_cases (has (Column c)) (by_side facts.split facts.columns has c || has_row facts.split has) e)
  reaches_more facts Left e = ⊎_elim (λ f. or_left (more Left) (has_row facts.split more) (h Left f)) (λ f. or_right (more Left) (has_row facts.split more) (row_more facts.split f)) (or_cases (has Left) (has_row facts.split has) e)
  reaches_more facts Right e = ⊎_elim (λ f. or_left (more Right) (has_row facts.split more) (h Right f)) (λ f. or_right (more Right) (has_row facts.split more) (row_more facts.split f)) (or_cases (has Right) (has_row facts.split has) e)
  reaches_more facts Row e = row_more facts.split e

module _ (facts : FactList) (has : Member → Bool) where
  row_there : (o : Option ℕ) → has Row ≡ true → has_row o has ≡ true
  row_there None e = e
  row_there (Some s) e = or_left (has Row) (has Left && has Right) e

  pub reaches_there : (m : Member) → has m ≡ true → reaches facts has m ≡ true
  reaches_there (Column c) e = or_left (has (Column c)) (by_side facts.split facts.columns has c || has_row facts.split has) e
  reaches_there Left e = or_left (has Left) (has_row facts.split has) e
  reaches_there Right e = or_left (has Right) (has_row facts.split has) e
  reaches_there Row e = row_there facts.split e

  by_row : has_row facts.split has ≡ true → (m : Member) → reaches facts has m ≡ true
  by_row e (Column c) = or_right (has (Column c)) (by_side facts.split facts.columns has c || has_row facts.split has) (or_right (by_side facts.split facts.columns has c) (has_row facts.split has) e)
  by_row e Left = or_right (has Left) (has_row facts.split has) e
  by_row e Right = or_right (has Right) (has_row facts.split has) e
  by_row e Row = e

  module _ (s : ℕ) (is : facts.split ≡ Some s) where
    by_left : reaches facts has Left ≡ true → (c : ℕ) → c < s → reaches facts has (Column c) ≡ true
    by_left e c h =
        ⊎_elim
        (λ f. or_right (has (Column c)) (by_side facts.split facts.columns has c || has_row facts.split has) (or_left (by_side facts.split facts.columns has c) (has_row facts.split has) (
        ap (λ o. by_side o facts.columns has c) is ∙ or_left (has Left && nat_lt c s) (has Right && (nat_le s c && nat_lt c facts.columns)) (and_both (has Left) (nat_lt c s) f (lt-ltb c s h))
        )))
        (λ f. by_row f (Column c))
        (or_cases (has Left) (has_row facts.split has) e)

    by_right : reaches facts has Right ≡ true → (c : ℕ) → s ≤ c → c < facts.columns → reaches facts has (Column c) ≡ true
    by_right e c h k =
        ⊎_elim
        (λ f. or_right (has (Column c)) (by_side facts.split facts.columns has c || has_row facts.split has) (or_left (by_side facts.split facts.columns has c) (has_row facts.split has) (
        ap (λ o. by_side o facts.columns has c) is ∙ or_right (has Left && nat_lt c s) (has Right && (nat_le s c && nat_lt c facts.columns)) (and_both (has Right) (nat_le s c && nat_lt c facts.columns) f (and_both (nat_le s c) (nat_lt c facts.columns) (le-leb s c h) (lt-ltb c facts.columns k)))
        )))
        (λ f. by_row f (Column c))
        (or_cases (has Right) (has_row facts.split has) e)

    by_both : reaches facts has Left ≡ true → reaches facts has Right ≡ true → reaches facts has Row ≡ true
    by_both e f =
        ⊎_elim
        (λ l. ⊎_elim
        (λ r. ap (λ o. has_row o has) is ∙ or_right (has Row) (has Left && has Right) (and_both (has Left) (has Right) l r))
        (λ g. g)
        (or_cases (has Right) (has_row facts.split has) f))
        (λ g. g)
        (or_cases (has Left) (has_row facts.split has) e)

  -- ---- the queue

  abbrev AllReached : List Member → Type 0
  AllReached q = (x : Member) → stands_in q x ≡ true → reaches facts has x ≡ true

  added_reached : (q : List Member) (m : Member) → AllReached q → reaches facts has m ≡ true → AllReached (added q m)
  added_reached q m a e x f = ⊎_elim (a x) (λ g. subst (λ y. reaches facts has y ≡ true) (sym g) e) (added_from q m x f)

  pub all_reached : (q ms : List Member) → AllReached q → AllReached ms → AllReached (all_added q ms)
  all_reached q ms a b x f = ⊎_elim (a x) (b x) (all_added_from q ms x f)

  row_if_reached : (m : Member) (q : List Member) → AllReached q → (stands_in q m ≡ true → reaches facts has Row ≡ true) → AllReached (row_if m q)
  row_if_reached m q a f = if_row facts q AllReached m q a (λ h. added_reached q Row a (f h))

  left_reached : (o : Option ℕ) (q : List Member) → facts.split ≡ o → AllReached q → reaches facts has Left ≡ true → AllReached (with_left o q)
  left_reached None q is a e = a
  left_reached (Some s) q is a e =
      let b = all_reached q (columns_between 0 s) a (λ x f. let r = between_from 0 s x f in subst (λ y. reaches facts has y ≡ true) (sym r.is) (by_left s is e r.number r.high)) in
      row_if_reached Right (all_added q (columns_between 0 s)) b (λ f. by_both s is e (b Right f))

  right_reached : (o : Option ℕ) (q : List Member) → facts.split ≡ o → AllReached q → reaches facts has Right ≡ true → AllReached (with_right o facts.columns q)
  right_reached None q is a e = a
  right_reached (Some s) q is a e =
      let b = all_reached q (columns_between s facts.columns) a (λ x f. let r = between_from s facts.columns x f in subst (λ y. reaches facts has y ≡ true) (sym r.is) (by_right s is e r.number r.low r.high)) in
      row_if_reached Left (all_added q (columns_between s facts.columns)) b (λ f. by_both s is (b Left f) e)

  sides_reached : (o : Option ℕ) (q : List Member) → AllReached q → has_row facts.split has ≡ true → AllReached (with_sides o q)
  sides_reached None q a e = a
  sides_reached (Some s) q a e = added_reached (added q Left) Right (added_reached q Left a (by_row e Left)) (by_row e Right)

  pub brought_reached : (q : List Member) (m : Member) → AllReached q → stands_in q m ≡ true → AllReached (brought facts q m)
  brought_reached q (Column c) a e = a
  brought_reached q Left a e = left_reached facts.split q refl a (a Left e)
  brought_reached q Right a e = right_reached facts.split q refl a (a Right e)
  brought_reached q Row a e = sides_reached facts.split (all_added q (columns_between 0 facts.columns)) (all_reached q (columns_between 0 facts.columns) a (λ x f. by_row (a Row e) x)) (a Row e)

-- ---- uses

-- what is there after facts are used
abbrev pub after : FactList → (Member → Bool) → List ℕ → Member → Bool
after facts has [] = has
after facts has (n ∷ uses) = after facts (also has (right_at facts.list n)) uses

-- each one's left side is reached when it is used
abbrev pub AreReached : FactList → (Member → Bool) → List ℕ → Type 0
AreReached facts has [] = Unit {0}
AreReached facts has (n ∷ uses) = (n < length facts.list) × (reaches_each facts has (left_at facts.list n) ≡ true) × AreReached facts (also has (right_at facts.list n)) uses

module _ (facts : FactList) where
  after_push : (has : Member → Bool) (uses : List ℕ) (n : ℕ) → after facts has (uses ++ n ∷ []) ≡ also (after facts has uses) (right_at facts.list n)
  after_push has [] n = refl
  after_push has (i ∷ uses) n = after_push (also has (right_at facts.list i)) uses n

  push_reached : (has : Member → Bool) (uses : List ℕ) (n : ℕ) → AreReached facts has uses → n < length facts.list → reaches_each facts (after facts has uses) (left_at facts.list n) ≡ true → AreReached facts has (uses ++ n ∷ [])
  push_reached has [] n a h e = (h, e, tt)
  push_reached has (i ∷ uses) n a h e = (a.0, a.1, push_reached (also has (right_at facts.list i)) uses n a.2 h e)

  fact_at : (list : List Fact) (n : ℕ) → n < length list → slice_get list n ≡ Some (record { from = left_at list n; to = right_at list n })
  fact_at [] n h = absurd (omega (arith, h))
  fact_at (f ∷ fs) zero h = refl
  fact_at (f ∷ fs) (suc n) h = fact_at fs n (omega (arith, h))

  shown : (has others : Member → Bool) (uses : List ℕ) → AreReached facts has uses → ((m : Member) → others m ≡ true → reaches facts (after facts has uses) m ≡ true) → Derives facts uses has others
  shown has others [] a h = h
  shown has others (n ∷ uses) a h = (record { from = left_at facts.list n; to = right_at facts.list n }, fact_at facts.list n a.0, a.1, shown (also has (right_at facts.list n)) others uses a.2 h)

-- ---- what the closure keeps

-- with the uses, all that stands in the queue is reached from these members
pub record IsDerived (facts : FactList) (from q : List Member) (uses : List ℕ) : Type 0 where
  pub used_well : AreReached facts (stands_in from) uses
  pub reached : (x : Member) → stands_in q x ≡ true → reaches facts (after facts (stands_in from) uses) x ≡ true

if_cases : (P : List ℕ → Type 0) (b : Bool) (x y : List ℕ) → (b ≡ true → P x) → (b ≡ false → P y) → P (if b then x else y)
if_cases P true x y f g = f refl
if_cases P false x y f g = g refl

no_length : (e : List Member) → length e ≡ 0 → e ≡ []
no_length [] h = refl
no_length (x ∷ e) h = absurd (omega (arith, h))

same_front : (q r : List Member) → Front q r → nat_lt (length q) (length r) ≡ false → r ≡ q
same_front q r a e =
    let none : a.0 ≡ [] = no_length a.0 (omega (arith, ltb-false (length q) (length r) e, ap length a.1, length-append q a.0)) in
    a.1 ∙ ap (λ t. q ++ t) none ∙ append-nil q

module _ (facts : FactList) (from : List Member) where
  start : IsDerived facts from (all_added [] from) []
  start = record { used_well = tt; reached = all_reached facts (stands_in from) [] from (λ x e. absurd (false≢true e)) (reaches_there facts (stands_in from)) }

  module _ (q : List Member) (uses : List ℕ) (i : ℕ) (d : IsDerived facts from q uses) where
    abbrev there : Member → Bool
    there = after facts (stands_in from) uses

    abbrev to : List Member
    to = right_at facts.list i

    -- with the use of a fact after them where it reached more
    abbrev WithUse : List Member → Type 0
    WithUse r = IsDerived facts from r (if nat_lt (length q) (length r) then uses ++ i ∷ [] else uses)

    unused : WithUse q
    unused = if_cases (IsDerived facts from q) (nat_lt (length q) (length q)) (uses ++ i ∷ []) uses (λ e. absurd (omega (arith, ltb-true (length q) (length q) e))) (λ e. d)

    pushed : i < length facts.list → Within (left_at facts.list i) q → IsDerived facts from (all_added q to) (uses ++ i ∷ [])
    pushed h left = record {
      used_well = push_reached facts (stands_in from) uses i d.used_well h (all_from (reaches facts there) (left_at facts.list i) (λ x g. d.reached x (left x g)));
      reached = subst (λ (more : Member → Bool). (x : Member) → stands_in (all_added q to) x ≡ true → reaches facts more x ≡ true) (sym (after_push facts (stands_in from) uses i))
          (all_reached facts (also there to) q to
          (λ x g. reaches_more there (also there to) (λ m k. or_left (there m) (stands_in to m) k) facts x (d.reached x g))
          (λ x g. reaches_there facts (also there to) x (or_right (there x) (stands_in to x) g)));
    }

    done : i < length facts.list → Within (left_at facts.list i) q → WithUse (all_added q to)
    done h left =
        if_cases (IsDerived facts from (all_added q to)) (nat_lt (length q) (length (all_added q to))) (uses ++ i ∷ []) uses
        (λ e. pushed h left)
        (λ e. subst (λ r. IsDerived facts from r uses) (sym (same_front q (all_added q to) (front_all q to) e)) d)

  module _ (cs : List ℕ) where
    one : (q : List Member) (uses : List ℕ) (i : ℕ) → IsDerived facts from q uses → (is_done cs i ≡ true → (i < length facts.list) × Within (left_at facts.list i) q) → IsDerived facts from (fired_one facts.list cs q i) (used_one facts.list cs q uses i)
    one q uses i d h = one_cases facts.list cs (WithUse q uses i d) q i (unused q uses i d) (λ e. let a = h e in done q uses i d a.0 a.1)

    pub each : (q : List Member) (uses is : List ℕ) → IsDerived facts from q uses → ((i : ℕ) → is_done cs i ≡ true → (i < length facts.list) × Within (left_at facts.list i) q) → IsDerived facts from (fired facts.list cs q is) (used facts.list cs q uses is)
    each q uses [] d h = d
    each q uses (i ∷ is) d h = each (fired_one facts.list cs q i) (used_one facts.list cs q uses i) is (one q uses i d (h i)) (λ j e. let a = h j e in (a.0, λ x f. front_within q (fired_one facts.list cs q i) (front_one facts.list cs q i) x (a.1 x f)))

  pub brought_derived : (q : List Member) (uses : List ℕ) (m : Member) → IsDerived facts from q uses → stands_in q m ≡ true → IsDerived facts from (brought facts q m) uses
  brought_derived q uses m d e = record { used_well = d.used_well; reached = brought_reached facts (after facts (stands_in from) uses) q m d.reached e }

  -- what is derived in the end
  pub derives : (q : List Member) (uses : List ℕ) (has : Member → Bool) → IsDerived facts from q uses → ((m : Member) → has m ≡ stands_in q m) → Derives facts uses (stands_in from) has
  derives q uses has d h = shown facts (stands_in from) has uses d.used_well (λ m e. d.reached m (sym (h m) ∙ e))

  pub start_derived : list_all (is_named facts) from ≡ true → (list : List Fact) (cs2 ready : List ℕ) (q0 q1 q2 : List Member) (u0 u2 : List ℕ) → list ≡ facts.list → cs2 ≡ sizes facts.list → ready ≡ ready_first facts.list → q0 ≡ [] → q1 ≡ all_added q0 from → q2 ≡ fired list cs2 q1 ready → u0 ≡ [] → u2 ≡ used list cs2 q1 u0 ready → IsDerived facts from q2 u2
  start_derived from_named list cs2 ready q0 q1 q2 u0 u2 is e_cs2 e_ready e_q0 e_q1 e_q2 e_u0 e_u2 =
      let q1_is : q1 ≡ all_added [] from = e_q1 ∙ ap (λ q. all_added q from) e_q0 in
      let q2_is : q2 ≡ fired facts.list (sizes facts.list) (all_added [] from) (ready_first facts.list) = e_q2 ∙ (λ i. fired (is i) (e_cs2 i) (q1_is i) (e_ready i)) in
      let u2_is : u2 ≡ used facts.list (sizes facts.list) (all_added [] from) [] (ready_first facts.list) = e_u2 ∙ (λ i. used (is i) (e_cs2 i) (q1_is i) (e_u0 i) (e_ready i)) in
      let all = each (sizes facts.list) (all_added [] from) [] (ready_first facts.list) start (first_left facts from from_named) in
      subst (λ q. IsDerived facts from q u2) (sym q2_is) (subst (IsDerived facts from (fired facts.list (sizes facts.list) (all_added [] from) (ready_first facts.list))) (sym u2_is) all)
