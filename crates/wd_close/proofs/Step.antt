-- The state after a step.
use Rattle.std.proofs.Common.{◌≡◌, ℕ, zero, suc, ◌+◌, ◌<◌, ◌≤◌, Bool, true, false, cond, ◌&&◌, ◌||◌, List, [], ◌∷◌, ◌++◌, take, drop, length, get_or, refl, sym, ◌∙◌, ap, arith, subst, eq-eqb, ◌⊎◌, inl, inr, ⊎_elim, Option, Some, None, is_some, nat_eq, nat_lt, if◌then◌else◌}
use Rattle.std.specs.List.{AllByRecursion}
use Rattle.std.proofs.lemmas.Bool.{cases_eq, and_parts, false≢true, ltb-true, lt-ltb, eqb-true}
use Rattle.std.proofs.lemmas.List.{length-append, take-append-le, take-append-drop, take_more}
use Rattle.wd_step_facts.specs.declared.facts.Member.{Member}
use Rattle.wd_step_facts.specs.declared.facts.Member.TheVariants.{Column, Left, Right, Row}
use Rattle.wd_step_facts.specs.Facts.{Fact, FactList, Paired, Holds}
use Rattle.wd_sets.specs.Sets.{same_member, stands_in}
use Rattle.wd_close.specs.Closure.{columns_between, is_named}
use Rattle.wd_close.specs.Reached.{added, all_added, brought, fallen, fired, is_done, row_if, with_left, with_right, with_sides}
use Rattle.wd_close.proofs.Gives.{Gives, fact_gives}
use Rattle.wd_close.proofs.Lists.{Apart, Front, Within, added_has, added_keeps, all_added_has, all_added_keeps, all_at, apart_all, between_has, bool_cases, different, front_trans, front_within, lacking, lacking_falls, lacking_none, or_left, or_right, same_member-is, same_self, stands_push}
use Rattle.wd_close.proofs.Names.{HasSplit, IsNamed, left_at, right_at, right_named}
use Rattle.wd_close.proofs.Queue.{Good, brought_good, front_brought, front_row_if}
use Rattle.wd_close.proofs.Steps.{Sides, State, fallen_at, fallen_long, fired_good, fired_has, front_fired, occurs}

take_front : (k : ℕ) (q r : List Member) → k ≤ length q → Front q r → take k r ≡ take k q
take_front k q r h a = ap (take k) a.1 ∙ take-append-le k q a.0 h

front_length : (q r : List Member) → Front q r → length q ≤ length r
front_length q r a = omega (arith, ap length a.1, length-append q a.0)

take_within : (k : ℕ) (q : List Member) → Within (take k q) q
take_within k q = front_within (take k q) q (drop k q, sym (take-append-drop k q))

pub stands_get : (q : List Member) (k : ℕ) → k < length q → stands_in q (get_or q k Row) ≡ true
stands_get [] k h = absurd (omega (arith, h))
stands_get (x ∷ q) zero h = or_left (same_member x x) (stands_in q x) (same_self x)
stands_get (x ∷ q) (suc k) h = or_right (same_member (get_or q k Row) x) (stands_in q (get_or q k Row)) (stands_get q k (omega (arith, h)))

pub fresh : (q : List Member) (k : ℕ) → Apart q → k < length q → stands_in (take k q) (get_or q k Row) ≡ false
fresh [] k a h = absurd (omega (arith, h))
fresh (x ∷ q) zero a h = refl
fresh (x ∷ q) (suc k) a h = λ i. no (bool_cases (same_member (get_or q k Row) x)) i || fresh q k a.1 (omega (arith, h)) i
  where
    no : (same_member (get_or q k Row) x ≡ true) ⊎ (same_member (get_or q k Row) x ≡ false) → same_member (get_or q k Row) x ≡ false
    no (inl e) = absurd (false≢true (sym a.0 ∙ ap (λ y. stands_in q y) (sym (same_member-is (get_or q k Row) x e)) ∙ stands_get q k (omega (arith, h))))
    no (inr e) = e

holds_at : (n : Paired) (list : List Fact) (i : ℕ) → AllByRecursion (Holds n) list → Holds n (record { from = left_at list i; to = right_at list i })
holds_at n [] i a p q k l s = tt
holds_at n (f ∷ fs) zero a p q k l s = a.0 p q k l s
holds_at n (f ∷ fs) (suc i) a p q k l s = holds_at n fs i a.1 p q k l s

pub done_is : (cs : List ℕ) (i : ℕ) → i < length cs → get_or cs i 0 ≡ 0 → is_done cs i ≡ true
done_is cs i h e = λ j. lt-ltb i (length cs) h j && eq-eqb (get_or cs i 0) 0 e j

pub is_done-lt : (cs : List ℕ) (i : ℕ) → is_done cs i ≡ true → i < length cs
is_done-lt cs i e = ltb-true i (length cs) (and_parts (nat_lt i (length cs)) (nat_eq (get_or cs i 0) 0) e).0

is_done-zero : (cs : List ℕ) (i : ℕ) → is_done cs i ≡ true → get_or cs i 0 ≡ 0
is_done-zero cs i e = eqb-true (get_or cs i 0) 0 (and_parts (nat_lt i (length cs)) (nat_eq (get_or cs i 0) 0) e).1

-- facts whose counters are at 0 give only what follows
module _ (facts : FactList) (from q P : List Member) (cs : List ℕ) (good : Good facts from q) (within : Within P q) (long : length cs ≡ length facts.list) (counts : (i : ℕ) → i < length facts.list → get_or cs i 0 ≡ lacking (different (left_at facts.list i)) P) where
  pub left_reached : (i : ℕ) → is_done cs i ≡ true → Within (left_at facts.list i) q
  left_reached i e x f =
      let h : i < length facts.list = omega (arith, is_done-lt cs i e, long) in
      within x (lacking_none (different (left_at facts.list i)) P (sym (counts i h) ∙ is_done-zero cs i e) x (all_added_has [] (left_at facts.list i) x f))

  pub done_gives : (i : ℕ) (x : Member) → is_done cs i ≡ true → stands_in (right_at facts.list i) x ≡ true → Gives facts from x
  done_gives i x e f = fact_gives facts from (record { from = left_at facts.list i; to = right_at facts.list i }) (λ n sides hold. holds_at n facts.list i hold) (λ y g. good.sound y (left_reached i e y g)) x f

-- ---- the sides

row_if_has : (m : Member) (q : List Member) → stands_in q m ≡ true → stands_in (row_if m q) Row ≡ true
row_if_has m q e = subst (λ r. stands_in r Row ≡ true) (sym (ap (λ (b : Bool). if b then added q Row else q) e)) (added_has q Row)

module _ (facts : FactList) (q : List Member) where
  row_if_keeps : (m : Member) (r : List Member) → Within r (row_if m r)
  row_if_keeps m r = front_within r (row_if m r) (front_row_if facts q m r)

  brought_left : (s : ℕ) → facts.split ≡ Some s → (c : ℕ) → c < s → stands_in (brought facts q Left) (Column c) ≡ true
  brought_left s e c h = ap (λ o. stands_in (with_left o q) (Column c)) e ∙ row_if_keeps Right (all_added q (columns_between 0 s)) (Column c) (all_added_has q (columns_between 0 s) (Column c) (between_has 0 s c (omega arith) h))

  brought_right : (s : ℕ) → facts.split ≡ Some s → (c : ℕ) → s ≤ c → c < facts.columns → stands_in (brought facts q Right) (Column c) ≡ true
  brought_right s e c h k = ap (λ o. stands_in (with_right o facts.columns q) (Column c)) e ∙ row_if_keeps Left (all_added q (columns_between s facts.columns)) (Column c) (all_added_has q (columns_between s facts.columns) (Column c) (between_has s facts.columns c h k))

  left_row : (s : ℕ) → facts.split ≡ Some s → stands_in q Right ≡ true → stands_in (brought facts q Left) Row ≡ true
  left_row s e h = ap (λ o. stands_in (with_left o q) Row) e ∙ row_if_has Right (all_added q (columns_between 0 s)) (all_added_keeps q (columns_between 0 s) Right h)

  right_row : (s : ℕ) → facts.split ≡ Some s → stands_in q Left ≡ true → stands_in (brought facts q Right) Row ≡ true
  right_row s e h = ap (λ o. stands_in (with_right o facts.columns q) Row) e ∙ row_if_has Left (all_added q (columns_between s facts.columns)) (all_added_keeps q (columns_between s facts.columns) Left h)

  sides_keep : (o : Option ℕ) (r : List Member) → Within r (with_sides o r)
  sides_keep None r x e = e
  sides_keep (Some s) r x e = added_keeps (added r Left) Right x (added_keeps r Left x e)

  brought_row : stands_in q Row ≡ true → (x : Member) → is_named facts x ≡ true → stands_in (brought facts q Row) x ≡ true
  brought_row h (Column c) e = sides_keep facts.split (all_added q (columns_between 0 facts.columns)) (Column c) (all_added_has q (columns_between 0 facts.columns) (Column c) (between_has 0 facts.columns c (omega arith) (ltb-true c facts.columns e)))
  brought_row h Left e = by facts.split e
    where
      by : (o : Option ℕ) → is_some o ≡ true → stands_in (with_sides o (all_added q (columns_between 0 facts.columns))) Left ≡ true
      by None f = absurd (false≢true f)
      by (Some s) f = added_keeps (added (all_added q (columns_between 0 facts.columns)) Left) Right Left (added_has (all_added q (columns_between 0 facts.columns)) Left)
  brought_row h Right e = by facts.split e
    where
      by : (o : Option ℕ) → is_some o ≡ true → stands_in (with_sides o (all_added q (columns_between 0 facts.columns))) Right ≡ true
      by None f = absurd (false≢true f)
      by (Some s) f = added_has (added (all_added q (columns_between 0 facts.columns)) Left) Right
  brought_row h Row e = sides_keep facts.split (all_added q (columns_between 0 facts.columns)) Row (all_added_keeps q (columns_between 0 facts.columns) Row h)

module _ (facts : FactList) (P q r : List Member) (m : Member) (old : Sides facts P q) (inside : Within P q) (more : Within q r) (m_in : stands_in q m ≡ true) (brings : Within (brought facts q m) r) where
  sides_push : Sides facts (P ++ m ∷ []) r
  sides_push = record { row = row; left = left; right = right; both = both }
    where
      if_is : (x : Member) → x ≡ m → Within (brought facts q x) r
      if_is x e = subst (λ y. Within (brought facts q y) r) (sym e) brings

      row : stands_in (P ++ m ∷ []) Row ≡ true → (x : Member) → is_named facts x ≡ true → stands_in r x ≡ true
      row e x f = ⊎_elim (λ g. more x (old.row g x f)) (λ g. if_is Row g x (brought_row facts q (subst (λ y. stands_in q y ≡ true) (sym g) m_in) x f)) (stands_push P m Row e)

      left : (s : ℕ) → facts.split ≡ Some s → stands_in (P ++ m ∷ []) Left ≡ true → (c : ℕ) → c < s → stands_in r (Column c) ≡ true
      left s is e c h = ⊎_elim (λ g. more (Column c) (old.left s is g c h)) (λ g. if_is Left g (Column c) (brought_left facts q s is c h)) (stands_push P m Left e)

      right : (s : ℕ) → facts.split ≡ Some s → stands_in (P ++ m ∷ []) Right ≡ true → (c : ℕ) → s ≤ c → c < facts.columns → stands_in r (Column c) ≡ true
      right s is e c h k = ⊎_elim (λ g. more (Column c) (old.right s is g c h k)) (λ g. if_is Right g (Column c) (brought_right facts q s is c h k)) (stands_push P m Right e)

      not_both : Left ≡ Right → ⊥
      not_both e = cc

      by : (s : ℕ) → facts.split ≡ Some s → (stands_in P Left ≡ true) ⊎ (Left ≡ m) → (stands_in P Right ≡ true) ⊎ (Right ≡ m) → stands_in r Row ≡ true
      by s is (inl a) (inl b) = more Row (old.both s is a b)
      by s is (inl a) (inr b) = if_is Right b Row (right_row facts q s is (inside Left a))
      by s is (inr a) (inl b) = if_is Left a Row (left_row facts q s is (inside Right b))
      by s is (inr a) (inr b) = absurd (not_both (a ∙ sym b))

      both : (s : ℕ) → facts.split ≡ Some s → stands_in (P ++ m ∷ []) Left ≡ true → stands_in (P ++ m ∷ []) Right ≡ true → stands_in r Row ≡ true
      both s is e f = by s is (stands_push P m Left e) (stands_push P m Right f)

-- ---- the step

module _ (facts : FactList) (from : List Member) (within : HasSplit facts) (names : AllByRecursion (IsNamed facts) facts.list) (k : ℕ) (q : List Member) (cs w : List ℕ) (st : State facts from k q cs) (lt : k < length q)
    (once : (i : ℕ) → i < length facts.list → occurs i w ≡ cond (stands_in (different (left_at facts.list i)) (get_or q k Row)) 1 0) where
  abbrev m : Member
  m = get_or q k Row

  abbrev P : List Member
  P = take k q ++ m ∷ []

  abbrev q1 : List Member
  q1 = brought facts q m

  abbrev cs' : List ℕ
  cs' = fallen cs w

  abbrev q' : List Member
  q' = fired facts.list cs' q1 w

  front1 : Front q q1
  front1 = front_brought facts from q m

  front : Front q q'
  front = front_trans q q1 q' front1 (front_fired facts.list cs' q1 w)

  pub now_is : take (k + 1) q' ≡ P
  now_is = take_front (k + 1) q q' (omega (arith, lt)) front ∙ take_more q k Row lt

  long' : length cs' ≡ length facts.list
  long' = fallen_long cs w ∙ st.long

  counts' : (i : ℕ) → i < length facts.list → get_or cs' i 0 ≡ lacking (different (left_at facts.list i)) P
  counts' i h = omega (arith, fallen_at cs w i (omega (arith, h, st.long)), st.counts i h, lacking_falls (different (left_at facts.list i)) (take k q) m (apart_all [] (left_at facts.list i) tt) (fresh q k st.good.apart lt), once i h)

  in_q : Within P q
  in_q x e = ⊎_elim (take_within k q x) (λ g. subst (λ y. stands_in q y ≡ true) (sym g) (stands_get q k lt)) (stands_push (take k q) m x e)

  good1 : Good facts from q1
  good1 = brought_good facts from within q m st.good (stands_get q k lt)

  good' : Good facts from q'
  good' = fired_good facts.list cs' facts from q1 w good1 (λ i x e f. all_at (is_named facts) (right_at facts.list i) x (right_named facts facts.list i names) f) (done_gives facts from q P cs' st.good in_q long' counts')

  fires' : (i : ℕ) → i < length facts.list → get_or cs' i 0 ≡ 0 → Within (right_at facts.list i) q'
  fires' i h e x f = by (cases_eq (occurs i w) 0)
    where
      by : (occurs i w ≡ 0) ⊎ (occurs i w ≡ 0 → ⊥) → stands_in q' x ≡ true
      by (inl z) = front_within q q' front x (st.fires i h (omega (arith, z, e, fallen_at cs w i (omega (arith, h, st.long)))) x f)
      by (inr z) = fired_has facts.list cs' q1 w i x (omega (arith, z)) (done_is cs' i (omega (arith, h, long')) e) f

  -- the facts whose counters are at 0 have their left sides reached
  pub done_left : (i : ℕ) → is_done cs' i ≡ true → (i < length facts.list) × Within (left_at facts.list i) q1
  done_left i e = (omega (arith, is_done-lt cs' i e, long'), λ x f. front_within q q1 front1 x (left_reached facts from q P cs' st.good in_q long' counts' i e x f))

  pub step : State facts from (k + 1) q' cs'
  step = record {
    good = good';
    start = λ x e. front_within q q' front x (st.start x e);
    reached = omega (arith, lt, front_length q q' front);
    sides = subst (λ t. Sides facts t q') (sym now_is) (sides_push facts (take k q) q q' m st.sides (take_within k q) (front_within q q' front) (stands_get q k lt) (front_within q1 q' (front_fired facts.list cs' q1 w)));
    long = long';
    counts = λ i h. counts' i h ∙ ap (lacking (different (left_at facts.list i))) (sym now_is);
    fires = fires';
  }
