-- What the queue of reached members keeps.
use Rattle.std.proofs.Common.{◌≡◌, ℕ, ◌+◌, Bool, true, false, cond, List, [], ◌∷◌, length, refl, sym, ap, arith, subst, ◌⊎◌, inl, inr, ⊎_elim, Option, Some, None, is_some, if◌then◌else◌}
use Rattle.std.proofs.lemmas.List.{length_push}
use Rattle.wd_step_facts.specs.declared.facts.Member.{Member}
use Rattle.wd_step_facts.specs.declared.facts.Member.TheVariants.{Column, Left, Right, Row}
use Rattle.wd_step_facts.specs.Facts.{FactList}
use Rattle.wd_sets.specs.Sets.{same_member, stands_in}
use Rattle.wd_close.specs.Closure.{all_members, columns_between, is_named}
use Rattle.wd_close.specs.Reached.{added, all_added, brought, row_if, with_left, with_right, with_sides}
use Rattle.wd_close.proofs.Gives.{Gives, both_give, left_gives, right_gives, row_gives}
use Rattle.wd_close.proofs.Lists.{Apart, Front, added_cases, all_added_keeps, all_apart, apart_push, bool_cases, front_added, front_all, front_self, front_trans, lacking, lacking_falls, or_left, or_right, same_self, stands_push}
use Rattle.wd_close.proofs.Names.{HasSplit, columns_named_in, named_in}

pub record Good (facts : FactList) (from q : List Member) : Type 0 where
  pub apart : Apart q
  pub room : lacking (all_members facts.columns) q + length q ≡ length (all_members facts.columns)
  pub named : (x : Member) → stands_in q x ≡ true → is_named facts x ≡ true
  pub sound : (x : Member) → stands_in q x ≡ true → Gives facts from x

pub good_added : (facts : FactList) (from q : List Member) (m : Member) → Good facts from q → is_named facts m ≡ true → Gives facts from m → Good facts from (added q m)
good_added facts from q m g n f = added_cases (Good facts from) q m (λ e. g) (λ e. record {
  apart = apart_push q m g.apart e;
  room = (let u : ◌≡◌ {A = ℕ} (cond (stands_in (all_members facts.columns) m) 1 0) 1 = ap (λ (b : Bool). cond b 1 0) (named_in facts m n) in omega (arith, u, g.room, lacking_falls (all_members facts.columns) q m (all_apart facts.columns) e, length_push q m));
  named = λ x k. ⊎_elim (g.named x) (λ h. subst (λ y. is_named facts y ≡ true) (sym h) n) (stands_push q m x k);
  sound = λ x k. ⊎_elim (g.sound x) (λ h. subst (Gives facts from) (sym h) f) (stands_push q m x k);
})

pub good_all : (facts : FactList) (from q ms : List Member) → Good facts from q → ((x : Member) → stands_in ms x ≡ true → is_named facts x ≡ true) → ((x : Member) → stands_in ms x ≡ true → Gives facts from x) → Good facts from (all_added q ms)
good_all facts from q [] g n f = g
good_all facts from q (m ∷ ms) g n f = good_all facts from (added q m) ms (good_added facts from q m g (n m (first m ms)) (f m (first m ms))) (λ x e. n x (or_right (same_member x m) (stands_in ms x) e)) (λ x e. f x (or_right (same_member x m) (stands_in ms x) e))
  where
    first : (y : Member) (ys : List Member) → stands_in (y ∷ ys) y ≡ true
    first y ys = or_left (same_member y y) (stands_in ys y) (same_self y)

module _ (facts : FactList) (from : List Member) where
  by_row : (q : List Member) → Good facts from q → stands_in q Row ≡ true → (x : Member) → Gives facts from x
  by_row q g e = row_gives facts from (g.sound Row e)

  pub if_row : (P : List Member → Type 0) (m : Member) (q : List Member) → P q → (stands_in q m ≡ true → P (added q Row)) → P (row_if m q)
  if_row P m q p f = by (bool_cases (stands_in q m))
    where
      by : (stands_in q m ≡ true) ⊎ (stands_in q m ≡ false) → P (row_if m q)
      by (inl e) = subst P (sym (ap (λ (b : Bool). if b then added q Row else q) e)) (f e)
      by (inr e) = subst P (sym (ap (λ (b : Bool). if b then added q Row else q) e)) p

  row_if_good : (q : List Member) (m : Member) → Good facts from q → (stands_in q m ≡ true → Gives facts from Row) → Good facts from (row_if m q)
  row_if_good q m g f = if_row (Good facts from) m q g (λ h. good_added facts from q Row g refl (f h))

  left_good : (within : HasSplit facts) (o : Option ℕ) (q : List Member) → facts.split ≡ o → Good facts from q → stands_in q Left ≡ true → Good facts from (with_left o q)
  left_good within None q e g h = g
  left_good within (Some s) q e g h =
      let left = g.sound Left h in
      let g' = good_all facts from q (columns_between 0 s) g (columns_named_in facts 0 s (within s e)) (left_gives facts from s e left) in
      row_if_good (all_added q (columns_between 0 s)) Right g' (λ k. both_give facts from s e left (g'.sound Right k))

  right_good : (o : Option ℕ) (q : List Member) → facts.split ≡ o → Good facts from q → stands_in q Right ≡ true → Good facts from (with_right o facts.columns q)
  right_good None q e g h = g
  right_good (Some s) q e g h =
      let right = g.sound Right h in
      let g' = good_all facts from q (columns_between s facts.columns) g (columns_named_in facts s facts.columns (omega arith)) (right_gives facts from s e right) in
      row_if_good (all_added q (columns_between s facts.columns)) Left g' (λ k. both_give facts from s e (g'.sound Left k) right)

  sides_good : (o : Option ℕ) (q : List Member) → facts.split ≡ o → Good facts from q → stands_in q Row ≡ true → Good facts from (with_sides o q)
  sides_good None q e g h = g
  sides_good (Some s) q e g h =
      let g' = good_added facts from q Left g (ap is_some e) (by_row q g h Left) in
      good_added facts from (added q Left) Right g' (ap is_some e) (by_row q g h Right)

  pub brought_good : HasSplit facts → (q : List Member) (m : Member) → Good facts from q → stands_in q m ≡ true → Good facts from (brought facts q m)
  brought_good within q (Column c) g h = g
  brought_good within q Left g h = left_good within facts.split q refl g h
  brought_good within q Right g h = right_good facts.split q refl g h
  brought_good within q Row g h = sides_good facts.split (all_added q (columns_between 0 facts.columns)) refl (good_all facts from q (columns_between 0 facts.columns) g (columns_named_in facts 0 facts.columns (omega arith)) (λ x e. by_row q g h x)) (all_added_keeps q (columns_between 0 facts.columns) Row h)

  pub front_row_if : (m : Member) (q : List Member) → Front q (row_if m q)
  front_row_if m q = if_row (Front q) m q (front_self q) (λ h. front_added q Row)

  pub front_brought : (q : List Member) (m : Member) → Front q (brought facts q m)
  front_brought q (Column c) = front_self q
  front_brought q Left = by facts.split
    where
      by : (o : Option ℕ) → Front q (with_left o q)
      by None = front_self q
      by (Some s) = front_trans q (all_added q (columns_between 0 s)) (with_left (Some s) q) (front_all q (columns_between 0 s)) (front_row_if Right (all_added q (columns_between 0 s)))
  front_brought q Right = by facts.split
    where
      by : (o : Option ℕ) → Front q (with_right o facts.columns q)
      by None = front_self q
      by (Some s) = front_trans q (all_added q (columns_between s facts.columns)) (with_right (Some s) facts.columns q) (front_all q (columns_between s facts.columns)) (front_row_if Left (all_added q (columns_between s facts.columns)))
  front_brought q Row = by facts.split
    where
      by : (o : Option ℕ) → Front q (with_sides o (all_added q (columns_between 0 facts.columns)))
      by None = front_all q (columns_between 0 facts.columns)
      by (Some s) = front_trans q (all_added q (columns_between 0 facts.columns)) (added (added (all_added q (columns_between 0 facts.columns)) Left) Right) (front_all q (columns_between 0 facts.columns)) (front_trans (all_added q (columns_between 0 facts.columns)) (added (all_added q (columns_between 0 facts.columns)) Left) (added (added (all_added q (columns_between 0 facts.columns)) Left) Right) (front_added (all_added q (columns_between 0 facts.columns)) Left) (front_added (added (all_added q (columns_between 0 facts.columns)) Left) Right))
