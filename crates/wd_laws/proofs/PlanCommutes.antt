-- Over rearranged tables a plan has the outcome that it had under the renamed choice, but for the order of its rows.
use Rattle.std.proofs.Common.{◌≡◌, ℕ, ◌+◌, ◌≤◌, List, [], ◌∷◌, ◌++◌, map, length, take, drop, refl, sym, ◌∙◌, ap, subst, arith, eqb, Ok, Err}
use Rattle.std.specs.List.{AllByRecursion}
use Rattle.std.proofs.Math.Seq.{drop-append_seam}
use Rattle.std.proofs.lemmas.Bool.Decides.{Decides-eqb}
use Rattle.std.proofs.lemmas.List.{append-nil, append_assoc, length-append, length-drop, length-map, length-take, take-append-le, take_all}
use Rattle.wd_plan.proofs.ChoiceLaws.{outcome-append}
use Rattle.wd_plan.proofs.Parts.{Perm-ordering}
use Rattle.wd_laws.proofs.Grouping.{Alike-group}
use Rattle.wd_laws.proofs.NodesCommute.{rearranged}
use Rattle.wd_laws.proofs.Outcomes.{Agree-from_Alike, Alike, Alike-all_ok, Alike-filter, Alike-join, Alike-map, Perm-distinct, Perm-pairs}
use Rattle.wd_laws.proofs.Parts.{rows_at_positions}
use Rattle.wd_laws.proofs.Renaming.{commutes, renamed_order, renamed_orderings}
use Rattle.wd_plan.specs.Choices.{AreLawful, AreOrderings, AreOrderingsOver}
use Rattle.wd_plan.specs.Faults.{and_then}
use Rattle.wd_laws.specs.Laws.{AreRenamed, AreRenamedAt, Commutes, IsRearranged, PlanCommutes, SameTables, renamed}
use Rattle.wd_plan.specs.Outcomes.{RowsOrFault, limited_rows, extended, join_outcome, ordering_at, outcome, pairs, step_outcome, window_outcome}
use Rattle.wd_plan.specs.Plans.{Step, Filter, Map, Group, Window, Distinct, Limit, PlanTree, Scan, Join, Over, step_classes, ordering_count, own_orderings}
use Rattle.wd_value.proofs.Perms.{Perm, Perm-map, Perm-refl, SameBag-from_Perm, both, done, flip, keep}
use Rattle.wd_value.specs.Bags.{EachOnce, positions}
use Rattle.wd_value.specs.Rows.{Instance, Row, row_at, rows_at}

-- ---- a rearrangement by positions

-- what a rearrangement of the images is of the elements
lifted : {X Y : Type 0} (f : X → Y) {ys zs : List Y} → Perm Y ys zs → (xs : List X) → map f xs ≡ ys → (us : List X) × Perm X xs us × (map f us ≡ zs)
lifted f done xs e = (xs, Perm-refl xs, e)
lifted f (keep y p) [] e = absurd (cc)
lifted f (keep y {xs = ys} {ys = zs} p) (x ∷ xs) e =
    let head : f x ≡ y = cc in
    let tail : map f xs ≡ ys = cc in
    let r = lifted f p xs tail in
    (x ∷ r.0, keep x r.1, λ i. head i ∷ r.2 i)
lifted f (flip y z ys) [] e = absurd (cc)
lifted f (flip y z ys) (x ∷ []) e = absurd (cc)
lifted f (flip y z ys) (x ∷ w ∷ xs) e =
    let head : f x ≡ y = cc in
    let next : f w ≡ z = cc in
    let tail : map f xs ≡ ys = cc in
    (w ∷ x ∷ xs, flip x w xs, λ i. next i ∷ head i ∷ tail i)
lifted f (both p q) xs e =
    let r = lifted f p xs e in
    let s = lifted f q r.0 r.2 in
    (s.0, both r.1 s.1, s.2)

-- the positions at which rearranged rows stood
pub record Places (rows others : List Row) : Type 0 where
  pub at : List ℕ
  pub perm : Perm ℕ (positions (length rows)) at
  pub shown : rows_at rows at ≡ others

places : (rows others : List Row) → Perm Row rows others → Places rows others
places rows others p =
    let r = lifted (row_at rows) p (positions (length rows)) (rows_at_positions rows) in
    record { at = r.0; perm = r.1; shown = r.2 }

once : (rows others : List Row) (s : Places rows others) → EachOnce (length rows) s.at
once rows others s = SameBag-from_Perm eqb Decides-eqb s.perm

-- ---- a step's own orderings

-- over rearranged rows a step under the renamed orderings has the rearranged outcome
renamed_step : (step : Step) (rows others : List Row) (ps : List ℕ) (os : List (List ℕ)) → Perm Row rows others → IsRearranged rows others ps → AreOrderings (step_classes step) others os → Alike (step_outcome step (map (map (renamed rows ps)) os) rows) (step_outcome step os others)
renamed_step (Filter condition) rows others ps os p re v = Alike-filter condition rows others p
renamed_step (Map outputs) rows others ps os p re v = Alike-map outputs rows others p
renamed_step (Group rule) rows others ps os p re v = Alike-group rule rows others p
renamed_step (Window w) rows others ps os p re v =
    let c : Commutes w rows ps os = commutes rows ps re.once w os (subst (λ l. AreOrderings w.classes l os) (sym re.shown) v) in
    let os' = map (map (renamed rows ps)) os in
    let moved : Alike (window_outcome w rows os') (window_outcome w (rows_at rows ps) os) = subst (Alike (window_outcome w rows os')) (sym c.same_rows) (Alike-all_ok _ _ (Perm-map (extended w rows os') (Perm-ordering rows ps re.once))) in
    subst (λ l. Alike (window_outcome w rows os') (window_outcome w l os)) re.shown moved
renamed_step Distinct rows others ps os p re v = Perm-distinct p
renamed_step (Limit limit) rows others ps os p re v =
    let o = ordering_at os 0 in
    let mine : ordering_at (map (map (renamed rows ps)) os) 0 ≡ map (renamed rows ps) o = first_renamed (renamed rows ps) os in
    let same : rows_at others o ≡ rows_at rows (ordering_at (map (map (renamed rows ps)) os) 0) = ap (λ l. rows_at l o) (sym re.shown) ∙ renamed_order rows ps re.once o ∙ ap (rows_at rows) (sym mine) in
    subst (λ l. Perm Row (limited_rows limit (rows_at rows (ordering_at (map (map (renamed rows ps)) os) 0))) (limited_rows limit l)) (sym same) (Perm-refl _)
  where
    -- the first ordering of those that are renamed is renamed
    first_renamed : (f : ℕ → ℕ) (os : List (List ℕ)) → ordering_at (map (map f) os) 0 ≡ map f (ordering_at os 0)
    first_renamed f [] = refl
    first_renamed f (o ∷ os) = refl

-- the renamed orderings are lawful, and the outcome is rearranged
renamed_at : (step : Step) (a b : RowsOrFault) (os own : List (List ℕ)) → Alike a b → AreRenamedAt a b os own → AreOrderingsOver (step_classes step) b os
    → AreOrderingsOver (step_classes step) a own × Alike (and_then a (step_outcome step own)) (and_then b (step_outcome step os))
renamed_at step (Ok rows) (Ok others) os own p (ps, re, is) v =
    let v' : AreOrderings (step_classes step) (rows_at rows ps) os = subst (λ l. AreOrderings (step_classes step) l os) (sym re.shown) v in (
      subst (AreOrderings (step_classes step) rows) (sym is) (renamed_orderings rows ps re.once (step_classes step) os v'),
      subst (λ (mine : List (List ℕ)). Alike (step_outcome step mine rows) (step_outcome step os others)) (sym is) (renamed_step step rows others ps os p re v),
    )
renamed_at step (Ok rows) (Err g) os own p is v = absurd p
renamed_at step (Err f) (Ok others) os own p is v = absurd p
renamed_at step (Err f) (Err g) os own p is v = (subst (AllByRecursion (λ o. o ≡ [])) (sym is) v, p)

-- ---- the renamed choice

-- a step without orderings over an outcome that is another
over : (a b : RowsOrFault) (f g : List Row → RowsOrFault) → Alike a b → ((xs ys : List Row) → Perm Row xs ys → Alike (f xs) (g ys)) → Alike (and_then a f) (and_then b g)
over (Ok xs) (Ok ys) f g p h = h xs ys p
over (Ok xs) (Err d) f g p h = absurd p
over (Err c) (Ok ys) f g p h = absurd p
over (Err c) (Err d) f g p h = p

follows : (plan : PlanTree) (instance other : Instance) (choice own : List (List ℕ)) → SameTables instance other → AreLawful plan other choice → AreRenamed plan instance other choice own
    → AreLawful plan instance own × Alike (outcome plan instance own) (outcome plan other choice)
follows (Scan table columns) instance other choice own same v r = (tt, rearranged _ _ (same table))
follows (Join condition left right) instance other choice own same v r =
    let a = follows left instance other choice own same v.0 r.0 in
    let b = follows right instance other (drop (ordering_count left) choice) (drop (ordering_count left) own) same v.1 r.1 in (
      (a.0, b.0),
      over _ _ (λ ls. and_then (outcome right instance (drop (ordering_count left) own)) (λ rs. join_outcome condition (pairs ls rs))) (λ ls. and_then (outcome right other (drop (ordering_count left) choice)) (λ rs. join_outcome condition (pairs ls rs))) a.1 (λ ls ks p.
          over _ _ (λ rs. join_outcome condition (pairs ls rs)) (λ rs. join_outcome condition (pairs ks rs)) b.1 (λ rs ss q. Alike-join condition _ _ (Perm-pairs p q))),
    )
follows (Over step input) instance other choice own same v r =
    let a = follows input instance other choice own same v.0 r.0 in
    let b = renamed_at step _ _ _ _ a.1 r.1 v.1 in ((a.0, b.0), b.1)

-- ---- each choice can be renamed

-- a renamed choice, whatever stands after it
record Renamed (plan : PlanTree) (instance other : Instance) (choice : List (List ℕ)) : Type 0 where
  own : List (List ℕ)
  number : length own ≡ ordering_count plan
  each : (more : List (List ℕ)) → AreRenamed plan instance other choice (own ++ more)

-- a step's orderings, renamed
record OwnRenamed (a b : RowsOrFault) (os : List (List ℕ)) : Type 0 where
  own : List (List ℕ)
  number : length own ≡ length os
  is : AreRenamedAt a b os own

own_renamed : (a b : RowsOrFault) (os : List (List ℕ)) → Alike a b → OwnRenamed a b os
own_renamed (Ok rows) (Ok others) os p =
    let s = places rows others p in
    record { own = map (map (renamed rows s.at)) os; number = length-map os (map (renamed rows s.at)); is = (s.at, record { once = once rows others s; shown = s.shown }, refl) }
own_renamed (Ok rows) (Err g) os p = absurd p
own_renamed (Err f) (Ok others) os p = absurd p
own_renamed (Err f) (Err g) os p = record { own = os; number = refl; is = refl }

-- what a step reads after the orderings of the nodes below it
following : (below own : List (List ℕ)) (n : ℕ) → length below ≡ n → drop n (below ++ own) ≡ own
following below own n e = subst (λ k. drop k (below ++ own) ≡ own) e (drop-append_seam below own)

taken : (own more : List (List ℕ)) (n : ℕ) → length own ≡ n → take n (own ++ more) ≡ own
taken own more n e = take-append-le n own more (omega (arith, e)) ∙ take_all n own (omega (arith, e))

module _ (input : PlanTree) (instance other : Instance) (choice : List (List ℕ)) (same : SameTables instance other) (v : AreLawful input other choice) (m : Renamed input instance other choice) (step : Step) (long : ordering_count input + length (step_classes step) ≤ length choice) where
  abbrev below : ℕ
  below = ordering_count input

  abbrev n : ℕ
  n = length (step_classes step)

  abbrev mine : List (List ℕ) → List (List ℕ)
  mine = own_orderings step input

  mine_long : length (mine choice) ≡ n
  mine_long = length-take n (drop below choice) ∙ omega (arith, length-drop below choice)

  alike : Alike (outcome input instance m.own) (outcome input other choice)
  alike =
      let a = follows input instance other choice (m.own ++ []) same v (m.each []) in
      subst (λ (r : RowsOrFault). Alike r (outcome input other choice)) (outcome-append input instance m.own [] (omega (arith, m.number))) a.1

  -- the step's renamed orderings after those of the nodes below
  node_own : OwnRenamed (outcome input instance m.own) (outcome input other choice) (mine choice)
  node_own = own_renamed _ _ (mine choice) alike

  node_each : (more : List (List ℕ)) → AreRenamed input instance other choice ((m.own ++ node_own.own) ++ more)
      × AreRenamedAt (outcome input instance ((m.own ++ node_own.own) ++ more)) (outcome input other choice) (mine choice) (mine ((m.own ++ node_own.own) ++ more))
  node_each more =
      let all = append_assoc m.own node_own.own more in
      let back : drop below (m.own ++ (node_own.own ++ more)) ≡ node_own.own ++ more = following m.own (node_own.own ++ more) below m.number in
      let own : mine (m.own ++ (node_own.own ++ more)) ≡ node_own.own = ap (take n) back ∙ taken node_own.own more n (node_own.number ∙ mine_long) in
      let kept : outcome input instance (m.own ++ (node_own.own ++ more)) ≡ outcome input instance m.own = outcome-append input instance m.own (node_own.own ++ more) (omega (arith, m.number)) in
      subst (λ (c : List (List ℕ)). AreRenamed input instance other choice c × AreRenamedAt (outcome input instance c) (outcome input other choice) (mine choice) (mine c)) (sym all)
      (m.each (node_own.own ++ more), subst (λ (r : RowsOrFault). AreRenamedAt r (outcome input other choice) (mine choice) (mine (m.own ++ (node_own.own ++ more)))) (sym kept) (subst (AreRenamedAt (outcome input instance m.own) (outcome input other choice) (mine choice)) (sym own) node_own.is))

  node_number : length (m.own ++ node_own.own) ≡ below + n
  node_number = length-append m.own node_own.own ∙ omega (arith, m.number, node_own.number, mine_long)

renamed_choice : (plan : PlanTree) (instance other : Instance) (choice : List (List ℕ)) → SameTables instance other → ordering_count plan ≤ length choice → AreLawful plan other choice → Renamed plan instance other choice
renamed_choice (Scan table columns) instance other choice same long v = record { own = []; number = refl; each = λ more. tt }
renamed_choice (Join condition left right) instance other choice same long v =
    let n = ordering_count left in
    let l = renamed_choice left instance other choice same (omega (arith, long)) v.0 in
    let r = renamed_choice right instance other (drop n choice) same (omega (arith, long, length-drop n choice)) v.1 in
    record {
      own = l.own ++ r.own;
      number = length-append l.own r.own ∙ omega (arith, l.number, r.number);
      each = λ more.
          let all = append_assoc l.own r.own more in
          subst (λ (c : List (List ℕ)). AreRenamed left instance other choice c × AreRenamed right instance other (drop n choice) (drop n c)) (sym all)
          (l.each (r.own ++ more), subst (AreRenamed right instance other (drop n choice)) (sym (following l.own (r.own ++ more) n l.number)) (r.each more));
    }
renamed_choice (Over step input) instance other choice same long v =
    let m = renamed_choice input instance other choice same (omega (arith, long)) v.0 in
    record { own = m.own ++ (node_own input instance other choice same v.0 m step long).own; number = node_number input instance other choice same v.0 m step long; each = node_each input instance other choice same v.0 m step long }

pub plan_commutes : PlanCommutes
plan_commutes = record {
  renames = λ plan instance other choice same v.
      let r = renamed_choice plan instance other choice same (omega (arith, v.number)) v.lawful in
      (r.own, record { number = r.number; each = subst (AreRenamed plan instance other choice) (append-nil r.own) (r.each []) });
  valid = λ plan instance other choice own same v r. record { number = r.number; lawful = (follows plan instance other choice own same v.lawful r.each).0 };
  same = λ plan instance other choice own same v r. Agree-from_Alike _ _ (follows plan instance other choice own same v.lawful r.each).1;
}
