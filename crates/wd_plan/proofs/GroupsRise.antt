-- Along a partition list under a lawful ordering the peer group number rises by at most one from place to place.
use Rattle.std.proofs.Common.{◌≡◌, ℕ, ◌+◌, ◌<◌, ◌⊎◌, inl, inr, true, List, [], ◌∷◌, ◌++◌, length, take, drop, refl, sym, ◌∙◌, ap, subst, arith, Ordering, Less, Equal, Greater, is_gt}
use Rattle.std.proofs.lemmas.List.{take-append-drop, drop_more}
use Rattle.wd_value.specs.Rows.{Row, row_at}
use Rattle.wd_value.specs.Keys.{compare_keys}
use Rattle.wd_plan.specs.Partitions.{GroupsRise, group_of, partition_of}
use Rattle.wd_plan.specs.Plans.{ClassRule}
use Rattle.wd_plan.specs.Sorting.{IsOrdering}
use Rattle.wd_plan.proofs.Parts.{NotAfter, partition_of-is, part, ordered, rising_part}
use Rattle.wd_plan.proofs.Sorted.{Rising}
use Rattle.wd_plan.proofs.SortedGroups.{first_group, tied_group, next_group}

-- neighbours of a rising list
rising_next : (class : ClassRule) (pre : List Row) (q r : Row) (post : List Row) → Rising (NotAfter class) (pre ++ q ∷ r ∷ post) → NotAfter class q r
rising_next class [] q r post h = h.0.0
rising_next class (x ∷ pre) q r post h = rising_next class pre q r post h.1

by_order : (class : ClassRule) (pre : List Row) (q r : Row) (post : List Row) → Rising (NotAfter class) (pre ++ q ∷ r ∷ post) → (o : Ordering) → compare_keys class.order q r ≡ o
    → let part = pre ++ q ∷ r ∷ post in (group_of class part r ≡ group_of class part q) ⊎ (group_of class part r ≡ group_of class part q + 1)
by_order class pre q r post h Less e = inr (next_group class pre q r post h e)
by_order class pre q r post h Equal e = inl (tied_group class (pre ++ q ∷ r ∷ post) q r e)
by_order class pre q r post h Greater e = absurd (let k = rising_next class pre q r post h in let g : is_gt (compare_keys class.order q r) ≡ true = ap is_gt e in cc)

-- a list parted before two neighbours
parted : (rows : List Row) (i : ℕ) → i + 1 < length rows → take i rows ++ row_at rows i ∷ row_at rows (i + 1) ∷ drop (i + 1 + 1) rows ≡ rows
parted rows i h =
    let two : drop i rows ≡ row_at rows i ∷ row_at rows (i + 1) ∷ drop (i + 1 + 1) rows = drop_more rows i [] (omega arith) ∙ ap (λ l. row_at rows i ∷ l) (drop_more rows (i + 1) [] h) in
    ap (λ l. take i rows ++ l) (sym two) ∙ take-append-drop i rows

rises : (class : ClassRule) (rows : List Row) → Rising (NotAfter class) rows → GroupsRise class rows
rises class rows h = record {
  first = λ some. first_of rows h some;
  next = λ i within. (let e = parted rows i within in
      let q = row_at rows i in let r = row_at rows (i + 1) in
      subst (λ (l : List Row). (group_of class l r ≡ group_of class l q) ⊎ (group_of class l r ≡ group_of class l q + 1)) e
      (by_order class (take i rows) q r (drop (i + 1 + 1) rows) (subst (Rising (NotAfter class)) (sym e) h) (compare_keys class.order q r) refl));
}
  where
    first_of : (rs : List Row) → Rising (NotAfter class) rs → 0 < length rs → group_of class rs (row_at rs 0) ≡ 0
    first_of [] g some = absurd (omega arith)
    first_of (r ∷ rs) g some = first_group class r rs g.0

pub peer_groups_rise : (class : ClassRule) (rows : List Row) (ordering : List ℕ) (p : ℕ) → IsOrdering class rows ordering → GroupsRise class (partition_of class rows ordering p)
peer_groups_rise class rows ordering p lawful =
    subst (GroupsRise class) (sym (partition_of-is class rows ordering p)) (rises class (part class (row_at rows p) (ordered rows ordering)) (rising_part class (row_at rows p) (ordered rows ordering) lawful.in_order))
