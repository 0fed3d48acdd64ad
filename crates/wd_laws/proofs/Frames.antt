-- What a partition's order does not change: groups, stable frames, and the values taken over them.
use Rattle.std.proofs.Common.{◌≡◌, ℕ, zero, suc, ◌+◌, ◌<◌, ℤ, pos, ◌-ℤ◌, Bool, true, false, cond, ◌&&◌, List, [], ◌∷◌, map, length, filter, get_or, refl, sym, ◌∙◌, ap, subst, arith, is_lt, nat_eq, Option}
use Rattle.std.specs.List.{enumerate_from}
use Rattle.std.proofs.lemmas.Bool.{ne_eqb, eq-eqb}
use Rattle.wd_plan.specs.Frames.{Distances, bound_asks, ends_at, frame_of, in_frame, is_kept, is_stable, is_unbounded, key_distance, starts_at}
use Rattle.wd_value.specs.Keys.{compare_keys}
use Rattle.wd_plan.specs.Partitions.{group_of}
use Rattle.wd_plan.specs.Plans.{ClassRule}
use Rattle.wd_plan.specs.Sorting.{order_columns}
use Rattle.wd_plan.specs.declared.window.Bound.{Bound}
use Rattle.wd_plan.specs.declared.window.Bound.TheVariants.{CurrentRow, Following, Preceding, UnboundedFollowing, UnboundedPreceding}
use Rattle.wd_plan.specs.declared.window.Exclusion.{Exclusion}
use Rattle.wd_plan.specs.declared.window.Frame.{Frame}
use Rattle.wd_plan.specs.declared.window.FrameMode.{FrameMode}
use Rattle.wd_plan.specs.declared.window.FrameMode.TheVariants.{Groups, Range, Rows}
use Rattle.wd_value.proofs.Perms.{Perm, Perm-filter, Perm-map, Perm-refl, Perm-same, Perm-sym, Perm-tail, both, flip, keep}
use Rattle.wd_value.proofs.SameLaws.{same_row-Decides}
use Rattle.wd_value.specs.Rows.{Row, columns_of, row_at, same_row}
use Rattle.wd_plan.proofs.Groups.{Perm-different}

-- ---- groups

pub Perm-group : (class : ClassRule) {part other : List Row} → Perm Row part other → group_of class part ≡ group_of class other
Perm-group class p = λ i r. Perm-different (Perm-map (columns_of (order_columns class)) (Perm-filter (λ q. is_lt (compare_keys class.order q r)) p)) i

-- ---- elements picked by a test that may know whether an element is the one at place i

abbrev pub picked : {X : Type 0} → (Bool → X → Bool) → ℕ → ℕ → List X → List X
picked t n i xs = map (λ m. m.1) (filter (λ m. t (nat_eq i m.0) m.1) (enumerate_from n xs))

module _ {X : Type 0} (t : Bool → X → Bool) where
  past_step : (n i : ℕ) (x : X) (xs : List X) (b : Bool) → t false x ≡ b → nat_eq i n ≡ false → picked t (n + 1) i xs ≡ filter (t false) xs → picked t n i (x ∷ xs) ≡ filter (t false) (x ∷ xs)
  past_step n i x xs true e f h = rw (f, e) (ap (λ l. x ∷ l) h)
  past_step n i x xs false e f h = rw (f, e) h

  past : (n i : ℕ) (xs : List X) → i < n → picked t n i xs ≡ filter (t false) xs
  past n i [] h = refl
  past n i (x ∷ xs) h = past_step n i x xs (t false x) refl (ne_eqb i n (λ e. omega arith)) (past (n + 1) i xs (omega arith))

  -- what is picked beside the element itself
  abbrev pub beside : X → List X → List X
  beside x rest = cond (t true x) (x ∷ filter (t false) rest) (filter (t false) rest)

  here_step : (n i : ℕ) (x : X) (xs : List X) (b : Bool) → t true x ≡ b → nat_eq i n ≡ true → picked t (n + 1) i xs ≡ filter (t false) xs → picked t n i (x ∷ xs) ≡ beside x xs
  here_step n i x xs true e f h = rw (f, e) (ap (λ l. x ∷ l) h)
  here_step n i x xs false e f h = rw (f, e) h

  later_step : (n i : ℕ) (y x : X) (xs rest : List X) (b c : Bool) → t false y ≡ b → t true x ≡ c → nat_eq i n ≡ false → Perm X (picked t (n + 1) i xs) (beside x rest) → Perm X (picked t n i (y ∷ xs)) (beside x (y ∷ rest))
  later_step n i y x xs rest true true e g f h = rw (f, e, g) (both (keep y (rw g at h)) (flip y x (filter (t false) rest)))
  later_step n i y x xs rest true false e g f h = rw (f, e, g) (keep y (rw g at h))
  later_step n i y x xs rest false true e g f h = rw (f, e, g) (rw g at h)
  later_step n i y x xs rest false false e g f h = rw (f, e, g) (rw g at h)

  -- the element at place i, the others, and what is picked
  pub picked_at : (d : X) (n i k : ℕ) (xs : List X) → i ≡ n + k → k < length xs → (rest : List X) × Perm X xs (get_or xs k d ∷ rest) × Perm X (picked t n i xs) (beside (get_or xs k d) rest)
  picked_at d n i k [] e h = absurd (omega arith)
  picked_at d n i zero (x ∷ xs) e h = (xs, Perm-refl (x ∷ xs), Perm-same _ _ (here_step n i x xs (t true x) refl (eq-eqb i n (omega arith)) (past (n + 1) i xs (omega arith))))
  picked_at d n i (suc k) (x ∷ xs) e h =
      let r = picked_at d (n + 1) i k xs (omega arith) (omega arith) in
      (x ∷ r.0, both (keep x r.1) (flip x (get_or xs k d) r.0), later_step n i x (get_or xs k d) xs r.0 (t false x) (t true (get_or xs k d)) refl refl (ne_eqb i n (λ f. omega arith)) r.2)

-- ---- stable frames

-- whether a member is in a stable frame: places do not count, but whether it is the row itself does
abbrev pub stable_test : ClassRule → Frame → (Row → ℕ) → Row → Bool → Row → Bool
stable_test class frame groups r self q =
    let d : Distances = record { places = pos 0; groups = pos (groups q) -ℤ pos (groups r); keys = key_distance class.order r q } in
    (bound_asks frame.mode starts_at frame.start d && bound_asks frame.mode ends_at frame.end d) && is_kept frame.exclusion self (nat_eq (groups r) (groups q))

unbounded_start : (bound : Bound) (d e : ℤ) → is_unbounded bound ≡ true → starts_at bound d ≡ starts_at bound e
unbounded_start UnboundedPreceding d e h = refl
unbounded_start (Preceding n) d e h = cc
unbounded_start CurrentRow d e h = cc
unbounded_start (Following n) d e h = cc
unbounded_start UnboundedFollowing d e h = refl

unbounded_stop : (bound : Bound) (d e : ℤ) → is_unbounded bound ≡ true → ends_at bound d ≡ ends_at bound e
unbounded_stop UnboundedPreceding d e h = refl
unbounded_stop (Preceding n) d e h = cc
unbounded_stop CurrentRow d e h = cc
unbounded_stop (Following n) d e h = cc
unbounded_stop UnboundedFollowing d e h = refl

both_true : (a b : Bool) → (a && b) ≡ true → (a ≡ true) × (b ≡ true)
both_true true b e = (refl, e)
both_true false b e = cc

unplaced : (mode : FrameMode) (start end : Bound) (exclusion : Exclusion) (p q groups : ℤ) (keys : Option ℤ) → is_stable (record { mode = mode; start = start; end = end; exclusion = exclusion }) ≡ true →
    (bound_asks mode starts_at start (record { places = p; groups = groups; keys = keys }) && bound_asks mode ends_at end (record { places = p; groups = groups; keys = keys }))
    ≡ (bound_asks mode starts_at start (record { places = q; groups = groups; keys = keys }) && bound_asks mode ends_at end (record { places = q; groups = groups; keys = keys }))
unplaced Range start end exclusion p q groups keys h = refl
unplaced Groups start end exclusion p q groups keys h = refl
unplaced Rows start end exclusion p q groups keys h =
    let u = both_true (is_unbounded start) (is_unbounded end) h in
    λ i. unbounded_start start p q u.0 i && unbounded_stop end p q u.1 i

pub in_stable_frame : (class : ClassRule) (frame : Frame) (groups : Row → ℕ) (i : ℕ) (r : Row) (j : ℕ) (q : Row) → is_stable frame ≡ true → in_frame class frame groups i r j q ≡ stable_test class frame groups r (nat_eq i j) q
in_stable_frame class frame groups i r j q h =
    ap (λ b. b && is_kept frame.exclusion (nat_eq i j) (nat_eq (groups r) (groups q))) (unplaced frame.mode frame.start frame.end frame.exclusion (pos j -ℤ pos i) (pos 0) (pos (groups q) -ℤ pos (groups r)) (key_distance class.order r q) h)

pub frame_rows_picked : (class : ClassRule) (frame : Frame) (part : List Row) (i : ℕ) → is_stable frame ≡ true → frame_of class frame part i ≡ picked (stable_test class frame (group_of class part) (row_at part i)) 0 i part
frame_rows_picked class frame part i h =
    let same_test : (λ (m : ℕ × Row). in_frame class frame (group_of class part) i (row_at part i) m.0 m.1) ≡ (λ (m : ℕ × Row). stable_test class frame (group_of class part) (row_at part i) (nat_eq i m.0) m.1) = λ k m. in_stable_frame class frame (group_of class part) i (row_at part i) m.0 m.1 h k in
    ap (λ (t : ℕ × Row → Bool). map (λ (m : ℕ × Row). m.1) (filter t (enumerate_from 0 part))) same_test

beside_filter : (t : Bool → Row → Bool) (x : Row) (rest other : List Row) → Perm Row rest other → Perm Row (beside t x rest) (beside t x other)
beside_filter t x rest other p = by (t true x)
  where
    by : (b : Bool) → Perm Row (cond b (x ∷ filter (t false) rest) (filter (t false) rest)) (cond b (x ∷ filter (t false) other) (filter (t false) other))
    by true = keep x (Perm-filter (t false) p)
    by false = Perm-filter (t false) p

pub Perm-picked : (t : Bool → Row → Bool) (part other : List Row) (i j : ℕ) → Perm Row part other → i < length part → j < length other → row_at part i ≡ row_at other j → Perm Row (picked t 0 i part) (picked t 0 j other)
Perm-picked t part other i j p h k e =
    let u = picked_at t [] 0 i i part (omega arith) h in
    let v = picked_at t [] 0 j j other (omega arith) k in
    let swapped : Perm Row (row_at part i ∷ v.0) other = subst (λ x. Perm Row (x ∷ v.0) other) (sym e) (Perm-sym v.1) in
    let rests : Perm Row u.0 v.0 = Perm-tail same_row same_row-Decides (row_at part i) u.0 v.0 (both (Perm-sym u.1) (both p (Perm-sym swapped))) in
    both u.2 (both (beside_filter t (row_at part i) u.0 v.0 rests) (subst (λ x. Perm Row (beside t x v.0) (picked t 0 j other)) (sym e) (Perm-sym v.2)))

-- a stable frame's rows are a matter of the row and of the rows of the partition, in any order
pub Perm-frame_rows : (class : ClassRule) (frame : Frame) (part other : List Row) (i j : ℕ) → is_stable frame ≡ true → Perm Row part other → i < length part → j < length other → row_at part i ≡ row_at other j → Perm Row (frame_of class frame part i) (frame_of class frame other j)
Perm-frame_rows class frame part other i j h p k l e =
    let t = stable_test class frame (group_of class part) (row_at part i) in
    let same_test : t ≡ stable_test class frame (group_of class other) (row_at other j) = λ m. stable_test class frame (Perm-group class p m) (e m) in
    both (Perm-same _ _ (frame_rows_picked class frame part i h))
    (both (Perm-picked t part other i j p k l e)
    (Perm-same _ _ (ap (λ s. picked s 0 j other) same_test ∙ sym (frame_rows_picked class frame other j h))))
