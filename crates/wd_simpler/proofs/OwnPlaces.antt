-- A frame of the row's own place, and one that holds nothing, have the same rows as that of peers.
use Rattle.std.proofs.Common.{◌≡◌, ℕ, ℤ, zero, suc, ◌+◌, pos, ◌-ℤ◌, neg_ℤ, Bool, true, false, not, ◌&&◌, nat_lt, List, [], ◌∷◌, map, refl, sym, ◌∙◌, ap, subst, arith, nat_eq, zero-add, if◌then◌else◌}
use Rattle.std.specs.List.{AllByRecursion, enumerate_from}
use Rattle.std.specs.Prelude.{int_le}
use Rattle.std.proofs.lemmas.Bool.{and_parts, eq-eqb, eqb-true, false≢true}
use Rattle.std.proofs.lemmas.Bool.Decides.{nat_tests}
use Rattle.std.proofs.lemmas.Int.{ints}
use Rattle.wd_value.specs.Rows.{Row, row_at}
use Rattle.wd_plan.specs.Calls.{frame_value, value_at}
use Rattle.wd_plan.specs.declared.function.Function.{Function}
use Rattle.wd_plan.specs.declared.function.Function.TheVariants.{Ranking as Ranked, Shift as Shifted, OfFrame}
use Rattle.wd_plan.specs.declared.window.Bound.{Bound}
use Rattle.wd_plan.specs.declared.window.Bound.TheVariants.{UnboundedPreceding, Preceding, CurrentRow, Following, UnboundedFollowing}
use Rattle.wd_plan.specs.declared.window.Exclusion.{Exclusion}
use Rattle.wd_plan.specs.declared.window.Exclusion.TheVariants as exclude
use Rattle.wd_plan.specs.declared.window.Frame.{Frame}
use Rattle.wd_plan.specs.declared.window.FrameMode.{FrameMode}
use Rattle.wd_plan.specs.declared.window.FrameMode.TheVariants.{Rows, Range, Groups}
use Rattle.wd_plan.specs.Frames.{ends_at, frame_of, in_frame, is_kept, starts_at}
use Rattle.wd_plan.specs.Partitions.{group_of, members, partition_of, place_in}
use Rattle.wd_plan.specs.Plans.{ClassRule}
use Rattle.wd_simpler.proofs.SortKeys.{bool_same, filter_same}
use Rattle.wd_simpler.specs.OwnPlace.{is_here, is_past, peer_exclusion, peer_frame, peers_without}

-- ---- distances

near_same : (m n : ℕ) → int_le (pos 0) (pos n -ℤ pos m) ≡ true → int_le (pos n -ℤ pos m) (pos 0) ≡ true → nat_eq m n ≡ true
near_same m n h k = grind (arith, ints, nat_tests)

at_least : (m : ℕ) → int_le (pos 0) (pos m -ℤ pos m) ≡ true
at_least m = grind (arith, ints)

at_most : (m : ℕ) → int_le (pos m -ℤ pos m) (pos 0) ≡ true
at_most m = grind (arith, ints)

both_true : (a b : Bool) → a ≡ true → b ≡ true → (a && b) ≡ true
both_true a b h k = λ i. h i && k i

-- no way from a number to another is that they are the same
no_distance : (m n : ℕ) → (int_le (pos 0) (pos n -ℤ pos m) && int_le (pos n -ℤ pos m) (pos 0)) ≡ nat_eq m n
no_distance m n =
    bool_same _ _
    (λ h. let parts = and_parts (int_le (pos 0) (pos n -ℤ pos m)) (int_le (pos n -ℤ pos m) (pos 0)) h in near_same m n parts.0 parts.1)
    (λ h. subst (λ k. (int_le (pos 0) (pos k -ℤ pos m) && int_le (pos k -ℤ pos m) (pos 0)) ≡ true) (eqb-true m n h) (both_true _ _ (at_least m) (at_most m)))

-- ---- the test of a frame

-- the row itself is one of its peers
kept_same : (x : Exclusion) (self peer : Bool) → (self ≡ true → peer ≡ true) → (self && is_kept x self peer) ≡ (peer && is_kept (peer_exclusion x) self peer)
kept_same exclude.NoOthers true peer h = rw (h refl) refl
kept_same exclude.NoOthers false true h = refl
kept_same exclude.NoOthers false false h = refl
kept_same exclude.CurrentRow true peer h = rw (h refl) refl
kept_same exclude.CurrentRow false true h = refl
kept_same exclude.CurrentRow false false h = refl
kept_same exclude.Group true peer h = rw (h refl) refl
kept_same exclude.Group false true h = refl
kept_same exclude.Group false false h = refl
kept_same exclude.Ties true peer h = rw (h refl) refl
kept_same exclude.Ties false true h = refl
kept_same exclude.Ties false false h = refl

-- a frame that counts rows
abbrev rows_frame : Bound → Bound → Exclusion → Frame
rows_frame start end x = record { mode = Rows; start = start; end = end; exclusion = x }

starts_here : (b : Bound) (d : ℤ) → is_here b ≡ true → starts_at b d ≡ int_le (pos 0) d
starts_here UnboundedPreceding d h = absurd (false≢true h)
starts_here (Preceding zero) d h = refl
starts_here (Preceding (suc n)) d h = absurd (omega (arith, eqb-true (suc n) 0 h))
starts_here CurrentRow d h = refl
starts_here (Following zero) d h = refl
starts_here (Following (suc n)) d h = absurd (omega (arith, eqb-true (suc n) 0 h))
starts_here UnboundedFollowing d h = absurd (false≢true h)

ends_here : (b : Bound) (d : ℤ) → is_here b ≡ true → ends_at b d ≡ int_le d (pos 0)
ends_here UnboundedPreceding d h = absurd (false≢true h)
ends_here (Preceding zero) d h = refl
ends_here (Preceding (suc n)) d h = absurd (omega (arith, eqb-true (suc n) 0 h))
ends_here CurrentRow d h = refl
ends_here (Following zero) d h = refl
ends_here (Following (suc n)) d h = absurd (omega (arith, eqb-true (suc n) 0 h))
ends_here UnboundedFollowing d h = absurd (false≢true h)

own_same : (class : ClassRule) (start end : Bound) (x : Exclusion) (part : List Row) (i j : ℕ) (q : Row) → is_here start ≡ true → is_here end ≡ true → q ≡ row_at part j
    → in_frame class (rows_frame start end x) (group_of class part) i (row_at part i) j q ≡ in_frame class (peers_without (peer_exclusion x)) (group_of class part) i (row_at part i) j q
own_same class start end x part i j q s e is =
    let g = group_of class part in
    let own = row_at part i in
    let self = nat_eq i j in
    let peer = nat_eq (g own) (g q) in
    let peers : self ≡ true → peer ≡ true = λ h. eq-eqb (g own) (g q) (ap (λ k. g (row_at part k)) (eqb-true i j h) ∙ ap g (sym is)) in
    (λ k. (starts_here start (pos j -ℤ pos i) s k && ends_here end (pos j -ℤ pos i) e k) && is_kept x self peer)
    ∙ ap (λ b. b && is_kept x self peer) (no_distance i j)
    ∙ kept_same x self peer peers
    ∙ ap (λ b. b && is_kept (peer_exclusion x) self peer) (sym (no_distance (g own) (g q)))

-- ---- frames that hold nothing

before_none : (n m : ℕ) (d : ℤ) → nat_lt n m ≡ true → (int_le (neg_ℤ (pos n)) d && int_le d (neg_ℤ (pos m))) ≡ false
before_none n m d h = grind (arith, ints, nat_tests)

after_none : (n m : ℕ) (d : ℤ) → nat_lt m n ≡ true → (int_le (pos n) d && int_le d (pos m)) ≡ false
after_none n m d h = grind (arith, ints, nat_tests)

holds_none : (start end : Bound) (d : ℤ) → is_past start end ≡ true → (starts_at start d && ends_at end d) ≡ false
holds_none UnboundedPreceding end d h = absurd (false≢true h)
holds_none (Preceding n) UnboundedPreceding d h = absurd (false≢true h)
holds_none (Preceding n) (Preceding m) d h = before_none n m d h
holds_none (Preceding n) CurrentRow d h = absurd (false≢true h)
holds_none (Preceding n) (Following m) d h = absurd (false≢true h)
holds_none (Preceding n) UnboundedFollowing d h = absurd (false≢true h)
holds_none CurrentRow end d h = absurd (false≢true h)
holds_none (Following n) UnboundedPreceding d h = absurd (false≢true h)
holds_none (Following n) (Preceding m) d h = absurd (false≢true h)
holds_none (Following n) CurrentRow d h = absurd (false≢true h)
holds_none (Following n) (Following m) d h = after_none n m d h
holds_none (Following n) UnboundedFollowing d h = absurd (false≢true h)
holds_none UnboundedFollowing end d h = absurd (false≢true h)

no_peer : (peer : Bool) → false ≡ (peer && not peer)
no_peer true = refl
no_peer false = refl

none_same : (class : ClassRule) (start end : Bound) (x : Exclusion) (part : List Row) (i j : ℕ) (q : Row) → is_past start end ≡ true
    → in_frame class (rows_frame start end x) (group_of class part) i (row_at part i) j q ≡ in_frame class (peers_without exclude.Group) (group_of class part) i (row_at part i) j q
none_same class start end x part i j q h =
    let g = group_of class part in
    let own = row_at part i in
    let peer = nat_eq (g own) (g q) in
    ap (λ b. b && is_kept x (nat_eq i j) peer) (holds_none start end (pos j -ℤ pos i) h)
    ∙ no_peer peer
    ∙ ap (λ b. b && not peer) (sym (no_distance (g own) (g q)))

-- ---- the rows of a frame

-- each row of a numbered list stands at its number
numbered : (part : List Row) (n : ℕ) (rows : List Row) → ((p : ℕ) → row_at rows p ≡ row_at part (n + p)) → (m : ℕ) → m ≡ n → AllByRecursion (λ (e : ℕ × Row). e.1 ≡ row_at part e.0) (enumerate_from m rows)
numbered part n [] h m e = tt
numbered part n (r ∷ rows) h m e =
    let here : n + 0 ≡ m = omega (arith, e) in
    let next : m + 1 ≡ suc n = omega (arith, e) in
    (h 0 ∙ ap (row_at part) here, numbered part (suc n) rows (λ p. let along : n + suc p ≡ suc n + p = omega arith in h (suc p) ∙ ap (row_at part) along) (m + 1) next)

-- frames with the same members have the same rows
tests_same : (class : ClassRule) (one other : Frame) (part : List Row) (i : ℕ)
    → ((j : ℕ) (q : Row) → q ≡ row_at part j → in_frame class one (group_of class part) i (row_at part i) j q ≡ in_frame class other (group_of class part) i (row_at part i) j q)
    → frame_of class one part i ≡ frame_of class other part i
tests_same class one other part i h =
    ap (map (λ (m : ℕ × Row). m.1))
    (filter_same (λ (m : ℕ × Row). m.1 ≡ row_at part m.0) (λ m. in_frame class one (group_of class part) i (row_at part i) m.0 m.1) (λ m. in_frame class other (group_of class part) i (row_at part i) m.0 m.1)
    (λ m is. h m.0 m.1 is) (enumerate_from 0 part) (numbered part 0 part (λ p. ap (row_at part) (sym (zero-add p))) 0 refl))

rows_same : (class : ClassRule) (part : List Row) (i : ℕ) (start end : Bound) (x : Exclusion) (own past : Bool) → (is_here start && is_here end) ≡ own → is_past start end ≡ past
    → frame_of class (rows_frame start end x) part i ≡ frame_of class (if own then peers_without (peer_exclusion x) else if past then peers_without exclude.Group else rows_frame start end x) part i
rows_same class part i start end x true past e f =
    let here = and_parts (is_here start) (is_here end) e in
    tests_same class (rows_frame start end x) (peers_without (peer_exclusion x)) part i (λ j q is. own_same class start end x part i j q here.0 here.1 is)
rows_same class part i start end x false true e f = tests_same class (rows_frame start end x) (peers_without exclude.Group) part i (λ j q is. none_same class start end x part i j q f)
rows_same class part i start end x false false e f = refl

frame_same : (class : ClassRule) (part : List Row) (i : ℕ) (mode : FrameMode) (start end : Bound) (x : Exclusion)
    → frame_of class (record { mode = mode; start = start; end = end; exclusion = x }) part i ≡ frame_of class (peer_frame (record { mode = mode; start = start; end = end; exclusion = x })) part i
frame_same class part i Rows start end x = rows_same class part i start end x (is_here start && is_here end) (is_past start end) refl refl
frame_same class part i Range start end x = refl
frame_same class part i Groups start end x = refl

pub value_by_peers : (class : ClassRule) (frame : Frame) (function : Function) (rows : List Row) (ordering : List ℕ) (r : ℕ) → value_at class frame function rows ordering r ≡ value_at class (peer_frame frame) function rows ordering r
value_by_peers class frame (Ranked k) rows ordering r = refl
value_by_peers class frame (Shifted s) rows ordering r = refl
value_by_peers class frame (OfFrame f) rows ordering r = ap (frame_value f) (frame_same class (partition_of class rows ordering r) (place_in (members class rows ordering r) r) frame.mode frame.start frame.end frame.exclusion)
