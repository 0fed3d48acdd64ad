-- Traces that are followed one after another, of which the marked ones are kept.
use Rattle.std.proofs.Common.{◌≡◌, ℕ, zero, suc, ◌+◌, ◌<◌, arith, drop, get_or, length, Bool, true, false, map, slice_get, Option, Some, None, List, [], ◌∷◌, ◌++◌, refl, ap, ◌∙◌, sym, Ok, if◌then◌else◌}
use Rattle.std.proofs.Math.Seq.{drop-cons}
use Rattle.std.proofs.lemmas.Bool.{false≢true}
use Rattle.std.proofs.lemmas.List.{append-nil, length-append, length-map, map-append}
use Rattle.std.proofs.lemmas.Option.{none-some, same_Some}
use Rattle.std.specs.Global.{Box}
use Rattle.wd_certificate.specs.Certificates.{TraceRecord, trace_of}
use Rattle.wd_certificate.specs.declared.certificate.Trace.{Trace}
use Rattle.wd_step_facts.specs.Facts.{FactList}
use Rattle.wd_sets.specs.Sets.{has}
use Rattle.wd_rules.specs.Traces.{Traced, each_traced, traced}
use Rattle.wd_verify.specs.Lean.{lean_traces}
use Rattle.wd_traces.specs.Once.{columns_once, lean_trace}
use Rattle.wd_verify.specs.Named.{is_marked}
use Rattle.wd_verify.specs.Shown.{AreFollowed, IsAdded, kept_in, traced_of, traced_or}
use Rattle.wd_traces.specs.declared.trace.Followed.{Followed}
use Rattle.wd_verify.proofs.Claims.{after, after_none, after_one}

-- so far: what the first traces show, with those that are left; of these the marked ones were kept
pub record AreFollowedTo (node : ℕ) (facts : FactList) (all rest : List TraceRecord) (marks : List Bool) (kept : List (Option (Box Followed))) : Type 0 where
  pub shown : List Traced
  pub same : after shown (each_traced node facts rest) ≡ each_traced node facts all
  pub long : length kept ≡ length shown
  pub own : (n : ℕ) (t : Traced) → kept_in (slice_get kept n) ≡ Some t → slice_get shown n ≡ Some t
  pub at : (other : Traced) (n : ℕ) → is_marked marks n ≡ true → slice_get (map (traced_or other) kept) n ≡ slice_get shown n

pub none_followed : (node : ℕ) (facts : FactList) (traces : List TraceRecord) (marks : List Bool) → AreFollowedTo node facts traces traces marks []
none_followed node facts traces marks = record { shown = []; same = after_none (each_traced node facts traces); long = refl; own = λ n t e. absurd (cc); at = λ other n m. refl }

-- one more element on two lists that agree at a number
pub appended : {X : Type 0} (xs ys : List X) (x y : X) (n : ℕ) → length xs ≡ length ys → slice_get xs n ≡ slice_get ys n → (n ≡ length ys → x ≡ y) → slice_get (xs ++ x ∷ []) n ≡ slice_get (ys ++ y ∷ []) n
appended [] [] x y zero long e same = ap (λ z. Some z) (same refl)
appended [] [] x y (suc n) long e same = refl
appended [] (b ∷ ys) x y n long e same = absurd (omega arith)
appended (a ∷ xs) [] x y n long e same = absurd (omega arith)
appended (a ∷ xs) (b ∷ ys) x y zero long e same = e
appended (a ∷ xs) (b ∷ ys) x y (suc n) long e same = appended xs ys x y n (omega arith) e (λ is. same (ap (λ k. suc k) is))

more_long : {X Y : Type 0} (xs : List X) (ys : List Y) (x : X) (y : Y) → length xs ≡ length ys → length (xs ++ x ∷ []) ≡ length (ys ++ y ∷ [])
more_long xs ys x y e = length-append xs (x ∷ []) ∙ (λ i. e i + 1) ∙ sym (length-append ys (y ∷ []))

-- one more slot, and what its trace shows
own_next : (xs : List (Option (Box Followed))) (ys : List Traced) (x : Option (Box Followed)) (y : Traced) (n : ℕ) (t : Traced) → length xs ≡ length ys → ((m : ℕ) (u : Traced) → kept_in (slice_get xs m) ≡ Some u → slice_get ys m ≡ Some u) → ((u : Traced) → kept_in (Some x) ≡ Some u → y ≡ u)
    → kept_in (slice_get (xs ++ x ∷ []) n) ≡ Some t → slice_get (ys ++ y ∷ []) n ≡ Some t
own_next [] [] x y zero t long before own e = ap (λ z. Some z) (own t e)
own_next [] [] x y (suc n) t long before own e = e
own_next [] (b ∷ ys) x y n t long before own e = absurd (omega arith)
own_next (a ∷ xs) [] x y n t long before own e = absurd (omega arith)
own_next (a ∷ xs) (b ∷ ys) x y zero t long before own e = before zero t e
own_next (a ∷ xs) (b ∷ ys) x y (suc n) t long before own e = own_next xs ys x y n t (omega arith) (λ m u. before (suc m) u) own e

-- a slot that was filled shows what its trace shows
slot_own : (is_kept : Bool) (slot : Option (Box Followed)) (one : Traced) → kept_in (Some slot) ≡ (if is_kept then Some one else None) → (u : Traced) → kept_in (Some slot) ≡ Some u → one ≡ u
slot_own true slot one is u e = same_Some one u (sym is ∙ e)
slot_own false slot one is u e = absurd (none-some u (sym is ∙ e))

slot_is : (is_kept : Bool) (slot : Option (Box Followed)) (one : Traced) → kept_in (Some slot) ≡ (if is_kept then Some one else None) → is_kept ≡ true → (other : Traced) → traced_or other slot ≡ one
slot_is true (Some followed) one is e other = same_Some (traced_of followed.value) one is
slot_is true None one is e other = absurd (none-some one is)
slot_is false slot one is e other = absurd (false≢true e)

pub followed_next : (node : ℕ) (facts : FactList) (traces : List Trace) (marks : List Bool) (i : ℕ) (item : Trace) (one : Followed) (is_kept : Bool) (old new : List (Option (Box Followed))) → i < length traces → item ≡ get_or traces i item
    → one.from.items ≡ columns_once item.from.items → traced node facts (lean_trace (trace_of item)) ≡ Ok (has one.set) → is_kept ≡ is_marked marks (length old) → IsAdded is_kept one old new
    → AreFollowedTo node facts (lean_traces traces) (lean_traces (drop i traces)) marks old → AreFollowedTo node facts (lean_traces traces) (lean_traces (drop (i + 1) traces)) marks new
followed_next node facts traces marks i item one is_kept old new h is from t kept added before =
    let next : suc i ≡ i + 1 = omega arith in
    let rest : drop i traces ≡ item ∷ drop (i + 1) traces = drop-cons traces i item h ∙ (λ j. sym is j ∷ drop (next j) traces) in
    let shows : Traced = record { from = columns_once item.from.items; has = has one.set } in
    let own : traced_of one ≡ shows = λ j. record { from = from j; has = has one.set } in
    record {
      shown = before.shown ++ shows ∷ [];
      same =
          sym (after_one node facts (lean_trace (trace_of item)) (lean_traces (drop (i + 1) traces)) before.shown (has one.set) t)
          ∙ ap (λ xs. after before.shown (each_traced node facts (lean_traces xs))) (sym rest)
          ∙ before.same;
      long = ap length added.appended ∙ more_long old before.shown added.slot shows before.long;
      own = λ n t e. own_next old before.shown added.slot shows n t before.long before.own (λ u f. sym own ∙ slot_own is_kept added.slot (traced_of one) added.is u f) (ap (λ xs. kept_in (slice_get xs n)) (sym added.appended) ∙ e);
      at = λ other n m.
          let of_new : map (traced_or other) new ≡ map (traced_or other) old ++ traced_or other added.slot ∷ [] = ap (map (traced_or other)) added.appended ∙ map-append (traced_or other) old (added.slot ∷ []) in
          ap (λ xs. slice_get xs n) of_new
          ∙ appended (map (traced_or other) old) before.shown (traced_or other added.slot) shows n (length-map old (traced_or other) ∙ before.long) (before.at other n m)
          (λ e. slot_is is_kept added.slot (traced_of one) added.is (kept ∙ ap (is_marked marks) (before.long ∙ sym e) ∙ m) other ∙ own);
    }

pub all_followed : (node : ℕ) (facts : FactList) (all rest : List TraceRecord) (marks : List Bool) (kept : List (Option (Box Followed))) → rest ≡ [] → AreFollowedTo node facts all rest marks kept → AreFollowed node facts all (is_marked marks) kept
all_followed node facts all rest marks kept e before = record {
  all = record {
    shown = before.shown;
    traced = sym before.same ∙ ap (λ xs. after before.shown (each_traced node facts xs)) e ∙ ap (λ xs. Ok xs) (append-nil before.shown);
    own = before.own;
  };
  at = before.at;
}

-- those that are asked for less
pub fewer_asked : (node : ℕ) (facts : FactList) (traces : List TraceRecord) (asked other : ℕ → Bool) (kept : List (Option (Box Followed))) → ((n : ℕ) → other n ≡ true → asked n ≡ true) → AreFollowed node facts traces asked kept → AreFollowed node facts traces other kept
fewer_asked node facts traces asked other kept h followed = record { all = followed.all; at = λ o n e. followed.at o n (h n e) }
