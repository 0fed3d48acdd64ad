-- What a trace derives holds where the given facts do.
use Rattle.std.proofs.Common.{IfSome, ◌≡◌, ℕ, zero, suc, ◌<◌, Bool, true, false, cond, ◌&&◌, ◌||◌, List, [], ◌∷◌, length, refl, sym, ◌∙◌, ap, subst, ◌⊎◌, inl, inr, Option, Some, None, nat_eq, nat_lt, nat_le, slice_get, Ok, Err, ⊎_elim}
use Rattle.std.specs.List.{AllByRecursion, list_any, list_all}
use Rattle.std.proofs.lemmas.Bool.{eqb-true, or_cases, and_parts, false≢true, ltb-true, leb-true}
use Rattle.wd_value.specs.Rows.{column_of, row_at}
use Rattle.wd_certificate.specs.Certificates.{TraceRecord}
use Rattle.wd_certificate.specs.declared.error.CertError.TheVariants.{OutOfRange, UnreachedUse}
use Rattle.wd_step_facts.specs.declared.facts.Member.{Member}
use Rattle.wd_step_facts.specs.declared.facts.Member.TheVariants.{Column, Left, Right, Row}
use Rattle.wd_step_facts.specs.Facts.{Fact, FactList, Paired, Same, Holds, columns_named}
use Rattle.wd_facts.proofs.Sides.{HasSides}
use Rattle.wd_sets.specs.Sets.{is_in, same_member, stands_in}
use Rattle.wd_rules.specs.Rules.{trace_or}
use Rattle.wd_sets.specs.Reaches.{also, by_side, has_row, reaches, reaches_each}
use Rattle.wd_rules.specs.Traces.{Traced, and_then, each_traced, traced, with_use, with_uses}
use Rattle.wd_rules.proofs.Refused.{ok_parts}

pub same_member-is : (a b : Member) → same_member a b ≡ true → a ≡ b
same_member-is (Column c) (Column d) e = ap Column (eqb-true c d e)
same_member-is Left Left e = refl
same_member-is Right Right e = refl
same_member-is Row Row e = refl
same_member-is a b e = absurd (false≢true e)

-- what passes a test of each element
pub all_pass : {X : Type 0} (P : X → Type 0) (t : X → Bool) → ((x : X) → t x ≡ true → P x) → (xs : List X) → list_all t xs ≡ true → AllByRecursion P xs
all_pass P t h [] e = tt
all_pass P t h (x ∷ xs) e = let a = and_parts (t x) (list_all t xs) e in (h x a.0, all_pass P t h xs a.1)

pub listed : (S : Member → Type 0) (m : Member) (s : List Member) → AllByRecursion S s → list_any (same_member m) s ≡ true → S m
listed S m [] a e = absurd (false≢true e)
listed S m (d ∷ s) a e = by (or_cases (same_member m d) (list_any (same_member m) s) e) (listed S m s a.1)
  where
    by : (same_member m d ≡ true) ⊎ (list_any (same_member m) s ≡ true) → (list_any (same_member m) s ≡ true → S m) → S m
    by (inl f) later = subst S (sym (same_member-is m d f)) a.0
    by (inr f) later = later f

-- columns among others
pub among_same : (S : Member → Type 0) (within X : List ℕ) → AllByRecursion S (columns_named within) → list_all (is_in within) X ≡ true → AllByRecursion S (columns_named X)
among_same S within [] a e = tt
among_same S within (c ∷ X) a e =
    let parts = and_parts (is_in within c) (list_all (is_in within) X) e in
    (found within a c parts.0, among_same S within X a parts.1)
  where
    found : (Y : List ℕ) → AllByRecursion S (columns_named Y) → (d : ℕ) → is_in Y d ≡ true → S (Column d)
    found [] b d f = absurd (false≢true f)
    found (y ∷ Y) b d f = ⊎_elim (λ g. subst (λ x. S (Column x)) (sym (eqb-true d y g)) b.0) (found Y b.1 d) (or_cases (nat_eq d y) (is_in Y d) f)

-- each member that a test names
abbrev pub AllIn : (Member → Type 0) → (Member → Bool) → Type 0
AllIn S has = (m : Member) → has m ≡ true → S m

module _ (n : Paired) (p q : ℕ) (k : p < length n.rows) (l : q < length n.rows) where
  row_is : (o : Option ℕ) (columns : ℕ) (has : Member → Bool) → HasSides n o columns → AllIn (Same n p q) has → has_row o has ≡ true → p ≡ q
  row_is None columns has sides a e = a Row e
  row_is (Some split) columns has sides a e = by (or_cases (has Row) (has Left && has Right) e)
    where
      by : (has Row ≡ true) ⊎ ((has Left && has Right) ≡ true) → p ≡ q
      by (inl f) = a Row f
      by (inr f) = let parts = and_parts (has Left) (has Right) f in sides.both p q k l (a Left parts.0) (a Right parts.1)

  side_is : (o : Option ℕ) (columns c : ℕ) (has : Member → Bool) → HasSides n o columns → AllIn (Same n p q) has → by_side o columns has c ≡ true → column_of (row_at n.rows p) c ≡ column_of (row_at n.rows q) c
  side_is None columns c has sides a e = absurd (false≢true e)
  side_is (Some split) columns c has sides a e = by (or_cases (has Left && nat_lt c split) (has Right && (nat_le split c && nat_lt c columns)) e)
    where
      by : ((has Left && nat_lt c split) ≡ true) ⊎ ((has Right && (nat_le split c && nat_lt c columns)) ≡ true) → column_of (row_at n.rows p) c ≡ column_of (row_at n.rows q) c
      by (inl f) =
          let parts = and_parts (has Left) (nat_lt c split) f in
          sides.left p q c k l (a Left parts.0) (ltb-true c split parts.1)
      by (inr f) =
          let parts = and_parts (has Right) (nat_le split c && nat_lt c columns) f in
          let range = and_parts (nat_le split c) (nat_lt c columns) parts.1 in
          sides.right p q c k l (a Right parts.0) (leb-true split c range.0) (ltb-true c columns range.1)

  one_row : p ≡ q → (m : Member) → Same n p q m
  one_row e (Column c) = ap (λ i. column_of (row_at n.rows i) c) e
  one_row e Left = ap n.left e
  one_row e Right = ap n.right e
  one_row e Row = e

  module _ (facts : FactList) (sides : HasSides n facts.split facts.columns) where
    reached_same : (has : Member → Bool) → AllIn (Same n p q) has → AllIn (Same n p q) (reaches facts has)
    reached_same has a (Column c) e = by (or_cases (has (Column c)) (by_side facts.split facts.columns has c || has_row facts.split has) e)
      where
        later : (by_side facts.split facts.columns has c ≡ true) ⊎ (has_row facts.split has ≡ true) → Same n p q (Column c)
        later (inl f) = side_is facts.split facts.columns c has sides a f
        later (inr f) = one_row (row_is facts.split facts.columns has sides a f) (Column c)

        by : (has (Column c) ≡ true) ⊎ ((by_side facts.split facts.columns has c || has_row facts.split has) ≡ true) → Same n p q (Column c)
        by (inl f) = a (Column c) f
        by (inr f) = later (or_cases (by_side facts.split facts.columns has c) (has_row facts.split has) f)
    reached_same has a Left e = ⊎_elim (a Left) (λ f. one_row (row_is facts.split facts.columns has sides a f) Left) (or_cases (has Left) (has_row facts.split has) e)
    reached_same has a Right e = ⊎_elim (a Right) (λ f. one_row (row_is facts.split facts.columns has sides a f) Right) (or_cases (has Right) (has_row facts.split has) e)
    reached_same has a Row e = row_is facts.split facts.columns has sides a e

    -- positions that are the same on members are the same on what these reach
    pub each_same : (has : Member → Bool) (members : List Member) → AllIn (Same n p q) has → reaches_each facts has members ≡ true → AllByRecursion (Same n p q) members
    each_same has members a e = all_pass (Same n p q) (reaches facts has) (reached_same has a) members e

    also_same : (has : Member → Bool) (members : List Member) → AllIn (Same n p q) has → AllByRecursion (Same n p q) members → AllIn (Same n p q) (also has members)
    also_same has members a b m e = ⊎_elim (a m) (listed (Same n p q) m members b) (or_cases (has m) (stands_in members m) e)

    used_same : (node : ℕ) (has more : Member → Bool) (fact : Fact) (b : Bool) → reaches_each facts has fact.from ≡ b → AllIn (Same n p q) has → Holds n fact → cond b (Ok (also has fact.to)) (Err (UnreachedUse node)) ≡ Ok more → AllIn (Same n p q) more
    used_same node has more fact true e a holds f =
        let g : also has fact.to ≡ more = cc in
        subst (AllIn (Same n p q)) g (also_same has fact.to a (holds p q k l (each_same has fact.from a e)))
    used_same node has more fact false e a holds f = cc

    use_same : (node : ℕ) (has more : Member → Bool) (o : Option Fact) → IfSome o (Holds n) → AllIn (Same n p q) has → with_use node facts has o ≡ Ok more → AllIn (Same n p q) more
    use_same node has more None holds a f = cc
    use_same node has more (Some fact) holds a f = used_same node has more fact (reaches_each facts has fact.from) refl a holds f

    at_use : (list : List Fact) (i : ℕ) → AllByRecursion (Holds n) list → IfSome (slice_get list i) (Holds n)
    at_use [] i a = tt
    at_use (fact ∷ list) zero a = a.0
    at_use (fact ∷ list) (suc i) a = at_use list i a.1

    uses_same : (node : ℕ) (has : Member → Bool) (uses : List ℕ) (more : Member → Bool) → AllByRecursion (Holds n) facts.list → AllIn (Same n p q) has → with_uses node facts has uses ≡ Ok more → AllIn (Same n p q) more
    uses_same node has [] more hold a e = let f : has ≡ more = cc in subst (AllIn (Same n p q)) f a
    uses_same node has (i ∷ uses) more hold a e =
        let parts = ok_parts (with_use node facts has (slice_get facts.list i)) (λ more. with_uses node facts more uses) more e in
        uses_same node parts.0 uses more hold (use_same node has parts.0 (slice_get facts.list i) (at_use facts.list i hold) a parts.1) parts.2

    range_same : (node : ℕ) (trace : TraceRecord) (has : Member → Bool) (b : Bool) → AllByRecursion (Holds n) facts.list → AllByRecursion (Same n p q) (columns_named trace.from) → cond b (with_uses node facts (stands_in (columns_named trace.from)) trace.uses) (Err (OutOfRange node)) ≡ Ok has → AllIn (Same n p q) has
    range_same node trace has true hold a e = uses_same node (stands_in (columns_named trace.from)) trace.uses has hold (λ m f. listed (Same n p q) m (columns_named trace.from) a f) e
    range_same node trace has false hold a e = cc

    -- a trace's columns give what it has
    trace_same : (node : ℕ) (trace : TraceRecord) (has : Member → Bool) → AllByRecursion (Holds n) facts.list → AllByRecursion (Same n p q) (columns_named trace.from) → traced node facts trace ≡ Ok has → AllIn (Same n p q) has
    trace_same node trace has hold a e = range_same node trace has (list_all (λ c. nat_lt c facts.columns) trace.from) hold a e

-- ---- the traces of an entry

-- a trace's columns give what it has
abbrev pub IsTrue : Paired → Traced → Type 0
IsTrue n trace = (p q : ℕ) → p < length n.rows → q < length n.rows → AllByRecursion (Same n p q) (columns_named trace.from) → AllIn (Same n p q) trace.has

-- the traces one after another
pub record Parts (node : ℕ) (facts : FactList) (trace : TraceRecord) (traces : List TraceRecord) (shown : List Traced) : Type 0 where
  pub has : Member → Bool
  pub rest : List Traced
  pub first : traced node facts trace ≡ Ok has
  pub later : each_traced node facts traces ≡ Ok rest
  pub is : shown ≡ record { from = trace.from; has = has } ∷ rest

pub parts_of : (node : ℕ) (facts : FactList) (trace : TraceRecord) (traces : List TraceRecord) (shown : List Traced) → each_traced node facts (trace ∷ traces) ≡ Ok shown → Parts node facts trace traces shown
parts_of node facts trace traces shown e =
    let first = ok_parts (traced node facts trace) (λ has. and_then (each_traced node facts traces) (λ shown. Ok (record { from = trace.from; has = has } ∷ shown))) shown e in
    let later = ok_parts (each_traced node facts traces) (λ shown. Ok (record { from = trace.from; has = first.0 } ∷ shown)) shown first.2 in
    record { has = first.0; rest = later.0; first = first.1; later = later.1; is = let g = later.2 in cc }

module _ (n : Paired) (facts : FactList) (sides : HasSides n facts.split facts.columns) (hold : AllByRecursion (Holds n) facts.list) where
  pub each_true : (node : ℕ) (traces : List TraceRecord) (shown : List Traced) → each_traced node facts traces ≡ Ok shown → AllByRecursion (IsTrue n) shown
  each_true node [] shown e = let f : [] ≡ shown = cc in subst (AllByRecursion (IsTrue n)) f tt
  each_true node (trace ∷ traces) shown e =
      let parts = parts_of node facts trace traces shown e in
      subst (AllByRecursion (IsTrue n)) (sym parts.is) ((λ p q k l a. trace_same n p q k l facts sides node trace parts.has hold a parts.first), each_true node traces parts.rest parts.later)

-- the one with a number starts from the columns of the trace with that number
pub from_is : (node : ℕ) (facts : FactList) (traces : List TraceRecord) (shown : List Traced) → each_traced node facts traces ≡ Ok shown → (i : ℕ) (t : Traced) → slice_get shown i ≡ Some t → (trace_or (slice_get traces i)).from ≡ t.from
from_is node facts [] shown e i t at =
    let f : shown ≡ [] = cc in
    let g : None ≡ Some t = ap (λ s. slice_get s i) (sym f) ∙ at in cc
from_is node facts (trace ∷ traces) shown e zero t at =
    let parts = parts_of node facts trace traces shown e in
    let g : Some (record { from = trace.from; has = parts.has }) ≡ Some t = ap (λ s. slice_get s zero) (sym parts.is) ∙ at in
    let same : record { from = trace.from; has = parts.has } ≡ t = cc in
    ap (λ (x : Traced). x.from) same
from_is node facts (trace ∷ traces) shown e (suc i) t at =
    let parts = parts_of node facts trace traces shown e in
    from_is node facts traces parts.rest parts.later i t (ap (λ s. slice_get s (suc i)) (sym parts.is) ∙ at)
