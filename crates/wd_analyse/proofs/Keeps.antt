-- What a node keeps, by the traces that show it, is not refused.
use Rattle.std.proofs.Common.{◌≡◌, ℕ, zero, suc, ◌+◌, ◌≤◌, Bool, true, false, cond, not, ◌&&◌, List, [], ◌∷◌, ◌++◌, map, filter, drop, slice_get, refl, sym, ◌∙◌, ap, arith, subst, Some, None, nat_lt}
use Rattle.std.specs.List.{AllByRecursion, list_all, range_with_len}
use Rattle.std.proofs.lemmas.Bool.{and_parts, false≢true, lt-ltb}
use Rattle.wd_plan.specs.Fits.{AreBelow}
use Rattle.wd_certificate.specs.Certificates.{TraceRecord}
use Rattle.wd_certificate.specs.declared.error.CertError.{CertError}
use Rattle.wd_certificate.specs.declared.error.CertError.TheVariants.{OutOfRange, UnreachedClaim}
use Rattle.wd_step_facts.specs.declared.facts.Member.{Member}
use Rattle.wd_step_facts.specs.declared.facts.Member.TheVariants as member
use Rattle.wd_step_facts.specs.Facts.{FactList, columns_named, is_plain, is_plain_fact}
use Rattle.wd_step_facts.specs.Steps.{all_columns}
use Rattle.wd_facts.specs.Laws.{ArePlain}
use Rattle.wd_sets.specs.Reaches.{reaches_each}
use Rattle.wd_sets.specs.Sets.{is_in}
use Rattle.wd_rules.specs.Rules.{is_target, keep_refusal, kept_refusal, member_of, or_else, refuse_unless, trace_or}
use Rattle.wd_rules.specs.Rules as rules
use Rattle.wd_rules.specs.Traces.{Traced}
use Rattle.wd_analyse.specs.Evidence.{Closing, once, trace_by}
use Rattle.wd_analyse.specs.Kept.{is_new, keep_by, kept_fact, kept_members, target_of}
use Rattle.wd_analyse.proofs.Valid.{IsClaim}
use Rattle.wd_analyse.proofs.Once.{once_all}
use Rattle.wd_analyse.proofs.Traces.{each_reached, shown}

-- ---- columns that are kept

-- elements that pass a test
filtered : {X : Type 0} (P Q : X → Type 0) (t : X → Bool) → ((x : X) → t x ≡ true → Q x → P x) → (xs : List X) → AllByRecursion Q xs → AllByRecursion P (filter t xs)
filtered P Q t h [] a = tt
filtered P Q t h (x ∷ xs) a = by (filtered P Q t h xs a.1) (t x) refl
  where
    by : AllByRecursion P (filter t xs) → (b : Bool) → t x ≡ b → AllByRecursion P (filter t (x ∷ xs))
    by later true e = rw e (h x e a.0, later)
    by later false e = rw e later

range_low : (n a k : ℕ) → a + k ≤ n → AllByRecursion (λ c. nat_lt c n ≡ true) (range_with_len a k)
range_low n a zero h = tt
range_low n a (suc k) h = (lt-ltb a n (omega arith), range_low n (a + 1) k (omega arith))

-- a column that a node with so many has, and that is given
record IsKeptColumn (width : ℕ) (c : Closing) (column : ℕ) : Type 0 where
  low : nat_lt column width ≡ true
  given : c.has (member.Column column) ≡ true

module _ (width : ℕ) (c : Closing) where
  kept_columns : AllByRecursion (IsKeptColumn width c) (filter (is_new c) (all_columns width))
  kept_columns =
      filtered (IsKeptColumn width c) (λ d. nat_lt d width ≡ true) (is_new c)
      (λ d e l. record { low = l; given = (and_parts (c.has (member.Column d)) (not (is_in c.from d)) e).0 })
      (all_columns width) (range_low width 0 width (omega arith))

  columns_plain : (X : List ℕ) → AllByRecursion (IsKeptColumn width c) X → list_all (is_plain width) (columns_named X) ≡ true
  columns_plain [] a = refl
  columns_plain (d ∷ X) a = λ i. a.0.low i && columns_plain X a.1 i

  columns_given : (X : List ℕ) → AllByRecursion (IsKeptColumn width c) X → list_all c.has (columns_named X) ≡ true
  columns_given [] a = refl
  columns_given (d ∷ X) a = λ i. a.0.given i && columns_given X a.1 i

  -- what is kept names the node's columns and the row, and is given
  pub members_plain : list_all (is_plain width) (kept_members width c) ≡ true
  members_plain = by (c.has member.Row) refl
    where
      by : (b : Bool) → c.has member.Row ≡ b → list_all (is_plain width) (kept_members width c) ≡ true
      by true e = rw e refl
      by false e = rw e (columns_plain (filter (is_new c) (all_columns width)) kept_columns)

  pub members_given : list_all c.has (kept_members width c) ≡ true
  members_given = by (c.has member.Row) refl
    where
      by : (b : Bool) → c.has member.Row ≡ b → list_all c.has (kept_members width c) ≡ true
      by true e = subst (λ b. list_all c.has (cond b (member.Row ∷ []) (columns_named (filter (is_new c) (all_columns width)))) ≡ true) (sym e) (λ i. e i && true)
      by false e = subst (λ b. list_all c.has (cond b (member.Row ∷ []) (columns_named (filter (is_new c) (all_columns width)))) ≡ true) (sym e) (columns_given (filter (is_new c) (all_columns width)) kept_columns)

are_targets : (width : ℕ) (X : List Member) → list_all (is_plain width) X ≡ true → list_all (is_target width) (map target_of X) ≡ true
are_targets width [] e = refl
are_targets width (member.Column c ∷ X) e = let p = and_parts (nat_lt c width) (list_all (is_plain width) X) e in λ i. p.0 i && are_targets width X p.1 i
are_targets width (member.Left ∷ X) e = absurd (false≢true e)
are_targets width (member.Right ∷ X) e = absurd (false≢true e)
are_targets width (member.Row ∷ X) e = are_targets width X e

pub same_members : (width : ℕ) (X : List Member) → list_all (is_plain width) X ≡ true → map member_of (map target_of X) ≡ X
same_members width [] e = refl
same_members width (member.Column c ∷ X) e = ap (λ l. member.Column c ∷ l) (same_members width X (and_parts (nat_lt c width) (list_all (is_plain width) X) e).1)
same_members width (member.Left ∷ X) e = absurd (false≢true e)
same_members width (member.Right ∷ X) e = absurd (false≢true e)
same_members width (member.Row ∷ X) e = ap (λ l. member.Row ∷ l) (same_members width X e)

-- ---- lists after a front

pub dropped_get : {X : Type 0} (all : List X) (n : ℕ) (x : X) (rest : List X) → drop n all ≡ x ∷ rest → slice_get all n ≡ Some x
dropped_get [] zero x rest e = cc
dropped_get [] (suc n) x rest e = cc
dropped_get (y ∷ all) zero x rest e = let f : y ≡ x = cc in ap Some f
dropped_get (y ∷ all) (suc n) x rest e = dropped_get all n x rest e

drop_next : {X : Type 0} (all : List X) (n : ℕ) (x : X) (rest : List X) → drop n all ≡ x ∷ rest → drop (suc n) all ≡ rest
drop_next [] zero x rest e = cc
drop_next [] (suc n) x rest e = cc
drop_next (y ∷ all) zero x rest e = let f : all ≡ rest = cc in f
drop_next (y ∷ all) (suc n) x rest e = drop_next all n x rest e

pub drop_more : {X : Type 0} (all : List X) (n : ℕ) (x : X) (rest : List X) → drop n all ≡ x ∷ rest → drop (n + 1) all ≡ rest
drop_more all n x rest e = let s : n + 1 ≡ suc n = omega arith in ap (λ k. drop k all) s ∙ drop_next all n x rest e

-- ---- claims

both_pass : (a b : Bool) (e f : CertError) → a ≡ true → b ≡ true → or_else (refuse_unless a e) (refuse_unless b f) ≡ None
both_pass a b e f p q = λ i. or_else (refuse_unless (p i) e) (refuse_unless (q i) f)

module _ (node : ℕ) (facts : FactList) (width : ℕ) where
  one_passes : (c : Closing) → IsClaim facts width c → kept_refusal node facts width (map target_of (kept_members width c)) (Some (shown node facts c)) ≡ None
  one_passes c is =
      let plain = members_plain width c in
      let reach : reaches_each facts (shown node facts c).has (map member_of (map target_of (kept_members width c))) ≡ true =
      ap (reaches_each facts (shown node facts c).has) (same_members width (kept_members width c) plain) ∙ each_reached node facts c is.closing (kept_members width c) (members_given width c) in
      both_pass (list_all (is_target width) (map target_of (kept_members width c))) (list_all (λ d. nat_lt d width) (once c.from) && reaches_each facts (shown node facts c).has (map member_of (map target_of (kept_members width c)))) (OutOfRange node) (UnreachedClaim node)
      (are_targets width (kept_members width c) plain) (λ i. once_all (λ d. nat_lt d width) c.from is.low i && reach i)

  pub keep_passes : (all : List Traced) (n : ℕ) (cs : List Closing) (rest : List Traced) → AllByRecursion (IsClaim facts width) cs → drop n all ≡ map (shown node facts) cs ++ rest → keep_refusal (record { node = node; facts = facts; shown = all }) width (keep_by width n cs) ≡ None
  keep_passes all n [] rest a e = refl
  keep_passes all n (c ∷ cs) rest a e =
      let here = dropped_get all n (shown node facts c) (map (shown node facts) cs ++ rest) e in
      let own : kept_refusal node facts width (map target_of (kept_members width c)) (slice_get all n) ≡ None = ap (kept_refusal node facts width (map target_of (kept_members width c))) here ∙ one_passes c a.0 in
      λ i. or_else (own i) (keep_passes all (n + 1) cs rest a.1 (drop_more all n (shown node facts c) (map (shown node facts) cs ++ rest) e) i)

-- ---- as facts

claim_plain : (facts : FactList) (width : ℕ) (c : Closing) → IsClaim facts width c → is_plain_fact width (kept_fact width c) ≡ true
claim_plain facts width c is = λ i. columns_are (once c.from) (once_all (λ d. nat_lt d width) c.from is.low) i && members_plain width c i
  where
    columns_are : (X : List ℕ) → AreBelow width X → list_all (is_plain width) (columns_named X) ≡ true
    columns_are [] e = refl
    columns_are (d ∷ X) e = let p = and_parts (nat_lt d width) (list_all (λ d. nat_lt d width) X) e in λ i. p.0 i && columns_are X p.1 i

pub claims_plain : (facts : FactList) (width : ℕ) (cs : List Closing) → AllByRecursion (IsClaim facts width) cs → ArePlain width (map (kept_fact width) cs)
claims_plain facts width [] a = tt
claims_plain facts width (c ∷ cs) a = (claim_plain facts width c a.0, claims_plain facts width cs a.1)

-- what an entry with these traces keeps
pub kept_are : (width : ℕ) (traces : List TraceRecord) (n : ℕ) (cs : List Closing) (rest : List TraceRecord) → drop n traces ≡ map trace_by cs ++ rest → map (rules.kept_fact traces) (keep_by width n cs) ≡ map (kept_fact width) cs
kept_are width traces n [] rest e = refl
kept_are width traces n (c ∷ cs) rest e =
    let here : trace_or (slice_get traces n) ≡ trace_by c = ap trace_or (dropped_get traces n (trace_by c) (map trace_by cs ++ rest) e) in
    let to = same_members width (kept_members width c) (members_plain width c) in
    λ i. record { from = columns_named (here i).from; to = to i } ∷ kept_are width traces (n + 1) cs rest (drop_more traces n (trace_by c) (map trace_by cs ++ rest) e) i
