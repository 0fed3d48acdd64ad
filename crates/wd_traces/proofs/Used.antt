-- A fact that a trace has used changes nothing where it is used again, also after others.
use Rattle.std.proofs.Common.{◌≡◌, ℕ, Bool, true, false, ◌&&◌, ◌||◌, refl, sym, ◌∙◌, ap, cond, Ok, Err, Option, Some, None, List, [], ◌∷◌, nat_lt, nat_le, slice_get, set, replicate, zero, suc, inl, inr, ◌⊎◌, ⊎_elim}
use Rattle.std.proofs.lemmas.Bool.{false≢true}
use Rattle.std.proofs.lemmas.Option.{none-some, same_Some}
use Rattle.wd_certificate.specs.declared.error.CertError.TheVariants.{UnreachedUse}
use Rattle.wd_step_facts.specs.declared.facts.Member.{Member}
use Rattle.wd_step_facts.specs.declared.facts.Member.TheVariants.{Column, Left, Right, Row}
use Rattle.wd_step_facts.specs.Facts.{Fact, FactList}
use Rattle.wd_sets.specs.Sets.{stands_in}
use Rattle.wd_sets.specs.Reaches.{also, by_side, has_row, reaches, reaches_each}
use Rattle.wd_rules.specs.Traces.{with_use}
use Rattle.wd_traces.specs.Used.{AreUsed, Marks}
use Rattle.wd_traces.proofs.Members.{used_is}

-- ---- more members reach more

abbrev IsBelow : (Member → Bool) → (Member → Bool) → Type 0
IsBelow has more = (m : Member) → has m ≡ true → more m ≡ true

or_below : (a b c d : Bool) → (a ≡ true → c ≡ true) → (b ≡ true → d ≡ true) → (a || b) ≡ true → (c || d) ≡ true
or_below true b c d f g h = ap (λ x. x || d) (f refl)
or_below false b true d f g h = refl
or_below false b false d f g h = g h

and_below : (a b c d : Bool) → (a ≡ true → c ≡ true) → (b ≡ true → d ≡ true) → (a && b) ≡ true → (c && d) ≡ true
and_below true b c d f g h = ap (λ x. x && d) (f refl) ∙ g h
and_below false b c d f g h = absurd (false≢true h)

module _ (has more : Member → Bool) (below : IsBelow has more) where
  row_below : (split : Option ℕ) → has_row split has ≡ true → has_row split more ≡ true
  row_below None h = below Row h
  row_below (Some split) h =
      or_below (has Row) (has Left && has Right) (more Row) (more Left && more Right) (below Row) (and_below (has Left) (has Right) (more Left) (more Right) (below Left) (below Right)) h

  side_below : (split : Option ℕ) (columns c : ℕ) → by_side split columns has c ≡ true → by_side split columns more c ≡ true
  side_below None columns c h = h
  side_below (Some split) columns c h =
      or_below (has Left && nat_lt c split) (has Right && (nat_le split c && nat_lt c columns)) (more Left && nat_lt c split) (more Right && (nat_le split c && nat_lt c columns))
      (and_below (has Left) (nat_lt c split) (more Left) (nat_lt c split) (below Left) (λ e. e))
      (and_below (has Right) (nat_le split c && nat_lt c columns) (more Right) (nat_le split c && nat_lt c columns) (below Right) (λ e. e))
      h

  reached_below : (facts : FactList) (m : Member) → reaches facts has m ≡ true → reaches facts more m ≡ true
  reached_below facts (Column c) h =
      or_below (has (Column c)) (by_side facts.split facts.columns has c || has_row facts.split has) (more (Column c)) (by_side facts.split facts.columns more c || has_row facts.split more) (below (Column c))
      (or_below (by_side facts.split facts.columns has c) (has_row facts.split has) (by_side facts.split facts.columns more c) (has_row facts.split more) (side_below facts.split facts.columns c) (row_below facts.split))
      h
  reached_below facts Left h = or_below (has Left) (has_row facts.split has) (more Left) (has_row facts.split more) (below Left) (row_below facts.split) h
  reached_below facts Right h = or_below (has Right) (has_row facts.split has) (more Right) (has_row facts.split more) (below Right) (row_below facts.split) h
  reached_below facts Row h = row_below facts.split h

  each_below : (facts : FactList) (members : List Member) → reaches_each facts has members ≡ true → reaches_each facts more members ≡ true
  each_below facts [] h = refl
  each_below facts (m ∷ members) h =
      and_below (reaches facts has m) (reaches_each facts has members) (reaches facts more m) (reaches_each facts more members) (reached_below facts m) (each_below facts members) h

-- ---- a fact that was used

passed : {X E : Type 0} (b : Bool) (x y : X) (e : E) → cond b (Ok x) (Err e) ≡ Ok y → (b ≡ true) × (x ≡ y)
passed true x y e h = (refl, cc)
passed false x y e h = cc

-- where another stands among those that are there, so it does among more
there : (has another more : Bool) → (has || another) ≡ has → (has ≡ true → more ≡ true) → (more || another) ≡ more
there true another more e below = ap (λ x. x || another) (below refl) ∙ sym (below refl)
there false another true e below = refl
there false another false e below = e

twice : (has another : Bool) → ((has || another) || another) ≡ (has || another)
twice true another = refl
twice false true = refl
twice false false = refl

module _ (node : ℕ) (facts : FactList) where
  grows : (has more : Member → Bool) (fact : Fact) → also has fact.to ≡ more → IsBelow has more
  grows has more fact is m e = sym (ap (λ s. s m) is) ∙ ap (λ b. b || stands_in fact.to m) e

  -- it is still good after another use
  still_used : (has more : Member → Bool) (used other : Option Fact) → with_use node facts has other ≡ Ok more → with_use node facts has used ≡ Ok has → with_use node facts more used ≡ Ok more
  still_used has more used None h g = cc
  still_used has more None (Some other) h g = cc
  still_used has more (Some fact) (Some other) h g =
      let first = passed (reaches_each facts has other.from) (also has other.to) more (UnreachedUse node) h in
      let second = passed (reaches_each facts has fact.from) (also has fact.to) has (UnreachedUse node) g in
      let below = grows has more other first.1 in
      used_is node facts more more fact (each_below has more below facts fact.from second.0) (λ m. sym (there (has m) (stands_in fact.to m) (more m) (ap (λ s. s m) second.1) (below m)))

  -- and after its own
  now_used : (has more : Member → Bool) (used : Option Fact) → with_use node facts has used ≡ Ok more → with_use node facts more used ≡ Ok more
  now_used has more None h = cc
  now_used has more (Some fact) h =
      let first = passed (reaches_each facts has fact.from) (also has fact.to) more (UnreachedUse node) h in
      let below = grows has more fact first.1 in
      let is : (m : Member) → more m ≡ also has fact.to m = λ m. ap (λ s. s m) (sym first.1) in
      used_is node facts more more fact (each_below has more below facts fact.from first.0) (λ m. is m ∙ sym (twice (has m) (stands_in fact.to m)) ∙ ap (λ b. b || stands_in fact.to m) (sym (is m)))

  pub marked : (has more : Member → Bool) (old new : List (Option ℕ)) (number : ℕ) → with_use node facts has (slice_get facts.list number) ≡ Ok more → AreUsed node facts has old → Marks number old new → AreUsed node facts more new
  marked has more old new number h before marks i n at =
      ⊎_elim (λ e. ap (λ k. with_use node facts more (slice_get facts.list k)) e ∙ now_used has more (slice_get facts.list number) h)
      (λ e. still_used has more (slice_get facts.list n) (slice_get facts.list number) h (before i n e))
      (marks i n at)

-- ---- places

-- a number that is put at a place
pub put_at : (used : List (Option ℕ)) (k number i n : ℕ) → slice_get (set used k (Some number)) i ≡ Some (Some n) → (n ≡ number) ⊎ (slice_get used i ≡ Some (Some n))
put_at [] zero number i n e = inr e
put_at [] (suc k) number i n e = inr e
put_at (x ∷ used) zero number zero n e = inl (let f : Some number ≡ Some n = same_Some (Some number) (Some n) e in sym (same_Some number n f))
put_at (x ∷ used) zero number (suc i) n e = inr e
put_at (x ∷ used) (suc k) number zero n e = inr e
put_at (x ∷ used) (suc k) number (suc i) n e = put_at used k number i n e

-- at first nothing is remembered
pub none_at : (count i n : ℕ) → slice_get (replicate count None) i ≡ Some (Some n) → ⊥
none_at zero i n e = none-some (Some n) e
none_at (suc count) zero n e = none-some n (same_Some None (Some n) e)
none_at (suc count) (suc i) n e = none_at count i n e
