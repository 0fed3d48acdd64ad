-- What columns give is shown by its trace.
use Rattle.std.proofs.Common.{◌≡◌, ℕ, Bool, true, cond, ◌&&◌, List, [], ◌∷◌, map, nat_lt, slice_get, refl, sym, ◌∙◌, ap, subst, Option, Some, None, Ok, Err}
use Rattle.std.specs.List.{AllByRecursion, list_all}
use Rattle.std.proofs.lemmas.Bool.{and_parts}
use Rattle.wd_certificate.specs.declared.error.CertError.TheVariants.{OutOfRange, UnreachedUse}
use Rattle.wd_step_facts.specs.declared.facts.Member.{Member}
use Rattle.wd_step_facts.specs.Facts.{Fact, FactList, columns_named}
use Rattle.wd_sets.specs.Reaches.{also, reaches, reaches_each}
use Rattle.wd_sets.specs.Sets.{stands_in}
use Rattle.wd_close.specs.Closure.{Derives}
use Rattle.wd_rules.specs.Traces.{Traced, and_then, each_traced, traced, with_use, with_uses}
use Rattle.wd_analyse.specs.Evidence.{Closing, IsClosing, once, trace_by}
use Rattle.wd_analyse.proofs.Once.{once_all, once_members}

-- what is there after a use, and after uses
abbrev pub with_fact : (Member → Bool) → Option Fact → Member → Bool
with_fact has None = has
with_fact has (Some fact) = also has fact.to

abbrev pub after : FactList → (Member → Bool) → List ℕ → Member → Bool
after facts has [] = has
after facts has (n ∷ uses) = after facts (with_fact has (slice_get facts.list n)) uses

module _ (node : ℕ) (facts : FactList) where
  one_used : (has : Member → Bool) (o : Option Fact) (uses : List ℕ) (fact : Fact) → o ≡ Some fact → reaches_each facts has fact.from ≡ true → with_uses node facts (also has fact.to) uses ≡ Ok (after facts (also has fact.to) uses) → and_then (with_use node facts has o) (λ more. with_uses node facts more uses) ≡ Ok (after facts (with_fact has o) uses)
  one_used has o uses fact is e later =
      subst (λ x. and_then (with_use node facts has x) (λ more. with_uses node facts more uses) ≡ Ok (after facts (with_fact has x) uses)) (sym is)
      (ap (λ b. and_then (cond b (Ok (also has fact.to)) (Err (UnreachedUse node))) (λ more. with_uses node facts more uses)) e ∙ later)

  uses_there : (uses : List ℕ) (has others : Member → Bool) → Derives facts uses has others → with_uses node facts has uses ≡ Ok (after facts has uses)
  uses_there [] has others d = refl
  uses_there (n ∷ uses) has others d = one_used has (slice_get facts.list n) uses d.0 d.1 d.2 (uses_there uses (also has d.0.to) others d.3)

  uses_reach : (uses : List ℕ) (has others : Member → Bool) → Derives facts uses has others → (m : Member) → others m ≡ true → reaches facts (after facts has uses) m ≡ true
  uses_reach [] has others d m e = d m e
  uses_reach (n ∷ uses) has others d m e = subst (λ o. reaches facts (after facts (with_fact has o) uses) m ≡ true) (sym d.1) (uses_reach uses (also has d.0.to) others d.3 m e)

  abbrev pub shown : Closing → Traced
  shown c = record { from = once c.from; has = after facts (stands_in (columns_named c.from)) c.uses }

  pub is_traced : (c : Closing) → IsClosing facts c → traced node facts (trace_by c) ≡ Ok (after facts (stands_in (columns_named c.from)) c.uses)
  is_traced c is =
      ap (λ b. cond b (with_uses node facts (stands_in (columns_named (once c.from))) c.uses) (Err (OutOfRange node))) (once_all (λ c. nat_lt c facts.columns) c.from is.below)
      ∙ ap (λ has. with_uses node facts has c.uses) (once_members c.from)
      ∙ uses_there c.uses (stands_in (columns_named c.from)) c.has is.derived

  pub reached : (c : Closing) → IsClosing facts c → (m : Member) → c.has m ≡ true → reaches facts (shown c).has m ≡ true
  reached c is m e = uses_reach c.uses (stands_in (columns_named c.from)) c.has is.derived m e

  pub each_reached : (c : Closing) → IsClosing facts c → (X : List Member) → list_all c.has X ≡ true → reaches_each facts (shown c).has X ≡ true
  each_reached c is [] e = refl
  each_reached c is (m ∷ X) e = let p = and_parts (c.has m) (list_all c.has X) e in λ i. reached c is m p.0 i && each_reached c is X p.1 i

  -- each of some traces
  pub are_traced : (cs : List Closing) → AllByRecursion (IsClosing facts) cs → each_traced node facts (map trace_by cs) ≡ Ok (map shown cs)
  are_traced [] a = refl
  are_traced (c ∷ cs) a =
      ap (λ r. and_then r (λ has. and_then (each_traced node facts (map trace_by cs)) (λ rest. Ok (record { from = once c.from; has = has } ∷ rest)))) (is_traced c a.0)
      ∙ ap (λ r. and_then r (λ rest. Ok (shown c ∷ rest))) (are_traced cs a.1)
