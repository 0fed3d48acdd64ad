-- A trace and its lean form show the same, over facts that are alike.
use Rattle.std.proofs.Common.{◌≡◌, ℕ, zero, suc, Bool, cond, ◌||◌, List, [], ◌∷◌, refl, sym, ◌∙◌, ap, slice_get, nat_lt, Ok, Err}
use Rattle.std.specs.List.{list_all}
use Rattle.wd_certificate.specs.Certificates.{TraceRecord}
use Rattle.wd_certificate.specs.declared.error.CertError.TheVariants.{OutOfRange, UnreachedUse}
use Rattle.wd_step_facts.specs.declared.facts.Member.{Member}
use Rattle.wd_step_facts.specs.declared.facts.Member.TheVariants as member
use Rattle.wd_step_facts.specs.Facts.{Fact, FactList, columns_named}
use Rattle.wd_sets.specs.Sets.{stands_in}
use Rattle.wd_sets.specs.Reaches.{also, reaches, reaches_each}
use Rattle.wd_rules.specs.Traces.{and_then, traced, with_use, with_uses}
use Rattle.wd_traces.specs.Once.{columns_once, lean_trace}
use Rattle.wd_traces.proofs.AlikeFacts.{AreAlike, alike_self, with_list}
use Rattle.wd_traces.proofs.Once.{IsAlike, alike_stand, columns_all, columns_alike}

module _ (node : ℕ) (facts : FactList) (list : List Fact) where
  abbrev Other : FactList
  Other = with_list facts list

  -- ---- what is reached

  reaches_same : (has : Member → Bool) (m : Member) → reaches facts has m ≡ reaches Other has m
  reaches_same has (member.Column c) = refl
  reaches_same has member.Left = refl
  reaches_same has member.Right = refl
  reaches_same has member.Row = refl

  pub each_alike : (has : Member → Bool) (X Y : List Member) → IsAlike X Y → reaches_each facts has X ≡ reaches_each Other has Y
  each_alike has X Y h = h (reaches facts has) ∙ (λ i. list_all (λ m. reaches_same has m i) Y)

  pub each_same : (has : Member → Bool) (X : List Member) → reaches_each facts has X ≡ reaches_each Other has X
  each_same has X = each_alike has X X (λ t. refl)

  -- ---- traces

  also_alike : (has : Member → Bool) (X Y : List Member) → IsAlike X Y → also has X ≡ also has Y
  also_alike has X Y h = λ i m. also_at m i
    where
      also_at : (m : Member) → also has X m ≡ also has Y m
      also_at m = ap (λ b. has m || b) (alike_stand X Y h m)

  use_alike : (has : Member → Bool) (fs gs : List Fact) → AreAlike fs gs → (n : ℕ) → with_use node facts has (slice_get fs n) ≡ with_use node Other has (slice_get gs n)
  use_alike has [] [] a n = refl
  use_alike has [] (g ∷ gs) a n = absurd a
  use_alike has (f ∷ fs) [] a n = absurd a
  use_alike has (f ∷ fs) (g ∷ gs) a zero =
      let left = each_alike has f.from g.from a.0.from in
      let right = also_alike has f.to g.to a.0.to in
      λ i. cond (left i) (Ok (right i)) (Err (UnreachedUse node))
  use_alike has (f ∷ fs) (g ∷ gs) a (suc n) = use_alike has fs gs a.1 n

  module _ (alike : AreAlike facts.list list) where
    uses_alike : (has : Member → Bool) (uses : List ℕ) → with_uses node facts has uses ≡ with_uses node Other has uses
    uses_alike has [] = refl
    uses_alike has (n ∷ uses) = λ i. and_then (use_alike has facts.list list alike n i) (λ more. uses_alike more uses i)

    pub traced_alike : (trace : TraceRecord) → traced node facts trace ≡ traced node Other (lean_trace trace)
    traced_alike trace =
        let below = columns_all (λ c. nat_lt c facts.columns) trace.from in
        let stand : stands_in (columns_named trace.from) ≡ stands_in (columns_named (columns_once trace.from)) = λ i m. alike_stand _ _ (columns_alike trace.from) m i in
        let uses = uses_alike (stands_in (columns_named trace.from)) trace.uses ∙ ap (λ has. with_uses node Other has trace.uses) stand in
        λ i. cond (below i) (uses i) (Err (OutOfRange node))

-- ---- over the same facts

pub traced_lean : (node : ℕ) (facts : FactList) (trace : TraceRecord) → traced node facts (lean_trace trace) ≡ traced node facts trace
traced_lean node facts trace = sym (traced_alike node facts facts.list (alike_self facts.list) trace)
