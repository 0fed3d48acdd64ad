-- Traces: what follows from a list of columns by given facts, used one after another.
use Rattle.std.specs.Prelude.{ℕ, Bool, List, [], ◌∷◌, nat_lt, slice_get, Option, Some, None, Result, Ok, Err, if◌then◌else◌}
use Rattle.std.specs.List.{list_all}
use Rattle.wd_certificate.specs.Certificates.{TraceRecord}
use Rattle.wd_certificate.specs.declared.error.CertError.{CertError}
use Rattle.wd_certificate.specs.declared.error.CertError.TheVariants.{UnreachedUse, OutOfRange}
use Rattle.wd_step_facts.specs.declared.facts.Member.{Member}
use Rattle.wd_step_facts.specs.Facts.{Fact, FactList, columns_named}
use Rattle.wd_sets.specs.Reaches.{also, reaches_each}
use Rattle.wd_sets.specs.Sets.{stands_in}

-- ---- a trace, at the node with the given number

abbrev pub and_then : {X Y : Type 0} → Result X CertError → (X → Result Y CertError) → Result Y CertError
and_then (Ok x) f = f x
and_then (Err refusal) f = Err refusal

-- a use names a given fact whose left side is reached; its right side is added to the members
abbrev pub with_use : ℕ → FactList → (Member → Bool) → Option Fact → Result (Member → Bool) CertError
with_use node facts has None = Err (OutOfRange node)
with_use node facts has (Some fact) = if reaches_each facts has fact.from then Ok (also has fact.to) else Err (UnreachedUse node)

-- the members after these uses, one after another
abbrev pub with_uses : ℕ → FactList → (Member → Bool) → List ℕ → Result (Member → Bool) CertError
with_uses node facts has [] = Ok has
with_uses node facts has (n ∷ uses) = and_then (with_use node facts has (slice_get facts.list n)) (λ more. with_uses node facts more uses)

-- the members after a trace, which starts from columns of the facts
abbrev pub traced : ℕ → FactList → TraceRecord → Result (Member → Bool) CertError
traced node facts trace =
    if list_all (λ c. nat_lt c facts.columns) trace.from then with_uses node facts (stands_in (columns_named trace.from)) trace.uses else Err (OutOfRange node)

-- a trace's columns, and the members after its uses; what follows from these is reached
pub record Traced : Type 0 where
  pub from : List ℕ
  pub has : Member → Bool

-- each trace, in order
abbrev pub each_traced : ℕ → FactList → List TraceRecord → Result (List Traced) CertError
each_traced node facts [] = Ok []
each_traced node facts (trace ∷ traces) =
    and_then (traced node facts trace) (λ has. and_then (each_traced node facts traces) (λ shown. Ok (record { from = trace.from; has = has } ∷ shown)))
