-- The facts that a trace has used and that are remembered, each at a place of its own.
use Rattle.std.specs.Prelude.{◌≡◌, ◌⊎◌, ℕ, Bool, List, Option, Some, slice_get, Ok}
use Rattle.wd_step_facts.specs.declared.facts.Member.{Member}
use Rattle.wd_step_facts.specs.Facts.{FactList}
use Rattle.wd_rules.specs.Traces.{with_use}

-- a second use of these facts, with the present members, is good and changes nothing
abbrev pub AreUsed : ℕ → FactList → (Member → Bool) → List (Option ℕ) → Type 0
AreUsed node facts has used = (i n : ℕ) → slice_get used i ≡ Some (Some n) → with_use node facts has (slice_get facts.list n) ≡ Ok has

-- this number came to a place, and no other one
abbrev pub Marks : ℕ → List (Option ℕ) → List (Option ℕ) → Type 0
Marks number old new = (i n : ℕ) → slice_get new i ≡ Some (Some n) → (n ≡ number) ⊎ (slice_get old i ≡ Some (Some n))
