-- Lists in which nothing stands twice, and traces that start from no column twice.
use Rattle.std.specs.Prelude.{ℕ, Bool, false, ◌||◌, List, [], ◌∷◌, if◌then◌else◌}
use Rattle.wd_certificate.specs.Certificates.{TraceRecord}
use Rattle.wd_step_facts.specs.declared.facts.Member.{Member}
use Rattle.wd_step_facts.specs.declared.facts.Member.TheVariants as member
use Rattle.wd_sets.specs.Sets.{same_member}

-- those elements whose members are not in the test, each once
abbrev pub once_after : {X : Type 0} → (X → Member) → (Member → Bool) → List X → List X
once_after name met [] = []
once_after name met (x ∷ xs) = if met (name x) then once_after name met xs else (x ∷ once_after name (λ m. same_member m (name x) || met m) xs)

-- each element once, in the order of first appearance; elements are equal where they name one member
abbrev pub once : {X : Type 0} → (X → Member) → List X → List X
once name xs = once_after name (λ m. false) xs

abbrev pub columns_once : List ℕ → List ℕ
columns_once columns = once (λ c. member.Column c) columns

abbrev pub lean_trace : TraceRecord → TraceRecord
lean_trace trace = record { from = columns_once trace.from; uses = trace.uses }
