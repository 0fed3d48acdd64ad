-- What columns determine at a node, and the facts that show it.
use Rattle.std.specs.Prelude.{◌≡◌, ℕ, Bool, true, List, [], ◌∷◌, ◌++◌, nat_lt, if◌then◌else◌}
use Rattle.std.specs.List.{list_all}
use Rattle.wd_certificate.specs.Certificates.{TraceRecord}
use Rattle.wd_step_facts.specs.declared.facts.Member.{Member}
use Rattle.wd_step_facts.specs.Facts.{FactList, columns_named}
use Rattle.wd_sets.specs.Sets.{has, is_in, stands_in}
use Rattle.wd_close.specs.Closure.{Derives, IsClosure}
use Rattle.wd_analyse.specs.declared.closed.Closed.{Closed}

-- columns, what they determine, and the uses of facts that show it
pub record Closing : Type 0 where
  pub from : List ℕ
  pub has : Member → Bool
  pub uses : List ℕ

abbrev pub closing_of : Closed → Closing
closing_of closed = record { from = closed.from.items; has = has closed.set; uses = closed.uses.items }

pub record IsClosing (facts : FactList) (c : Closing) : Type 0 where
  pub below : list_all (λ c. nat_lt c facts.columns) c.from ≡ true
  pub members : IsClosure facts c.from c.has
  pub derived : Derives facts c.uses (stands_in (columns_named c.from)) c.has

-- columns that were met, and one more unless it was met
abbrev pub met_with : List ℕ → ℕ → List ℕ
met_with met c = if is_in met c then met else (met ++ c ∷ [])

-- the columns that were not met before, each where it is met first
abbrev pub once_after : List ℕ → List ℕ → List ℕ
once_after met [] = []
once_after met (c ∷ X) = if is_in met c then once_after met X else (c ∷ once_after (met ++ c ∷ []) X)

-- columns in the order in which they are met, each once
abbrev pub once : List ℕ → List ℕ
once X = once_after [] X

-- the trace that shows what columns determine
abbrev pub trace_by : Closing → TraceRecord
trace_by c = record { from = once c.from; uses = c.uses }
