-- The traces that the claims of an entry name.
use Rattle.std.specs.Prelude.{ℕ, Bool, true, false, ◌||◌, List, get_or, nat_eq, Option, Some, None}
use Rattle.std.specs.List.{list_any}
use Rattle.wd_certificate.specs.Certificates.{KeptRecord, NodeRecord}
use Rattle.wd_certificate.specs.Json.{rule_trace}
use Rattle.wd_certificate.specs.declared.certificate.Rule.{Rule}

-- a claim names a number
abbrev pub is_it : Option ℕ → ℕ → Bool
is_it None n = false
is_it (Some number) n = nat_eq n number

abbrev pub is_of_kept : List KeptRecord → ℕ → Bool
is_of_kept keep n = list_any (λ (kept : KeptRecord). nat_eq n kept.trace) keep

abbrev pub is_of_calls : List Rule → ℕ → Bool
is_of_calls rules n = list_any (λ rule. is_it (rule_trace rule) n) rules

-- a call or the limit names the trace with this number
abbrev pub is_of_rules : NodeRecord → ℕ → Bool
is_of_rules entry n = is_of_calls entry.calls n || is_it entry.limit n

-- the number is marked; one past the marks counts as marked
abbrev pub is_marked : List Bool → ℕ → Bool
is_marked marks n = get_or marks n true
