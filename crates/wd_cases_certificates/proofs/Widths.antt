-- Facts of rows of so many columns.
use Rattle.std.proofs.Common.{◌≡◌, ℕ, List, min, ◌-◌, ◌^◌, true}
use Rattle.std.proofs.Math.Nat.{min-le_left}
use Rattle.std.specs.List.{list_all}
use Rattle.wd_step_facts.specs.Facts.{Fact, is_plain_fact}
use Rattle.wd_facts.specs.Laws.{ArePlain}
use Rattle.wd_facts.proofs.Plain.{facts_wider}
use Rattle.wd_rules.proofs.Traces.{all_pass}

pub capped : (width : ℕ) (facts : List Fact) → list_all (is_plain_fact (min width (2 ^ 32 - 1))) facts ≡ true → ArePlain width facts
capped width facts h = all_pass (λ fact. is_plain_fact width fact ≡ true) (is_plain_fact width) (λ fact is. is) facts
    (facts_wider (min width (2 ^ 32 - 1)) width (min-le_left width (2 ^ 32 - 1)) facts (all_pass (λ fact. is_plain_fact (min width (2 ^ 32 - 1)) fact ≡ true) (is_plain_fact (min width (2 ^ 32 - 1))) (λ fact is. is) facts h))
