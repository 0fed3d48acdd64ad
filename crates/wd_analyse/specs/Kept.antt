-- What a node keeps.
use Rattle.std.specs.Prelude.{ℕ, ◌+◌, Bool, not, ◌&&◌, List, [], ◌∷◌, filter, map, if◌then◌else◌}
use Rattle.wd_certificate.specs.Certificates.{KeptRecord}
use Rattle.wd_certificate.specs.declared.certificate.Target.{Target}
use Rattle.wd_certificate.specs.declared.certificate.Target.TheVariants as target
use Rattle.wd_step_facts.specs.declared.facts.Member.{Member}
use Rattle.wd_step_facts.specs.declared.facts.Member.TheVariants as member
use Rattle.wd_step_facts.specs.Facts.{Fact, columns_named}
use Rattle.wd_step_facts.specs.Steps.{all_columns}
use Rattle.wd_sets.specs.Sets.{is_in}
use Rattle.wd_analyse.specs.Evidence.{Closing, once}

-- a column that is determined, and is not among the columns that determine it
abbrev pub is_new : Closing → ℕ → Bool
is_new c column = c.has (member.Column column) && not (is_in c.from column)

abbrev pub new_one : Closing → ℕ → List ℕ
new_one c column = if is_new c column then column ∷ [] else []

-- what a node with `width` columns keeps of what some of them determine: the row, else the other columns
abbrev pub kept_members : ℕ → Closing → List Member
kept_members width c = if c.has member.Row then member.Row ∷ [] else columns_named (filter (is_new c) (all_columns width))

abbrev pub kept_fact : ℕ → Closing → Fact
kept_fact width c = record { from = columns_named (once c.from); to = kept_members width c }

abbrev pub target_of : Member → Target
target_of (member.Column c) = target.Column c
target_of member.Left = target.Row
target_of member.Right = target.Row
target_of member.Row = target.Row

-- what an entry keeps, shown by the traces from this number on
abbrev pub keep_by : ℕ → ℕ → List Closing → List KeptRecord
keep_by width n [] = []
keep_by width n (c ∷ cs) = record { to = map target_of (kept_members width c); trace = n } ∷ keep_by width (n + 1) cs
