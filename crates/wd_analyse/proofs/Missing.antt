-- The least column that is not given, among those from a number on.
use Rattle.std.proofs.Common.{◌≡◌, ℕ, ◌+◌, ◌-◌, ◌<◌, ◌≤◌, Bool, ap, Option, None, if◌then◌else◌, Some}
use Rattle.std.specs.List.{range_with_len}
use Rattle.wd_step_facts.specs.declared.facts.Member.{Member}
use Rattle.wd_step_facts.specs.declared.facts.Member.TheVariants.{Column}
use Rattle.wd_close.proofs.Ranges.{range_more, range_none}
use Rattle.wd_analyse.specs.Decisions.{missing_of}

abbrev pub missing_from : (Member → Bool) → ℕ → ℕ → Option ℕ
missing_from has a b = missing_of has (range_with_len a (b - a))

pub missing_more : (has : Member → Bool) (a b : ℕ) → a < b → missing_from has a b ≡ (if has (Column a) then missing_from has (a + 1) b else Some a)
missing_more has a b h = ap (missing_of has) (range_more a b h)

pub missing_none : (has : Member → Bool) (a b : ℕ) → b ≤ a → missing_from has a b ≡ None
missing_none has a b h = ap (missing_of has) (range_none a b h)
