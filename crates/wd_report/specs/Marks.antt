-- The rules of marks, as an index holds them.
use Rattle.std.specs.Prelude.{◌≡◌, ℕ, Bool, ◌&&◌, nat_eq, List, [], Option}
use Rattle.std.specs.HashMap as maps
use Rattle.std.specs.Option.{option_eq}
use Rattle.wd_analyse.specs.declared.analysis.Analysis.{Analysis}
use Rattle.wd_analyse.specs.declared.analysis.Analysis.TheVariants.{Certified, Open}
use Rattle.wd_analyse.specs.declared.analysis.Mark.{Mark}
use Rattle.wd_analyse.specs.declared.analysis.RuleName.{RuleName}
use Rattle.wd_report.specs.declared.marks.MarkedRules.{MarkedRules}
use Rattle.wd_report.specs.Plans.{rule_marked}

-- a node's number, and that of a call, or none for a limit
abbrev pub Place : Type 0
Place = ℕ × Option ℕ

abbrev pub is_same_place : Place → Place → Bool
is_same_place place other = nat_eq place.0 other.0 && option_eq nat_eq place.1 other.1

-- the rule of a call or a limit in an index
abbrev pub rule_in : MarkedRules → ℕ → Option ℕ → Option RuleName
rule_in index node call = maps.get is_same_place index.rules (node, call)

-- the marks of an analysis; a certified one has none
abbrev pub marks_in : Analysis → List Mark
marks_in (Certified certificate) = []
marks_in (Open reasons marks) = marks.items

-- the index has the rule of each call and limit that has a mark
abbrev pub HasRules : List Mark → MarkedRules → Type 0
HasRules marks index = (node : ℕ) (call : Option ℕ) → rule_in index node call ≡ rule_marked node call marks
