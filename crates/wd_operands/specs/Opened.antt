-- The brackets that the code has open, as a list.
use Rattle.std.specs.Prelude.{ℕ, zero, suc, List, [], ◌∷◌, slice_index_or}
use Rattle.wd_operands.specs.declared.nest.Bracket.{Bracket}
use Rattle.wd_operands.specs.declared.nest.Bracket.TheVariants.{Round}
use Rattle.wd_operands.specs.declared.nest.Open.{Open}

-- the first n brackets, the last of them first
abbrev pub last_first : ℕ → List Bracket → List Bracket
last_first zero brackets = []
last_first (suc count) brackets = slice_index_or brackets count Round ∷ last_first count brackets

-- what is open, the last opened first
abbrev pub open_in : Open → List Bracket
open_in unclosed = last_first unclosed.count unclosed.brackets
