-- How often lines are counted.
use Rattle.std.specs.Prelude.{ℕ, Bool, List, String, if◌then◌else◌}
use Rattle.std.specs.HashMap.{HashMap, get_by_text}
use Rattle.std.specs.Option.{unwrap_or}

abbrev pub one_if : Bool → ℕ
one_if b = if b then 1 else 0

-- the count of a line, 0 for a line that is not listed
abbrev pub count_in : {Y S : Type 0} → HashMap (String Y) ℕ S → List ℕ → ℕ
count_in counts line = unwrap_or (get_by_text counts line) 0
