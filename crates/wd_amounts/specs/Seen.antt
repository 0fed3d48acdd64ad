-- What the code keeps, seen as in the definitions.
use Rattle.std.specs.Prelude.{ℕ, List, Option}
use Rattle.std.specs.HashMap.{get_by_text}
use Rattle.wd_amounts.specs.declared.known.KnownNames.{KnownNames}
use Rattle.wd_amounts.specs.declared.uses.NameUse.{NameUse}
use Rattle.wd_amounts.specs.Uses.{Use, in_uses}

abbrev pub use_seen : {V : Type 0} → NameUse V → Use V
use_seen u = (u.name.now, u.value)

-- what the uses of a name come to by what is kept of them, where there are any
abbrev pub kept_seen : {V : Type 0} → KnownNames V → List ℕ → Option (Option V)
kept_seen known name = get_by_text known.values name

-- what the values of a name are by what is kept of it
abbrev pub known_seen : {V : Type 0} → KnownNames V → List ℕ → Option V
known_seen known name = in_uses (kept_seen known name)
