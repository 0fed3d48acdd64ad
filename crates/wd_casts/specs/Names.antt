-- The kinds of the names of a query.
use Rattle.std.specs.Prelude.{ℕ, Bool, true, false, if◌then◌else◌, List, [], ◌∷◌, ◌++◌, Option, Some, None}
use Rattle.wd_lex.specs.declared.token.Token.{Token}
use Rattle.wd_dialect_read.specs.declared.said.Statement.{Statement}
use Rattle.wd_amounts.specs.Names.{given_names, has_lists}
use Rattle.wd_amounts.specs.Uses.{Use, column_uses, known_by}
use Rattle.wd_casts.specs.declared.kind.Kind.{Kind}
use Rattle.wd_casts.specs.declared.kind.Kind.TheVariants as k
use Rattle.wd_casts.specs.Kinds.{kind_of_column}

-- ---- the columns of the schema, and the names that the query gives

-- the kind of a name that the query gives is not known
unfoldable pub unknown_uses : List (List ℕ) → List (Use Kind)
unknown_uses [] = []
unknown_uses (name ∷ names) = (name, None) ∷ unknown_uses names

-- the uses of names in a query: none are known where it gives whole lists of names
unfoldable pub uses : List Statement → List Token → List (Use Kind)
uses statements tokens = if has_lists false tokens then [] else column_uses kind_of_column statements ++ unknown_uses (given_names false tokens)

-- ---- the kind of a name

-- the kind of the values of a name, where that is known
abbrev pub Kinds : Type 0
Kinds = List ℕ → Option Kind

abbrev pub is_same : Kind → Kind → Bool
is_same k.Small k.Small = true
is_same k.Whole k.Whole = true
is_same k.Big k.Big = true
is_same k.Boolean k.Boolean = true
is_same k.Text k.Text = true
is_same k.Date k.Date = true
is_same k.Timestamp k.Timestamp = true
is_same k.Interval k.Interval = true
is_same _ _ = false

-- the kind of values that are of the one or the other
abbrev pub either : Option Kind → Option Kind → Option Kind
either (Some first) (Some second) = if is_same first second then Some first else None
either _ _ = None

-- the kind of a name, where all its uses are known to be of that kind
abbrev pub kind_named : List (Use Kind) → Kinds
kind_named uses = known_by either uses
