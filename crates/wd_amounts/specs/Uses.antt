-- Uses of names, and what is known of the values of a name by its uses.
use Rattle.std.specs.Prelude.{ℕ, if◌then◌else◌, List, [], ◌∷◌, ◌++◌, Option, Some, None}
use Rattle.std.specs.Str.{bytes_eq}
use Rattle.wd_dialect_read.specs.declared.kind.ColumnKind.{ColumnKind}
use Rattle.wd_dialect_read.specs.declared.said.Item.{Item}
use Rattle.wd_dialect_read.specs.declared.said.Item.TheVariants as i
use Rattle.wd_dialect_read.specs.declared.said.Statement.{Statement}
use Rattle.wd_dialect_read.specs.declared.said.Statement.TheVariants as s

-- a use of a name, and what its values are there, where that is known
abbrev pub Use : Type 0 → Type 0
Use V = List ℕ × Option V

-- ---- the columns of a schema, by what the values of a column are

module _ {V : Type 0} (of_column : ColumnKind → Option V) where
  abbrev pub item_uses : Item → List (Use V)
  item_uses (i.Column c) = (c.name.text, of_column c.kind) ∷ []
  item_uses _ = []

  unfoldable pub items_uses : List Item → List (Use V)
  items_uses [] = []
  items_uses (item ∷ items) = item_uses item ++ items_uses items

  abbrev pub statement_uses : Statement → List (Use V)
  statement_uses (s.Table t) = items_uses t.items.items
  statement_uses (s.Changed t) = items_uses t.items.items
  statement_uses (s.Passed note) = []

  unfoldable pub column_uses : List Statement → List (Use V)
  column_uses [] = []
  column_uses (statement ∷ statements) = statement_uses statement ++ column_uses statements

-- ---- a name, by what values are that are the one or the other

abbrev pub in_uses : {V : Type 0} → Option (Option V) → Option V
in_uses None = None
in_uses (Some value) = value

module _ {V : Type 0} (either : Option V → Option V → Option V) where
  -- what the uses of a name come to so far, where it has any, and one more
  abbrev pub with_use : Option (Option V) → Option V → Option (Option V)
  with_use None value = Some value
  with_use (Some first) value = Some (either first value)

  abbrev pub with_next : Option (Option V) → Use V → List ℕ → Option (Option V)
  with_next so_far x name = if bytes_eq x.0 name then with_use so_far x.1 else so_far

  unfoldable pub agreed_from : Option (Option V) → List ℕ → List (Use V) → Option (Option V)
  agreed_from so_far name [] = so_far
  agreed_from so_far name (x ∷ xs) = agreed_from (with_next so_far x name) name xs

  -- what the values of a name are by its uses: what all of them come to
  abbrev pub known_by : List (Use V) → List ℕ → Option V
  known_by uses name = in_uses (agreed_from None name uses)
