-- The token at which a select passes a limit, as reading meets it: it opens a level where none is left, or is one operator too many
-- of its chain.
use Rattle.std.specs.Prelude.{◌⊎◌, ℕ, List, [], ◌∷◌, Option, Some, None}
use Rattle.wd_lex.specs.declared.token.Terminal.TheVariants as m
use Rattle.wd_read_cursor.specs.declared.name.Name.{Name}
use Rattle.wd_read_cursor.specs.Tokens.{Kinds, ◌▸◌}
use Rattle.wd_syntax.specs.Tree.{Tree, WindowTree, ItemTree, all_columns, all_of, shown, SetTree, one_column, columns, GroupTree, grouped_by, constructed, GroupingTree, TableTree, named, derived, JoinTree, comma, cross, inner, Joins, no_joins, more_joins, SelectTree, select, QueryTree, query}
use Rattle.wd_syntax.specs.Spelling.{onto, window_onto, order_onto, given_onto, alias_onto, more_items_onto, commas_onto, members_onto, set_onto, group_item_onto, having_onto, grouping_onto, more_windows_onto, windows_onto, limits_onto, tail_onto, table_onto, joins_onto, select_onto, end_onto}
use Rattle.wd_read_expression.proofs.Passing.{Opens, Passes, WindowPasses, KeyPasses}

abbrev pub ItemPasses : ℕ → ℕ → ItemTree → Kinds → Kinds → Type 0
ItemPasses c d all_columns ts rest = ⊥
ItemPasses c d (all_of n) ts rest = ⊥
ItemPasses c d (shown a alias) ts rest = Passes c d a (alias_onto alias ts) rest

abbrev pub OneItemPasses : ℕ → ℕ → List ItemTree → Kinds → Kinds → Type 0
OneItemPasses c d [] ts rest = ⊥
OneItemPasses c d (a ∷ items) ts rest = ItemPasses c d a (more_items_onto items ts) rest ⊎ OneItemPasses c d items ts rest

abbrev pub FilterPasses : ℕ → ℕ → Option Tree → Kinds → Kinds → Type 0
FilterPasses c d None ts rest = ⊥
FilterPasses c d (Some a) ts rest = Passes c d a ts rest

abbrev pub SetPasses : ℕ → SetTree → Kinds → Kinds → Type 0
SetPasses d (one_column a) ts rest = ⊥
SetPasses d (columns cs) ts rest = Opens d (λ k. ⊥) (set_onto (columns cs) ts) rest

-- one of a list with commas between its members
abbrev pub MemberPasses : {A : Type 0} → (A → Kinds → Kinds) → (A → Kinds → Kinds → Type 0) → List A → Kinds → Kinds → Type 0
MemberPasses one passes [] ts rest = ⊥
MemberPasses one passes (a ∷ xs) ts rest = passes a (commas_onto one xs ts) rest ⊎ MemberPasses one passes xs ts rest

abbrev pub GroupPasses : ℕ → GroupTree → Kinds → Kinds → Type 0
GroupPasses d (grouped_by s) ts rest = SetPasses d s ts rest
GroupPasses d (constructed word sets) ts rest = Opens d (λ k. MemberPasses set_onto (SetPasses k) sets (m.RightBracket ▸ ts) rest) (m.LeftBracket ▸ members_onto set_onto sets (m.RightBracket ▸ ts)) rest

abbrev pub GroupingPasses : ℕ → ℕ → GroupingTree → Kinds → Kinds → Type 0
GroupingPasses c d g ts rest = MemberPasses group_item_onto (GroupPasses d) g.items (having_onto g.having ts) rest ⊎ FilterPasses c d g.having ts rest

abbrev pub NamedPasses : ℕ → ℕ → Name × WindowTree → Kinds → Kinds → Type 0
NamedPasses c d w ts rest = Opens d (λ k. WindowPasses c k w.1 (m.RightBracket ▸ ts) rest) (m.LeftBracket ▸ window_onto w.1 (m.RightBracket ▸ ts)) rest

abbrev pub OneWindowPasses : ℕ → ℕ → List (Name × WindowTree) → Kinds → Kinds → Type 0
OneWindowPasses c d [] ts rest = ⊥
OneWindowPasses c d (w ∷ windows) ts rest = NamedPasses c d w (more_windows_onto windows ts) rest ⊎ OneWindowPasses c d windows ts rest

abbrev mutual
  pub TablePasses : ℕ → ℕ → TableTree → Kinds → Kinds → Type 0
  TablePasses c d (named n alias) ts rest = ⊥
  TablePasses c d (derived s alias) ts rest = Opens d (λ k. SelectPasses c k s (m.RightBracket ▸ given_onto alias ts) rest) (m.LeftBracket ▸ select_onto s (m.RightBracket ▸ given_onto alias ts)) rest

  pub JoinPasses : ℕ → ℕ → JoinTree → Kinds → Kinds → Type 0
  JoinPasses c d (comma table) ts rest = TablePasses c d table ts rest
  JoinPasses c d (cross table) ts rest = TablePasses c d table ts rest
  JoinPasses c d (inner with_inner table on) ts rest = TablePasses c d table (m.On ▸ onto on ts) rest ⊎ Passes c d on ts rest

  pub OneJoinPasses : ℕ → ℕ → Joins → Kinds → Kinds → Type 0
  OneJoinPasses c d no_joins ts rest = ⊥
  OneJoinPasses c d (more_joins join joins) ts rest = JoinPasses c d join (joins_onto joins ts) rest ⊎ OneJoinPasses c d joins ts rest

  pub SelectPasses : ℕ → ℕ → SelectTree → Kinds → Kinds → Type 0
  SelectPasses c d (select parts first joins) ts rest =
      OneItemPasses c d parts.items (m.From ▸ table_onto first (joins_onto joins (tail_onto parts.tail ts))) rest
      ⊎ (TablePasses c d first (joins_onto joins (tail_onto parts.tail ts)) rest
      ⊎ (OneJoinPasses c d joins (tail_onto parts.tail ts) rest
      ⊎ (FilterPasses c d parts.tail.filter (grouping_onto parts.tail.grouping (windows_onto parts.tail.windows (order_onto parts.tail.order (limits_onto parts.tail.limits ts)))) rest
      ⊎ (GroupingPasses c d parts.tail.grouping (windows_onto parts.tail.windows (order_onto parts.tail.order (limits_onto parts.tail.limits ts))) rest
      ⊎ (OneWindowPasses c d parts.tail.windows (order_onto parts.tail.order (limits_onto parts.tail.limits ts)) rest
      ⊎ KeyPasses c d parts.tail.order (limits_onto parts.tail.limits ts) rest)))))

abbrev pub QueryPasses : ℕ → ℕ → QueryTree → Kinds → Type 0
QueryPasses c d (query s semicolon) rest = SelectPasses c d s (end_onto semicolon) rest
