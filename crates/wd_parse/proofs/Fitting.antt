-- Selects within limits, as reading looks at them: at most c operators in a chain, and at most d levels left to open.
use Rattle.std.specs.Prelude.{ℕ, Option, Some, None}
use Rattle.wd_syntax.specs.Tree.{Tree, ItemTree, all_columns, all_of, shown, SetTree, one_column, columns, GroupTree, grouped_by, constructed, GroupingTree, TableTree, named, derived, JoinTree, comma, cross, inner, Joins, no_joins, more_joins, SelectTree, select, QueryTree, query, Each}
use Rattle.wd_read_expression.proofs.Fitting.{Below, Fits, WindowFits, KeysFit}

abbrev pub ItemFits : ℕ → ℕ → ItemTree → Type 0
ItemFits c d all_columns = Unit {0}
ItemFits c d (all_of n) = Unit {0}
ItemFits c d (shown a alias) = Fits c d a

abbrev pub OptionFits : ℕ → ℕ → Option Tree → Type 0
OptionFits c d None = Unit {0}
OptionFits c d (Some a) = Fits c d a

abbrev pub SetFits : ℕ → SetTree → Type 0
SetFits d (one_column a) = Unit {0}
SetFits d (columns cs) = Below d (λ k. Unit {0})

abbrev pub GroupFits : ℕ → GroupTree → Type 0
GroupFits d (grouped_by s) = SetFits d s
GroupFits d (constructed word sets) = Below d (λ k. Each (SetFits k) sets)

abbrev pub GroupingFits : ℕ → ℕ → GroupingTree → Type 0
GroupingFits c d g = Each (GroupFits d) g.items × OptionFits c d g.having

abbrev mutual
  pub TableFits : ℕ → ℕ → TableTree → Type 0
  TableFits c d (named n alias) = Unit {0}
  TableFits c d (derived s alias) = Below d (λ k. SelectFits c k s)

  pub JoinFits : ℕ → ℕ → JoinTree → Type 0
  JoinFits c d (comma table) = TableFits c d table
  JoinFits c d (cross table) = TableFits c d table
  JoinFits c d (inner with_inner table on) = TableFits c d table × Fits c d on

  pub JoinsFit : ℕ → ℕ → Joins → Type 0
  JoinsFit c d no_joins = Unit {0}
  JoinsFit c d (more_joins join joins) = JoinFits c d join × JoinsFit c d joins

  pub SelectFits : ℕ → ℕ → SelectTree → Type 0
  SelectFits c d (select parts first joins) =
      Each (ItemFits c d) parts.items × TableFits c d first × JoinsFit c d joins × OptionFits c d parts.tail.filter × GroupingFits c d parts.tail.grouping × Each (λ w. Below d (λ k. WindowFits c k w.1)) parts.tail.windows × KeysFit c d parts.tail.order

abbrev pub QueryFits : ℕ → ℕ → QueryTree → Type 0
QueryFits c d (query s semicolon) = SelectFits c d s
