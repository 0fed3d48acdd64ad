-- The limits of trees: how many levels are open at once, and how many operators an unbracketed chain of one height has. Each left
-- bracket, CASE, NOT before an operand and sign opens a level.
use Rattle.std.specs.Prelude.{◌≡◌, ◌++◌, ℕ, suc, ◌≤◌, ◌==◌, if◌then◌else◌, List, [], ◌∷◌, length, Option, Some, None}
use Rattle.wd_lex.specs.declared.token.Terminal.TheVariants as m
use Rattle.wd_lex.specs.declared.token.TokenKind.{TokenKind}
use Rattle.wd_read_cursor.specs.declared.name.Name.{Name}
use Rattle.wd_read_cursor.specs.Tokens.{Kinds, ◌▸◌}
use Rattle.wd_syntax.specs.declared.expression.Height.TheVariants.{Test}
use Rattle.wd_syntax.specs.Tokens.{operator_terminal, operator_height, rank}
use Rattle.wd_syntax.specs.Tree.{Tree, Constant, Column, Qualified, CallAll, Call, Case, Bracket, Signed, Binary, IsNull, Negated, Trees, no_trees, more_trees, Arms, no_arms, more_arms, Otherwise, no_else, or_else, OverTree, no_over, over_name, over_window, WindowTree, window, Keys, no_keys, more_keys, ItemTree, all_columns, all_of, shown, SetTree, one_column, columns, GroupTree, grouped_by, constructed, GroupingTree, Tail, TableTree, named, derived, JoinTree, comma, cross, inner, Joins, no_joins, more_joins, SelectTree, select, QueryTree, query, Each, One}
use Rattle.wd_syntax.specs.Spelling.{frame_onto, direction_onto, nulls_onto, not_onto, onto, list_onto, more_onto, arms_onto, else_onto, over_onto, window_onto, order_onto, more_keys_onto, given_onto, alias_onto, more_items_onto, commas_onto, members_onto, set_onto, group_item_onto, having_onto, grouping_onto, more_windows_onto, windows_onto, limits_onto, tail_onto, table_onto, joins_onto, end_onto, spell}
use Rattle.wd_syntax.specs.Levels.{IsWellLevelled}

-- What limits count of a token: the number of the level that it opens, or its number as an operator of its chain, both from 1.
pub data Weight : Type 0 where
  level : ℕ → Weight
  operator : ℕ → Weight

-- a token that has a weight, and the tokens from it on
pub record Mark : Type 0 where
  pub weight : Weight
  pub from : Kinds

-- a token that opens a level within the given number of open ones, and the marks within that level
abbrev pub opened : ℕ → Kinds → (ℕ → List Mark) → List Mark
opened n from within = record { weight = level (suc n); from = from } ∷ within (suc n)

-- the operators of that height on the left of a chain
abbrev pub operators : ℕ → Tree → ℕ
operators h (Binary o a b) = if operator_height o == h then suc (operators h a) else 0
operators h (IsNull a not) = if rank Test == h then suc (operators h a) else 0
operators h _ = 0

-- the last operator of a chain of that height
abbrev pub linked : ℕ → Tree → Kinds → Mark
linked h a from = record { weight = operator (operators h a); from = from }

abbrev mutual
  -- the tokens of a tree that have a weight, from left to right, where the given number of levels are open and these tokens follow
  pub marks : ℕ → Tree → Kinds → List Mark
  marks n (Constant l) ts = []
  marks n (Column a) ts = []
  marks n (Qualified a b) ts = []
  marks n (CallAll f over) ts = opened n (m.LeftBracket ▸ m.Star ▸ m.RightBracket ▸ over_onto over ts) (λ k. []) ++ over_marks n over ts
  marks n (Call f bs over) ts = opened n (m.LeftBracket ▸ list_onto bs (m.RightBracket ▸ over_onto over ts)) (λ k. list_marks k bs (m.RightBracket ▸ over_onto over ts)) ++ over_marks n over ts
  marks n (Case arms other) ts = opened n (onto (Case arms other) ts) (λ k. arms_marks k arms (else_onto other (m.End ▸ ts)) ++ else_marks k other (m.End ▸ ts))
  marks n (Bracket a) ts = opened n (onto (Bracket a) ts) (λ k. marks k a (m.RightBracket ▸ ts))
  marks n (Signed s a) ts = opened n (onto (Signed s a) ts) (λ k. marks k a ts)
  marks n (Binary o a b) ts = marks n a (operator_terminal o ▸ onto b ts) ++ linked (operator_height o) (Binary o a b) (operator_terminal o ▸ onto b ts) ∷ marks n b ts
  marks n (IsNull a not) ts = marks n a (m.Is ▸ not_onto not (m.Null ▸ ts)) ++ linked (rank Test) (IsNull a not) (m.Is ▸ not_onto not (m.Null ▸ ts)) ∷ []
  marks n (Negated a) ts = opened n (onto (Negated a) ts) (λ k. marks k a ts)

  pub list_marks : ℕ → Trees → Kinds → List Mark
  list_marks n no_trees ts = []
  list_marks n (more_trees a bs) ts = marks n a (more_onto bs ts) ++ list_marks n bs ts

  pub arms_marks : ℕ → Arms → Kinds → List Mark
  arms_marks n no_arms ts = []
  arms_marks n (more_arms when gives arms) ts = marks n when (m.Then ▸ onto gives (arms_onto arms ts)) ++ (marks n gives (arms_onto arms ts) ++ arms_marks n arms ts)

  pub else_marks : ℕ → Otherwise → Kinds → List Mark
  else_marks n no_else ts = []
  else_marks n (or_else a) ts = marks n a ts

  pub over_marks : ℕ → OverTree → Kinds → List Mark
  over_marks n no_over ts = []
  over_marks n (over_name name) ts = []
  over_marks n (over_window w) ts = bracketed_marks n w ts

  -- a window in brackets
  pub bracketed_marks : ℕ → WindowTree → Kinds → List Mark
  bracketed_marks n (window base partition order frame) ts = opened n (m.LeftBracket ▸ window_onto (window base partition order frame) (m.RightBracket ▸ ts)) (λ k. list_marks k partition (order_onto order (frame_onto frame (m.RightBracket ▸ ts))) ++ keys_marks k order (frame_onto frame (m.RightBracket ▸ ts)))

  pub keys_marks : ℕ → Keys → Kinds → List Mark
  keys_marks n no_keys ts = []
  keys_marks n (more_keys a direction nulls keys) ts = marks n a (direction_onto direction (nulls_onto nulls (more_keys_onto keys ts))) ++ keys_marks n keys ts

-- ---- selects

abbrev pub item_marks : ℕ → ItemTree → Kinds → List Mark
item_marks n all_columns ts = []
item_marks n (all_of name) ts = []
item_marks n (shown a alias) ts = marks n a (alias_onto alias ts)

abbrev pub items_marks : ℕ → List ItemTree → Kinds → List Mark
items_marks n [] ts = []
items_marks n (a ∷ items) ts = item_marks n a (more_items_onto items ts) ++ items_marks n items ts

abbrev pub filter_marks : ℕ → Option Tree → Kinds → List Mark
filter_marks n None ts = []
filter_marks n (Some a) ts = marks n a ts

abbrev pub set_marks : ℕ → SetTree → Kinds → List Mark
set_marks n (one_column c) ts = []
set_marks n (columns cs) ts = opened n (set_onto (columns cs) ts) (λ k. [])

-- the marks of a list with commas between its members, by how a member is spelled and marked
abbrev pub members_marks : {A : Type 0} → (A → Kinds → Kinds) → (A → Kinds → List Mark) → List A → Kinds → List Mark
members_marks one of [] ts = []
members_marks one of (a ∷ xs) ts = of a (commas_onto one xs ts) ++ members_marks one of xs ts

abbrev pub group_marks : ℕ → GroupTree → Kinds → List Mark
group_marks n (grouped_by s) ts = set_marks n s ts
group_marks n (constructed word sets) ts = opened n (m.LeftBracket ▸ members_onto set_onto sets (m.RightBracket ▸ ts)) (λ k. members_marks set_onto (set_marks k) sets (m.RightBracket ▸ ts))

abbrev pub grouping_marks : ℕ → GroupingTree → Kinds → List Mark
grouping_marks n g ts = members_marks group_item_onto (group_marks n) g.items (having_onto g.having ts) ++ filter_marks n g.having ts

abbrev pub windows_marks : ℕ → List (Name × WindowTree) → Kinds → List Mark
windows_marks n [] ts = []
windows_marks n (w ∷ windows) ts = bracketed_marks n w.1 (more_windows_onto windows ts) ++ windows_marks n windows ts

abbrev pub tail_marks : ℕ → Tail → Kinds → List Mark
tail_marks n tail ts =
    filter_marks n tail.filter (grouping_onto tail.grouping (windows_onto tail.windows (order_onto tail.order (limits_onto tail.limits ts))))
    ++ (grouping_marks n tail.grouping (windows_onto tail.windows (order_onto tail.order (limits_onto tail.limits ts)))
    ++ (windows_marks n tail.windows (order_onto tail.order (limits_onto tail.limits ts))
    ++ keys_marks n tail.order (limits_onto tail.limits ts)))

abbrev mutual
  pub table_marks : ℕ → TableTree → Kinds → List Mark
  table_marks n (named name alias) ts = []
  table_marks n (derived s alias) ts = opened n (table_onto (derived s alias) ts) (λ k. select_marks k s (m.RightBracket ▸ given_onto alias ts))

  pub join_marks : ℕ → JoinTree → Kinds → List Mark
  join_marks n (comma table) ts = table_marks n table ts
  join_marks n (cross table) ts = table_marks n table ts
  join_marks n (inner with_inner table on) ts = table_marks n table (m.On ▸ onto on ts) ++ marks n on ts

  pub joins_marks : ℕ → Joins → Kinds → List Mark
  joins_marks n no_joins ts = []
  joins_marks n (more_joins join joins) ts = join_marks n join (joins_onto joins ts) ++ joins_marks n joins ts

  pub select_marks : ℕ → SelectTree → Kinds → List Mark
  select_marks n (select parts first joins) ts =
      items_marks n parts.items (m.From ▸ table_onto first (joins_onto joins (tail_onto parts.tail ts)))
      ++ (table_marks n first (joins_onto joins (tail_onto parts.tail ts))
      ++ (joins_marks n joins (tail_onto parts.tail ts)
      ++ tail_marks n parts.tail ts))

-- the tokens of a query that have a weight
abbrev pub query_marks : QueryTree → List Mark
query_marks (query s semicolon) = select_marks 0 s (end_onto semicolon)

-- ---- limits

-- the most operators of an unbracketed chain of one height (this project's choice)
abbrev pub most_operators : ℕ
most_operators = 200

-- the most levels that are open at once (this project's choice)
abbrev pub most_levels : ℕ
most_levels = 32

abbrev pub IsWithin : Weight → Type 0
IsWithin (level n) = n ≤ most_levels
IsWithin (operator n) = n ≤ most_operators

-- one level, or one operator of a chain, too many
abbrev pub IsPast : Weight → Type 0
IsPast (level n) = n ≡ suc most_levels
IsPast (operator n) = n ≡ suc most_operators

-- Each token of the query is within the limits.
abbrev pub KeepsLimits : QueryTree → Type 0
KeepsLimits q = Each (λ (mark : Mark). IsWithin mark.weight) (query_marks q)

-- the first of these tokens is past a limit
abbrev pub IsPastAt : Kinds → Mark → Type 0
IsPastAt rest mark = IsPast mark.weight × (mark.from ≡ rest)

-- A limit is passed at that place of the tokens: a well-levelled query begins with the same tokens, up to and including the one at the
-- place, and in it this token opens a 33rd level or is the 201st operator of its chain.
pub record PassesLimitAt (tokens : Kinds) (place : ℕ) : Type 0 where
  pub before : Kinds
  pub token : TokenKind
  pub after : Kinds
  pub query : QueryTree
  pub after_in_query : Kinds
  pub at_place : length before ≡ place
  pub stands : tokens ≡ before ++ token ∷ after
  pub begins_alike : spell query ≡ before ++ token ∷ after_in_query
  pub well_levelled : IsWellLevelled query
  pub is_past : One (IsPastAt (token ∷ after_in_query)) (query_marks query)
