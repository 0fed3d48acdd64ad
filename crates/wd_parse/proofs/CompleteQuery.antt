-- What a well-levelled query spells is read as that query, or passes a limit that the query passes.
use Rattle.std.proofs.Common.{◌≡◌, ℕ, zero, suc, ◌<◌, ◌≤◌, Bool, true, false, List, [], ◌∷◌, length, Option, Some, None, Result, Ok, Err, refl, sym, ap, subst, arith}
use Rattle.wd_lex.specs.declared.token.Terminal.{Terminal}
use Rattle.wd_lex.specs.declared.token.Terminal.TheVariants as m
use Rattle.wd_read_cursor.specs.declared.name.Name.{Name}
use Rattle.wd_syntax.specs.declared.query.Alias.{Alias}
use Rattle.wd_syntax.specs.declared.query.Quantifier.{Quantifier}
use Rattle.wd_syntax.specs.declared.query.Quantifier.TheVariants as q
use Rattle.wd_syntax.specs.declared.query.RowWord.{RowWord}
use Rattle.wd_syntax.specs.declared.query.RowWord.TheVariants as w
use Rattle.wd_syntax.specs.declared.query.FetchWord.{FetchWord}
use Rattle.wd_syntax.specs.declared.query.FetchWord.TheVariants as f
use Rattle.wd_syntax.specs.declared.query.Count.{Count}
use Rattle.wd_syntax.specs.declared.query.Count.TheVariants as c
use Rattle.wd_syntax.specs.declared.query.Limits.{Limits}
use Rattle.wd_syntax.specs.declared.query.Limits.TheVariants.{OffsetFirst, CountFirst}
use Rattle.wd_read_cursor.specs.Tokens.{Kinds, ◌▸◌, name_kind}
use Rattle.wd_syntax.specs.Tokens.{literal_kind, operator_terminal, sign_terminal}
use Rattle.wd_syntax.specs.Tree.{Tree, Constant, Column, Qualified, CallAll, Call, Case, Bracket, Signed, Binary, IsNull, Negated, WindowTree, ItemTree, all_columns, all_of, shown, Tail, TableTree, named, derived, JoinTree, comma, cross, inner, Joins, no_joins, more_joins, SelectTree, select, QueryTree, query, keys_of, joins_of, Each}
use Rattle.wd_syntax.specs.Spelling.{not_onto, onto, list_onto, arms_onto, else_onto, over_onto, window_onto, order_onto, quantifier_onto, as_onto, given_onto, alias_onto, item_onto, more_items_onto, items_onto, filter_onto, grouping_onto, named_window_onto, more_windows_onto, windows_onto, row_onto, row_option_onto, offset_onto, fetch_onto, number_onto, ties_onto, count_onto, limits_onto, tail_onto, table_onto, join_onto, joins_onto, select_onto, end_onto, spell}
use Rattle.wd_syntax.specs.Levels.{IsLevelled, WindowLevelled, ItemLevelled, OptionLevelled, TableLevelled, JoinLevelled, JoinsLevelled, SelectLevelled, IsWellLevelled}
use Rattle.wd_read_expression.proofs.Fitting.{Below, Fits, WindowFits, KeysFit}
use Rattle.wd_parse.proofs.Fitting.{ItemFits, OptionFits, GroupingFits, TableFits, JoinFits, JoinsFit, SelectFits, QueryFits}
use Rattle.wd_read_cursor.specs.Cursor.{Fault, Unexpected, Limit, ◌>>=◌, Reads, Parser, Chance, choose, eat, expect, eat_name, name_at, many, after, list_at}
use Rattle.wd_read_expression.specs.Reading.{order_at, window_at, enter, Deeper, deeper_of}
use Rattle.wd_parse.specs.Reading.{quantifier_at, required_alias_at, alias_at, star_at, item_at, filter_at, grouping_at, named_window_at, window_in_brackets_at, windows_at, limits_at, ending_at, tail_at, from_and_tail_at, Inner, table_at, inner_at, join_at, from_at, select_at, selects, inside_of, if_last, whole}
use Rattle.wd_read_cursor.proofs.Eaten.{eat_same, expect_same, eat_name_same, name_at_same, eat_name_kind}
use Rattle.wd_read_expression.proofs.TerminalFacts.{grips, grips_name, grip_stops, operator_grip, operator_bounds, clauses, clause_stops, clause_grips}
use Rattle.wd_parse.proofs.Pieces.{quantifier_same, given_same, alias_same, star_same, limits_same, limits_clause}
use Rattle.wd_parse.proofs.CompleteGroups.{grouping_longer, grouping_clause, grouping_reads}
use Rattle.wd_read_expression.proofs.Complete.{Yields, then_yields, then_exactly, Turns, turns_longer, many_yields, after_same, after_none, list_yields, key_items, keys_back, begun, begun_stops, longer, window_longer, order_longer, order_clause, level, enter_yields, item, known, window_known, order_known, literal_begins}

then_then : {A B C : Type 0} (r : Result A Fault) (f : A → Result B Fault) (g : B → Result C Fault) → ((r >>= f) >>= g) ≡ (r >>= λ x. f x >>= g)
then_then (Ok x) f g = refl
then_then (Err e) f g = refl

-- what follows the name of a window may be read by itself
pub named_window_by_window : (deeper : Deeper) (ts : Kinds) → named_window_at deeper ts ≡ (name_at ts >>= λ n. window_in_brackets_at deeper n.1 >>= λ w. Ok ((n.0, w.0), w.1))
unfolding named_window_at
named_window_by_window deeper ts = simp then_then

-- ---- what is no `name . *`

star_none : (n : Name) (ts : Kinds) → eat m.Dot ts ≡ None → star_at (name_kind n ∷ ts) ≡ None
unfolding star_at
star_none n ts e = rw (eat_name_same n ts, e) refl

star_column : (a b : Name) (ts : Kinds) → star_at (name_kind a ∷ (m.Dot ▸ (name_kind b ∷ ts))) ≡ None
unfolding star_at
star_column a b ts = rw (eat_name_same a (m.Dot ▸ (name_kind b ∷ ts)), eat_same m.Dot (name_kind b ∷ ts), eat_name_kind m.Star b ts) refl

star_unnamed : (ts : Kinds) → eat_name ts ≡ None → star_at ts ≡ None
unfolding star_at
star_unnamed ts e = rw e refl

unnamed : (x : Terminal) (ts : Kinds) → eat_name (x ▸ ts) ≡ None
unfolding eat_name
unnamed x ts = refl

-- no expression begins as `name . *` does
star_stops : (a : Tree) (ts : Kinds) → 0 < grips ts → star_at (onto a ts) ≡ None
unfolding eat
star_stops (Constant literal) ts lt = star_unnamed (literal_kind literal ∷ ts) (literal_begins literal ts).2
star_stops (Column n) ts lt = star_none n ts (grip_stops m.Dot ts lt)
star_stops (Qualified a b) ts lt = star_column a b ts
star_stops (CallAll f over) ts lt = star_none f (m.LeftBracket ▸ m.Star ▸ m.RightBracket ▸ over_onto over ts) refl
star_stops (Call f bs over) ts lt = star_none f (m.LeftBracket ▸ list_onto bs (m.RightBracket ▸ over_onto over ts)) refl
star_stops (Case arms other) ts lt = star_unnamed (m.Case ▸ arms_onto arms (else_onto other (m.End ▸ ts))) (unnamed m.Case (arms_onto arms (else_onto other (m.End ▸ ts))))
star_stops (Bracket a) ts lt = star_unnamed (m.LeftBracket ▸ onto a (m.RightBracket ▸ ts)) (unnamed m.LeftBracket (onto a (m.RightBracket ▸ ts)))
star_stops (Signed s a) ts lt = star_unnamed (sign_terminal s ▸ onto a ts) (unnamed (sign_terminal s) (onto a ts))
star_stops (Binary o a b) ts lt = star_stops a (operator_terminal o ▸ onto b ts) (omega (arith, operator_grip o, operator_bounds o))
star_stops (IsNull a not) ts lt = star_stops a (m.Is ▸ not_onto not (m.Null ▸ ts)) (omega arith)
star_stops (Negated a) ts lt = star_unnamed (m.Not ▸ onto a ts) (unnamed m.Not (onto a ts))

-- ---- what follows each clause

windows_clause : (windows : List (Name × WindowTree)) (ts : Kinds) → 4 < clauses ts → 4 < clauses (windows_onto windows ts)
windows_clause [] ts lt = lt
windows_clause (w ∷ windows) ts lt = omega arith

filter_clause : (filter : Option Tree) (ts : Kinds) → 1 < clauses ts → 1 < clauses (filter_onto filter ts)
filter_clause None ts lt = lt
filter_clause (Some a) ts lt = omega arith

more_items_clause : (items : List ItemTree) (ts : Kinds) → 0 < clauses ts → 0 < clauses (more_items_onto items ts)
more_items_clause [] ts lt = lt
more_items_clause (a ∷ items) ts lt = omega arith

joins_clause : (joins : Joins) (ts : Kinds) → 0 < clauses ts → 0 < clauses (joins_onto joins ts)
joins_clause no_joins ts lt = lt
joins_clause (more_joins (comma table) joins) ts lt = omega arith
joins_clause (more_joins (cross table) joins) ts lt = omega arith
joins_clause (more_joins (inner true table on) joins) ts lt = omega arith
joins_clause (more_joins (inner false table on) joins) ts lt = omega arith

as_grips : (b : Bool) (n : Name) (ts : Kinds) → 8 < grips (as_onto b (name_kind n ∷ ts))
as_grips true n ts = omega arith
as_grips false n ts = omega (arith, grips_name n ts)

alias_grips : (alias : Option Alias) (ts : Kinds) → 0 < clauses ts → 8 < grips (alias_onto alias ts)
alias_grips None ts lt = omega (arith, clause_grips ts lt)
alias_grips (Some alias) ts lt = as_grips alias.with_as alias.name ts

-- ---- the tokens of a part stand before the others

as_longer : (b : Bool) (n : Name) (ts : Kinds) → length ts ≤ length (as_onto b (name_kind n ∷ ts))
as_longer true n ts = omega arith
as_longer false n ts = omega arith

alias_longer : (alias : Option Alias) (ts : Kinds) → length ts ≤ length (alias_onto alias ts)
alias_longer None ts = omega arith
alias_longer (Some alias) ts = as_longer alias.with_as alias.name ts

item_longer : (a : ItemTree) (ts : Kinds) → length ts ≤ length (item_onto a ts)
item_longer all_columns ts = omega arith
item_longer (all_of n) ts = omega arith
item_longer (shown a alias) ts = omega (arith, longer a (alias_onto alias ts), alias_longer alias ts)

more_items_longer : (items : List ItemTree) (ts : Kinds) → length ts ≤ length (more_items_onto items ts)
more_items_longer [] ts = omega arith
more_items_longer (a ∷ items) ts = omega (arith, item_longer a (more_items_onto items ts), more_items_longer items ts)

items_longer : (items : List ItemTree) (ts : Kinds) → length ts ≤ length (items_onto items ts)
items_longer [] ts = omega arith
items_longer (a ∷ items) ts = omega (arith, item_longer a (more_items_onto items ts), more_items_longer items ts)

quantifier_longer : (quantifier : Option Quantifier) (ts : Kinds) → length ts ≤ length (quantifier_onto quantifier ts)
quantifier_longer None ts = omega arith
quantifier_longer (Some q.All) ts = omega arith
quantifier_longer (Some q.Distinct) ts = omega arith

filter_longer : (filter : Option Tree) (ts : Kinds) → length ts ≤ length (filter_onto filter ts)
filter_longer None ts = omega arith
filter_longer (Some a) ts = omega (arith, longer a ts)

named_window_longer : (w : Name × WindowTree) (ts : Kinds) → length ts ≤ length (named_window_onto w ts)
named_window_longer w ts = omega (arith, window_longer w.1 (m.RightBracket ▸ ts))

more_windows_longer : (windows : List (Name × WindowTree)) (ts : Kinds) → length ts ≤ length (more_windows_onto windows ts)
more_windows_longer [] ts = omega arith
more_windows_longer (w ∷ windows) ts = omega (arith, named_window_longer w (more_windows_onto windows ts), more_windows_longer windows ts)

windows_longer : (windows : List (Name × WindowTree)) (ts : Kinds) → length ts ≤ length (windows_onto windows ts)
windows_longer [] ts = omega arith
windows_longer (w ∷ windows) ts = omega (arith, named_window_longer w (more_windows_onto windows ts), more_windows_longer windows ts)

row_longer : (row : RowWord) (ts : Kinds) → length ts ≤ length (row_onto row ts)
row_longer w.Row ts = omega arith
row_longer w.Rows ts = omega arith

row_option_longer : (row : Option RowWord) (ts : Kinds) → length ts ≤ length (row_option_onto row ts)
row_option_longer None ts = omega arith
row_option_longer (Some row) ts = row_longer row ts

fetch_longer : (word : FetchWord) (ts : Kinds) → length ts ≤ length (fetch_onto word ts)
fetch_longer f.First ts = omega arith
fetch_longer f.Next ts = omega arith

number_longer : (number : Option ℕ) (ts : Kinds) → length ts ≤ length (number_onto number ts)
number_longer None ts = omega arith
number_longer (Some n) ts = omega arith

ties_longer : (ties : Bool) (ts : Kinds) → length ts ≤ length (ties_onto ties ts)
ties_longer true ts = omega arith
ties_longer false ts = omega arith

count_longer : (count : Count) (ts : Kinds) → length ts ≤ length (count_onto count ts)
count_longer (c.Limit n) ts = omega arith
count_longer (c.Fetch word number row ties) ts = omega (arith, fetch_longer word (number_onto number (row_onto row (ties_onto ties ts))), number_longer number (row_onto row (ties_onto ties ts)), row_longer row (ties_onto ties ts), ties_longer ties ts)

limits_longer : (limits : Option Limits) (ts : Kinds) → length ts ≤ length (limits_onto limits ts)
limits_longer None ts = omega arith
limits_longer (Some (OffsetFirst o None)) ts = omega (arith, row_option_longer o.word ts)
limits_longer (Some (OffsetFirst o (Some count))) ts = omega (arith, row_option_longer o.word (count_onto count ts), count_longer count ts)
limits_longer (Some (CountFirst count None)) ts = count_longer count ts
limits_longer (Some (CountFirst count (Some o))) ts = omega (arith, count_longer count (offset_onto o ts), row_option_longer o.word ts)

tail_longer : (tail : Tail) (ts : Kinds) → length ts ≤ length (tail_onto tail ts)
tail_longer tail ts =
    let t1 : Kinds = limits_onto tail.limits ts in
    let t2 : Kinds = order_onto tail.order t1 in
    omega (arith, filter_longer tail.filter (grouping_onto tail.grouping (windows_onto tail.windows t2)), grouping_longer tail.grouping (windows_onto tail.windows t2), windows_longer tail.windows t2, order_longer tail.order t1, limits_longer tail.limits ts)

mutual
  table_longer : (table : TableTree) (ts : Kinds) → length ts ≤ length (table_onto table ts)
  table_longer (named n alias) ts = omega (arith, alias_longer alias ts)
  table_longer (derived s alias) ts = omega (arith, select_longer s (m.RightBracket ▸ given_onto alias ts), as_longer alias.with_as alias.name ts)

  join_longer : (join : JoinTree) (ts : Kinds) → length ts < length (join_onto join ts)
  join_longer (comma table) ts = omega (arith, table_longer table ts)
  join_longer (cross table) ts = omega (arith, table_longer table ts)
  join_longer (inner true table on) ts = omega (arith, table_longer table (m.On ▸ onto on ts), longer on ts)
  join_longer (inner false table on) ts = omega (arith, table_longer table (m.On ▸ onto on ts), longer on ts)

  joins_longer : (joins : Joins) (ts : Kinds) → length ts ≤ length (joins_onto joins ts)
  joins_longer no_joins ts = omega arith
  joins_longer (more_joins join joins) ts = omega (arith, join_longer join (joins_onto joins ts), joins_longer joins ts)

  select_longer : (s : SelectTree) (ts : Kinds) → length ts ≤ length (select_onto s ts)
  select_longer (select parts first joins) ts =
      let tail : Kinds = tail_onto parts.tail ts in
      let from : Kinds = m.From ▸ table_onto first (joins_onto joins tail) in
      omega (arith, quantifier_longer parts.quantifier (items_onto parts.items from), items_longer parts.items from, table_longer first (joins_onto joins tail), joins_longer joins tail, tail_longer parts.tail ts)

abbrev pub join_items : Joins → List JoinTree
join_items no_joins = []
join_items (more_joins join joins) = join ∷ join_items joins

joins_back : (joins : Joins) → joins_of (join_items joins) ≡ joins
joins_back no_joins = refl
joins_back (more_joins join joins) = ap (λ (z : Joins). more_joins join z) (joins_back joins)

joins_each : (c d : ℕ) (joins : Joins) → JoinsFit c d joins → Each (JoinFits c d) (join_items joins)
joins_each c d no_joins h = tt
joins_each c d (more_joins join joins) h = (h.0, joins_each c d joins h.1)

-- terminals that are not the one sought
other_joins : (ts : Kinds) → (eat m.Comma (m.Cross ▸ ts) ≡ None) × (eat m.Comma (m.Inner ▸ ts) ≡ None) × (eat m.Cross (m.Inner ▸ ts) ≡ None) × (eat m.Comma (m.Join ▸ ts) ≡ None) × (eat m.Cross (m.Join ▸ ts) ≡ None) × (eat m.Inner (m.Join ▸ ts) ≡ None)
unfolding eat
other_joins ts = (refl, refl, refl, refl, refl, refl)

-- what begins a select list is neither ALL nor DISTINCT
item_begins : (x : Terminal) (a : ItemTree) (ts : Kinds) → (eat x (m.Star ▸ ts) ≡ None) → ((b : Tree) (rest : Kinds) → eat x (onto b rest) ≡ None) → eat x (item_onto a ts) ≡ None
item_begins x all_columns ts e h = e
item_begins x (all_of n) ts e h = eat_name_kind x n (m.Dot ▸ m.Star ▸ ts)
item_begins x (shown a alias) ts e h = h a (alias_onto alias ts)

no_quantifier : (ts : Kinds) → (eat m.All (m.Star ▸ ts) ≡ None) × (eat m.Distinct (m.Star ▸ ts) ≡ None)
unfolding eat
no_quantifier ts = (refl, refl)

module _ (c : ℕ) where
  -- ---- the select list

  item_reads : (k : ℕ) (a : ItemTree) (rest : Kinds) → ItemLevelled a → 0 < clauses rest → Yields (ItemFits c k a) (a, rest) (item_at (level c k 8) (item_onto a rest))
  unfolding item_at
  item_reads k all_columns rest wl lt = rw (eat_same m.Star rest) refl
  item_reads k (all_of n) rest wl lt = rw (eat_name_kind m.Star n (m.Dot ▸ m.Star ▸ rest)) (rw (star_same n rest) refl)
  item_reads k (shown a alias) rest wl lt =
      let mid : Kinds = alias_onto alias rest in
      let ends : 8 < grips mid = alias_grips alias rest lt in
      rw (begun_stops m.Star (onto a mid) refl (begun a mid)) (rw (star_stops a mid (omega arith))
      (then_exactly (Fits c k a) (Fits c k a) (a, mid) (shown a alias, rest) (level c k 8 (onto a mid)) (λ x. alias_at x.1 >>= λ y. Ok (shown x.0 y.0, y.1)) (λ f. f) (item c a k mid (known c a wl k) ends)
      (rw (alias_same alias rest lt) refl)))

  item_turns : (k : ℕ) (items : List ItemTree) (rest : Kinds) → Each ItemLevelled items → 1 < clauses rest → Turns (ItemFits c k) (after m.Comma (item_at (level c k 8))) items (more_items_onto items rest) rest
  item_turns k [] rest wl lt = (refl, after_none m.Comma (item_at (level c k 8)) rest (clause_stops m.Comma rest lt))
  item_turns k (a ∷ items) rest wl lt =
      let mid : Kinds = more_items_onto items rest in
      (mid, item_at (level c k 8) (item_onto a mid), after_same m.Comma (item_at (level c k 8)) (item_onto a mid), item_reads k a mid wl.0 (more_items_clause items rest (omega arith)), omega (arith, item_longer a mid), item_turns k items rest wl.1 lt)

  items_read : (k : ℕ) (a : ItemTree) (items : List ItemTree) (rest : Kinds) → ItemLevelled a → Each ItemLevelled items → 1 < clauses rest → Yields (Each (ItemFits c k) (a ∷ items)) (a ∷ items, rest) (list_at m.Comma (item_at (level c k 8)) (item_onto a (more_items_onto items rest)))
  items_read k a items rest wa wl lt =
      list_yields (ItemFits c k) m.Comma (item_at (level c k 8)) a items (item_onto a (more_items_onto items rest)) (more_items_onto items rest) rest (item_reads k a (more_items_onto items rest) wa (more_items_clause items rest (omega arith))) (item_turns k items rest wl lt)

  -- ---- WHERE

  filter_reads : (k : ℕ) (filter : Option Tree) (rest : Kinds) → OptionLevelled filter → 2 < clauses rest → Yields (OptionFits c k filter) (filter, rest) (filter_at (level c k 8) (filter_onto filter rest))
  unfolding filter_at
  filter_reads k None rest wl lt = rw (clause_stops m.Where rest lt) refl
  filter_reads k (Some a) rest wl lt =
      rw (eat_same m.Where (onto a rest))
      (then_yields (Fits c k a) (Fits c k a) (a, rest) (Some a, rest) (level c k 8 (onto a rest)) (λ x. Ok (Some x.0, x.1)) (λ f. f) (item c a k rest (known c a wl k) (omega (arith, clause_grips rest (omega arith)))) refl)

  -- ---- WINDOW

  abbrev WindowBelow : ℕ → Name × WindowTree → Type 0
  WindowBelow d w = Below d (λ k. WindowFits c k w.1)

  named_window_reads : (d : ℕ) (w : Name × WindowTree) (rest : Kinds) → WindowLevelled w.1 → Yields (WindowBelow d w) (w, rest) (named_window_at (deeper_of c d) (named_window_onto w rest))
  unfolding named_window_at
  named_window_reads d w rest wl =
      let inside : Kinds = window_onto w.1 (m.RightBracket ▸ rest) in
      rw (name_at_same w.0 (m.As ▸ m.LeftBracket ▸ inside)) (rw (expect_same m.As (m.LeftBracket ▸ inside)) (rw (expect_same m.LeftBracket inside)
      (then_yields (WindowBelow d w) (WindowBelow d w) (w.1, rest) (w, rest) (enter (length (m.LeftBracket ▸ inside)) (deeper_of c d) (λ p. window_at (p 8) inside)) (λ x. Ok ((w.0, x.0), x.1)) (λ f. f) (enter_yields c (length (m.LeftBracket ▸ inside)) d (λ k. WindowFits c k w.1) (w.1, rest) (λ p. window_at (p 8) inside) (λ k. window_known c w.1 wl k rest)) refl)))

  window_turns : (d : ℕ) (windows : List (Name × WindowTree)) (rest : Kinds) → Each (λ w. WindowLevelled w.1) windows → 1 < clauses rest → Turns (WindowBelow d) (after m.Comma (named_window_at (deeper_of c d))) windows (more_windows_onto windows rest) rest
  window_turns d [] rest wl lt = (refl, after_none m.Comma (named_window_at (deeper_of c d)) rest (clause_stops m.Comma rest lt))
  window_turns d (w ∷ windows) rest wl lt =
      let mid : Kinds = more_windows_onto windows rest in
      (mid, named_window_at (deeper_of c d) (named_window_onto w mid), after_same m.Comma (named_window_at (deeper_of c d)) (named_window_onto w mid), named_window_reads d w mid wl.0, omega (arith, named_window_longer w mid), window_turns d windows rest wl.1 lt)

  windows_read : (d : ℕ) (windows : List (Name × WindowTree)) (rest : Kinds) → Each (λ w. WindowLevelled w.1) windows → 5 < clauses rest → Yields (Each (WindowBelow d) windows) (windows, rest) (windows_at (deeper_of c d) (windows_onto windows rest))
  unfolding windows_at
  windows_read d [] rest wl lt = rw (clause_stops m.Window rest lt) refl
  windows_read d (w ∷ windows) rest wl lt =
      let mid : Kinds = more_windows_onto windows rest in
      rw (eat_same m.Window (named_window_onto w mid))
      (list_yields (WindowBelow d) m.Comma (named_window_at (deeper_of c d)) w windows (named_window_onto w mid) mid rest (named_window_reads d w mid wl.0) (window_turns d windows rest wl.1 (omega arith)))

  -- ---- tables

  abbrev TableReads : ℕ → TableTree → Type 0
  TableReads d table = (rest : Kinds) → 0 < clauses rest → Yields (TableFits c d table) (table, rest) (table_at (inside_of c d) (table_onto table rest))

  abbrev pub SelectReads : ℕ → SelectTree → Type 0
  SelectReads d s = (rest : Kinds) → 7 < clauses rest → Yields (SelectFits c d s) (s, rest) (selects c d (select_onto s rest))

  table_named : (d : ℕ) (n : Name) (alias : Option Alias) → TableReads d (named n alias)
  unfolding table_at
  table_named d n alias rest lt = rw (eat_name_kind m.LeftBracket n (alias_onto alias rest)) (rw (name_at_same n (alias_onto alias rest)) (rw (alias_same alias rest lt) refl))

  inside_yields : (left d : ℕ) (F : ℕ → Type 0) (y : SelectTree × Kinds) (ts : Kinds) → ((k : ℕ) → Yields (F k) y (selects c k ts)) → Yields (Below d F) y (enter left (inside_of c d) (λ p. p ts))
  inside_yields left zero F y ts h = λ x. x
  inside_yields left (suc d) F y ts h = h d

  table_derived : (d : ℕ) (s : SelectTree) (alias : Alias) → ((k : ℕ) → SelectReads k s) → TableReads d (derived s alias)
  unfolding table_at
  table_derived d s alias ks rest lt =
      let close : Kinds = m.RightBracket ▸ given_onto alias rest in
      let F : Type 0 = Below d (λ k. SelectFits c k s) in
      rw (eat_same m.LeftBracket (select_onto s close))
      (then_exactly F F (s, close) (derived s alias, rest) (enter (length (m.LeftBracket ▸ select_onto s close)) (inside_of c d) (λ p. p (select_onto s close))) (λ s. expect m.RightBracket s.1 >>= λ r. required_alias_at r >>= λ x. Ok (derived s.0 x.0, x.1)) (λ f. f) (inside_yields (length (m.LeftBracket ▸ select_onto s close)) d (λ k. SelectFits c k s) (s, close) (select_onto s close) (λ k. ks k close (omega arith)))
      (rw (expect_same m.RightBracket (given_onto alias rest)) (rw (given_same alias rest) refl)))

  abbrev JoinReads : ℕ → JoinTree → Type 0
  JoinReads d join = (rest : Kinds) → 0 < clauses rest → (r : Reads JoinTree) × (join_at (inside_of c d) (level c d 8) (join_onto join rest) ≡ Some r) × Yields (JoinFits c d join) (join, rest) r

  join_comma : (d : ℕ) (table : TableTree) → TableReads d table → JoinReads d (comma table)
  unfolding join_at
  join_comma d table kt rest lt =
      let r : Reads JoinTree = table_at (inside_of c d) (table_onto table rest) >>= λ x. Ok (comma x.0, x.1) in
      (r, rw (eat_same m.Comma (table_onto table rest)) refl, then_yields (TableFits c d table) (TableFits c d table) (table, rest) (comma table, rest) (table_at (inside_of c d) (table_onto table rest)) (λ x. Ok (comma x.0, x.1)) (λ f. f) (kt rest lt) refl)

  join_cross : (d : ℕ) (table : TableTree) → TableReads d table → JoinReads d (cross table)
  unfolding join_at
  join_cross d table kt rest lt =
      let inside : Kinds = table_onto table rest in
      let r : Reads JoinTree = expect m.Join (m.Join ▸ inside) >>= λ r. table_at (inside_of c d) r >>= λ x. Ok (cross x.0, x.1) in
      (r, rw ((other_joins (m.Join ▸ inside)).0) (rw (eat_same m.Cross (m.Join ▸ inside)) refl), rw (expect_same m.Join inside) (then_yields (TableFits c d table) (TableFits c d table) (table, rest) (cross table, rest) (table_at (inside_of c d) inside) (λ x. Ok (cross x.0, x.1)) (λ f. f) (kt rest lt) refl))

  inner_reads : (d : ℕ) (b : Bool) (table : TableTree) (on : Tree) (rest : Kinds) → TableReads d table → IsLevelled on → 0 < clauses rest → Yields (TableFits c d table × Fits c d on) (inner b table on, rest) (inner_at (inside_of c d) (level c d 8) b (table_onto table (m.On ▸ onto on rest)))
  unfolding inner_at
  inner_reads d b table on rest kt wl lt =
      let F : Type 0 = TableFits c d table × Fits c d on in
      let mid : Kinds = m.On ▸ onto on rest in
      then_yields (TableFits c d table) F (table, mid) (inner b table on, rest) (table_at (inside_of c d) (table_onto table mid)) (λ x. expect m.On x.1 >>= λ r. level c d 8 r >>= λ y. Ok (inner b x.0 y.0, y.1)) (λ f. f.0) (kt mid (omega arith))
      (rw (expect_same m.On (onto on rest))
      (then_yields (Fits c d on) F (on, rest) (inner b table on, rest) (level c d 8 (onto on rest)) (λ y. Ok (inner b table y.0, y.1)) (λ f. f.1) (item c on d rest (known c on wl d) (omega (arith, clause_grips rest lt))) refl))

  join_inner : (d : ℕ) (b : Bool) (table : TableTree) (on : Tree) → TableReads d table → IsLevelled on → JoinReads d (inner b table on)
  unfolding join_at
  join_inner d true table on kt wl rest lt =
      let inside : Kinds = table_onto table (m.On ▸ onto on rest) in
      let r : Reads JoinTree = expect m.Join (m.Join ▸ inside) >>= λ r. inner_at (inside_of c d) (level c d 8) true r in
      (r, rw ((other_joins (m.Join ▸ inside)).1) (rw ((other_joins (m.Join ▸ inside)).2) (rw (eat_same m.Inner (m.Join ▸ inside)) refl)), rw (expect_same m.Join inside) (inner_reads d true table on rest kt wl lt))
  join_inner d false table on kt wl rest lt =
      let inside : Kinds = table_onto table (m.On ▸ onto on rest) in
      let r : Reads JoinTree = inner_at (inside_of c d) (level c d 8) false inside in
      (r, rw ((other_joins inside).3) (rw ((other_joins inside).4) (rw ((other_joins inside).5) (rw (eat_same m.Join inside) refl))), inner_reads d false table on rest kt wl lt)

  join_none : (d : ℕ) (rest : Kinds) → 1 < clauses rest → join_at (inside_of c d) (level c d 8) rest ≡ None
  unfolding join_at
  join_none d rest lt = rw (clause_stops m.Comma rest lt) (rw (clause_stops m.Cross rest lt) (rw (clause_stops m.Inner rest lt) (rw (clause_stops m.Join rest lt) refl)))

  abbrev JoinTurns : ℕ → Joins → Type 0
  JoinTurns d joins = (rest : Kinds) → 1 < clauses rest → Turns (JoinFits c d) (join_at (inside_of c d) (level c d 8)) (join_items joins) (joins_onto joins rest) rest

  join_turns : (d : ℕ) (join : JoinTree) (joins : Joins) → JoinReads d join → JoinTurns d joins → JoinTurns d (more_joins join joins)
  join_turns d join joins kj more rest lt =
      let mid : Kinds = joins_onto joins rest in
      let one = kj mid (joins_clause joins rest (omega arith)) in
      (mid, one.0, one.1, one.2, join_longer join mid, more rest lt)

  from_reads : (d : ℕ) (first : TableTree) (joins : Joins) (rest : Kinds) → TableReads d first → JoinTurns d joins → 1 < clauses rest → Yields (TableFits c d first × JoinsFit c d joins) ((first, join_items joins), rest) (from_at (inside_of c d) (level c d 8) (table_onto first (joins_onto joins rest)))
  unfolding from_at
  from_reads d first joins rest kf kj lt =
      let F : Type 0 = TableFits c d first × JoinsFit c d joins in
      let mid : Kinds = joins_onto joins rest in
      let item : Chance JoinTree = join_at (inside_of c d) (level c d 8) in
      let turns = kj rest lt in
      then_yields (TableFits c d first) F (first, mid) ((first, join_items joins), rest) (table_at (inside_of c d) (table_onto first mid)) (λ x. many item (length x.1) x.1 >>= λ js. Ok ((x.0, js.0), js.1)) (λ f. f.0) (kf mid (joins_clause joins rest (omega arith)))
      (then_yields (Each (JoinFits c d) (join_items joins)) F (join_items joins, rest) ((first, join_items joins), rest) (many item (length mid) mid) (λ js. Ok ((first, js.0), js.1)) (λ f. joins_each c d joins f.1) (many_yields (JoinFits c d) item (length mid) (join_items joins) mid rest (turns_longer (JoinFits c d) item (join_items joins) mid rest turns) turns) refl)

  -- ---- selects

  pub selects_are : (d : ℕ) (ts : Kinds) → selects c d ts ≡ select_at c d (inside_of c d) ts
  unfolding selects
  selects_are zero ts = refl
  selects_are (suc d) ts = refl

  -- FROM and what follows it may be read first, and then made part of the select
  pub selects_by_tail : (d : ℕ) (ts : Kinds) → selects c d ts ≡ (expect m.Select ts >>= λ r. list_at m.Comma (item_at (level c d 8)) (quantifier_at r).1 >>= λ items. from_and_tail_at c d items.1 >>= λ more. Ok (select (record { quantifier = (quantifier_at r).0; items = items.0; tail = more.0.1 }) more.0.0.0 (joins_of more.0.0.1), more.1))
  unfolding select_at ending_at tail_at
  selects_by_tail d ts = rw (selects_are d ts) (simp then_then)

  select_reads : (d : ℕ) (quantifier : Option Quantifier) (a : ItemTree) (items : List ItemTree) (first : TableTree) (joins : Joins) (tail : Tail) → SelectLevelled (select (record { quantifier = quantifier; items = a ∷ items; tail = tail }) first joins) → TableReads d first → JoinTurns d joins → SelectReads d (select (record { quantifier = quantifier; items = a ∷ items; tail = tail }) first joins)
  unfolding select_at
  select_reads d quantifier a items first joins tail wl kf kj rest lt =
      let s : SelectTree = select (record { quantifier = quantifier; items = a ∷ items; tail = tail }) first joins in
      let F : Type 0 = SelectFits c d s in
      let p : Parser Tree = level c d 8 in
      let inside : Inner = inside_of c d in
      let t5 : Kinds = limits_onto tail.limits rest in
      let t4 : Kinds = order_onto tail.order t5 in
      let t3 : Kinds = windows_onto tail.windows t4 in
      let t2 : Kinds = grouping_onto tail.grouping t3 in
      let t1 : Kinds = filter_onto tail.filter t2 in
      let t0 : Kinds = table_onto first (joins_onto joins t1) in
      let list : Kinds = item_onto a (more_items_onto items (m.From ▸ t0)) in
      let h5 : 6 < clauses t5 = limits_clause tail.limits rest (omega arith) in
      let h4 : 5 < clauses t4 = order_clause tail.order t5 (omega arith) in
      let h3 : 4 < clauses t3 = windows_clause tail.windows t4 (omega arith) in
      let h2 : 2 < clauses t2 = grouping_clause tail.grouping t3 h3 in
      let h1 : 1 < clauses t1 = filter_clause tail.filter t2 (omega arith) in
      let no_all : eat m.All list ≡ None = item_begins m.All a (more_items_onto items (m.From ▸ t0)) (no_quantifier (more_items_onto items (m.From ▸ t0))).0 (λ b r. begun_stops m.All (onto b r) refl (begun b r)) in
      let no_distinct : eat m.Distinct list ≡ None = item_begins m.Distinct a (more_items_onto items (m.From ▸ t0)) (no_quantifier (more_items_onto items (m.From ▸ t0))).1 (λ b r. begun_stops m.Distinct (onto b r) refl (begun b r)) in
      subst (Yields F (s, rest)) (sym (selects_are d (select_onto s rest)))
      (rw (expect_same m.Select (quantifier_onto quantifier list)) (rw (quantifier_same quantifier list no_all no_distinct)
      (then_yields (Each (ItemFits c d) (a ∷ items)) F (a ∷ items, m.From ▸ t0) (s, rest) (list_at m.Comma (item_at p) list) (λ items. expect m.From items.1 >>= λ q. from_at inside p q >>= λ tables. filter_at p tables.1 >>= λ filter. grouping_at d p filter.1 >>= λ grouping. windows_at (deeper_of c d) grouping.1 >>= λ windows. order_at p windows.1 >>= λ order. limits_at order.1 >>= λ limits. Ok (select (record { quantifier = quantifier; items = items.0; tail = record { filter = filter.0; grouping = grouping.0; windows = windows.0; order = keys_of order.0; limits = limits.0 } }) tables.0.0 (joins_of tables.0.1), limits.1)) (λ f. f.0) (items_read d a items (m.From ▸ t0) wl.1.0 wl.1.1 (omega arith))
      (rw (expect_same m.From t0)
      (then_yields (TableFits c d first × JoinsFit c d joins) F ((first, join_items joins), t1) (s, rest) (from_at inside p t0) (λ tables. filter_at p tables.1 >>= λ filter. grouping_at d p filter.1 >>= λ grouping. windows_at (deeper_of c d) grouping.1 >>= λ windows. order_at p windows.1 >>= λ order. limits_at order.1 >>= λ limits. Ok (select (record { quantifier = quantifier; items = a ∷ items; tail = record { filter = filter.0; grouping = grouping.0; windows = windows.0; order = keys_of order.0; limits = limits.0 } }) tables.0.0 (joins_of tables.0.1), limits.1)) (λ f. (f.1, f.2)) (from_reads d first joins t1 kf kj h1)
      (then_yields (OptionFits c d tail.filter) F (tail.filter, t2) (s, rest) (filter_at p t1) (λ filter. grouping_at d p filter.1 >>= λ grouping. windows_at (deeper_of c d) grouping.1 >>= λ windows. order_at p windows.1 >>= λ order. limits_at order.1 >>= λ limits. Ok (select (record { quantifier = quantifier; items = a ∷ items; tail = record { filter = filter.0; grouping = grouping.0; windows = windows.0; order = keys_of order.0; limits = limits.0 } }) first (joins_of (join_items joins)), limits.1)) (λ f. f.3) (filter_reads d tail.filter t2 wl.4 h2)
      (then_yields (GroupingFits c d tail.grouping) F (tail.grouping, t3) (s, rest) (grouping_at d p t2) (λ grouping. windows_at (deeper_of c d) grouping.1 >>= λ windows. order_at p windows.1 >>= λ order. limits_at order.1 >>= λ limits. Ok (select (record { quantifier = quantifier; items = a ∷ items; tail = record { filter = tail.filter; grouping = grouping.0; windows = windows.0; order = keys_of order.0; limits = limits.0 } }) first (joins_of (join_items joins)), limits.1)) (λ f. f.4) (grouping_reads c d tail.grouping t3 wl.5 h3)
      (then_yields (Each (WindowBelow d) tail.windows) F (tail.windows, t4) (s, rest) (windows_at (deeper_of c d) t3) (λ windows. order_at p windows.1 >>= λ order. limits_at order.1 >>= λ limits. Ok (select (record { quantifier = quantifier; items = a ∷ items; tail = record { filter = tail.filter; grouping = tail.grouping; windows = windows.0; order = keys_of order.0; limits = limits.0 } }) first (joins_of (join_items joins)), limits.1)) (λ f. f.5) (windows_read d tail.windows t4 wl.6 h4)
      (then_exactly (KeysFit c d tail.order) F (key_items tail.order, t5) (s, rest) (order_at p t4) (λ order. limits_at order.1 >>= λ limits. Ok (select (record { quantifier = quantifier; items = a ∷ items; tail = record { filter = tail.filter; grouping = tail.grouping; windows = tail.windows; order = keys_of order.0; limits = limits.0 } }) first (joins_of (join_items joins)), limits.1)) (λ f. f.6) (order_known c tail.order wl.7 d t5 h5)
      (rw (limits_same tail.limits rest lt) (rw (joins_back joins, keys_back tail.order) refl)))))))))))

  parts_read : (d : ℕ) (quantifier : Option Quantifier) (items : List ItemTree) (tail : Tail) (first : TableTree) (joins : Joins) → SelectLevelled (select (record { quantifier = quantifier; items = items; tail = tail }) first joins) → TableReads d first → JoinTurns d joins
      → SelectReads d (select (record { quantifier = quantifier; items = items; tail = tail }) first joins)
  parts_read d quantifier [] tail first joins wl kf kj = absurd wl.0
  parts_read d quantifier (a ∷ items) tail first joins wl kf kj = select_reads d quantifier a items first joins tail wl kf kj

  mutual
    pub select_known : (s : SelectTree) → SelectLevelled s → (d : ℕ) → SelectReads d s
    select_known (select parts first joins) wl d = parts_read d parts.quantifier parts.items parts.tail first joins wl (table_known first wl.2 d) (joins_known joins wl.3 d)

    table_known : (table : TableTree) → TableLevelled table → (d : ℕ) → TableReads d table
    table_known (named n alias) wl d = table_named d n alias
    table_known (derived s alias) wl d = table_derived d s alias (select_known s wl)

    join_known : (join : JoinTree) → JoinLevelled join → (d : ℕ) → JoinReads d join
    join_known (comma table) wl d = join_comma d table (table_known table wl d)
    join_known (cross table) wl d = join_cross d table (table_known table wl d)
    join_known (inner b table on) wl d = join_inner d b table on (table_known table wl.0 d) wl.1

    joins_known : (joins : Joins) → JoinsLevelled joins → (d : ℕ) → JoinTurns d joins
    joins_known no_joins wl d = λ rest lt. (refl, join_none d rest lt)
    joins_known (more_joins join joins) wl d = join_turns d join joins (join_known join wl.0 d) (joins_known joins wl.1 d)

  -- ---- queries

  -- the query, or the limit that it passes
  abbrev pub Answers : ℕ → QueryTree → Result QueryTree Fault → Type 0
  Answers d q (Ok r) = r ≡ q
  Answers d q (Err (Limit n')) = QueryFits c d q → ⊥
  Answers d q (Err (Unexpected left)) = ⊥

  ends : SelectTree × Kinds → Result QueryTree Fault
  ends s = choose (eat m.Semicolon s.1) (λ r. if_last (query s.0 true) r) (if_last (query s.0 false) s.1)

  ended_by : (s : SelectTree) (b : Bool) → ends (s, end_onto b) ≡ Ok (query s b)
  unfolding eat ends
  ended_by s true = refl
  ended_by s false = refl

  then_answers : (d : ℕ) (s : SelectTree) (b : Bool) (r : Reads SelectTree) → Yields (SelectFits c d s) (s, end_onto b) r → Answers d (query s b) (r >>= ends)
  then_answers d s b (Ok x) h = subst (λ (y : SelectTree × Kinds). Answers d (query s b) (ends y)) (sym h) (subst (Answers d (query s b)) (sym (ended_by s b)) refl)
  then_answers d s b (Err (Limit n')) h = h
  then_answers d s b (Err (Unexpected left)) h = absurd h

  end_clause : (b : Bool) → 7 < clauses (end_onto b)
  end_clause true = omega arith
  end_clause false = omega arith

  pub whole_answers : (d : ℕ) (q : QueryTree) → IsWellLevelled q → Answers d q (whole c d (spell q))
  unfolding whole ends
  whole_answers d (query s b) wl = then_answers d s b (selects c d (select_onto s (end_onto b))) (select_known s wl d (end_onto b) (end_clause b))
