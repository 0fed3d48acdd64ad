-- One token list has at most one well-levelled tree.
use Rattle.std.proofs.Common.{◌≡◌, ℕ, zero, suc, ◌+◌, ◌≤◌, Bool, true, false, cond, eqb, List, [], ◌∷◌, Option, Some, None, Result, Ok, Err, sym, ap, ◌∙◌, arith}
use Rattle.wd_read_cursor.specs.declared.name.Name.{Name}
use Rattle.wd_syntax.specs.Tokens.{operator_height}
use Rattle.wd_syntax.specs.Tree.{Tree, Constant, Column, Qualified, CallAll, Call, Case, Bracket, Signed, Binary, IsNull, Negated, Trees, no_trees, more_trees, Arms, no_arms, more_arms, Otherwise, no_else, or_else, OverTree, no_over, over_name, over_window, WindowTree, window, Keys, no_keys, more_keys, ItemTree, all_columns, all_of, shown, SetTree, one_column, columns, GroupTree, grouped_by, constructed, GroupingTree, TableTree, named, derived, JoinTree, comma, cross, inner, Joins, no_joins, more_joins, SelectTree, select, QueryTree, query, Each}
use Rattle.wd_syntax.specs.Spelling.{spell}
use Rattle.wd_syntax.specs.Levels.{IsWellLevelled}
use Rattle.wd_syntax.specs.Limits.{operators}
use Rattle.wd_read_expression.proofs.Fitting.{Below, Fits, AllFit, ArmsFit, ElseFits, OverFits, WindowFits, KeysFit}
use Rattle.wd_parse.proofs.Fitting.{ItemFits, OptionFits, SetFits, GroupFits, GroupingFits, TableFits, JoinFits, JoinsFit, SelectFits, QueryFits}
use Rattle.wd_read_cursor.specs.Cursor.{Fault, Unexpected, Limit}
use Rattle.wd_parse.specs.Reading.{whole}
use Rattle.wd_syntax.specs.Laws.{HasOneTree}
use Rattle.wd_parse.proofs.CompleteQuery.{Answers, whole_answers}

-- enough levels, and enough operators of a chain
abbrev mutual
  size : Tree → ℕ
  size (Constant literal) = 0
  size (Column n) = 0
  size (Qualified a b) = 0
  size (CallAll f over) = suc (over_size over)
  size (Call f bs over) = suc (list_size bs + over_size over)
  size (Case arms other) = suc (arms_size arms + else_size other)
  size (Bracket a) = suc (size a)
  size (Signed s a) = suc (size a)
  size (Binary o a b) = suc (size a + size b)
  size (IsNull a not) = suc (size a)
  size (Negated a) = suc (size a)

  list_size : Trees → ℕ
  list_size no_trees = 0
  list_size (more_trees a bs) = size a + list_size bs

  arms_size : Arms → ℕ
  arms_size no_arms = 0
  arms_size (more_arms when gives arms) = size when + size gives + arms_size arms

  else_size : Otherwise → ℕ
  else_size no_else = 0
  else_size (or_else a) = size a

  over_size : OverTree → ℕ
  over_size no_over = 0
  over_size (over_name n) = 0
  over_size (over_window w) = suc (window_size w)

  window_size : WindowTree → ℕ
  window_size (window base partition order frame) = list_size partition + keys_size order

  keys_size : Keys → ℕ
  keys_size no_keys = 0
  keys_size (more_keys a direction nulls keys) = size a + keys_size keys

cond_below : (b : Bool) (n m : ℕ) → n ≤ m → cond b (suc n) 0 ≤ suc m
cond_below true n m le = omega arith
cond_below false n m le = omega arith

operators_small : (a : Tree) (h : ℕ) → operators h a ≤ size a
operators_small (Binary o a b) h = cond_below (eqb (operator_height o) h) (operators h a) (size a + size b) (omega (arith, operators_small a h))
operators_small (IsNull a not) h = cond_below (eqb 5 h) (operators h a) (size a) (operators_small a h)
operators_small _ h = omega arith

below : (P : ℕ → Type 0) (n d : ℕ) → suc n ≤ d → ((k : ℕ) → n ≤ k → P k) → Below d P
below P n zero le h = absurd (omega arith)
below P n (suc d) le h = h d (omega arith)

abbrev item_size : ItemTree → ℕ
item_size all_columns = 0
item_size (all_of n) = 0
item_size (shown a alias) = size a

abbrev items_size : List ItemTree → ℕ
items_size [] = 0
items_size (a ∷ items) = item_size a + items_size items

abbrev option_size : Option Tree → ℕ
option_size None = 0
option_size (Some a) = size a

abbrev set_size : SetTree → ℕ
set_size (one_column a) = 0
set_size (columns cs) = 1

abbrev sets_size : List SetTree → ℕ
sets_size [] = 0
sets_size (s ∷ sets) = set_size s + sets_size sets

abbrev group_size : GroupTree → ℕ
group_size (grouped_by s) = set_size s
group_size (constructed word sets) = suc (sets_size sets)

abbrev groups_size : List GroupTree → ℕ
groups_size [] = 0
groups_size (a ∷ items) = group_size a + groups_size items

abbrev grouping_size : GroupingTree → ℕ
grouping_size g = groups_size g.items + option_size g.having

abbrev windows_size : List (Name × WindowTree) → ℕ
windows_size [] = 0
windows_size (w ∷ windows) = suc (window_size w.1) + windows_size windows

abbrev mutual
  table_size : TableTree → ℕ
  table_size (named n alias) = 0
  table_size (derived s alias) = suc (select_size s)

  join_size : JoinTree → ℕ
  join_size (comma table) = table_size table
  join_size (cross table) = table_size table
  join_size (inner b table on) = table_size table + size on

  joins_size : Joins → ℕ
  joins_size no_joins = 0
  joins_size (more_joins join joins) = join_size join + joins_size joins

  select_size : SelectTree → ℕ
  select_size (select parts first joins) = items_size parts.items + table_size first + joins_size joins + option_size parts.tail.filter + grouping_size parts.tail.grouping + windows_size parts.tail.windows + keys_size parts.tail.order

abbrev query_size : QueryTree → ℕ
query_size (query s b) = select_size s

module _ (c : ℕ) where
  mutual
    fits : (a : Tree) (d : ℕ) → size a ≤ d → size a ≤ c → Fits c d a
    fits (Constant literal) d le lc = tt
    fits (Column n) d le lc = tt
    fits (Qualified a b) d le lc = tt
    fits (CallAll f over) d le lc = (below (λ k. Unit {0}) 0 d (omega arith) (λ k l. tt), over_fits over d (omega arith) (omega arith))
    fits (Call f bs over) d le lc = (below (λ k. AllFit c k bs) (list_size bs) d (omega arith) (λ k l. all_fit bs k l (omega arith)), over_fits over d (omega arith) (omega arith))
    fits (Case arms other) d le lc = below (λ k. ArmsFit c k arms × ElseFits c k other) (arms_size arms + else_size other) d le (λ k l. (arms_fit arms k (omega arith) (omega arith), else_fits other k (omega arith) (omega arith)))
    fits (Bracket a) d le lc = below (λ k. Fits c k a) (size a) d le (λ k l. fits a k l (omega arith))
    fits (Signed s a) d le lc = below (λ k. Fits c k a) (size a) d le (λ k l. fits a k l (omega arith))
    fits (Binary o a b) d le lc = (fits a d (omega arith) (omega arith), fits b d (omega arith) (omega arith), omega (arith, operators_small (Binary o a b) (operator_height o)))
    fits (IsNull a not) d le lc = (fits a d (omega arith) (omega arith), omega (arith, operators_small (IsNull a not) 5))
    fits (Negated a) d le lc = below (λ k. Fits c k a) (size a) d le (λ k l. fits a k l (omega arith))

    all_fit : (bs : Trees) (d : ℕ) → list_size bs ≤ d → list_size bs ≤ c → AllFit c d bs
    all_fit no_trees d le lc = tt
    all_fit (more_trees a bs) d le lc = (fits a d (omega arith) (omega arith), all_fit bs d (omega arith) (omega arith))

    arms_fit : (arms : Arms) (d : ℕ) → arms_size arms ≤ d → arms_size arms ≤ c → ArmsFit c d arms
    arms_fit no_arms d le lc = tt
    arms_fit (more_arms a b arms) d le lc = (fits a d (omega arith) (omega arith), fits b d (omega arith) (omega arith), arms_fit arms d (omega arith) (omega arith))

    else_fits : (other : Otherwise) (d : ℕ) → else_size other ≤ d → else_size other ≤ c → ElseFits c d other
    else_fits no_else d le lc = tt
    else_fits (or_else a) d le lc = fits a d le lc

    over_fits : (over : OverTree) (d : ℕ) → over_size over ≤ d → over_size over ≤ c → OverFits c d over
    over_fits no_over d le lc = tt
    over_fits (over_name n) d le lc = tt
    over_fits (over_window w) d le lc = below (λ k. WindowFits c k w) (window_size w) d le (λ k l. window_fits w k l (omega arith))

    window_fits : (w : WindowTree) (d : ℕ) → window_size w ≤ d → window_size w ≤ c → WindowFits c d w
    window_fits (window base partition order frame) d le lc = (all_fit partition d (omega arith) (omega arith), keys_fit order d (omega arith) (omega arith))

    keys_fit : (keys : Keys) (d : ℕ) → keys_size keys ≤ d → keys_size keys ≤ c → KeysFit c d keys
    keys_fit no_keys d le lc = tt
    keys_fit (more_keys a direction nulls keys) d le lc = (fits a d (omega arith) (omega arith), keys_fit keys d (omega arith) (omega arith))

  item_fits : (a : ItemTree) (d : ℕ) → item_size a ≤ d → item_size a ≤ c → ItemFits c d a
  item_fits all_columns d le lc = tt
  item_fits (all_of n) d le lc = tt
  item_fits (shown a alias) d le lc = fits a d le lc

  items_fit : (items : List ItemTree) (d : ℕ) → items_size items ≤ d → items_size items ≤ c → Each (ItemFits c d) items
  items_fit [] d le lc = tt
  items_fit (a ∷ items) d le lc = (item_fits a d (omega arith) (omega arith), items_fit items d (omega arith) (omega arith))

  option_fits : (o : Option Tree) (d : ℕ) → option_size o ≤ d → option_size o ≤ c → OptionFits c d o
  option_fits None d le lc = tt
  option_fits (Some a) d le lc = fits a d le lc

  set_fits : (s : SetTree) (d : ℕ) → set_size s ≤ d → SetFits d s
  set_fits (one_column a) d le = tt
  set_fits (columns cs) d le = below (λ k. Unit {0}) 0 d le (λ k l. tt)

  sets_fit : (sets : List SetTree) (d : ℕ) → sets_size sets ≤ d → Each (SetFits d) sets
  sets_fit [] d le = tt
  sets_fit (s ∷ sets) d le = (set_fits s d (omega arith), sets_fit sets d (omega arith))

  group_fits : (a : GroupTree) (d : ℕ) → group_size a ≤ d → GroupFits d a
  group_fits (grouped_by s) d le = set_fits s d le
  group_fits (constructed word sets) d le = below (λ k. Each (SetFits k) sets) (sets_size sets) d le (λ k l. sets_fit sets k l)

  groups_fit : (items : List GroupTree) (d : ℕ) → groups_size items ≤ d → Each (GroupFits d) items
  groups_fit [] d le = tt
  groups_fit (a ∷ items) d le = (group_fits a d (omega arith), groups_fit items d (omega arith))

  grouping_fits : (g : GroupingTree) (d : ℕ) → grouping_size g ≤ d → grouping_size g ≤ c → GroupingFits c d g
  grouping_fits g d le lc = (groups_fit g.items d (omega arith), option_fits g.having d (omega arith) (omega arith))

  windows_fit : (windows : List (Name × WindowTree)) (d : ℕ) → windows_size windows ≤ d → windows_size windows ≤ c → Each (λ w. Below d (λ k. WindowFits c k w.1)) windows
  windows_fit [] d le lc = tt
  windows_fit (w ∷ windows) d le lc = (below (λ k. WindowFits c k w.1) (window_size w.1) d (omega arith) (λ k l. window_fits w.1 k l (omega arith)), windows_fit windows d (omega arith) (omega arith))

  mutual
    table_fits : (table : TableTree) (d : ℕ) → table_size table ≤ d → table_size table ≤ c → TableFits c d table
    table_fits (named n alias) d le lc = tt
    table_fits (derived s alias) d le lc = below (λ k. SelectFits c k s) (select_size s) d le (λ k l. select_fits s k l (omega arith))

    join_fits : (join : JoinTree) (d : ℕ) → join_size join ≤ d → join_size join ≤ c → JoinFits c d join
    join_fits (comma table) d le lc = table_fits table d le lc
    join_fits (cross table) d le lc = table_fits table d le lc
    join_fits (inner b table on) d le lc = (table_fits table d (omega arith) (omega arith), fits on d (omega arith) (omega arith))

    joins_fit : (joins : Joins) (d : ℕ) → joins_size joins ≤ d → joins_size joins ≤ c → JoinsFit c d joins
    joins_fit no_joins d le lc = tt
    joins_fit (more_joins join joins) d le lc = (join_fits join d (omega arith) (omega arith), joins_fit joins d (omega arith) (omega arith))

    select_fits : (s : SelectTree) (d : ℕ) → select_size s ≤ d → select_size s ≤ c → SelectFits c d s
    select_fits (select parts first joins) d le lc = (items_fit parts.items d (omega arith) (omega arith), table_fits first d (omega arith) (omega arith), joins_fit joins d (omega arith) (omega arith), option_fits parts.tail.filter d (omega arith) (omega arith), grouping_fits parts.tail.grouping d (omega arith) (omega arith), windows_fit parts.tail.windows d (omega arith) (omega arith), keys_fit parts.tail.order d (omega arith) (omega arith))

  query_fits : (q : QueryTree) (d : ℕ) → query_size q ≤ d → query_size q ≤ c → QueryFits c d q
  query_fits (query s b) d le lc = select_fits s d le lc

answers_ok : (n : ℕ) (q : QueryTree) (r : Result QueryTree Fault) → QueryFits n n q → Answers n n q r → r ≡ Ok q
answers_ok n q (Ok x) f h = ap (λ (z : QueryTree). let w : Result QueryTree Fault = Ok z in w) h
answers_ok n q (Err (Limit n')) f h = absurd (h f)
answers_ok n q (Err (Unexpected left)) f h = absurd h

-- within limits that the query keeps, the query is read
is_read : (n : ℕ) (q : QueryTree) → IsWellLevelled q → query_size q ≤ n → whole n n (spell q) ≡ Ok q
is_read n q wl le = answers_ok n q (whole n n (spell q)) (query_fits n q n le le) (whole_answers n n q wl)

ok_same : (a b : QueryTree) → (let r : Result QueryTree Fault = Ok a in r) ≡ Ok b → a ≡ b
ok_same a b e = cc

pub one_tree : HasOneTree
one_tree ts a b wa wb ea eb =
    let n = query_size a + query_size b in
    ok_same a b (sym (is_read n a wa (omega arith)) ∙ ap (whole n n) (ea ∙ sym eb) ∙ is_read n b wb (omega arith))
