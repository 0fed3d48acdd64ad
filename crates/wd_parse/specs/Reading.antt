-- How the tokens of a query are read from left to right; its expressions are read as in wd_read_expression.
use Rattle.std.specs.Prelude.{ℕ, zero, suc, List, [], ◌∷◌, length, Bool, true, false, Option, Some, None, Result, Ok, Err}
use Rattle.wd_lex.specs.declared.token.Terminal.TheVariants as m
use Rattle.wd_read_cursor.specs.declared.words.KeyWord.TheVariants as k
use Rattle.wd_read_cursor.specs.declared.name.Name.{Name}
use Rattle.wd_syntax.specs.declared.query.Alias.{Alias}
use Rattle.wd_syntax.specs.declared.query.GroupColumn.{GroupColumn}
use Rattle.wd_syntax.specs.declared.query.GroupingWord.{GroupingWord}
use Rattle.wd_syntax.specs.declared.query.GroupingWord.TheVariants.{Rollup, Cube, Sets}
use Rattle.wd_syntax.specs.declared.query.Quantifier.{Quantifier}
use Rattle.wd_syntax.specs.declared.query.Quantifier.TheVariants as q
use Rattle.wd_syntax.specs.declared.query.RowWord.{RowWord}
use Rattle.wd_syntax.specs.declared.query.RowWord.TheVariants as w
use Rattle.wd_syntax.specs.declared.query.FetchWord.{FetchWord}
use Rattle.wd_syntax.specs.declared.query.FetchWord.TheVariants as f
use Rattle.wd_syntax.specs.declared.query.Offset.{Offset}
use Rattle.wd_syntax.specs.declared.query.Count.{Count}
use Rattle.wd_syntax.specs.declared.query.Count.TheVariants as c
use Rattle.wd_syntax.specs.declared.query.Limits.{Limits}
use Rattle.wd_syntax.specs.declared.query.Limits.TheVariants.{OffsetFirst, CountFirst}
use Rattle.wd_read_cursor.specs.Tokens.{Kinds}
use Rattle.wd_syntax.specs.Tokens.{whole_height}
use Rattle.wd_read_cursor.specs.Cursor.{Fault, Unexpected, Limit, ◌>>=◌, Reads, Parser, Chance, choose, eat, some_or_unexpected, expect, eat_word, expect_word, eat_name, name_at, number_at, many, list_at, try, optional}
use Rattle.wd_syntax.specs.Tree.{Tree, WindowTree, ItemTree, all_columns, all_of, shown, SetTree, one_column, columns, GroupTree, grouped_by, constructed, GroupingTree, Tail, TableTree, named, derived, JoinTree, comma, cross, inner, SelectTree, select, QueryTree, query, Key, keys_of, joins_of}
use Rattle.wd_read_expression.specs.Reading.{order_at, window_at, enter, Deeper, deeper_of, read}

-- ---- selects

unfoldable pub quantifier_at : Kinds → Option Quantifier × Kinds
quantifier_at ts = choose (eat m.All ts) (λ r. (Some q.All, r)) (choose (eat m.Distinct ts) (λ r. (Some q.Distinct, r)) (None, ts))

-- [AS] name
unfoldable pub required_alias_at : Parser Alias
required_alias_at ts =
    choose (eat m.As ts) (λ r. name_at r >>= λ n. Ok (record { with_as = true; name = n.0 }, n.1))
    (name_at ts >>= λ n. Ok (record { with_as = false; name = n.0 }, n.1))

abbrev pub bare_if : Option (Name × Kinds) → Kinds → Reads (Option Alias)
bare_if None ts = Ok (None, ts)
bare_if (Some n) ts = Ok (Some (record { with_as = false; name = n.0 }), n.1)

-- [[AS] name]
unfoldable pub alias_at : Parser (Option Alias)
alias_at ts =
    choose (eat m.As ts) (λ r. name_at r >>= λ n. Ok (Some (record { with_as = true; name = n.0 }), n.1))
    (bare_if (eat_name ts) ts)

abbrev pub star_if : Option (Name × Kinds) → Option (Name × Kinds)
star_if None = None
star_if (Some n) = choose (eat m.Dot n.1) (λ r. choose (eat m.Star r) (λ r. Some (n.0, r)) None) None

-- name . *
unfoldable pub star_at : Kinds → Option (Name × Kinds)
star_at ts = star_if (eat_name ts)

abbrev pub item_if : Option (Name × Kinds) → Reads ItemTree → Reads ItemTree
item_if None other = other
item_if (Some n) other = Ok (all_of n.0, n.1)

unfoldable pub item_at : Parser Tree → Parser ItemTree
item_at item ts =
    choose (eat m.Star ts) (λ r. Ok (all_columns, r))
    (item_if (star_at ts) (item ts >>= λ a. alias_at a.1 >>= λ alias. Ok (shown a.0 alias.0, alias.1)))

unfoldable pub filter_at : Parser Tree → Parser (Option Tree)
filter_at item ts = choose (eat m.Where ts) (λ r. item r >>= λ a. Ok (Some a.0, a.1)) (Ok (None, ts))

-- ---- GROUP BY and HAVING

unfoldable pub group_column_at : Parser GroupColumn
group_column_at ts = name_at ts >>= λ n. choose (eat m.Dot n.1) (λ r. name_at r >>= λ c. Ok (record { table = Some n.0; name = c.0 }, c.1)) (Ok (record { table = None; name = n.0 }, n.1))

-- one level deeper, if a level is left
abbrev pub within : {B : Type 0} → ℕ → ℕ → (ℕ → Result B Fault) → Result B Fault
within left zero f = Err (Limit left)
within left (suc depth) f = f depth

-- columns, and the closing bracket
unfoldable pub some_columns_at : Parser (List GroupColumn)
some_columns_at ts = list_at m.Comma group_column_at ts >>= λ cs. expect m.RightBracket cs.1 >>= λ r. Ok (cs.0, r)

-- columns, and the closing bracket; no column where none is required
unfoldable pub columns_at : Bool → Parser (List GroupColumn)
columns_at true ts = choose (eat m.RightBracket ts) (λ r. Ok ([], r)) (some_columns_at ts)
columns_at false ts = some_columns_at ts

-- a column, or columns in brackets; no column where none is required
unfoldable pub set_at : ℕ → Bool → Parser SetTree
set_at depth empty ts =
    choose (eat m.LeftBracket ts) (λ r. within (length ts) depth (λ k. columns_at empty r) >>= λ cs. Ok (columns cs.0, cs.1))
    (group_column_at ts >>= λ c. Ok (one_column c.0, c.1))

-- only GROUPING SETS takes empty sets
abbrev pub takes_empty : GroupingWord → Bool
takes_empty Rollup = false
takes_empty Cube = false
takes_empty Sets = true

-- ROLLUP and CUBE only before a bracket, and GROUPING SETS; otherwise they are names
unfoldable pub grouping_word_at : Kinds → Option (GroupingWord × Kinds)
grouping_word_at ts =
    choose (eat_word k.Rollup ts) (λ r. choose (eat m.LeftBracket r) (λ q. Some (Rollup, r)) None)
    (choose (eat_word k.Cube ts) (λ r. choose (eat m.LeftBracket r) (λ q. Some (Cube, r)) None)
    (choose (eat_word k.Grouping ts) (λ r. choose (eat_word k.Sets r) (λ q. Some (Sets, q)) None) None))

-- the sets after a grouping word
unfoldable pub sets_at : ℕ → GroupingWord → Parser GroupTree
sets_at depth word ts = expect m.LeftBracket ts >>= λ r. within (length ts) depth (λ k. list_at m.Comma (set_at k (takes_empty word)) r >>= λ sets. expect m.RightBracket sets.1 >>= λ q. Ok (constructed word sets.0, q))

abbrev pub group_item_if : ℕ → Option (GroupingWord × Kinds) → Parser GroupTree
group_item_if depth None ts = set_at depth true ts >>= λ s. Ok (grouped_by s.0, s.1)
group_item_if depth (Some x) ts = sets_at depth x.0 x.1

unfoldable pub group_item_at : ℕ → Parser GroupTree
group_item_at depth ts = group_item_if depth (grouping_word_at ts) ts

unfoldable pub group_at : ℕ → Parser (List GroupTree)
group_at depth ts = choose (eat m.Group ts) (λ r. expect m.By r >>= λ q. list_at m.Comma (group_item_at depth) q) (Ok ([], ts))

unfoldable pub having_at : Parser Tree → Parser (Option Tree)
having_at item ts = choose (eat m.Having ts) (λ r. item r >>= λ a. Ok (Some a.0, a.1)) (Ok (None, ts))

unfoldable pub grouping_at : ℕ → Parser Tree → Parser GroupingTree
grouping_at depth item ts = group_at depth ts >>= λ items. having_at item items.1 >>= λ having. Ok (record { items = items.0; having = having.0 }, having.1)

-- ---- WINDOW

unfoldable pub named_window_at : Deeper → Parser (Name × WindowTree)
named_window_at deeper ts = name_at ts >>= λ n. expect m.As n.1 >>= λ r. expect m.LeftBracket r >>= λ q. enter (length r) deeper (λ p. window_at (p whole_height) q) >>= λ w. Ok ((n.0, w.0), w.1)

-- AS and a window in brackets: that part of named_window_at by itself
abbrev pub window_in_brackets_at : Deeper → Parser WindowTree
window_in_brackets_at deeper ts = expect m.As ts >>= λ r. expect m.LeftBracket r >>= λ q. enter (length r) deeper (λ p. window_at (p whole_height) q)

unfoldable pub windows_at : Deeper → Parser (List (Name × WindowTree))
windows_at deeper ts = choose (eat m.Window ts) (λ r. list_at m.Comma (named_window_at deeper) r) (Ok ([], ts))

unfoldable pub row_at : Kinds → Option (RowWord × Kinds)
row_at ts = choose (eat_word k.Row ts) (λ r. Some (w.Row, r)) (choose (eat m.Rows ts) (λ r. Some (w.Rows, r)) None)

abbrev pub row_if : Option (RowWord × Kinds) → Kinds → Option RowWord × Kinds
row_if None ts = (None, ts)
row_if (Some x) ts = (Some x.0, x.1)

-- after OFFSET
unfoldable pub offset_at : Parser Offset
offset_at ts = number_at ts >>= λ n. Ok (record { number = n.0; word = (row_if (row_at n.1) n.1).0 }, (row_if (row_at n.1) n.1).1)

unfoldable pub fetch_word_at : Parser FetchWord
fetch_word_at ts = choose (eat_word k.First ts) (λ r. Ok (f.First, r)) (expect_word k.Next ts >>= λ r. Ok (f.Next, r))

abbrev pub number_if : Reads ℕ → Kinds → Option ℕ × Kinds
number_if (Ok n) ts = (Some n.0, n.1)
number_if (Err e) ts = (None, ts)

unfoldable pub number_option_at : Kinds → Option ℕ × Kinds
number_option_at ts = number_if (number_at ts) ts

-- ONLY or WITH TIES; the result is whether it is WITH TIES
unfoldable pub ties_at : Parser Bool
ties_at ts = choose (eat m.With ts) (λ r. expect_word k.Ties r >>= λ r. Ok (true, r)) (expect_word k.Only ts >>= λ r. Ok (false, r))

-- after FETCH
unfoldable pub fetch_at : Parser Count
fetch_at ts = fetch_word_at ts >>= λ w. some_or_unexpected (length (number_option_at w.1).1) (row_at (number_option_at w.1).1) >>= λ row. ties_at row.1 >>= λ ties. Ok (c.Fetch w.0 (number_option_at w.1).0 row.0 ties.0, ties.1)

-- after LIMIT
unfoldable pub limit_at : Parser Count
limit_at ts = number_at ts >>= λ n. Ok (c.Limit n.0, n.1)

unfoldable pub count_if : Chance Count
count_if ts = choose (eat m.Limit ts) (λ r. Some (limit_at r)) (choose (eat m.Fetch ts) (λ r. Some (fetch_at r)) None)

unfoldable pub offset_if : Chance Offset
offset_if ts = choose (eat m.Offset ts) (λ r. Some (offset_at r)) None

unfoldable pub limits_at : Parser (Option Limits)
limits_at ts =
    try (offset_if ts) (λ o. optional count_if o.1 >>= λ c. Ok (Some (OffsetFirst o.0 c.0), c.1))
    (try (count_if ts) (λ c. optional offset_if c.1 >>= λ o. Ok (Some (CountFirst c.0 o.0), o.1)) (Ok (None, ts)))

-- how a select is read one level deeper, if a level is left
abbrev pub Inner : Type 0
Inner = Option (Parser SelectTree)

abbrev pub named_table_at : Parser TableTree
named_table_at ts = name_at ts >>= λ n. alias_at n.1 >>= λ alias. Ok (named n.0 alias.0, alias.1)

unfoldable pub table_at : Inner → Parser TableTree
table_at deeper ts =
    choose (eat m.LeftBracket ts) (λ r. enter (length ts) deeper (λ p. p r) >>= λ s. expect m.RightBracket s.1 >>= λ r. required_alias_at r >>= λ alias. Ok (derived s.0 alias.0, alias.1))
    (named_table_at ts)

-- after JOIN
unfoldable pub inner_at : Inner → Parser Tree → Bool → Parser JoinTree
inner_at deeper item with_inner ts = table_at deeper ts >>= λ table. expect m.On table.1 >>= λ r. item r >>= λ on. Ok (inner with_inner table.0 on.0, on.1)

unfoldable pub join_at : Inner → Parser Tree → Chance JoinTree
join_at deeper item ts =
    choose (eat m.Comma ts) (λ r. Some (table_at deeper r >>= λ table. Ok (comma table.0, table.1)))
    (choose (eat m.Cross ts) (λ r. Some (expect m.Join r >>= λ r. table_at deeper r >>= λ table. Ok (cross table.0, table.1)))
    (choose (eat m.Inner ts) (λ r. Some (expect m.Join r >>= λ r. inner_at deeper item true r))
    (choose (eat m.Join ts) (λ r. Some (inner_at deeper item false r)) None)))

-- after FROM
unfoldable pub from_at : Inner → Parser Tree → Parser (TableTree × List JoinTree)
from_at inside item ts = table_at inside ts >>= λ first. many (join_at inside item) (length first.1) first.1 >>= λ joins. Ok ((first.0, joins.0), joins.1)

unfoldable pub select_at : ℕ → ℕ → Inner → Parser SelectTree
select_at limit depth inside ts =
    expect m.Select ts >>= λ r. list_at m.Comma (item_at (read limit depth whole_height)) (quantifier_at r).1 >>= λ items.
    expect m.From items.1 >>= λ q. from_at inside (read limit depth whole_height) q >>= λ tables.
    filter_at (read limit depth whole_height) tables.1 >>= λ filter. grouping_at depth (read limit depth whole_height) filter.1 >>= λ grouping. windows_at (deeper_of limit depth) grouping.1 >>= λ windows.
    order_at (read limit depth whole_height) windows.1 >>= λ order. limits_at order.1 >>= λ limits.
    Ok (select (record { quantifier = (quantifier_at r).0; items = items.0; tail = record { filter = filter.0; grouping = grouping.0; windows = windows.0; order = keys_of order.0; limits = limits.0 } }) tables.0.0 (joins_of tables.0.1), limits.1)

-- what follows HAVING: that part of select_at by itself
unfoldable pub ending_at : ℕ → ℕ → Parser (List (Name × WindowTree) × List Key × Option Limits)
ending_at limit depth ts = windows_at (deeper_of limit depth) ts >>= λ windows. order_at (read limit depth whole_height) windows.1 >>= λ order. limits_at order.1 >>= λ limits. Ok ((windows.0, order.0, limits.0), limits.1)

-- GROUP BY, HAVING and what follows them: that part of select_at by itself
abbrev pub grouped_ending_at : ℕ → ℕ → Parser (GroupingTree × (List (Name × WindowTree) × List Key × Option Limits))
grouped_ending_at limit depth ts = grouping_at depth (read limit depth whole_height) ts >>= λ grouping. ending_at limit depth grouping.1 >>= λ ending. Ok ((grouping.0, ending.0), ending.1)

-- what follows FROM: that part of select_at by itself
unfoldable pub tail_at : ℕ → ℕ → Parser Tail
tail_at limit depth ts =
    filter_at (read limit depth whole_height) ts >>= λ filter. grouped_ending_at limit depth filter.1 >>= λ ending.
    Ok (record { filter = filter.0; grouping = ending.0.0; windows = ending.0.1.0; order = keys_of ending.0.1.1; limits = ending.0.1.2 }, ending.1)

-- a select with the given number of levels left
unfoldable pub selects : ℕ → ℕ → Parser SelectTree
selects limit zero = select_at limit zero None
selects limit (suc depth) = select_at limit (suc depth) (Some (selects limit depth))

abbrev pub inside_of : ℕ → ℕ → Inner
inside_of limit zero = None
inside_of limit (suc depth) = Some (selects limit depth)

abbrev pub if_last : QueryTree → Kinds → Result QueryTree Fault
if_last q [] = Ok q
if_last q (t ∷ ts) = Err (Unexpected (suc (length ts)))

-- FROM and what follows it: that part of select_at by itself
abbrev pub from_and_tail_at : ℕ → ℕ → Parser ((TableTree × List JoinTree) × Tail)
from_and_tail_at limit depth ts = expect m.From ts >>= λ r. from_at (inside_of limit depth) (read limit depth whole_height) r >>= λ tables. tail_at limit depth tables.1 >>= λ tail. Ok ((tables.0, tail.0), tail.1)

-- a select and a semicolon, and no further token
unfoldable pub whole : ℕ → ℕ → Kinds → Result QueryTree Fault
whole limit depth ts = selects limit depth ts >>= λ s. choose (eat m.Semicolon s.1) (λ r. if_last (query s.0 true) r) (if_last (query s.0 false) s.1)
