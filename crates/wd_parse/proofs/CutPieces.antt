-- What of a select never passes a limit, and what of it stands before other tokens.
use Rattle.std.proofs.Common.{◌≡◌, ℕ, length, Bool, true, false, List, [], ◌∷◌, Option, Some, None, Ok, refl, ap, ◌∙◌}
use Rattle.wd_lex.specs.declared.token.Terminal.TheVariants as m
use Rattle.wd_lex.specs.declared.token.TokenKind.TheVariants as t
use Rattle.wd_read_cursor.specs.declared.words.KeyWord.TheVariants as k
use Rattle.wd_read_cursor.specs.declared.name.Name.{Name}
use Rattle.wd_syntax.specs.declared.query.Alias.{Alias}
use Rattle.wd_syntax.specs.declared.query.GroupColumn.{GroupColumn}
use Rattle.wd_syntax.specs.declared.query.GroupingWord.{GroupingWord}
use Rattle.wd_syntax.specs.declared.query.GroupingWord.TheVariants as g
use Rattle.wd_syntax.specs.declared.query.Quantifier.{Quantifier}
use Rattle.wd_syntax.specs.declared.query.Quantifier.TheVariants as q
use Rattle.wd_syntax.specs.declared.query.RowWord.{RowWord}
use Rattle.wd_syntax.specs.declared.query.RowWord.TheVariants as w
use Rattle.wd_syntax.specs.declared.query.FetchWord.{FetchWord}
use Rattle.wd_syntax.specs.declared.query.FetchWord.TheVariants as f
use Rattle.wd_syntax.specs.declared.query.Offset.{Offset}
use Rattle.wd_syntax.specs.declared.query.Count.{Count}
use Rattle.wd_syntax.specs.declared.query.Count.TheVariants as c
use Rattle.wd_syntax.specs.declared.query.Limits.{Limits}
use Rattle.wd_syntax.specs.declared.query.Limits.TheVariants.{OffsetFirst, CountFirst}
use Rattle.wd_read_cursor.specs.Tokens.{Kinds, ◌▸◌, name_kind}
use Rattle.wd_syntax.specs.Tree.{Tree, WindowTree, ItemTree, all_columns, all_of, shown, SetTree, one_column, columns, GroupTree, grouped_by, constructed, GroupingTree, Tail, TableTree, named, derived, JoinTree, comma, cross, inner, Joins, no_joins, more_joins, SelectTree, select}
use Rattle.wd_syntax.specs.Spelling.{onto, order_onto, quantifier_onto, as_onto, given_onto, alias_onto, item_onto, more_items_onto, items_onto, filter_onto, commas_onto, members_onto, qualifier_onto, group_column_onto, set_onto, grouping_word_onto, group_item_onto, group_onto, having_onto, grouping_onto, named_window_onto, more_windows_onto, windows_onto, row_onto, row_option_onto, offset_onto, fetch_onto, number_onto, ties_onto, count_onto, limits_onto, tail_onto, table_onto, join_onto, joins_onto, select_onto}
use Rattle.wd_read_cursor.specs.Cursor.{◌>>=◌, Reads, choose, eat, eat_word, expect_word, eat_name, name_at, number_at, some_or_unexpected, try, optional}
use Rattle.wd_parse.specs.Reading.{required_alias_at, bare_if, alias_at, row_at, row_if, offset_at, fetch_word_at, number_option_at, ties_at, fetch_at, limit_at, count_if, offset_if, limits_at}
use Rattle.std.proofs.Common.{◌++◌}
use Rattle.wd_read_expression.proofs.CutPieces.{CutBy, MayCut, some_cuts, expect_word_cuts, name_cuts, number_cuts, on_cuts, either_cuts, IsPre, pre_then, pre_tree, pre_window, pre_order}

-- ---- what never passes a limit

try_cuts : {A B : Type 0} (K : ℕ → Type 0) (o : Option (Reads A)) (f : A × Kinds → Reads B) (b : Reads B) → MayCut K o → ((x : A × Kinds) → CutBy K (f x)) → CutBy K b → CutBy K (try o f b)
try_cuts K None f b h k i = i
try_cuts K (Some r) f b h k i = on_cuts K r f h k

pub given_cuts : (K : ℕ → Type 0) (ts : Kinds) → CutBy K (required_alias_at ts)
unfolding required_alias_at
given_cuts K ts = either_cuts K (eat m.As ts) (λ r. name_at r >>= λ n. Ok (record { with_as = true; name = n.0 }, n.1)) (name_at ts >>= λ n. Ok (record { with_as = false; name = n.0 }, n.1)) (λ r. on_cuts K (name_at r) (λ n. Ok (record { with_as = true; name = n.0 }, n.1)) (name_cuts K r) (λ n. tt)) (on_cuts K (name_at ts) (λ n. Ok (record { with_as = false; name = n.0 }, n.1)) (name_cuts K ts) (λ n. tt))

bare_cuts : (K : ℕ → Type 0) (o : Option (Name × Kinds)) (ts : Kinds) → CutBy K (bare_if o ts)
bare_cuts K None ts = tt
bare_cuts K (Some n) ts = tt

pub alias_cuts : (K : ℕ → Type 0) (ts : Kinds) → CutBy K (alias_at ts)
unfolding alias_at
alias_cuts K ts = either_cuts K (eat m.As ts) (λ r. name_at r >>= λ n. Ok (Some (record { with_as = true; name = n.0 }), n.1)) (bare_if (eat_name ts) ts) (λ r. on_cuts K (name_at r) (λ n. Ok (Some (record { with_as = true; name = n.0 }), n.1)) (name_cuts K r) (λ n. tt)) (bare_cuts K (eat_name ts) ts)

offset_cuts : (K : ℕ → Type 0) (ts : Kinds) → CutBy K (offset_at ts)
unfolding offset_at
offset_cuts K ts = on_cuts K (number_at ts) (λ n. Ok (record { number = n.0; word = (row_if (row_at n.1) n.1).0 }, (row_if (row_at n.1) n.1).1)) (number_cuts K ts) (λ n. tt)

fetch_word_cuts : (K : ℕ → Type 0) (ts : Kinds) → CutBy K (fetch_word_at ts)
unfolding fetch_word_at
fetch_word_cuts K ts = either_cuts K (eat_word k.First ts) (λ r. Ok (f.First, r)) (expect_word k.Next ts >>= λ r. Ok (f.Next, r)) (λ r. tt) (on_cuts K (expect_word k.Next ts) (λ r. Ok (f.Next, r)) (expect_word_cuts K k.Next ts) (λ r. tt))

ties_cuts : (K : ℕ → Type 0) (ts : Kinds) → CutBy K (ties_at ts)
unfolding ties_at
ties_cuts K ts = either_cuts K (eat m.With ts) (λ r. expect_word k.Ties r >>= λ r. Ok (true, r)) (expect_word k.Only ts >>= λ r. Ok (false, r)) (λ r. on_cuts K (expect_word k.Ties r) (λ r. Ok (true, r)) (expect_word_cuts K k.Ties r) (λ r. tt)) (on_cuts K (expect_word k.Only ts) (λ r. Ok (false, r)) (expect_word_cuts K k.Only ts) (λ r. tt))

fetch_cuts : (K : ℕ → Type 0) (ts : Kinds) → CutBy K (fetch_at ts)
unfolding fetch_at
fetch_cuts K ts =
    on_cuts K (fetch_word_at ts) (λ w. some_or_unexpected (length (number_option_at w.1).1) (row_at (number_option_at w.1).1) >>= λ row. ties_at row.1 >>= λ ties. Ok (c.Fetch w.0 (number_option_at w.1).0 row.0 ties.0, ties.1)) (fetch_word_cuts K ts) (λ w.
    on_cuts K (some_or_unexpected (length (number_option_at w.1).1) (row_at (number_option_at w.1).1)) (λ row. ties_at row.1 >>= λ ties. Ok (c.Fetch w.0 (number_option_at w.1).0 row.0 ties.0, ties.1)) (some_cuts _ K (row_at (number_option_at w.1).1)) (λ row.
    on_cuts K (ties_at row.1) (λ ties. Ok (c.Fetch w.0 (number_option_at w.1).0 row.0 ties.0, ties.1)) (ties_cuts K row.1) (λ ties. tt)))

limit_cuts : (K : ℕ → Type 0) (ts : Kinds) → CutBy K (limit_at ts)
unfolding limit_at
limit_cuts K ts = on_cuts K (number_at ts) (λ n. Ok (c.Limit n.0, n.1)) (number_cuts K ts) (λ n. tt)

chance_cuts : {A : Type 0} (K : ℕ → Type 0) (o : Option Kinds) (f : Kinds → Reads A) (b : Option (Reads A)) → ((r : Kinds) → CutBy K (f r)) → MayCut K b → MayCut K (choose o (λ r. Some (f r)) b)
chance_cuts K None f b h i = i
chance_cuts K (Some r) f b h i = h r

count_if_cuts : (K : ℕ → Type 0) (ts : Kinds) → MayCut K (count_if ts)
unfolding count_if
count_if_cuts K ts = chance_cuts K (eat m.Limit ts) limit_at (choose (eat m.Fetch ts) (λ r. Some (fetch_at r)) None) (limit_cuts K) (chance_cuts K (eat m.Fetch ts) fetch_at None (fetch_cuts K) tt)

offset_if_cuts : (K : ℕ → Type 0) (ts : Kinds) → MayCut K (offset_if ts)
unfolding offset_if
offset_if_cuts K ts = chance_cuts K (eat m.Offset ts) offset_at None (offset_cuts K) tt

pub limits_cuts : (K : ℕ → Type 0) (ts : Kinds) → CutBy K (limits_at ts)
unfolding limits_at
limits_cuts K ts =
    try_cuts K (offset_if ts) (λ o. optional count_if o.1 >>= λ c. Ok (Some (OffsetFirst o.0 c.0), c.1)) (try (count_if ts) (λ c. optional offset_if c.1 >>= λ o. Ok (Some (CountFirst c.0 o.0), o.1)) (Ok (None, ts))) (offset_if_cuts K ts)
    (λ o. on_cuts K (optional count_if o.1) (λ c. Ok (Some (OffsetFirst o.0 c.0), c.1)) (try_cuts K (count_if o.1) (λ x. Ok (Some x.0, x.1)) (Ok (None, o.1)) (count_if_cuts K o.1) (λ x. tt) tt) (λ c. tt))
    (try_cuts K (count_if ts) (λ c. optional offset_if c.1 >>= λ o. Ok (Some (CountFirst c.0 o.0), o.1)) (Ok (None, ts)) (count_if_cuts K ts)
    (λ c. on_cuts K (optional offset_if c.1) (λ o. Ok (Some (CountFirst c.0 o.0), o.1)) (try_cuts K (offset_if c.1) (λ x. Ok (Some x.0, x.1)) (Ok (None, c.1)) (offset_if_cuts K c.1) (λ x. tt) tt) (λ o. tt))
    tt)

-- ---- what stands before other tokens

pre_as : (b : Bool) (n : Name) (ts us : Kinds) → as_onto b (name_kind n ∷ (ts ++ us)) ≡ as_onto b (name_kind n ∷ ts) ++ us
pre_as true n ts us = refl
pre_as false n ts us = refl

pub pre_given : (alias : Alias) → IsPre (given_onto alias)
pre_given alias ts us = pre_as alias.with_as alias.name ts us

pub pre_alias : (alias : Option Alias) → IsPre (alias_onto alias)
pre_alias None ts us = refl
pre_alias (Some alias) ts us = pre_given alias ts us

pub pre_item : (a : ItemTree) → IsPre (item_onto a)
pre_item all_columns ts us = refl
pre_item (all_of n) ts us = refl
pre_item (shown a alias) ts us = ap (onto a) (pre_alias alias ts us) ∙ pre_tree a (alias_onto alias ts) us

pub pre_more_items : (items : List ItemTree) → IsPre (more_items_onto items)
pre_more_items [] ts us = refl
pre_more_items (a ∷ items) ts us = ap (λ (z : Kinds). m.Comma ▸ item_onto a z) (pre_more_items items ts us) ∙ ap (λ (z : Kinds). m.Comma ▸ z) (pre_item a (more_items_onto items ts) us)

pub pre_quantifier : (quantifier : Option Quantifier) → IsPre (quantifier_onto quantifier)
pre_quantifier None ts us = refl
pre_quantifier (Some q.All) ts us = refl
pre_quantifier (Some q.Distinct) ts us = refl

pub pre_filter : (filter : Option Tree) → IsPre (filter_onto filter)
pre_filter None ts us = refl
pre_filter (Some a) ts us = ap (λ (z : Kinds). m.Where ▸ z) (pre_tree a ts us)

pub pre_named : (w : Name × WindowTree) → IsPre (named_window_onto w)
pre_named w ts us = ap (λ (z : Kinds). name_kind w.0 ∷ (m.As ▸ m.LeftBracket ▸ z)) (pre_window w.1 (m.RightBracket ▸ ts) us)

pre_more_windows : (windows : List (Name × WindowTree)) → IsPre (more_windows_onto windows)
pre_more_windows [] ts us = refl
pre_more_windows (w ∷ windows) ts us = ap (λ (z : Kinds). m.Comma ▸ named_window_onto w z) (pre_more_windows windows ts us) ∙ ap (λ (z : Kinds). m.Comma ▸ z) (pre_named w (more_windows_onto windows ts) us)

pub pre_windows : (windows : List (Name × WindowTree)) → IsPre (windows_onto windows)
pre_windows [] ts us = refl
pre_windows (w ∷ windows) ts us = ap (λ (z : Kinds). m.Window ▸ named_window_onto w z) (pre_more_windows windows ts us) ∙ ap (λ (z : Kinds). m.Window ▸ z) (pre_named w (more_windows_onto windows ts) us)

pre_row : (row : RowWord) → IsPre (row_onto row)
pre_row w.Row ts us = refl
pre_row w.Rows ts us = refl

pre_row_option : (row : Option RowWord) → IsPre (row_option_onto row)
pre_row_option None ts us = refl
pre_row_option (Some row) ts us = pre_row row ts us

pre_offset : (o : Offset) → IsPre (offset_onto o)
pre_offset o ts us = ap (λ (z : Kinds). m.Offset ▸ (t.Number o.number ∷ z)) (pre_row_option o.word ts us)

pre_ties : (ties : Bool) → IsPre (ties_onto ties)
pre_ties true ts us = refl
pre_ties false ts us = refl

pre_number : (number : Option ℕ) → IsPre (number_onto number)
pre_number None ts us = refl
pre_number (Some n) ts us = refl

pre_fetch : (word : FetchWord) → IsPre (fetch_onto word)
pre_fetch f.First ts us = refl
pre_fetch f.Next ts us = refl

pre_count : (count : Count) → IsPre (count_onto count)
pre_count (c.Limit n) ts us = refl
pre_count (c.Fetch word number row ties) ts us =
    ap (λ (z : Kinds). m.Fetch ▸ fetch_onto word (number_onto number (row_onto row z))) (pre_ties ties ts us) ∙ ap (λ (z : Kinds). m.Fetch ▸ fetch_onto word (number_onto number z)) (pre_row row (ties_onto ties ts) us) ∙ ap (λ (z : Kinds). m.Fetch ▸ fetch_onto word z) (pre_number number (row_onto row (ties_onto ties ts)) us) ∙ ap (λ (z : Kinds). m.Fetch ▸ z) (pre_fetch word (number_onto number (row_onto row (ties_onto ties ts))) us)

pub pre_limits : (limits : Option Limits) → IsPre (limits_onto limits)
pre_limits None ts us = refl
pre_limits (Some (OffsetFirst o None)) ts us = pre_offset o ts us
pre_limits (Some (OffsetFirst o (Some count))) ts us = ap (offset_onto o) (pre_count count ts us) ∙ pre_offset o (count_onto count ts) us
pre_limits (Some (CountFirst count None)) ts us = pre_count count ts us
pre_limits (Some (CountFirst count (Some o))) ts us = ap (count_onto count) (pre_offset o ts us) ∙ pre_count count (offset_onto o ts) us

pre_qualifier : (o : Option Name) → IsPre (qualifier_onto o)
pre_qualifier None ts us = refl
pre_qualifier (Some n) ts us = refl

pre_group_column : (c : GroupColumn) → IsPre (group_column_onto c)
pre_group_column c ts us = pre_qualifier c.table (name_kind c.name ∷ ts) us

pre_commas : {A : Type 0} (one : A → Kinds → Kinds) → ((a : A) → IsPre (one a)) → (xs : List A) → IsPre (commas_onto one xs)
pre_commas one h [] ts us = refl
pre_commas one h (a ∷ xs) ts us = ap (λ (z : Kinds). m.Comma ▸ one a z) (pre_commas one h xs ts us) ∙ ap (λ (z : Kinds). m.Comma ▸ z) (h a (commas_onto one xs ts) us)

pre_members : {A : Type 0} (one : A → Kinds → Kinds) → ((a : A) → IsPre (one a)) → (xs : List A) → IsPre (members_onto one xs)
pre_members one h [] ts us = refl
pre_members one h (a ∷ xs) ts us = ap (one a) (pre_commas one h xs ts us) ∙ h a (commas_onto one xs ts) us

pub pre_set : (s : SetTree) → IsPre (set_onto s)
pre_set (one_column c) ts us = pre_group_column c ts us
pre_set (columns cs) ts us = ap (λ (z : Kinds). m.LeftBracket ▸ z) (pre_members group_column_onto pre_group_column cs (m.RightBracket ▸ ts) us)

pub pre_word : (word : GroupingWord) → IsPre (grouping_word_onto word)
pre_word g.Rollup ts us = refl
pre_word g.Cube ts us = refl
pre_word g.Sets ts us = refl

pub pre_group_item : (a : GroupTree) → IsPre (group_item_onto a)
pre_group_item (grouped_by s) ts us = pre_set s ts us
pre_group_item (constructed word sets) ts us = ap (λ (z : Kinds). grouping_word_onto word (m.LeftBracket ▸ z)) (pre_members set_onto pre_set sets (m.RightBracket ▸ ts) us) ∙ pre_word word (m.LeftBracket ▸ members_onto set_onto sets (m.RightBracket ▸ ts)) us

pub pre_group : (items : List GroupTree) → IsPre (group_onto items)
pre_group [] ts us = refl
pre_group (a ∷ items) ts us = ap (λ (z : Kinds). m.Group ▸ m.By ▸ z) (pre_members group_item_onto pre_group_item (a ∷ items) ts us)

pre_having : (having : Option Tree) → IsPre (having_onto having)
pre_having None ts us = refl
pre_having (Some a) ts us = ap (λ (z : Kinds). m.Having ▸ z) (pre_tree a ts us)

pub pre_grouping : (g : GroupingTree) → IsPre (grouping_onto g)
pre_grouping g = pre_then (group_onto g.items) (having_onto g.having) (pre_group g.items) (pre_having g.having)

pub pre_tail : (tail : Tail) → IsPre (tail_onto tail)
pre_tail tail =
    pre_then (filter_onto tail.filter) (λ z. grouping_onto tail.grouping (windows_onto tail.windows (order_onto tail.order (limits_onto tail.limits z)))) (pre_filter tail.filter)
    (pre_then (grouping_onto tail.grouping) (λ z. windows_onto tail.windows (order_onto tail.order (limits_onto tail.limits z))) (pre_grouping tail.grouping)
    (pre_then (windows_onto tail.windows) (λ z. order_onto tail.order (limits_onto tail.limits z)) (pre_windows tail.windows) (pre_then (order_onto tail.order) (limits_onto tail.limits) (pre_order tail.order) (pre_limits tail.limits))))

pub pre_items : (items : List ItemTree) → IsPre (items_onto items)
pre_items [] ts us = refl
pre_items (a ∷ items) ts us = ap (item_onto a) (pre_more_items items ts us) ∙ pre_item a (more_items_onto items ts) us

mutual
  pub pre_table : (table : TableTree) → IsPre (table_onto table)
  pre_table (named n alias) ts us = ap (λ (z : Kinds). name_kind n ∷ z) (pre_alias alias ts us)
  pre_table (derived s alias) ts us = ap (λ (z : Kinds). m.LeftBracket ▸ select_onto s (m.RightBracket ▸ z)) (pre_given alias ts us) ∙ ap (λ (z : Kinds). m.LeftBracket ▸ z) (pre_select s (m.RightBracket ▸ given_onto alias ts) us)

  pub pre_join : (join : JoinTree) → IsPre (join_onto join)
  pre_join (comma table) ts us = ap (λ (z : Kinds). m.Comma ▸ z) (pre_table table ts us)
  pre_join (cross table) ts us = ap (λ (z : Kinds). m.Cross ▸ m.Join ▸ z) (pre_table table ts us)
  pre_join (inner true table on) ts us = ap (λ (z : Kinds). m.Inner ▸ m.Join ▸ table_onto table (m.On ▸ z)) (pre_tree on ts us) ∙ ap (λ (z : Kinds). m.Inner ▸ m.Join ▸ z) (pre_table table (m.On ▸ onto on ts) us)
  pre_join (inner false table on) ts us = ap (λ (z : Kinds). m.Join ▸ table_onto table (m.On ▸ z)) (pre_tree on ts us) ∙ ap (λ (z : Kinds). m.Join ▸ z) (pre_table table (m.On ▸ onto on ts) us)

  pub pre_joins : (joins : Joins) → IsPre (joins_onto joins)
  pre_joins no_joins ts us = refl
  pre_joins (more_joins join joins) ts us = ap (join_onto join) (pre_joins joins ts us) ∙ pre_join join (joins_onto joins ts) us

  pub pre_select : (s : SelectTree) → IsPre (select_onto s)
  pre_select (select parts first joins) ts us =
      let tail : Kinds = tail_onto parts.tail ts in
      ap (λ (z : Kinds). m.Select ▸ quantifier_onto parts.quantifier (items_onto parts.items (m.From ▸ table_onto first (joins_onto joins z)))) (pre_tail parts.tail ts us)
      ∙ ap (λ (z : Kinds). m.Select ▸ quantifier_onto parts.quantifier (items_onto parts.items (m.From ▸ table_onto first z))) (pre_joins joins tail us)
      ∙ ap (λ (z : Kinds). m.Select ▸ quantifier_onto parts.quantifier (items_onto parts.items (m.From ▸ z))) (pre_table first (joins_onto joins tail) us)
      ∙ ap (λ (z : Kinds). m.Select ▸ quantifier_onto parts.quantifier z) (pre_items parts.items (m.From ▸ table_onto first (joins_onto joins tail)) us)
      ∙ ap (λ (z : Kinds). m.Select ▸ z) (pre_quantifier parts.quantifier (items_onto parts.items (m.From ▸ table_onto first (joins_onto joins tail))) us)
