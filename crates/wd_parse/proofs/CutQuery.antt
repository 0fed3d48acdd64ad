-- Where reading a query passes a limit, some query with the same front passes it at the same token.
use Rattle.std.proofs.Common.{◌≡◌, ℕ, zero, suc, ◌≤◌, ◌⊎◌, inl, inr, Bool, true, false, List, [], ◌∷◌, length, Option, Some, None, Ok, refl, sym, ap, subst, ◌∙◌, ⊎_elim}
use Rattle.wd_lex.specs.declared.token.Terminal.TheVariants as m
use Rattle.wd_lex.specs.declared.token.TokenKind.{TokenKind}
use Rattle.wd_lex.specs.declared.token.TokenKind.TheVariants as t
use Rattle.wd_read_cursor.specs.declared.name.Name.{Name}
use Rattle.wd_syntax.specs.declared.query.Alias.{Alias}
use Rattle.wd_syntax.specs.declared.query.Quantifier.{Quantifier}
use Rattle.wd_read_cursor.specs.Tokens.{Kinds, ◌▸◌, name_kind}
use Rattle.wd_syntax.specs.Tree.{Tree, WindowTree, Keys, no_keys, ItemTree, all_columns, shown, TableTree, named, derived, JoinTree, comma, cross, inner, Joins, no_joins, GroupingTree, SelectTree, select, QueryTree, query, keys_of, joins_of, Each}
use Rattle.wd_syntax.specs.Spelling.{onto, window_onto, order_onto, quantifier_onto, given_onto, item_onto, items_onto, filter_onto, grouping_onto, named_window_onto, windows_onto, table_onto, join_onto, joins_onto, select_onto, spell}
use Rattle.wd_syntax.specs.Levels.{IsLevelled, WindowLevelled, KeysLevelled, ItemLevelled, IsSomeItem, OptionLevelled, GroupingLevelled, TableLevelled, JoinLevelled, JoinsLevelled, SelectLevelled, IsWellLevelled}
use Rattle.wd_parse.proofs.Fitting.{ItemFits}
use Rattle.wd_read_cursor.specs.Cursor.{◌>>=◌, Reads, Parser, choose, eat, expect, name_at, many, list_at}
use Rattle.wd_read_expression.specs.Reading.{order_at, window_at, enter, levels, deeper_of, read}
use Rattle.wd_parse.specs.Reading.{quantifier_at, required_alias_at, alias_at, star_at, item_if, item_at, filter_at, grouping_at, named_window_at, windows_at, limits_at, Inner, table_at, inner_at, join_at, from_at, select_at, selects, inside_of, if_last, whole}
use Rattle.std.proofs.Common.{◌++◌}
use Rattle.std.specs.Prelude.{codes}
use Rattle.wd_read_expression.proofs.Passing.{Passes, WindowPasses, KeyPasses}
use Rattle.wd_parse.proofs.Passing.{ItemPasses, OneItemPasses, FilterPasses, GroupingPasses, NamedPasses, OneWindowPasses, TablePasses, JoinPasses, OneJoinPasses, SelectPasses, QueryPasses}
use Rattle.wd_read_expression.proofs.SoundPieces.{at_terminal, IsPart, all_onto, led_by, list_holds, IsListed, name_holds}
use Rattle.wd_parse.proofs.SoundPieces.{quantifier_is}
use Rattle.wd_read_expression.proofs.Sound.{each_left, Whole, whole_expression, Within, sound, within}
use Rattle.wd_parse.proofs.SoundQuery.{items_spelled, windows_spelled, joins_spelled, item_holds, named_window_holds, filter_holds, windows_hold, table_holds, join_holds, from_holds, selects_hold, GoodItem, GoodNamed, GoodTable, GoodJoin, GoodFilter, GoodWindows, Inside, from_onto, GoodTables}
use Rattle.wd_parse.proofs.SoundGroups.{GoodGrouping, grouping_holds}
use Rattle.wd_parse.proofs.CutGroups.{grouping_cut}
use Rattle.wd_read_expression.proofs.CutPieces.{CutBy, MayCut, then_cuts, expect_cuts, name_cuts, on_cuts, either_cuts, IsPre, pre_then}
use Rattle.wd_parse.proofs.CutPieces.{given_cuts, alias_cuts, limits_cuts, pre_item, pre_items, pre_quantifier, pre_filter, pre_grouping, pre_named, pre_windows, pre_table, pre_join, pre_joins}
use Rattle.wd_read_expression.proofs.Cut.{IsCut, cut_step, cut_here, pre_kind, SomePasses, many_cut, listed, GoodList, ListPasses, list_cut, terminal_cuts, mapped_cuts, all_things, nothing, WholeCut, whole_cut, enter_cuts, WithinCut, WindowCut, window_cut, no_window, OrderCut, order_cut, cut, cut_within}

-- a name and a select, which may stand where one is wanted
abbrev some_name : Name
some_name = record { text = codes "a"; quoted = false }

abbrev some_alias : Alias
some_alias = record { with_as = false; name = some_name }

abbrev some_table : TableTree
some_table = named some_name None

abbrev no_grouping : GroupingTree
no_grouping = record { items = []; having = None }

abbrev some_select : SelectTree
some_select = select (record { quantifier = None; items = all_columns ∷ []; tail = record { filter = None; grouping = no_grouping; windows = []; order = no_keys; limits = None } }) some_table no_joins

-- a select that ends after these parts
abbrev short : Option Quantifier → List ItemTree → TableTree → List JoinTree → Option Tree → GroupingTree → List (Name × WindowTree) → Keys → SelectTree
short quantifier items first joins filter grouping windows order = select (record { quantifier = quantifier; items = items; tail = record { filter = filter; grouping = grouping; windows = windows; order = order; limits = None } }) first (joins_of joins)

items_pass : (c d : ℕ) (xs : List ItemTree) (us rest : Kinds) → SomePasses (led_by m.Comma item_onto) (ItemPasses c d) xs us rest → OneItemPasses c d xs us rest
items_pass c d [] us rest h = h
items_pass c d (a ∷ xs) us rest h = ⊎_elim (λ s. inl (subst (λ z. ItemPasses c d a z rest) (items_spelled xs us) s)) (λ s. inr (items_pass c d xs us rest s)) h

windows_pass : (c d : ℕ) (xs : List (Name × WindowTree)) (us rest : Kinds) → SomePasses (led_by m.Comma named_window_onto) (NamedPasses c d) xs us rest → OneWindowPasses c d xs us rest
windows_pass c d [] us rest h = h
windows_pass c d (a ∷ xs) us rest h = ⊎_elim (λ s. inl (subst (λ z. NamedPasses c d a z rest) (windows_spelled xs us) s)) (λ s. inr (windows_pass c d xs us rest s)) h

joins_pass : (c d : ℕ) (xs : List JoinTree) (us rest : Kinds) → SomePasses join_onto (JoinPasses c d) xs us rest → OneJoinPasses c d (joins_of xs) us rest
joins_pass c d [] us rest h = h
joins_pass c d (a ∷ xs) us rest h = ⊎_elim (λ s. inl (subst (λ z. JoinPasses c d a z rest) (joins_spelled xs us) s)) (λ s. inr (joins_pass c d xs us rest s)) h

joins_good : (xs : List JoinTree) → Each JoinLevelled xs → JoinsLevelled (joins_of xs)
joins_good [] h = tt
joins_good (a ∷ xs) h = (h.0, joins_good xs h.1)

module _ (c : ℕ) where
  item_else_cuts : (L : ℕ → Type 0) (o : Option (Name × Kinds)) (other : Reads ItemTree) → CutBy L other → CutBy L (item_if o other)
  item_else_cuts L None other h = h
  item_else_cuts L (Some n) other h = tt

  item_cut : (d : ℕ) (item : Parser Tree) (ts : Kinds) → WholeCut c d item → CutBy (IsCut item_onto ItemLevelled (ItemPasses c d) ts) (item_at item ts)
  unfolding item_at
  item_cut d item ts cut =
      let L : ℕ → Type 0 = IsCut item_onto ItemLevelled (ItemPasses c d) ts in
      at_terminal (CutBy L) m.Star ts (λ r. Ok (all_columns, r)) (item_if (star_at ts) (item ts >>= λ a. alias_at a.1 >>= λ alias. Ok (shown a.0 alias.0, alias.1))) (λ r e. tt)
      (item_else_cuts L (star_at ts) (item ts >>= λ a. alias_at a.1 >>= λ alias. Ok (shown a.0 alias.0, alias.1))
      (then_cuts (IsCut onto IsLevelled (Passes c d) ts) L (λ z. Unit {0}) (item ts) (λ a. alias_at a.1 >>= λ alias. Ok (shown a.0 alias.0, alias.1)) (cut ts) (all_things (item ts))
      (cut_step onto IsLevelled (Passes c d) ts item_onto ItemLevelled (ItemPasses c d) ts (λ z. z) (λ a. shown a None) (λ a us. us) (λ x y. refl) refl (λ a g. g) (λ a us g. refl) (λ a us rest g s. s))
      (λ a u. on_cuts L (alias_at a.1) (λ alias. Ok (shown a.0 alias.0, alias.1)) (alias_cuts L a.1) (λ alias. tt))))

  filter_cut : (d : ℕ) (item : Parser Tree) (ts : Kinds) → WholeCut c d item → CutBy (IsCut filter_onto OptionLevelled (FilterPasses c d) ts) (filter_at item ts)
  unfolding filter_at
  filter_cut d item ts cut =
      let L : ℕ → Type 0 = IsCut filter_onto OptionLevelled (FilterPasses c d) ts in
      at_terminal (CutBy L) m.Where ts (λ r. item r >>= λ a. Ok (Some a.0, a.1)) (Ok (None, ts))
      (λ r e. then_cuts (IsCut onto IsLevelled (Passes c d) r) L (λ z. Unit {0}) (item r) (λ a. Ok (Some a.0, a.1)) (cut r) (all_things (item r)) (cut_step onto IsLevelled (Passes c d) r filter_onto OptionLevelled (FilterPasses c d) ts (λ z. m.Where ▸ z) (λ a. Some a) (λ a us. us) (λ x y. refl) e (λ a g. g) (λ a us g. refl) (λ a us rest g s. s)) (λ a u. tt))
      tt

  abbrev NamedLevelled : Name × WindowTree → Type 0
  NamedLevelled w = WindowLevelled w.1

  named_window_cut : (d : ℕ) (ts : Kinds) → WithinCut c d → Within c d → CutBy (IsCut named_window_onto NamedLevelled (NamedPasses c d) ts) (named_window_at (deeper_of c d) ts)
  unfolding named_window_at
  named_window_cut d ts cut lower =
      let L : ℕ → ℕ → Type 0 = λ j. IsCut named_window_onto NamedLevelled (NamedPasses c j) ts in
      then_cuts (L d) (L d) (λ x. ts ≡ name_kind x.0 ∷ x.1) (name_at ts) (λ n. expect m.As n.1 >>= λ r. expect m.LeftBracket r >>= λ q. enter (length r) (deeper_of c d) (λ p. window_at (p 8) q) >>= λ w. Ok ((n.0, w.0), w.1)) (name_cuts (L d) ts) (name_holds ts) (λ left i. i) (λ n e.
      terminal_cuts (L d) m.As n.1 (λ r. expect m.LeftBracket r >>= λ q. enter (length r) (deeper_of c d) (λ p. window_at (p 8) q) >>= λ w. Ok ((n.0, w.0), w.1)) (λ r f.
      terminal_cuts (L d) m.LeftBracket r (λ q. enter (length r) (deeper_of c d) (λ p. window_at (p 8) q) >>= λ w. Ok ((n.0, w.0), w.1)) (λ q h.
      let start : ts ≡ name_kind n.0 ∷ (m.As ▸ m.LeftBracket ▸ q) = e ∙ ap (λ (z : Kinds). name_kind n.0 ∷ z) (f ∙ ap (λ (z : Kinds). m.As ▸ z) h) in
      on_cuts (L d) (enter (length r) (deeper_of c d) (λ p. window_at (p 8) q)) (λ w. Ok ((n.0, w.0), w.1))
      (enter_cuts c (length r) L (λ p. window_at (p 8) q)
      (cut_here named_window_onto NamedLevelled (NamedPasses c 0) ts (λ z. name_kind n.0 ∷ (m.As ▸ z)) (t.Terminal m.LeftBracket) q (n.0, no_window c) (λ us. m.RightBracket ▸ us) (length r) (λ x y. refl) (tt, tt) start (sym (ap length h)) (λ us. refl) (λ us. refl))
      (λ k cut sound. mapped_cuts (WindowCut c k q) (L (suc k)) (window_at (levels c (deeper_of c k) 8) q) (window_cut c k (levels c (deeper_of c k) 8) q (whole_cut c k cut) (whole_expression c k sound))
      (cut_step (λ w us. window_onto w (m.RightBracket ▸ us)) WindowLevelled (λ w us rest. WindowPasses c k w (m.RightBracket ▸ us) rest) q named_window_onto NamedLevelled (NamedPasses c (suc k)) ts (λ z. name_kind n.0 ∷ (m.As ▸ m.LeftBracket ▸ z)) (λ w. (n.0, w)) (λ w us. us) (λ x y. refl) start (λ w g. g) (λ w us g. refl) (λ w us rest g s. s))) d cut lower)
      (λ w. tt))))

  abbrev WindowsCut : ℕ → Kinds → ℕ → Type 0
  WindowsCut d ts = IsCut windows_onto (Each NamedLevelled) (OneWindowPasses c d) ts

  windows_good : (xs : List (Name × WindowTree)) → GoodList NamedLevelled xs → Each NamedLevelled xs
  windows_good [] h = tt
  windows_good (a ∷ xs) h = h

  windows_spelled' : (xs : List (Name × WindowTree)) (us : Kinds) → GoodList NamedLevelled xs → windows_onto xs us ≡ m.Window ▸ listed m.Comma named_window_onto xs us
  windows_spelled' [] us h = absurd h
  windows_spelled' (a ∷ xs) us h = ap (λ (z : Kinds). m.Window ▸ named_window_onto a z) (sym (windows_spelled xs us))

  windows_passes : (d : ℕ) (xs : List (Name × WindowTree)) (us rest : Kinds) → GoodList NamedLevelled xs → ListPasses m.Comma named_window_onto (NamedPasses c d) xs us rest → OneWindowPasses c d xs us rest
  windows_passes d [] us rest h s = absurd h
  windows_passes d (a ∷ xs) us rest h s = ⊎_elim (λ p. inl (subst (λ z. NamedPasses c d a z rest) (windows_spelled xs us) p)) (λ p. inr (windows_pass c d xs us rest p)) s

  windows_cut : (d : ℕ) (ts : Kinds) → WithinCut c d → Within c d → CutBy (WindowsCut d ts) (windows_at (deeper_of c d) ts)
  unfolding windows_at
  windows_cut d ts cut lower =
      at_terminal (CutBy (WindowsCut d ts)) m.Window ts (λ r. list_at m.Comma (named_window_at (deeper_of c d)) r) (Ok ([], ts))
      (λ r e. mapped_cuts (IsCut (listed m.Comma named_window_onto) (GoodList NamedLevelled) (ListPasses m.Comma named_window_onto (NamedPasses c d)) r) (WindowsCut d ts) (list_at m.Comma (named_window_at (deeper_of c d)) r)
      (list_cut m.Comma named_window_onto NamedLevelled (GoodNamed c d) (NamedPasses c d) (named_window_at (deeper_of c d)) r pre_named (λ a g. g.0) (λ us. named_window_cut d us cut lower) (λ us. named_window_holds c d us lower))
      (cut_step (listed m.Comma named_window_onto) (GoodList NamedLevelled) (ListPasses m.Comma named_window_onto (NamedPasses c d)) r windows_onto (Each NamedLevelled) (OneWindowPasses c d) ts (λ z. m.Window ▸ z) (λ xs. xs) (λ xs us. us) (λ x y. refl) e windows_good windows_spelled' (windows_passes d)))
      tt

  -- ---- tables

  abbrev TableCut : ℕ → Kinds → ℕ → Type 0
  TableCut d ts = IsCut table_onto TableLevelled (TablePasses c d) ts

  abbrev SelectCut : ℕ → Kinds → ℕ → Type 0
  SelectCut d ts = IsCut select_onto SelectLevelled (SelectPasses c d) ts

  abbrev SelectsCut : ℕ → Type 0
  SelectsCut d = (ts : Kinds) → CutBy (SelectCut d ts) (selects c d ts)

  abbrev InsideCut : ℕ → Type 0
  InsideCut zero = Unit {0}
  InsideCut (suc k) = SelectsCut k

  inside_cuts : (left : ℕ) (K : ℕ → ℕ → Type 0) (ts : Kinds) → K 0 left → ((k : ℕ) → SelectsCut k → CutBy (K (suc k)) (selects c k ts)) → (d : ℕ) → InsideCut d → CutBy (K d) (enter left (inside_of c d) (λ p. p ts))
  inside_cuts left K ts h n zero cut = h
  inside_cuts left K ts h n (suc k) cut = n k cut

  table_cut : (d : ℕ) (ts : Kinds) → InsideCut d → CutBy (TableCut d ts) (table_at (inside_of c d) ts)
  unfolding table_at
  table_cut d ts cut =
      let L : ℕ → ℕ → Type 0 = λ j. TableCut j ts in
      at_terminal (CutBy (L d)) m.LeftBracket ts (λ r. enter (length ts) (inside_of c d) (λ p. p r) >>= λ s. expect m.RightBracket s.1 >>= λ r. required_alias_at r >>= λ alias. Ok (derived s.0 alias.0, alias.1)) (name_at ts >>= λ n. alias_at n.1 >>= λ alias. Ok (named n.0 alias.0, alias.1))
      (λ r e. on_cuts (L d) (enter (length ts) (inside_of c d) (λ p. p r)) (λ s. expect m.RightBracket s.1 >>= λ r. required_alias_at r >>= λ alias. Ok (derived s.0 alias.0, alias.1))
      (inside_cuts (length ts) L r
      (cut_here table_onto TableLevelled (TablePasses c 0) ts (λ z. z) (t.Terminal m.LeftBracket) r (derived some_select some_alias) (λ us. select_onto some_select (m.RightBracket ▸ given_onto some_alias us)) (length ts) (λ x y. refl) (tt, (tt, tt), tt, tt, tt, (tt, tt), tt, tt) e (sym (ap length e)) (λ us. refl) (λ us. refl))
      (λ k all. mapped_cuts (SelectCut k r) (L (suc k)) (selects c k r) (all r)
      (cut_step select_onto SelectLevelled (SelectPasses c k) r table_onto TableLevelled (TablePasses c (suc k)) ts (λ z. m.LeftBracket ▸ z) (λ s. derived s some_alias) (λ s us. m.RightBracket ▸ given_onto some_alias us) (λ x y. refl) e (λ s g. g) (λ s us g. refl) (λ s us rest g p. p))) d cut)
      (λ s. on_cuts (L d) (expect m.RightBracket s.1) (λ r. required_alias_at r >>= λ alias. Ok (derived s.0 alias.0, alias.1)) (expect_cuts (L d) m.RightBracket s.1) (λ q. on_cuts (L d) (required_alias_at q) (λ alias. Ok (derived s.0 alias.0, alias.1)) (given_cuts (L d) q) (λ alias. tt))))
      (on_cuts (L d) (name_at ts) (λ n. alias_at n.1 >>= λ alias. Ok (named n.0 alias.0, alias.1)) (name_cuts (L d) ts) (λ n. on_cuts (L d) (alias_at n.1) (λ alias. Ok (named n.0 alias.0, alias.1)) (alias_cuts (L d) n.1) (λ alias. tt)))

  abbrev JoinCut : ℕ → Kinds → ℕ → Type 0
  JoinCut d ts = IsCut join_onto JoinLevelled (JoinPasses c d) ts

  -- what stands before the table of an inner join
  abbrev inner_terminal : Bool → Kinds → Kinds
  inner_terminal true z = m.Inner ▸ m.Join ▸ z
  inner_terminal false z = m.Join ▸ z

  pre_inner : (b : Bool) → IsPre (inner_terminal b)
  pre_inner true ts us = refl
  pre_inner false ts us = refl

  inner_spelled : (b : Bool) (table : TableTree) (on : Tree) (us : Kinds) → join_onto (inner b table on) us ≡ inner_terminal b (table_onto table (m.On ▸ onto on us))
  inner_spelled true table on us = refl
  inner_spelled false table on us = refl

  inner_cut : (d : ℕ) (b : Bool) (item : Parser Tree) (ts us : Kinds) → WholeCut c d item → InsideCut d → Inside c d → ts ≡ inner_terminal b us → CutBy (JoinCut d ts) (inner_at (inside_of c d) item b us)
  unfolding inner_at
  inner_cut d b item ts us cut tables lower e =
      let L : ℕ → Type 0 = JoinCut d ts in
      then_cuts (TableCut d us) L (IsPart table_onto (GoodTable c d) us) (table_at (inside_of c d) us) (λ table. expect m.On table.1 >>= λ r. item r >>= λ on. Ok (inner b table.0 on.0, on.1)) (table_cut d us tables) (table_holds c d us lower)
      (cut_step table_onto TableLevelled (TablePasses c d) us join_onto JoinLevelled (JoinPasses c d) ts (inner_terminal b) (λ table. inner b table nothing) (λ table us. m.On ▸ (t.Terminal m.Null ∷ us)) (pre_inner b) e (λ table g. (g, tt)) (λ table us g. inner_spelled b table nothing us) (λ table us rest g s. inl s))
      (λ table i. terminal_cuts L m.On table.1 (λ r. item r >>= λ on. Ok (inner b table.0 on.0, on.1)) (λ r f.
      then_cuts (IsCut onto IsLevelled (Passes c d) r) L (λ z. Unit {0}) (item r) (λ on. Ok (inner b table.0 on.0, on.1)) (cut r) (all_things (item r))
      (cut_step onto IsLevelled (Passes c d) r join_onto JoinLevelled (JoinPasses c d) ts (λ z. inner_terminal b (table_onto table.0 (m.On ▸ z))) (λ on. inner b table.0 on) (λ on us. us) (pre_then (inner_terminal b) (λ z. table_onto table.0 (m.On ▸ z)) (pre_inner b) (pre_then (table_onto table.0) (λ z. m.On ▸ z) (pre_table table.0) (pre_kind (t.Terminal m.On)))) (e ∙ ap (inner_terminal b) (i.parts ∙ ap (table_onto table.0) f)) (λ on g. (i.good.0, g)) (λ on us g. inner_spelled b table.0 on us) (λ on us rest g s. inr s))
      (λ on u. tt)))

  join_cut : (d : ℕ) (item : Parser Tree) (ts : Kinds) → WholeCut c d item → InsideCut d → Inside c d → MayCut (JoinCut d ts) (join_at (inside_of c d) item ts)
  unfolding join_at
  join_cut d item ts cut tables lower =
      let L : ℕ → Type 0 = JoinCut d ts in
      let last : Option (Reads JoinTree) = choose (eat m.Join ts) (λ r. Some (inner_at (inside_of c d) item false r)) None in
      let third : Option (Reads JoinTree) = choose (eat m.Inner ts) (λ r. Some (expect m.Join r >>= λ r. inner_at (inside_of c d) item true r)) last in
      let second : Option (Reads JoinTree) = choose (eat m.Cross ts) (λ r. Some (expect m.Join r >>= λ r. table_at (inside_of c d) r >>= λ table. Ok (cross table.0, table.1))) third in
      at_terminal (MayCut L) m.Comma ts (λ r. Some (table_at (inside_of c d) r >>= λ table. Ok (comma table.0, table.1))) second
      (λ r e. then_cuts (TableCut d r) L (λ z. Unit {0}) (table_at (inside_of c d) r) (λ table. Ok (comma table.0, table.1)) (table_cut d r tables) (all_things (table_at (inside_of c d) r)) (cut_step table_onto TableLevelled (TablePasses c d) r join_onto JoinLevelled (JoinPasses c d) ts (λ z. m.Comma ▸ z) (λ table. comma table) (λ table us. us) (λ x y. refl) e (λ table g. g) (λ table us g. refl) (λ table us rest g s. s)) (λ table u. tt))
      (at_terminal (MayCut L) m.Cross ts (λ r. Some (expect m.Join r >>= λ r. table_at (inside_of c d) r >>= λ table. Ok (cross table.0, table.1))) third
      (λ r e. terminal_cuts L m.Join r (λ r. table_at (inside_of c d) r >>= λ table. Ok (cross table.0, table.1)) (λ us f.
      then_cuts (TableCut d us) L (λ z. Unit {0}) (table_at (inside_of c d) us) (λ table. Ok (cross table.0, table.1)) (table_cut d us tables) (all_things (table_at (inside_of c d) us)) (cut_step table_onto TableLevelled (TablePasses c d) us join_onto JoinLevelled (JoinPasses c d) ts (λ z. m.Cross ▸ m.Join ▸ z) (λ table. cross table) (λ table us. us) (λ x y. refl) (e ∙ ap (λ (z : Kinds). m.Cross ▸ z) f) (λ table g. g) (λ table us g. refl) (λ table us rest g s. s)) (λ table u. tt)))
      (at_terminal (MayCut L) m.Inner ts (λ r. Some (expect m.Join r >>= λ r. inner_at (inside_of c d) item true r)) last
      (λ r e. terminal_cuts L m.Join r (λ r. inner_at (inside_of c d) item true r) (λ us f. inner_cut d true item ts us cut tables lower (e ∙ ap (λ (z : Kinds). m.Inner ▸ z) f)))
      (at_terminal (MayCut L) m.Join ts (λ r. Some (inner_at (inside_of c d) item false r)) None (λ r e. inner_cut d false item ts r cut tables lower e) tt)))

  -- the tables, and nothing more
  abbrev from_pair : TableTree × Joins → Kinds → Kinds
  from_pair tables us = table_onto tables.0 (joins_onto tables.1 us)

  abbrev FromLevelled : TableTree × Joins → Type 0
  FromLevelled tables = TableLevelled tables.0 × JoinsLevelled tables.1

  abbrev FromPasses : ℕ → TableTree × Joins → Kinds → Kinds → Type 0
  FromPasses d tables us rest = TablePasses c d tables.0 (joins_onto tables.1 us) rest ⊎ OneJoinPasses c d tables.1 us rest

  from_cut : (d : ℕ) (item : Parser Tree) (ts : Kinds) → WholeCut c d item → Whole c d item → InsideCut d → Inside c d → CutBy (IsCut from_pair FromLevelled (FromPasses d) ts) (from_at (inside_of c d) item ts)
  unfolding from_at
  from_cut d item ts cut op tables lower =
      let L : ℕ → Type 0 = IsCut from_pair FromLevelled (FromPasses d) ts in
      then_cuts (TableCut d ts) L (IsPart table_onto (GoodTable c d) ts) (table_at (inside_of c d) ts) (λ first. many (join_at (inside_of c d) item) (length first.1) first.1 >>= λ joins. Ok ((first.0, joins.0), joins.1)) (table_cut d ts tables) (table_holds c d ts lower)
      (cut_step table_onto TableLevelled (TablePasses c d) ts from_pair FromLevelled (FromPasses d) ts (λ z. z) (λ table. (table, no_joins)) (λ table us. us) (λ x y. refl) refl (λ table g. (g, tt)) (λ table us g. refl) (λ table us rest g s. inl s))
      (λ first i. then_cuts (IsCut (all_onto join_onto) (Each JoinLevelled) (SomePasses join_onto (JoinPasses c d)) first.1) L (λ z. Unit {0}) (many (join_at (inside_of c d) item) (length first.1) first.1) (λ joins. Ok ((first.0, joins.0), joins.1))
      (many_cut join_onto JoinLevelled (GoodJoin c d) (JoinPasses c d) (join_at (inside_of c d) item) (length first.1) first.1 pre_join (λ a g. g.0) (λ us. join_cut d item us cut tables lower) (λ us. join_holds c d item us op lower)) (all_things (many (join_at (inside_of c d) item) (length first.1) first.1))
      (cut_step (all_onto join_onto) (Each JoinLevelled) (SomePasses join_onto (JoinPasses c d)) first.1 from_pair FromLevelled (FromPasses d) ts (table_onto first.0) (λ xs. (first.0, joins_of xs)) (λ xs us. us) (pre_table first.0) i.parts (λ xs g. (i.good.0, joins_good xs g)) (λ xs us g. ap (table_onto first.0) (sym (joins_spelled xs us))) (λ xs us rest g s. inr (joins_pass c d xs us rest s)))
      (λ joins u. tt))

  -- ---- selects

  items_good : (xs : List ItemTree) → GoodList ItemLevelled xs → IsSomeItem xs × Each ItemLevelled xs
  items_good [] h = absurd h
  items_good (a ∷ xs) h = (tt, h)

  items_listed : (xs : List ItemTree) (us : Kinds) → GoodList ItemLevelled xs → items_onto xs us ≡ listed m.Comma item_onto xs us
  items_listed [] us h = refl
  items_listed (a ∷ xs) us h = ap (item_onto a) (sym (items_spelled xs us))

  items_passes : (d : ℕ) (xs : List ItemTree) (us rest : Kinds) → GoodList ItemLevelled xs → ListPasses m.Comma item_onto (ItemPasses c d) xs us rest → OneItemPasses c d xs us rest
  items_passes d [] us rest h s = absurd h
  items_passes d (a ∷ xs) us rest h s = ⊎_elim (λ p. inl (subst (λ z. ItemPasses c d a z rest) (items_spelled xs us) p)) (λ p. inr (items_pass c d xs us rest p)) s

  -- what the items that were read say of the list
  items_read : (d : ℕ) (us mid : Kinds) (xs : List ItemTree) → IsListed m.Comma item_onto (GoodItem c d) us xs mid → (IsSomeItem xs × Each ItemLevelled xs) × (us ≡ items_onto xs mid)
  items_read d us mid [] h = absurd h
  items_read d us mid (a ∷ xs) h = ((tt, (h.1.0, each_left ItemLevelled (ItemFits c d) xs h.2)), h.0 ∙ ap (item_onto a) (items_spelled xs mid))

  select_cut : (d : ℕ) (ts : Kinds) → 1 ≤ c → InsideCut d → Inside c d → CutBy (SelectCut d ts) (select_at c d (inside_of c d) ts)
  unfolding select_at
  select_cut d ts one tables lower =
      let L : ℕ → Type 0 = SelectCut d ts in
      let p : Parser Tree = read c d 8 in
      let op : Whole c d p = whole_expression c d (sound c d one) in
      let cuts : WholeCut c d p = whole_cut c d (cut c d one) in
      let inside : Inner = inside_of c d in
      terminal_cuts L m.Select ts (λ r. list_at m.Comma (item_at p) (quantifier_at r).1 >>= λ items. expect m.From items.1 >>= λ q. from_at inside p q >>= λ tables. filter_at p tables.1 >>= λ filter. grouping_at d p filter.1 >>= λ grouping. windows_at (deeper_of c d) grouping.1 >>= λ windows. order_at p windows.1 >>= λ order. limits_at order.1 >>= λ limits. Ok (select (record { quantifier = (quantifier_at r).0; items = items.0; tail = record { filter = filter.0; grouping = grouping.0; windows = windows.0; order = keys_of order.0; limits = limits.0 } }) tables.0.0 (joins_of tables.0.1), limits.1)) (λ r e.
      let quantifier : Option Quantifier = (quantifier_at r).0 in
      let us : Kinds = (quantifier_at r).1 in
      let start : ts ≡ m.Select ▸ quantifier_onto quantifier us = e ∙ ap (λ (z : Kinds). m.Select ▸ z) (quantifier_is r) in
      let pre0 : Kinds → Kinds = λ z. m.Select ▸ quantifier_onto quantifier z in
      let hp0 : IsPre pre0 = pre_then (λ z. m.Select ▸ z) (quantifier_onto quantifier) (λ x y. refl) (pre_quantifier quantifier) in
      then_cuts (IsCut (listed m.Comma item_onto) (GoodList ItemLevelled) (ListPasses m.Comma item_onto (ItemPasses c d)) us) L (λ y. IsListed m.Comma item_onto (GoodItem c d) us y.0 y.1) (list_at m.Comma (item_at p) us) (λ items. expect m.From items.1 >>= λ q. from_at inside p q >>= λ tables. filter_at p tables.1 >>= λ filter. grouping_at d p filter.1 >>= λ grouping. windows_at (deeper_of c d) grouping.1 >>= λ windows. order_at p windows.1 >>= λ order. limits_at order.1 >>= λ limits. Ok (select (record { quantifier = quantifier; items = items.0; tail = record { filter = filter.0; grouping = grouping.0; windows = windows.0; order = keys_of order.0; limits = limits.0 } }) tables.0.0 (joins_of tables.0.1), limits.1))
      (list_cut m.Comma item_onto ItemLevelled (GoodItem c d) (ItemPasses c d) (item_at p) us pre_item (λ a g. g.0) (λ vs. item_cut d p vs cuts) (λ vs. item_holds c d p vs op)) (list_holds m.Comma item_onto (GoodItem c d) (item_at p) us (λ vs. item_holds c d p vs op))
      (cut_step (listed m.Comma item_onto) (GoodList ItemLevelled) (ListPasses m.Comma item_onto (ItemPasses c d)) us select_onto SelectLevelled (SelectPasses c d) ts pre0 (λ xs. short quantifier xs some_table [] None no_grouping [] no_keys) (λ xs us. m.From ▸ table_onto some_table us) hp0 start (λ xs g. let y = items_good xs g in (y.0, y.1, tt, tt, tt, (tt, tt), tt, tt)) (λ xs us g. ap pre0 (items_listed xs (m.From ▸ table_onto some_table us) g)) (λ xs us rest g s. inl (items_passes d xs (m.From ▸ table_onto some_table us) rest g s)))
      (λ items h. let read = items_read d us items.1 items.0 h in
      terminal_cuts L m.From items.1 (λ q. from_at inside p q >>= λ tables. filter_at p tables.1 >>= λ filter. grouping_at d p filter.1 >>= λ grouping. windows_at (deeper_of c d) grouping.1 >>= λ windows. order_at p windows.1 >>= λ order. limits_at order.1 >>= λ limits. Ok (select (record { quantifier = quantifier; items = items.0; tail = record { filter = filter.0; grouping = grouping.0; windows = windows.0; order = keys_of order.0; limits = limits.0 } }) tables.0.0 (joins_of tables.0.1), limits.1)) (λ q f.
      let pre1 : Kinds → Kinds = λ z. pre0 (items_onto items.0 (m.From ▸ z)) in
      let hp1 : IsPre pre1 = pre_then pre0 (λ z. items_onto items.0 (m.From ▸ z)) hp0 (pre_then (items_onto items.0) (λ z. m.From ▸ z) (pre_items items.0) (λ x y. refl)) in
      let start1 : ts ≡ pre1 q = start ∙ ap pre0 (read.1 ∙ ap (items_onto items.0) f) in
      then_cuts (IsCut from_pair FromLevelled (FromPasses d) q) L (IsPart (from_onto c) (GoodTables c d) q) (from_at inside p q) (λ tables. filter_at p tables.1 >>= λ filter. grouping_at d p filter.1 >>= λ grouping. windows_at (deeper_of c d) grouping.1 >>= λ windows. order_at p windows.1 >>= λ order. limits_at order.1 >>= λ limits. Ok (select (record { quantifier = quantifier; items = items.0; tail = record { filter = filter.0; grouping = grouping.0; windows = windows.0; order = keys_of order.0; limits = limits.0 } }) tables.0.0 (joins_of tables.0.1), limits.1)) (from_cut d p q cuts op tables lower) (from_holds c d p q op lower)
      (cut_step from_pair FromLevelled (FromPasses d) q select_onto SelectLevelled (SelectPasses c d) ts pre1 (λ tables. select (record { quantifier = quantifier; items = items.0; tail = record { filter = None; grouping = no_grouping; windows = []; order = no_keys; limits = None } }) tables.0 tables.1) (λ tables us. us) hp1 start1 (λ tables g. (read.0.0, read.0.1, g.0, g.1, tt, (tt, tt), tt, tt)) (λ tables us g. refl) (λ tables us rest g s. inr (⊎_elim (λ a. inl a) (λ b. inr (inl b)) s)))
      (λ tables it.
      let pre2 : Kinds → Kinds = λ z. pre1 (from_onto c tables.0 z) in
      let hp2 : IsPre pre2 = pre_then pre1 (from_onto c tables.0) hp1 (pre_then (table_onto tables.0.0) (joins_onto (joins_of tables.0.1)) (pre_table tables.0.0) (pre_joins (joins_of tables.0.1))) in
      let start2 : ts ≡ pre2 tables.1 = start1 ∙ ap pre1 it.parts in
      then_cuts (IsCut filter_onto OptionLevelled (FilterPasses c d) tables.1) L (IsPart filter_onto (GoodFilter c d) tables.1) (filter_at p tables.1) (λ filter. grouping_at d p filter.1 >>= λ grouping. windows_at (deeper_of c d) grouping.1 >>= λ windows. order_at p windows.1 >>= λ order. limits_at order.1 >>= λ limits. Ok (select (record { quantifier = quantifier; items = items.0; tail = record { filter = filter.0; grouping = grouping.0; windows = windows.0; order = keys_of order.0; limits = limits.0 } }) tables.0.0 (joins_of tables.0.1), limits.1)) (filter_cut d p tables.1 cuts) (filter_holds c d p tables.1 op)
      (cut_step filter_onto OptionLevelled (FilterPasses c d) tables.1 select_onto SelectLevelled (SelectPasses c d) ts pre2 (λ filter. short quantifier items.0 tables.0.0 tables.0.1 filter no_grouping [] no_keys) (λ filter us. us) hp2 start2 (λ filter g. (read.0.0, read.0.1, it.good.0.0, it.good.0.1, g, (tt, tt), tt, tt)) (λ filter us g. refl) (λ filter us rest g s. inr (inr (inr (inl s)))))
      (λ filter iw.
      let pre3 : Kinds → Kinds = λ z. pre2 (filter_onto filter.0 z) in
      let hp3 : IsPre pre3 = pre_then pre2 (filter_onto filter.0) hp2 (pre_filter filter.0) in
      let start3 : ts ≡ pre3 filter.1 = start2 ∙ ap pre2 iw.parts in
      then_cuts (IsCut grouping_onto GroupingLevelled (GroupingPasses c d) filter.1) L (IsPart grouping_onto (GoodGrouping c d) filter.1) (grouping_at d p filter.1) (λ grouping. windows_at (deeper_of c d) grouping.1 >>= λ windows. order_at p windows.1 >>= λ order. limits_at order.1 >>= λ limits. Ok (select (record { quantifier = quantifier; items = items.0; tail = record { filter = filter.0; grouping = grouping.0; windows = windows.0; order = keys_of order.0; limits = limits.0 } }) tables.0.0 (joins_of tables.0.1), limits.1)) (grouping_cut c d p filter.1 cuts) (grouping_holds c d p filter.1 op)
      (cut_step grouping_onto GroupingLevelled (GroupingPasses c d) filter.1 select_onto SelectLevelled (SelectPasses c d) ts pre3 (λ grouping. short quantifier items.0 tables.0.0 tables.0.1 filter.0 grouping [] no_keys) (λ grouping us. us) hp3 start3 (λ grouping g. (read.0.0, read.0.1, it.good.0.0, it.good.0.1, iw.good.0, g, tt, tt)) (λ grouping us g. refl) (λ grouping us rest g s. inr (inr (inr (inr (inl s))))))
      (λ grouping ig.
      let pre4 : Kinds → Kinds = λ z. pre3 (grouping_onto grouping.0 z) in
      let hp4 : IsPre pre4 = pre_then pre3 (grouping_onto grouping.0) hp3 (pre_grouping grouping.0) in
      let start4 : ts ≡ pre4 grouping.1 = start3 ∙ ap pre3 ig.parts in
      then_cuts (WindowsCut d grouping.1) L (IsPart windows_onto (GoodWindows c d) grouping.1) (windows_at (deeper_of c d) grouping.1) (λ windows. order_at p windows.1 >>= λ order. limits_at order.1 >>= λ limits. Ok (select (record { quantifier = quantifier; items = items.0; tail = record { filter = filter.0; grouping = grouping.0; windows = windows.0; order = keys_of order.0; limits = limits.0 } }) tables.0.0 (joins_of tables.0.1), limits.1)) (windows_cut d grouping.1 (cut_within c d one) (within c d one)) (windows_hold c d grouping.1 (within c d one))
      (cut_step windows_onto (Each NamedLevelled) (OneWindowPasses c d) grouping.1 select_onto SelectLevelled (SelectPasses c d) ts pre4 (λ windows. short quantifier items.0 tables.0.0 tables.0.1 filter.0 grouping.0 windows no_keys) (λ windows us. us) hp4 start4 (λ windows g. (read.0.0, read.0.1, it.good.0.0, it.good.0.1, iw.good.0, ig.good.0, g, tt)) (λ windows us g. refl) (λ windows us rest g s. inr (inr (inr (inr (inr (inl s)))))))
      (λ windows is.
      let pre5 : Kinds → Kinds = λ z. pre4 (windows_onto windows.0 z) in
      let hp5 : IsPre pre5 = pre_then pre4 (windows_onto windows.0) hp4 (pre_windows windows.0) in
      let start5 : ts ≡ pre5 windows.1 = start4 ∙ ap pre4 is.parts in
      then_cuts (OrderCut c d windows.1) L (λ z. Unit {0}) (order_at p windows.1) (λ order. limits_at order.1 >>= λ limits. Ok (select (record { quantifier = quantifier; items = items.0; tail = record { filter = filter.0; grouping = grouping.0; windows = windows.0; order = keys_of order.0; limits = limits.0 } }) tables.0.0 (joins_of tables.0.1), limits.1)) (order_cut c d p windows.1 cuts op) (all_things (order_at p windows.1))
      (cut_step order_onto KeysLevelled (KeyPasses c d) windows.1 select_onto SelectLevelled (SelectPasses c d) ts pre5 (λ order. short quantifier items.0 tables.0.0 tables.0.1 filter.0 grouping.0 windows.0 order) (λ order us. us) hp5 start5 (λ order g. (read.0.0, read.0.1, it.good.0.0, it.good.0.1, iw.good.0, ig.good.0, is.good.0, g)) (λ order us g. refl) (λ order us rest g s. inr (inr (inr (inr (inr (inr s)))))))
      (λ order u. on_cuts L (limits_at order.1) (λ limits. Ok (select (record { quantifier = quantifier; items = items.0; tail = record { filter = filter.0; grouping = grouping.0; windows = windows.0; order = keys_of order.0; limits = limits.0 } }) tables.0.0 (joins_of tables.0.1), limits.1)) (limits_cuts L order.1) (λ limits. tt)))))))))

  selects_cut : (d : ℕ) → 1 ≤ c → SelectsCut d
  unfolding selects
  selects_cut zero one ts = select_cut zero ts one tt tt
  selects_cut (suc d) one ts = select_cut (suc d) ts one (selects_cut d one) (selects_hold c d one)

  -- ---- queries

  last_cuts : (L : ℕ → Type 0) (q : QueryTree) (ts : Kinds) → CutBy L (if_last q ts)
  last_cuts L q [] = tt
  last_cuts L q (x ∷ ts) = tt

  -- where the tokens pass a limit, with so many tokens left
  abbrev pub Passed : ℕ → Kinds → ℕ → Type 0
  Passed d ts left = (front : Kinds) × (token : TokenKind) × (more : Kinds) × (tree : QueryTree) × (after : Kinds) × (suc (length more) ≡ left) × (ts ≡ front ++ token ∷ more) × (spell tree ≡ front ++ token ∷ after) × IsWellLevelled tree × QueryPasses c d tree (token ∷ after)

  select_passed : (d : ℕ) (ts : Kinds) (left : ℕ) → SelectCut d ts left → Passed d ts left
  select_passed d ts left i = let y = i.found [] in (y.0, i.token, i.more, query i.tree false, y.1, i.counted, y.2, y.3, i.good, y.4)

  pub whole_cuts : (d : ℕ) (ts : Kinds) → 1 ≤ c → CutBy (Passed d ts) (whole c d ts)
  unfolding whole
  whole_cuts d ts one =
      then_cuts (SelectCut d ts) (Passed d ts) (λ z. Unit {0}) (selects c d ts) (λ s. choose (eat m.Semicolon s.1) (λ r. if_last (query s.0 true) r) (if_last (query s.0 false) s.1)) (selects_cut d one ts) (all_things (selects c d ts)) (select_passed d ts)
      (λ s u. either_cuts (Passed d ts) (eat m.Semicolon s.1) (λ r. if_last (query s.0 true) r) (if_last (query s.0 false) s.1) (λ r. last_cuts (Passed d ts) (query s.0 true) r) (last_cuts (Passed d ts) (query s.0 false) s.1))
