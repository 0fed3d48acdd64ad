-- What is read of a query is spelled so, is well-levelled and keeps the limits.
use Rattle.std.proofs.Common.{◌≡◌, ℕ, zero, suc, ◌≤◌, Bool, true, false, List, [], ◌∷◌, length, Option, Some, None, Ok, refl, sym, ap, ◌∙◌}
use Rattle.wd_lex.specs.declared.token.Terminal.TheVariants as m
use Rattle.wd_read_cursor.specs.declared.name.Name.{Name}
use Rattle.wd_syntax.specs.declared.query.Quantifier.{Quantifier}
use Rattle.wd_syntax.specs.declared.query.Limits.{Limits}
use Rattle.wd_read_cursor.specs.Tokens.{Kinds, ◌▸◌, name_kind}
use Rattle.wd_syntax.specs.Tree.{Tree, WindowTree, Keys, ItemTree, all_columns, shown, TableTree, named, derived, JoinTree, comma, cross, inner, Joins, GroupingTree, SelectTree, select, QueryTree, query, keys_of, joins_of, Each}
use Rattle.wd_syntax.specs.Spelling.{onto, order_onto, quantifier_onto, given_onto, alias_onto, item_onto, more_items_onto, filter_onto, grouping_onto, named_window_onto, more_windows_onto, windows_onto, limits_onto, table_onto, join_onto, joins_onto, select_onto, spell}
use Rattle.wd_syntax.specs.Levels.{WindowLevelled, KeysLevelled, ItemLevelled, OptionLevelled, TableLevelled, JoinLevelled, JoinsLevelled, SelectLevelled, IsWellLevelled}
use Rattle.wd_read_expression.proofs.Fitting.{Below, WindowFits, KeysFit}
use Rattle.wd_parse.proofs.Fitting.{ItemFits, OptionFits, TableFits, JoinFits, JoinsFit, SelectFits, QueryFits}
use Rattle.wd_read_cursor.specs.Cursor.{◌>>=◌, Reads, Parser, choose, eat, expect, name_at, many, list_at}
use Rattle.wd_read_expression.specs.Reading.{order_at, window_at, enter, levels, deeper_of, read}
use Rattle.wd_parse.specs.Reading.{quantifier_at, required_alias_at, alias_at, star_at, item_if, item_at, filter_at, grouping_at, named_window_at, windows_at, limits_at, Inner, table_at, inner_at, join_at, from_at, select_at, selects, inside_of, if_last, whole}
use Rattle.wd_read_expression.proofs.SoundPieces.{Kept, Holds, MayHold, then_holds, at_terminal, past_terminal, past_name, IsPart, Spelled, all_onto, led_by, IsListed, list_holds, many_hold, looser_holds}
use Rattle.wd_parse.proofs.SoundPieces.{quantifier_is, given_is, alias_is, star_is, limits_is}
use Rattle.wd_parse.proofs.SoundGroups.{GoodGrouping, grouping_holds}
use Rattle.wd_read_expression.proofs.Sound.{each_left, each_right, Good, Whole, whole_expression, Within, enter_holds, GoodKeys, keys_row_onto, order_holds, window_closed, GoodWindow, window_holds, sound, within}

pub items_spelled : (xs : List ItemTree) (ts : Kinds) → all_onto (led_by m.Comma item_onto) xs ts ≡ more_items_onto xs ts
items_spelled [] ts = refl
items_spelled (a ∷ xs) ts = ap (λ (z : Kinds). m.Comma ▸ item_onto a z) (items_spelled xs ts)

pub windows_spelled : (xs : List (Name × WindowTree)) (ts : Kinds) → all_onto (led_by m.Comma named_window_onto) xs ts ≡ more_windows_onto xs ts
windows_spelled [] ts = refl
windows_spelled (a ∷ xs) ts = ap (λ (z : Kinds). m.Comma ▸ named_window_onto a z) (windows_spelled xs ts)

pub joins_spelled : (xs : List JoinTree) (ts : Kinds) → all_onto join_onto xs ts ≡ joins_onto (joins_of xs) ts
joins_spelled [] ts = refl
joins_spelled (a ∷ xs) ts = ap (join_onto a) (joins_spelled xs ts)

module _ (c : ℕ) where
  abbrev pub GoodItem : ℕ → ItemTree → Type 0
  GoodItem d a = ItemLevelled a × ItemFits c d a

  abbrev pub GoodNamed : ℕ → Name × WindowTree → Type 0
  GoodNamed d w = WindowLevelled w.1 × Below d (λ k. WindowFits c k w.1)

  abbrev pub GoodTable : ℕ → TableTree → Type 0
  GoodTable d table = TableLevelled table × TableFits c d table

  abbrev pub GoodJoin : ℕ → JoinTree → Type 0
  GoodJoin d join = JoinLevelled join × JoinFits c d join

  abbrev pub GoodSelect : ℕ → SelectTree → Type 0
  GoodSelect d s = SelectLevelled s × SelectFits c d s

  abbrev pub GoodFilter : ℕ → Option Tree → Type 0
  GoodFilter d filter = OptionLevelled filter × OptionFits c d filter

  -- ---- the select list

  item_else : (d : ℕ) (ts : Kinds) (o : Option (Name × Kinds)) (other : Reads ItemTree) → Kept (λ x. ts ≡ name_kind x.0 ∷ (m.Dot ▸ m.Star ▸ x.1)) o → Holds (IsPart item_onto (GoodItem d) ts) other → Holds (IsPart item_onto (GoodItem d) ts) (item_if o other)
  item_else d ts None other k h = h
  item_else d ts (Some n) other k h = record { parts = k; good = (tt, tt) }

  pub item_holds : (d : ℕ) (item : Parser Tree) (ts : Kinds) → Whole c d item → Holds (IsPart item_onto (GoodItem d) ts) (item_at item ts)
  unfolding item_at
  item_holds d item ts op =
      let Q : ItemTree × Kinds → Type 0 = IsPart item_onto (GoodItem d) ts in
      at_terminal (Holds Q) m.Star ts (λ r. Ok (all_columns, r)) (item_if (star_at ts) (item ts >>= λ a. alias_at a.1 >>= λ alias. Ok (shown a.0 alias.0, alias.1)))
      (λ r e. record { parts = e; good = (tt, tt) })
      (item_else d ts (star_at ts) (item ts >>= λ a. alias_at a.1 >>= λ alias. Ok (shown a.0 alias.0, alias.1)) (star_is ts)
      (then_holds (IsPart onto (Good c d) ts) Q (item ts) (λ a. alias_at a.1 >>= λ alias. Ok (shown a.0 alias.0, alias.1)) (op ts) (λ a i.
      then_holds (Spelled alias_onto a.1) Q (alias_at a.1) (λ alias. Ok (shown a.0 alias.0, alias.1)) (alias_is a.1) (λ alias e.
      record { parts = i.parts ∙ ap (onto a.0) e; good = i.good }))))

  -- ---- WHERE and WINDOW

  pub filter_holds : (d : ℕ) (item : Parser Tree) (ts : Kinds) → Whole c d item → Holds (IsPart filter_onto (GoodFilter d) ts) (filter_at item ts)
  unfolding filter_at
  filter_holds d item ts op =
      let Q : Option Tree × Kinds → Type 0 = IsPart filter_onto (GoodFilter d) ts in
      at_terminal (Holds Q) m.Where ts (λ r. item r >>= λ a. Ok (Some a.0, a.1)) (Ok (None, ts))
      (λ r e. then_holds (IsPart onto (Good c d) r) Q (item r) (λ a. Ok (Some a.0, a.1)) (op r) (λ a i. record { parts = e ∙ ap (λ (z : Kinds). m.Where ▸ z) i.parts; good = i.good }))
      (record { parts = refl; good = (tt, tt) })

  pub named_window_holds : (d : ℕ) (ts : Kinds) → Within c d → Holds (IsPart named_window_onto (GoodNamed d) ts) (named_window_at (deeper_of c d) ts)
  unfolding named_window_at
  named_window_holds d ts lower =
      let R : (Name × WindowTree) × Kinds → Type 0 = IsPart named_window_onto (GoodNamed d) ts in
      past_name R ts (λ n. expect m.As n.1 >>= λ r. expect m.LeftBracket r >>= λ q. enter (length r) (deeper_of c d) (λ p. window_at (p 8) q) >>= λ w. Ok ((n.0, w.0), w.1)) (λ n e.
      past_terminal R m.As n.1 (λ r. expect m.LeftBracket r >>= λ q. enter (length r) (deeper_of c d) (λ p. window_at (p 8) q) >>= λ w. Ok ((n.0, w.0), w.1)) (λ r f.
      past_terminal R m.LeftBracket r (λ q. enter (length r) (deeper_of c d) (λ p. window_at (p 8) q) >>= λ w. Ok ((n.0, w.0), w.1)) (λ us g.
      then_holds (IsPart (window_closed c) (λ w. WindowLevelled w × Below d (λ k. WindowFits c k w)) us) R (enter (length r) (deeper_of c d) (λ p. window_at (p 8) us)) (λ w. Ok ((n.0, w.0), w.1))
      (enter_holds c (length r) (λ j. IsPart (window_closed c) (λ w. WindowLevelled w × Below j (λ k. WindowFits c k w)) us) (λ p. window_at (p 8) us) (λ k sound.
      looser_holds (IsPart (window_closed c) (GoodWindow c k) us) (IsPart (window_closed c) (λ w. WindowLevelled w × Below (suc k) (λ k. WindowFits c k w)) us) (window_at (levels c (deeper_of c k) 8) us) (window_holds c k (levels c (deeper_of c k) 8) us (whole_expression c k sound)) (λ x i. record { parts = i.parts; good = (i.good.0, i.good.1) })) d lower)
      (λ w i. record { parts = e ∙ ap (λ (z : Kinds). name_kind n.0 ∷ z) (f ∙ ap (λ (z : Kinds). m.As ▸ z) (g ∙ ap (λ (z : Kinds). m.LeftBracket ▸ z) i.parts)); good = i.good }))))

  abbrev pub GoodWindows : ℕ → List (Name × WindowTree) → Type 0
  GoodWindows d windows = Each (λ w. WindowLevelled w.1) windows × Each (λ w. Below d (λ k. WindowFits c k w.1)) windows

  windows_listed : (d : ℕ) (ts us rest : Kinds) (xs : List (Name × WindowTree)) → ts ≡ m.Window ▸ us → IsListed m.Comma named_window_onto (GoodNamed d) us xs rest → IsPart windows_onto (GoodWindows d) ts (xs, rest)
  windows_listed d ts us rest [] e h = absurd h
  windows_listed d ts us rest (a ∷ xs) e h = record { parts = e ∙ ap (λ (z : Kinds). m.Window ▸ z) (h.0 ∙ ap (named_window_onto a) (windows_spelled xs rest)); good = ((h.1.0, each_left (λ w. WindowLevelled w.1) (λ w. Below d (λ k. WindowFits c k w.1)) xs h.2), (h.1.1, each_right (λ w. WindowLevelled w.1) (λ w. Below d (λ k. WindowFits c k w.1)) xs h.2)) }

  pub windows_hold : (d : ℕ) (ts : Kinds) → Within c d → Holds (IsPart windows_onto (GoodWindows d) ts) (windows_at (deeper_of c d) ts)
  unfolding windows_at
  windows_hold d ts lower =
      let Q : List (Name × WindowTree) × Kinds → Type 0 = IsPart windows_onto (GoodWindows d) ts in
      at_terminal (Holds Q) m.Window ts (λ r. list_at m.Comma (named_window_at (deeper_of c d)) r) (Ok ([], ts))
      (λ r e. looser_holds (λ y. IsListed m.Comma named_window_onto (GoodNamed d) r y.0 y.1) Q (list_at m.Comma (named_window_at (deeper_of c d)) r) (list_holds m.Comma named_window_onto (GoodNamed d) (named_window_at (deeper_of c d)) r (λ us. named_window_holds d us lower)) (λ y h. windows_listed d ts r y.1 y.0 e h))
      (record { parts = refl; good = (tt, tt) })

  -- ---- tables

  abbrev Selects : ℕ → Type 0
  Selects d = (ts : Kinds) → Holds (IsPart select_onto (GoodSelect d) ts) (selects c d ts)

  abbrev pub Inside : ℕ → Type 0
  Inside zero = Unit {0}
  Inside (suc k) = Selects k

  inside_holds : (left : ℕ) (Q : ℕ → SelectTree × Kinds → Type 0) (ts : Kinds) → ((k : ℕ) → Selects k → Holds (Q (suc k)) (selects c k ts)) → (d : ℕ) → Inside d → Holds (Q d) (enter left (inside_of c d) (λ p. p ts))
  inside_holds left Q ts h zero lower = tt
  inside_holds left Q ts h (suc k) lower = h k lower

  pub table_holds : (d : ℕ) (ts : Kinds) → Inside d → Holds (IsPart table_onto (GoodTable d) ts) (table_at (inside_of c d) ts)
  unfolding table_at
  table_holds d ts lower =
      let Q : TableTree × Kinds → Type 0 = IsPart table_onto (GoodTable d) ts in
      let Below-select : ℕ → SelectTree → Type 0 = λ j s. SelectLevelled s × Below j (λ k. SelectFits c k s) in
      at_terminal (Holds Q) m.LeftBracket ts (λ r. enter (length ts) (inside_of c d) (λ p. p r) >>= λ s. expect m.RightBracket s.1 >>= λ r. required_alias_at r >>= λ alias. Ok (derived s.0 alias.0, alias.1)) (name_at ts >>= λ n. alias_at n.1 >>= λ alias. Ok (named n.0 alias.0, alias.1))
      (λ r e. then_holds (IsPart select_onto (Below-select d) r) Q (enter (length ts) (inside_of c d) (λ p. p r)) (λ s. expect m.RightBracket s.1 >>= λ r. required_alias_at r >>= λ alias. Ok (derived s.0 alias.0, alias.1))
      (inside_holds (length ts) (λ j. IsPart select_onto (Below-select j) r) r (λ k all.
      looser_holds (IsPart select_onto (GoodSelect k) r) (IsPart select_onto (Below-select (suc k)) r) (selects c k r) (all r) (λ x i. record { parts = i.parts; good = (i.good.0, i.good.1) })) d lower)
      (λ s i. past_terminal Q m.RightBracket s.1 (λ r. required_alias_at r >>= λ alias. Ok (derived s.0 alias.0, alias.1)) (λ q f.
      then_holds (Spelled given_onto q) Q (required_alias_at q) (λ alias. Ok (derived s.0 alias.0, alias.1)) (given_is q) (λ alias g.
      record { parts = e ∙ ap (λ (z : Kinds). m.LeftBracket ▸ z) (i.parts ∙ ap (select_onto s.0) (f ∙ ap (λ (z : Kinds). m.RightBracket ▸ z) g)); good = i.good }))))
      (past_name Q ts (λ n. alias_at n.1 >>= λ alias. Ok (named n.0 alias.0, alias.1)) (λ n e.
      then_holds (Spelled alias_onto n.1) Q (alias_at n.1) (λ alias. Ok (named n.0 alias.0, alias.1)) (alias_is n.1) (λ alias f.
      record { parts = e ∙ ap (λ (z : Kinds). name_kind n.0 ∷ z) f; good = (tt, tt) })))

  inner_onto : (b : Bool) (table : TableTree) (on : Tree) (us rest : Kinds) → (ts : Kinds) → us ≡ table_onto table (m.On ▸ onto on rest) → (b ≡ true → ts ≡ m.Inner ▸ m.Join ▸ us) → (b ≡ false → ts ≡ m.Join ▸ us) → ts ≡ join_onto (inner b table on) rest
  inner_onto true table on us rest ts e f g = f refl ∙ ap (λ (z : Kinds). m.Inner ▸ m.Join ▸ z) e
  inner_onto false table on us rest ts e f g = g refl ∙ ap (λ (z : Kinds). m.Join ▸ z) e

  inner_holds : (d : ℕ) (b : Bool) (item : Parser Tree) (ts us : Kinds) → Whole c d item → Inside d → (b ≡ true → ts ≡ m.Inner ▸ m.Join ▸ us) → (b ≡ false → ts ≡ m.Join ▸ us) → Holds (IsPart join_onto (GoodJoin d) ts) (inner_at (inside_of c d) item b us)
  unfolding inner_at
  inner_holds d b item ts us op lower with_inner without =
      let Q : JoinTree × Kinds → Type 0 = IsPart join_onto (GoodJoin d) ts in
      then_holds (IsPart table_onto (GoodTable d) us) Q (table_at (inside_of c d) us) (λ table. expect m.On table.1 >>= λ r. item r >>= λ on. Ok (inner b table.0 on.0, on.1)) (table_holds d us lower) (λ table i.
      past_terminal Q m.On table.1 (λ r. item r >>= λ on. Ok (inner b table.0 on.0, on.1)) (λ r e.
      then_holds (IsPart onto (Good c d) r) Q (item r) (λ on. Ok (inner b table.0 on.0, on.1)) (op r) (λ on j.
      record { parts = inner_onto b table.0 on.0 us on.1 ts (i.parts ∙ ap (table_onto table.0) (e ∙ ap (λ (z : Kinds). m.On ▸ z) j.parts)) with_inner without; good = ((i.good.0, j.good.0), (i.good.1, j.good.1)) })))

  no_truth : true ≡ false → ⊥
  no_truth e = cc

  no_falsehood : false ≡ true → ⊥
  no_falsehood e = cc

  pub join_holds : (d : ℕ) (item : Parser Tree) (ts : Kinds) → Whole c d item → Inside d → MayHold (IsPart join_onto (GoodJoin d) ts) (join_at (inside_of c d) item ts)
  unfolding join_at
  join_holds d item ts op lower =
      let Q : JoinTree × Kinds → Type 0 = IsPart join_onto (GoodJoin d) ts in
      let last : Option (Reads JoinTree) = choose (eat m.Join ts) (λ r. Some (inner_at (inside_of c d) item false r)) None in
      let third : Option (Reads JoinTree) = choose (eat m.Inner ts) (λ r. Some (expect m.Join r >>= λ r. inner_at (inside_of c d) item true r)) last in
      let second : Option (Reads JoinTree) = choose (eat m.Cross ts) (λ r. Some (expect m.Join r >>= λ r. table_at (inside_of c d) r >>= λ table. Ok (cross table.0, table.1))) third in
      at_terminal (MayHold Q) m.Comma ts (λ r. Some (table_at (inside_of c d) r >>= λ table. Ok (comma table.0, table.1))) second
      (λ r e. then_holds (IsPart table_onto (GoodTable d) r) Q (table_at (inside_of c d) r) (λ table. Ok (comma table.0, table.1)) (table_holds d r lower) (λ table i. record { parts = e ∙ ap (λ (z : Kinds). m.Comma ▸ z) i.parts; good = i.good }))
      (at_terminal (MayHold Q) m.Cross ts (λ r. Some (expect m.Join r >>= λ r. table_at (inside_of c d) r >>= λ table. Ok (cross table.0, table.1))) third
      (λ r e. past_terminal Q m.Join r (λ r. table_at (inside_of c d) r >>= λ table. Ok (cross table.0, table.1)) (λ us f.
      then_holds (IsPart table_onto (GoodTable d) us) Q (table_at (inside_of c d) us) (λ table. Ok (cross table.0, table.1)) (table_holds d us lower) (λ table i. record { parts = e ∙ ap (λ (z : Kinds). m.Cross ▸ z) (f ∙ ap (λ (z : Kinds). m.Join ▸ z) i.parts); good = i.good })))
      (at_terminal (MayHold Q) m.Inner ts (λ r. Some (expect m.Join r >>= λ r. inner_at (inside_of c d) item true r)) last
      (λ r e. past_terminal Q m.Join r (λ r. inner_at (inside_of c d) item true r) (λ us f. inner_holds d true item ts us op lower (λ h. e ∙ ap (λ (z : Kinds). m.Inner ▸ z) f) (λ h. absurd (no_truth h))))
      (at_terminal (MayHold Q) m.Join ts (λ r. Some (inner_at (inside_of c d) item false r)) None
      (λ r e. inner_holds d false item ts r op lower (λ h. absurd (no_falsehood h)) (λ h. e))
      tt)))

  joins_levelled : (d : ℕ) (xs : List JoinTree) → Each (GoodJoin d) xs → JoinsLevelled (joins_of xs)
  joins_levelled d [] h = tt
  joins_levelled d (a ∷ xs) h = (h.0.0, joins_levelled d xs h.1)

  joins_fit : (d : ℕ) (xs : List JoinTree) → Each (GoodJoin d) xs → JoinsFit c d (joins_of xs)
  joins_fit d [] h = tt
  joins_fit d (a ∷ xs) h = (h.0.1, joins_fit d xs h.1)

  abbrev Tables : Type 0
  Tables = TableTree × List JoinTree

  abbrev pub from_onto : Tables → Kinds → Kinds
  from_onto tables ts = table_onto tables.0 (joins_onto (joins_of tables.1) ts)

  abbrev pub GoodTables : ℕ → Tables → Type 0
  GoodTables d tables = (TableLevelled tables.0 × JoinsLevelled (joins_of tables.1)) × (TableFits c d tables.0 × JoinsFit c d (joins_of tables.1))

  pub from_holds : (d : ℕ) (item : Parser Tree) (ts : Kinds) → Whole c d item → Inside d → Holds (IsPart from_onto (GoodTables d) ts) (from_at (inside_of c d) item ts)
  unfolding from_at
  from_holds d item ts op lower =
      let Q : Tables × Kinds → Type 0 = IsPart from_onto (GoodTables d) ts in
      then_holds (IsPart table_onto (GoodTable d) ts) Q (table_at (inside_of c d) ts) (λ first. many (join_at (inside_of c d) item) (length first.1) first.1 >>= λ joins. Ok ((first.0, joins.0), joins.1)) (table_holds d ts lower) (λ first i.
      then_holds (IsPart (all_onto join_onto) (Each (GoodJoin d)) first.1) Q (many (join_at (inside_of c d) item) (length first.1) first.1) (λ joins. Ok ((first.0, joins.0), joins.1)) (many_hold join_onto (GoodJoin d) (join_at (inside_of c d) item) (length first.1) first.1 (λ us. join_holds d item us op lower)) (λ joins j.
      record { parts = i.parts ∙ ap (table_onto first.0) (j.parts ∙ joins_spelled joins.0 joins.1); good = ((i.good.0, joins_levelled d joins.0 j.good), (i.good.1, joins_fit d joins.0 j.good)) }))

  -- ---- selects

  select_is : (d : ℕ) (ts us rest t1 t2 t3 t4 t5 : Kinds) (quantifier : Option Quantifier) (items : List ItemTree) (first : TableTree) (joins : Joins) (filter : Option Tree) (grouping : GroupingTree) (windows : List (Name × WindowTree)) (order : Keys) (limits : Option Limits) (mid : Kinds)
      → ts ≡ m.Select ▸ quantifier_onto quantifier us → IsListed m.Comma item_onto (GoodItem d) us items mid → mid ≡ m.From ▸ table_onto first (joins_onto joins t1) → t1 ≡ filter_onto filter t2 → t2 ≡ grouping_onto grouping t3 → t3 ≡ windows_onto windows t4 → t4 ≡ order_onto order t5 → t5 ≡ limits_onto limits rest
      → ((TableLevelled first × JoinsLevelled joins) × (TableFits c d first × JoinsFit c d joins)) → GoodFilter d filter → GoodGrouping c d grouping → GoodWindows d windows → (KeysLevelled order × KeysFit c d order)
      → IsPart select_onto (GoodSelect d) ts (select (record { quantifier = quantifier; items = items; tail = record { filter = filter; grouping = grouping; windows = windows; order = order; limits = limits } }) first joins, rest)
  select_is d ts us rest t1 t2 t3 t4 t5 quantifier [] first joins filter grouping windows order limits mid e h ef e1 e2 e3 e4 e5 gf gw gg gs go = absurd h
  select_is d ts us rest t1 t2 t3 t4 t5 quantifier (a ∷ items) first joins filter grouping windows order limits mid e h ef e1 e2 e3 e4 e5 gf gw gg gs go = record {
    parts = e ∙ ap (λ (z : Kinds). m.Select ▸ quantifier_onto quantifier z) (h.0 ∙ ap (item_onto a) (items_spelled items mid ∙ ap (more_items_onto items) (ef ∙ ap (λ (z : Kinds). m.From ▸ table_onto first (joins_onto joins z)) (e1 ∙ ap (filter_onto filter) (e2 ∙ ap (grouping_onto grouping) (e3 ∙ ap (windows_onto windows) (e4 ∙ ap (order_onto order) e5)))))));
    good = ((tt, (h.1.0, each_left ItemLevelled (ItemFits c d) items h.2), gf.0.0, gf.0.1, gw.0, gg.0, gs.0, go.0), ((h.1.1, each_right ItemLevelled (ItemFits c d) items h.2), gf.1.0, gf.1.1, gw.1, gg.1, gs.1, go.1));
  }

  select_holds : (d : ℕ) (ts : Kinds) → 1 ≤ c → Inside d → Holds (IsPart select_onto (GoodSelect d) ts) (select_at c d (inside_of c d) ts)
  unfolding select_at
  select_holds d ts one lower =
      let Q : SelectTree × Kinds → Type 0 = IsPart select_onto (GoodSelect d) ts in
      let p : Parser Tree = read c d 8 in
      let op : Whole c d p = whole_expression c d (sound c d one) in
      let inside : Inner = inside_of c d in
      past_terminal Q m.Select ts (λ r. list_at m.Comma (item_at p) (quantifier_at r).1 >>= λ items. expect m.From items.1 >>= λ q. from_at inside p q >>= λ tables. filter_at p tables.1 >>= λ filter. grouping_at d p filter.1 >>= λ grouping. windows_at (deeper_of c d) grouping.1 >>= λ windows. order_at p windows.1 >>= λ order. limits_at order.1 >>= λ limits. Ok (select (record { quantifier = (quantifier_at r).0; items = items.0; tail = record { filter = filter.0; grouping = grouping.0; windows = windows.0; order = keys_of order.0; limits = limits.0 } }) tables.0.0 (joins_of tables.0.1), limits.1)) (λ r e.
      let quantifier : Option Quantifier = (quantifier_at r).0 in
      let us : Kinds = (quantifier_at r).1 in
      then_holds (λ y. IsListed m.Comma item_onto (GoodItem d) us y.0 y.1) Q (list_at m.Comma (item_at p) us) (λ items. expect m.From items.1 >>= λ q. from_at inside p q >>= λ tables. filter_at p tables.1 >>= λ filter. grouping_at d p filter.1 >>= λ grouping. windows_at (deeper_of c d) grouping.1 >>= λ windows. order_at p windows.1 >>= λ order. limits_at order.1 >>= λ limits. Ok (select (record { quantifier = quantifier; items = items.0; tail = record { filter = filter.0; grouping = grouping.0; windows = windows.0; order = keys_of order.0; limits = limits.0 } }) tables.0.0 (joins_of tables.0.1), limits.1)) (list_holds m.Comma item_onto (GoodItem d) (item_at p) us (λ vs. item_holds d p vs op)) (λ items h.
      past_terminal Q m.From items.1 (λ q. from_at inside p q >>= λ tables. filter_at p tables.1 >>= λ filter. grouping_at d p filter.1 >>= λ grouping. windows_at (deeper_of c d) grouping.1 >>= λ windows. order_at p windows.1 >>= λ order. limits_at order.1 >>= λ limits. Ok (select (record { quantifier = quantifier; items = items.0; tail = record { filter = filter.0; grouping = grouping.0; windows = windows.0; order = keys_of order.0; limits = limits.0 } }) tables.0.0 (joins_of tables.0.1), limits.1)) (λ q f.
      then_holds (IsPart from_onto (GoodTables d) q) Q (from_at inside p q) (λ tables. filter_at p tables.1 >>= λ filter. grouping_at d p filter.1 >>= λ grouping. windows_at (deeper_of c d) grouping.1 >>= λ windows. order_at p windows.1 >>= λ order. limits_at order.1 >>= λ limits. Ok (select (record { quantifier = quantifier; items = items.0; tail = record { filter = filter.0; grouping = grouping.0; windows = windows.0; order = keys_of order.0; limits = limits.0 } }) tables.0.0 (joins_of tables.0.1), limits.1)) (from_holds d p q op lower) (λ tables it.
      then_holds (IsPart filter_onto (GoodFilter d) tables.1) Q (filter_at p tables.1) (λ filter. grouping_at d p filter.1 >>= λ grouping. windows_at (deeper_of c d) grouping.1 >>= λ windows. order_at p windows.1 >>= λ order. limits_at order.1 >>= λ limits. Ok (select (record { quantifier = quantifier; items = items.0; tail = record { filter = filter.0; grouping = grouping.0; windows = windows.0; order = keys_of order.0; limits = limits.0 } }) tables.0.0 (joins_of tables.0.1), limits.1)) (filter_holds d p tables.1 op) (λ filter iw.
      then_holds (IsPart grouping_onto (GoodGrouping c d) filter.1) Q (grouping_at d p filter.1) (λ grouping. windows_at (deeper_of c d) grouping.1 >>= λ windows. order_at p windows.1 >>= λ order. limits_at order.1 >>= λ limits. Ok (select (record { quantifier = quantifier; items = items.0; tail = record { filter = filter.0; grouping = grouping.0; windows = windows.0; order = keys_of order.0; limits = limits.0 } }) tables.0.0 (joins_of tables.0.1), limits.1)) (grouping_holds c d p filter.1 op) (λ grouping ig.
      then_holds (IsPart windows_onto (GoodWindows d) grouping.1) Q (windows_at (deeper_of c d) grouping.1) (λ windows. order_at p windows.1 >>= λ order. limits_at order.1 >>= λ limits. Ok (select (record { quantifier = quantifier; items = items.0; tail = record { filter = filter.0; grouping = grouping.0; windows = windows.0; order = keys_of order.0; limits = limits.0 } }) tables.0.0 (joins_of tables.0.1), limits.1)) (windows_hold d grouping.1 (within c d one)) (λ windows is.
      then_holds (IsPart (keys_row_onto c) (GoodKeys c d) windows.1) Q (order_at p windows.1) (λ order. limits_at order.1 >>= λ limits. Ok (select (record { quantifier = quantifier; items = items.0; tail = record { filter = filter.0; grouping = grouping.0; windows = windows.0; order = keys_of order.0; limits = limits.0 } }) tables.0.0 (joins_of tables.0.1), limits.1)) (order_holds c d p windows.1 op) (λ order io.
      then_holds (Spelled limits_onto order.1) Q (limits_at order.1) (λ limits. Ok (select (record { quantifier = quantifier; items = items.0; tail = record { filter = filter.0; grouping = grouping.0; windows = windows.0; order = keys_of order.0; limits = limits.0 } }) tables.0.0 (joins_of tables.0.1), limits.1)) (limits_is order.1) (λ limits el.
      select_is d ts us limits.1 tables.1 filter.1 grouping.1 windows.1 order.1 quantifier items.0 tables.0.0 (joins_of tables.0.1) filter.0 grouping.0 windows.0 (keys_of order.0) limits.0 items.1 (e ∙ ap (λ (z : Kinds). m.Select ▸ z) (quantifier_is r)) h (f ∙ ap (λ (z : Kinds). m.From ▸ z) it.parts) iw.parts ig.parts is.parts io.parts el it.good iw.good ig.good is.good io.good)))))))))

  pub selects_hold : (d : ℕ) → 1 ≤ c → Selects d
  unfolding selects
  selects_hold zero one ts = select_holds zero ts one tt
  selects_hold (suc d) one ts = select_holds (suc d) ts one (selects_hold d one)

  -- ---- queries

  -- what is read is a query that the tokens spell
  abbrev pub IsQuery : ℕ → Kinds → QueryTree → Type 0
  IsQuery d ts q = IsWellLevelled q × (spell q ≡ ts) × QueryFits c d q

  last_holds : (d : ℕ) (ts us : Kinds) (q : QueryTree) → (us ≡ [] → IsQuery d ts q) → Holds (IsQuery d ts) (if_last q us)
  last_holds d ts [] q h = h refl
  last_holds d ts (u ∷ us) q h = tt

  pub whole_holds : (d : ℕ) (ts : Kinds) → 1 ≤ c → Holds (IsQuery d ts) (whole c d ts)
  unfolding whole
  whole_holds d ts one =
      then_holds (IsPart select_onto (GoodSelect d) ts) (IsQuery d ts) (selects c d ts) (λ s. choose (eat m.Semicolon s.1) (λ r. if_last (query s.0 true) r) (if_last (query s.0 false) s.1)) (selects_hold d one ts) (λ s i.
      at_terminal (Holds (IsQuery d ts)) m.Semicolon s.1 (λ r. if_last (query s.0 true) r) (if_last (query s.0 false) s.1)
      (λ r e. last_holds d ts r (query s.0 true) (λ f. (i.good.0, sym (i.parts ∙ ap (select_onto s.0) (e ∙ ap (λ (z : Kinds). m.Semicolon ▸ z) f)), i.good.1)))
      (last_holds d ts s.1 (query s.0 false) (λ f. (i.good.0, sym (i.parts ∙ ap (select_onto s.0) f), i.good.1))))
