-- A tree fits into the limits exactly where each of its marks is within them, and where it passes one a mark of it is past it.
use Rattle.std.proofs.Common.{◌≡◌, ℕ, zero, suc, ◌+◌, ◌⊎◌, inl, inr, ◌↔◌, List, [], ◌∷◌, ◌++◌, Option, Some, None, sym, arith, ⊎_elim}
use Rattle.wd_lex.specs.declared.token.Terminal.TheVariants as m
use Rattle.wd_read_cursor.specs.declared.name.Name.{Name}
use Rattle.wd_read_cursor.specs.Tokens.{Kinds, ◌▸◌}
use Rattle.wd_syntax.specs.Tree.{Tree, Constant, Column, Qualified, CallAll, Call, Case, Bracket, Signed, Binary, IsNull, Negated, Trees, no_trees, more_trees, Arms, no_arms, more_arms, Otherwise, no_else, or_else, OverTree, no_over, over_name, over_window, WindowTree, window, Keys, no_keys, more_keys, ItemTree, all_columns, all_of, shown, SetTree, one_column, columns, GroupTree, grouped_by, constructed, GroupingTree, Tail, TableTree, named, derived, JoinTree, comma, cross, inner, Joins, no_joins, more_joins, SelectTree, select, QueryTree, query, Each, One}
use Rattle.wd_syntax.specs.Spelling.{frame_onto, else_onto, over_onto, window_onto, order_onto, given_onto, set_onto, group_item_onto, having_onto, end_onto}
use Rattle.wd_syntax.specs.Limits.{Mark, opened, marks, list_marks, arms_marks, else_marks, over_marks, bracketed_marks, keys_marks, item_marks, items_marks, filter_marks, set_marks, members_marks, group_marks, grouping_marks, windows_marks, tail_marks, table_marks, join_marks, joins_marks, select_marks, query_marks, IsWithin, IsPast, IsPastAt, KeepsLimits}
use Rattle.wd_read_expression.proofs.Fitting.{Below, Fits, AllFit, ArmsFit, ElseFits, OverFits, WindowFits, KeysFit}
use Rattle.wd_parse.proofs.Fitting.{ItemFits, OptionFits, SetFits, GroupFits, GroupingFits, TableFits, JoinFits, JoinsFit, SelectFits, QueryFits}
use Rattle.wd_read_expression.proofs.Passing.{Opens, Passes, OnePasses, ArmPasses, ElsePasses, OverPasses, WindowPasses, KeyPasses}
use Rattle.wd_parse.proofs.Passing.{ItemPasses, OneItemPasses, FilterPasses, SetPasses, MemberPasses, GroupPasses, GroupingPasses, OneWindowPasses, TablePasses, JoinPasses, OneJoinPasses, SelectPasses, QueryPasses}

-- as many levels are left as are not open
abbrev Left : ℕ → ℕ → Type 0
Left n d = n + d ≡ 32

-- ---- marks within the limits

abbrev IsGood : Mark → Type 0
IsGood mark = IsWithin mark.weight

-- each mark is within the limits
record Good (xs : List Mark) : Type 0 where
  each : Each IsGood xs

both : (xs ys : List Mark) → Each IsGood xs → Each IsGood ys → Each IsGood (xs ++ ys)
both [] ys h k = k
both (a ∷ xs) ys h k = (h.0, both xs ys h.1 k)

first : (xs ys : List Mark) → Each IsGood (xs ++ ys) → Each IsGood xs
first [] ys h = tt
first (a ∷ xs) ys h = (h.0, first xs ys h.1)

second : (xs ys : List Mark) → Each IsGood (xs ++ ys) → Each IsGood ys
second [] ys h = h
second (a ∷ xs) ys h = second xs ys h.1

good_both : {xs ys : List Mark} {P Q : Type 0} → (Good xs ↔ P) → (Good ys ↔ Q) → Good (xs ++ ys) ↔ (P × Q)
good_both {xs = xs} {ys = ys} f g = (λ h. (f.0 (record { each = first xs ys h.each }), g.0 (record { each = second xs ys h.each })), λ p. record { each = both xs ys (f.1 p.0).each (g.1 p.1).each })

good_three : {xs ys zs : List Mark} {P Q R : Type 0} → (Good xs ↔ P) → (Good ys ↔ Q) → (Good zs ↔ R) → Good (xs ++ (ys ++ zs)) ↔ (P × Q × R)
good_three f g h = let all = good_both f (good_both g h) in (λ x. let y = all.0 x in (y.0, y.1.0, y.1.1), λ p. all.1 (p.0, (p.1, p.2)))

none_good : {P : Type 0} → P → Good [] ↔ P
none_good p = (λ h. p, λ q. record { each = tt })

good_opened : (n d : ℕ) (within : ℕ → List Mark) {P : ℕ → Type 0} {from : Kinds} → Left n d → ((k : ℕ) → Left (suc n) k → Good (within (suc n)) ↔ P k) → Good (opened n from within) ↔ Below d P
good_opened n zero within e f = (λ h. let le = h.each.0 in absurd (omega (arith, e, le)), λ b. absurd b)
good_opened n (suc d) within e f = let g = f d (omega (arith, e)) in (λ h. g.0 (record { each = h.each.1 }), λ b. record { each = (omega (arith, e), (g.1 b).each) })

-- an operator after its left operand and before its right one, and one after its only operand
good_binary : (mark : Mark) {xs ys : List Mark} {P Q : Type 0} → (Good xs ↔ P) → (Good ys ↔ Q) → Good (xs ++ mark ∷ ys) ↔ (P × Q × IsGood mark)
good_binary mark {xs = xs} {ys = ys} f g = (λ h. let more = second xs (mark ∷ ys) h.each in (f.0 (record { each = first xs (mark ∷ ys) h.each }), g.0 (record { each = more.1 }), more.0), λ p. record { each = both xs (mark ∷ ys) (f.1 p.0).each (p.2, (g.1 p.1).each) })

good_tested : (mark : Mark) {xs : List Mark} {P : Type 0} → (Good xs ↔ P) → Good (xs ++ mark ∷ []) ↔ (P × IsGood mark)
good_tested mark f = let all = good_binary mark f (none_good {P = Unit {0}} tt) in (λ h. let y = all.0 h in (y.0, y.2), λ p. all.1 (p.0, tt, p.1))

mutual
  tree_good : (a : Tree) (n d : ℕ) (ts : Kinds) → Left n d → Good (marks n a ts) ↔ Fits 200 d a
  tree_good (Constant l) n d ts e = none_good tt
  tree_good (Column a) n d ts e = none_good tt
  tree_good (Qualified a b) n d ts e = none_good tt
  tree_good (CallAll f over) n d ts e = good_both (good_opened n d (λ k. []) e (λ k l. none_good tt)) (over_good over n d ts e)
  tree_good (Call f bs over) n d ts e = good_both (good_opened n d (λ k. list_marks k bs (m.RightBracket ▸ over_onto over ts)) e (λ k l. list_good bs (suc n) k (m.RightBracket ▸ over_onto over ts) l)) (over_good over n d ts e)
  tree_good (Case arms other) n d ts e = good_opened n d (λ k. arms_marks k arms (else_onto other (m.End ▸ ts)) ++ else_marks k other (m.End ▸ ts)) e (λ k l. good_both (arms_good arms (suc n) k (else_onto other (m.End ▸ ts)) l) (else_good other (suc n) k (m.End ▸ ts) l))
  tree_good (Bracket a) n d ts e = good_opened n d (λ k. marks k a (m.RightBracket ▸ ts)) e (λ k l. tree_good a (suc n) k (m.RightBracket ▸ ts) l)
  tree_good (Signed s a) n d ts e = good_opened n d (λ k. marks k a ts) e (λ k l. tree_good a (suc n) k ts l)
  tree_good (Binary o a b) n d ts e = good_binary _ (tree_good a n d _ e) (tree_good b n d ts e)
  tree_good (IsNull a not) n d ts e = good_tested _ (tree_good a n d _ e)
  tree_good (Negated a) n d ts e = good_opened n d (λ k. marks k a ts) e (λ k l. tree_good a (suc n) k ts l)

  list_good : (bs : Trees) (n d : ℕ) (ts : Kinds) → Left n d → Good (list_marks n bs ts) ↔ AllFit 200 d bs
  list_good no_trees n d ts e = none_good tt
  list_good (more_trees a bs) n d ts e = good_both (tree_good a n d _ e) (list_good bs n d ts e)

  arms_good : (arms : Arms) (n d : ℕ) (ts : Kinds) → Left n d → Good (arms_marks n arms ts) ↔ ArmsFit 200 d arms
  arms_good no_arms n d ts e = none_good tt
  arms_good (more_arms a b arms) n d ts e = good_three (tree_good a n d _ e) (tree_good b n d _ e) (arms_good arms n d ts e)

  else_good : (other : Otherwise) (n d : ℕ) (ts : Kinds) → Left n d → Good (else_marks n other ts) ↔ ElseFits 200 d other
  else_good no_else n d ts e = none_good tt
  else_good (or_else a) n d ts e = tree_good a n d ts e

  over_good : (over : OverTree) (n d : ℕ) (ts : Kinds) → Left n d → Good (over_marks n over ts) ↔ OverFits 200 d over
  over_good no_over n d ts e = none_good tt
  over_good (over_name name) n d ts e = none_good tt
  over_good (over_window w) n d ts e = bracketed_good w n d ts e

  bracketed_good : (w : WindowTree) (n d : ℕ) (ts : Kinds) → Left n d → Good (bracketed_marks n w ts) ↔ Below d (λ k. WindowFits 200 k w)
  bracketed_good (window base partition order frame) n d ts e = good_opened n d (λ k. list_marks k partition (order_onto order (frame_onto frame (m.RightBracket ▸ ts))) ++ keys_marks k order (frame_onto frame (m.RightBracket ▸ ts))) e (λ k l. good_both (list_good partition (suc n) k (order_onto order (frame_onto frame (m.RightBracket ▸ ts))) l) (keys_good order (suc n) k (frame_onto frame (m.RightBracket ▸ ts)) l))

  keys_good : (keys : Keys) (n d : ℕ) (ts : Kinds) → Left n d → Good (keys_marks n keys ts) ↔ KeysFit 200 d keys
  keys_good no_keys n d ts e = none_good tt
  keys_good (more_keys a direction nulls keys) n d ts e = good_both (tree_good a n d _ e) (keys_good keys n d ts e)

item_good : (a : ItemTree) (n d : ℕ) (ts : Kinds) → Left n d → Good (item_marks n a ts) ↔ ItemFits 200 d a
item_good all_columns n d ts e = none_good tt
item_good (all_of name) n d ts e = none_good tt
item_good (shown a alias) n d ts e = tree_good a n d _ e

items_good : (items : List ItemTree) (n d : ℕ) (ts : Kinds) → Left n d → Good (items_marks n items ts) ↔ Each (ItemFits 200 d) items
items_good [] n d ts e = none_good tt
items_good (a ∷ items) n d ts e = good_both (item_good a n d _ e) (items_good items n d ts e)

filter_good : (o : Option Tree) (n d : ℕ) (ts : Kinds) → Left n d → Good (filter_marks n o ts) ↔ OptionFits 200 d o
filter_good None n d ts e = none_good tt
filter_good (Some a) n d ts e = tree_good a n d ts e

set_good : (s : SetTree) (n d : ℕ) (ts : Kinds) → Left n d → Good (set_marks n s ts) ↔ SetFits d s
set_good (one_column a) n d ts e = none_good tt
set_good (columns cs) n d ts e = good_opened n d (λ k. []) e (λ k l. none_good tt)

members_good : {A : Type 0} (one : A → Kinds → Kinds) (of : A → Kinds → List Mark) (F : A → Type 0) → ((a : A) (ts : Kinds) → Good (of a ts) ↔ F a) → (xs : List A) (ts : Kinds) → Good (members_marks one of xs ts) ↔ Each F xs
members_good one of F h [] ts = none_good tt
members_good one of F h (a ∷ xs) ts = good_both (h a _) (members_good one of F h xs ts)

group_good : (a : GroupTree) (n d : ℕ) (ts : Kinds) → Left n d → Good (group_marks n a ts) ↔ GroupFits d a
group_good (grouped_by s) n d ts e = set_good s n d ts e
group_good (constructed word sets) n d ts e = good_opened n d (λ k. members_marks set_onto (set_marks k) sets (m.RightBracket ▸ ts)) e (λ k l. members_good set_onto (set_marks (suc n)) (SetFits k) (λ s us. set_good s (suc n) k us l) sets (m.RightBracket ▸ ts))

grouping_good : (g : GroupingTree) (n d : ℕ) (ts : Kinds) → Left n d → Good (grouping_marks n g ts) ↔ GroupingFits 200 d g
grouping_good g n d ts e = good_both (members_good group_item_onto (group_marks n) (GroupFits d) (λ a us. group_good a n d us e) g.items (having_onto g.having ts)) (filter_good g.having n d ts e)

windows_good : (windows : List (Name × WindowTree)) (n d : ℕ) (ts : Kinds) → Left n d → Good (windows_marks n windows ts) ↔ Each (λ w. Below d (λ k. WindowFits 200 k w.1)) windows
windows_good [] n d ts e = none_good tt
windows_good (w ∷ windows) n d ts e = good_both (bracketed_good w.1 n d _ e) (windows_good windows n d ts e)

tail_good : (tail : Tail) (n d : ℕ) (ts : Kinds) → Left n d → Good (tail_marks n tail ts) ↔ (OptionFits 200 d tail.filter × (GroupingFits 200 d tail.grouping × Each (λ w. Below d (λ k. WindowFits 200 k w.1)) tail.windows × KeysFit 200 d tail.order))
tail_good tail n d ts e = good_both (filter_good tail.filter n d _ e) (good_three (grouping_good tail.grouping n d _ e) (windows_good tail.windows n d _ e) (keys_good tail.order n d _ e))

good_select : {xs ys zs us : List Mark} {P Q R A B C D : Type 0} → (Good xs ↔ P) → (Good ys ↔ Q) → (Good zs ↔ R) → (Good us ↔ (A × (B × C × D))) → Good (xs ++ (ys ++ (zs ++ us))) ↔ (P × Q × R × A × B × C × D)
good_select f g h i = let all = good_three f g (good_both h i) in (λ x. let y = all.0 x in (y.0, y.1, y.2.0, y.2.1.0, y.2.1.1.0, y.2.1.1.1, y.2.1.1.2), λ p. all.1 (p.0, p.1, (p.2, (p.3, (p.4, p.5, p.6)))))

mutual
  table_good : (table : TableTree) (n d : ℕ) (ts : Kinds) → Left n d → Good (table_marks n table ts) ↔ TableFits 200 d table
  table_good (named name alias) n d ts e = none_good tt
  table_good (derived s alias) n d ts e = good_opened n d (λ k. select_marks k s (m.RightBracket ▸ given_onto alias ts)) e (λ k l. select_good s (suc n) k (m.RightBracket ▸ given_onto alias ts) l)

  join_good : (join : JoinTree) (n d : ℕ) (ts : Kinds) → Left n d → Good (join_marks n join ts) ↔ JoinFits 200 d join
  join_good (comma table) n d ts e = table_good table n d ts e
  join_good (cross table) n d ts e = table_good table n d ts e
  join_good (inner b table on) n d ts e = good_both (table_good table n d _ e) (tree_good on n d ts e)

  joins_good : (joins : Joins) (n d : ℕ) (ts : Kinds) → Left n d → Good (joins_marks n joins ts) ↔ JoinsFit 200 d joins
  joins_good no_joins n d ts e = none_good tt
  joins_good (more_joins join joins) n d ts e = good_both (join_good join n d _ e) (joins_good joins n d ts e)

  select_good : (s : SelectTree) (n d : ℕ) (ts : Kinds) → Left n d → Good (select_marks n s ts) ↔ SelectFits 200 d s
  select_good (select parts first joins) n d ts e = good_select (items_good parts.items n d _ e) (table_good first n d _ e) (joins_good joins n d _ e) (tail_good parts.tail n d ts e)

-- a query fits into the limits exactly where it keeps them
pub query_good : (q : QueryTree) → KeepsLimits q ↔ QueryFits 200 32 q
query_good (query s semicolon) = let all = select_good s 0 32 (end_onto semicolon) (omega arith) in (λ h. all.0 (record { each = h }), λ x. (all.1 x).each)

-- ---- the mark at which a limit is passed

-- a mark is past a limit at these tokens
record Past (rest : Kinds) (xs : List Mark) : Type 0 where
  one : One (IsPastAt rest) xs

in_first : (rest : Kinds) (xs ys : List Mark) → One (IsPastAt rest) xs → One (IsPastAt rest) (xs ++ ys)
in_first rest [] ys h = absurd h
in_first rest (a ∷ xs) ys h = ⊎_elim (λ k. inl k) (λ k. inr (in_first rest xs ys k)) h

in_second : (rest : Kinds) (xs ys : List Mark) → One (IsPastAt rest) ys → One (IsPastAt rest) (xs ++ ys)
in_second rest [] ys h = h
in_second rest (a ∷ xs) ys h = inr (in_second rest xs ys h)

past_both : {rest : Kinds} {xs ys : List Mark} {P Q : Type 0} → (P → Past rest xs) → (Q → Past rest ys) → P ⊎ Q → Past rest (xs ++ ys)
past_both {rest = rest} {xs = xs} {ys = ys} f g h = ⊎_elim (λ p. record { one = in_first rest xs ys (f p).one }) (λ q. record { one = in_second rest xs ys (g q).one }) h

past_opened : (n d : ℕ) (within : ℕ → List Mark) {P : ℕ → Type 0} {from rest : Kinds} → Left n d → ((k : ℕ) → Left (suc n) k → P k → Past rest (within (suc n))) → Opens d P from rest → Past rest (opened n from within)
past_opened n zero within e f o = record { one = inl (omega (arith, e), sym o) }
past_opened n (suc d) within e f o = record { one = inr (f d (omega (arith, e)) o).one }

-- an operator at these tokens, before what follows it
past_linked : (mark : Mark) {rest : Kinds} {ys : List Mark} {Q : Type 0} → (Q → Past rest ys) → Q ⊎ (IsPast mark.weight × (rest ≡ mark.from)) → Past rest (mark ∷ ys)
past_linked mark g h = ⊎_elim (λ q. record { one = inr (g q).one }) (λ p. record { one = inl (p.0, sym p.1) }) h

mutual
  tree_past : (a : Tree) (n d : ℕ) (ts rest : Kinds) → Left n d → Passes 200 d a ts rest → Past rest (marks n a ts)
  tree_past (Constant l) n d ts rest e = λ x. absurd x
  tree_past (Column a) n d ts rest e = λ x. absurd x
  tree_past (Qualified a b) n d ts rest e = λ x. absurd x
  tree_past (CallAll f over) n d ts rest e = past_both (past_opened n d (λ k. []) e (λ k l x. absurd x)) (over_past over n d ts rest e)
  tree_past (Call f bs over) n d ts rest e = past_both (past_opened n d (λ k. list_marks k bs (m.RightBracket ▸ over_onto over ts)) e (λ k l. list_past bs (suc n) k (m.RightBracket ▸ over_onto over ts) rest l)) (over_past over n d ts rest e)
  tree_past (Case arms other) n d ts rest e = past_opened n d (λ k. arms_marks k arms (else_onto other (m.End ▸ ts)) ++ else_marks k other (m.End ▸ ts)) e (λ k l. past_both (arms_past arms (suc n) k (else_onto other (m.End ▸ ts)) rest l) (else_past other (suc n) k (m.End ▸ ts) rest l))
  tree_past (Bracket a) n d ts rest e = past_opened n d (λ k. marks k a (m.RightBracket ▸ ts)) e (λ k l. tree_past a (suc n) k (m.RightBracket ▸ ts) rest l)
  tree_past (Signed s a) n d ts rest e = past_opened n d (λ k. marks k a ts) e (λ k l. tree_past a (suc n) k ts rest l)
  tree_past (Binary o a b) n d ts rest e = past_both (tree_past a n d _ rest e) (past_linked _ (tree_past b n d ts rest e))
  tree_past (IsNull a not) n d ts rest e = past_both (tree_past a n d _ rest e) (λ x. record { one = inl (x.0, sym x.1) })
  tree_past (Negated a) n d ts rest e = past_opened n d (λ k. marks k a ts) e (λ k l. tree_past a (suc n) k ts rest l)

  list_past : (bs : Trees) (n d : ℕ) (ts rest : Kinds) → Left n d → OnePasses 200 d bs ts rest → Past rest (list_marks n bs ts)
  list_past no_trees n d ts rest e = λ x. absurd x
  list_past (more_trees a bs) n d ts rest e = past_both (tree_past a n d _ rest e) (list_past bs n d ts rest e)

  arms_past : (arms : Arms) (n d : ℕ) (ts rest : Kinds) → Left n d → ArmPasses 200 d arms ts rest → Past rest (arms_marks n arms ts)
  arms_past no_arms n d ts rest e = λ x. absurd x
  arms_past (more_arms a b arms) n d ts rest e = λ x. past_both (tree_past a n d _ rest e) (past_both (tree_past b n d _ rest e) (arms_past arms n d ts rest e)) (⊎_elim (λ y. ⊎_elim (λ z. inl z) (λ z. inr (inl z)) y) (λ y. inr (inr y)) x)

  else_past : (other : Otherwise) (n d : ℕ) (ts rest : Kinds) → Left n d → ElsePasses 200 d other ts rest → Past rest (else_marks n other ts)
  else_past no_else n d ts rest e = λ x. absurd x
  else_past (or_else a) n d ts rest e = tree_past a n d ts rest e

  over_past : (over : OverTree) (n d : ℕ) (ts rest : Kinds) → Left n d → OverPasses 200 d over ts rest → Past rest (over_marks n over ts)
  over_past no_over n d ts rest e = λ x. absurd x
  over_past (over_name name) n d ts rest e = λ x. absurd x
  over_past (over_window w) n d ts rest e = bracketed_past w n d ts rest e

  bracketed_past : (w : WindowTree) (n d : ℕ) (ts rest : Kinds) → Left n d → Opens d (λ k. WindowPasses 200 k w (m.RightBracket ▸ ts) rest) (m.LeftBracket ▸ window_onto w (m.RightBracket ▸ ts)) rest → Past rest (bracketed_marks n w ts)
  bracketed_past (window base partition order frame) n d ts rest e = past_opened n d (λ k. list_marks k partition (order_onto order (frame_onto frame (m.RightBracket ▸ ts))) ++ keys_marks k order (frame_onto frame (m.RightBracket ▸ ts))) e (λ k l. past_both (list_past partition (suc n) k (order_onto order (frame_onto frame (m.RightBracket ▸ ts))) rest l) (keys_past order (suc n) k (frame_onto frame (m.RightBracket ▸ ts)) rest l))

  keys_past : (keys : Keys) (n d : ℕ) (ts rest : Kinds) → Left n d → KeyPasses 200 d keys ts rest → Past rest (keys_marks n keys ts)
  keys_past no_keys n d ts rest e = λ x. absurd x
  keys_past (more_keys a direction nulls keys) n d ts rest e = past_both (tree_past a n d _ rest e) (keys_past keys n d ts rest e)

item_past : (a : ItemTree) (n d : ℕ) (ts rest : Kinds) → Left n d → ItemPasses 200 d a ts rest → Past rest (item_marks n a ts)
item_past all_columns n d ts rest e = λ x. absurd x
item_past (all_of name) n d ts rest e = λ x. absurd x
item_past (shown a alias) n d ts rest e = tree_past a n d _ rest e

items_past : (items : List ItemTree) (n d : ℕ) (ts rest : Kinds) → Left n d → OneItemPasses 200 d items ts rest → Past rest (items_marks n items ts)
items_past [] n d ts rest e = λ x. absurd x
items_past (a ∷ items) n d ts rest e = past_both (item_past a n d _ rest e) (items_past items n d ts rest e)

filter_past : (o : Option Tree) (n d : ℕ) (ts rest : Kinds) → Left n d → FilterPasses 200 d o ts rest → Past rest (filter_marks n o ts)
filter_past None n d ts rest e = λ x. absurd x
filter_past (Some a) n d ts rest e = tree_past a n d ts rest e

set_past : (s : SetTree) (n d : ℕ) (ts rest : Kinds) → Left n d → SetPasses d s ts rest → Past rest (set_marks n s ts)
set_past (one_column a) n d ts rest e = λ x. absurd x
set_past (columns cs) n d ts rest e = past_opened n d (λ k. []) e (λ k l x. absurd x)

members_past : {A : Type 0} (one : A → Kinds → Kinds) (of : A → Kinds → List Mark) (passes : A → Kinds → Kinds → Type 0) (rest : Kinds) → ((a : A) (ts : Kinds) → passes a ts rest → Past rest (of a ts)) → (xs : List A) (ts : Kinds) → MemberPasses one passes xs ts rest → Past rest (members_marks one of xs ts)
members_past one of passes rest h [] ts = λ x. absurd x
members_past one of passes rest h (a ∷ xs) ts = past_both (h a _) (members_past one of passes rest h xs ts)

group_past : (a : GroupTree) (n d : ℕ) (ts rest : Kinds) → Left n d → GroupPasses d a ts rest → Past rest (group_marks n a ts)
group_past (grouped_by s) n d ts rest e = set_past s n d ts rest e
group_past (constructed word sets) n d ts rest e = past_opened n d (λ k. members_marks set_onto (set_marks k) sets (m.RightBracket ▸ ts)) e (λ k l. members_past set_onto (set_marks (suc n)) (SetPasses k) rest (λ s us. set_past s (suc n) k us rest l) sets (m.RightBracket ▸ ts))

grouping_past : (g : GroupingTree) (n d : ℕ) (ts rest : Kinds) → Left n d → GroupingPasses 200 d g ts rest → Past rest (grouping_marks n g ts)
grouping_past g n d ts rest e = past_both (members_past group_item_onto (group_marks n) (GroupPasses d) rest (λ a us. group_past a n d us rest e) g.items (having_onto g.having ts)) (filter_past g.having n d ts rest e)

windows_past : (windows : List (Name × WindowTree)) (n d : ℕ) (ts rest : Kinds) → Left n d → OneWindowPasses 200 d windows ts rest → Past rest (windows_marks n windows ts)
windows_past [] n d ts rest e = λ x. absurd x
windows_past (w ∷ windows) n d ts rest e = past_both (bracketed_past w.1 n d _ rest e) (windows_past windows n d ts rest e)

mutual
  table_past : (table : TableTree) (n d : ℕ) (ts rest : Kinds) → Left n d → TablePasses 200 d table ts rest → Past rest (table_marks n table ts)
  table_past (named name alias) n d ts rest e = λ x. absurd x
  table_past (derived s alias) n d ts rest e = past_opened n d (λ k. select_marks k s (m.RightBracket ▸ given_onto alias ts)) e (λ k l. select_past s (suc n) k (m.RightBracket ▸ given_onto alias ts) rest l)

  join_past : (join : JoinTree) (n d : ℕ) (ts rest : Kinds) → Left n d → JoinPasses 200 d join ts rest → Past rest (join_marks n join ts)
  join_past (comma table) n d ts rest e = table_past table n d ts rest e
  join_past (cross table) n d ts rest e = table_past table n d ts rest e
  join_past (inner b table on) n d ts rest e = past_both (table_past table n d _ rest e) (tree_past on n d ts rest e)

  joins_past : (joins : Joins) (n d : ℕ) (ts rest : Kinds) → Left n d → OneJoinPasses 200 d joins ts rest → Past rest (joins_marks n joins ts)
  joins_past no_joins n d ts rest e = λ x. absurd x
  joins_past (more_joins join joins) n d ts rest e = past_both (join_past join n d _ rest e) (joins_past joins n d ts rest e)

  select_past : (s : SelectTree) (n d : ℕ) (ts rest : Kinds) → Left n d → SelectPasses 200 d s ts rest → Past rest (select_marks n s ts)
  select_past (select parts first joins) n d ts rest e = past_both (items_past parts.items n d _ rest e) (past_both (table_past first n d _ rest e) (past_both (joins_past joins n d _ rest e) (past_both (filter_past parts.tail.filter n d _ rest e) (past_both (grouping_past parts.tail.grouping n d _ rest e) (past_both (windows_past parts.tail.windows n d _ rest e) (keys_past parts.tail.order n d _ rest e))))))

-- where a query passes a limit, a mark of it is past it
pub query_past : (q : QueryTree) (rest : Kinds) → QueryPasses 200 32 q rest → One (IsPastAt rest) (query_marks q)
query_past (query s semicolon) rest x = (select_past s 0 32 (end_onto semicolon) rest (omega arith) x).one
