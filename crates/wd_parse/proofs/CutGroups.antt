-- Where reading GROUP BY or HAVING passes a limit, some such clauses with the same front pass it at the same token.
use Rattle.std.proofs.Common.{◌≡◌, ℕ, zero, suc, inl, inr, Bool, true, false, List, [], ◌∷◌, length, Option, Some, None, Result, Ok, refl, sym, ap, subst, ◌∙◌, ⊎_elim}
use Rattle.std.specs.Prelude.{codes}
use Rattle.wd_lex.specs.declared.token.Terminal.{Terminal}
use Rattle.wd_lex.specs.declared.token.Terminal.TheVariants as m
use Rattle.wd_lex.specs.declared.token.TokenKind.TheVariants as t
use Rattle.wd_syntax.specs.declared.query.GroupColumn.{GroupColumn}
use Rattle.wd_syntax.specs.declared.query.GroupingWord.{GroupingWord}
use Rattle.wd_read_cursor.specs.Tokens.{Kinds, ◌▸◌}
use Rattle.wd_syntax.specs.Tree.{Tree, one_column, columns, GroupTree, grouped_by, constructed, Each}
use Rattle.wd_syntax.specs.Spelling.{onto, members_onto, group_column_onto, set_onto, grouping_word_onto, group_item_onto, group_onto, having_onto, grouping_onto}
use Rattle.wd_syntax.specs.Levels.{IsLevelled, OptionLevelled, IsSome, GroupLevelled, GroupingLevelled}
use Rattle.wd_read_cursor.specs.Cursor.{Fault, ◌>>=◌, Reads, Parser, Chance, choose, eat, expect, name_at, if_begun, many, after, list_at}
use Rattle.wd_parse.specs.Reading.{group_column_at, within, some_columns_at, columns_at, set_at, takes_empty, grouping_word_at, sets_at, group_item_if, group_item_at, group_at, having_at, grouping_at}
use Rattle.wd_read_expression.proofs.Passing.{Passes}
use Rattle.wd_parse.proofs.Passing.{FilterPasses, SetPasses, MemberPasses, GroupPasses, GroupingPasses}
use Rattle.wd_read_expression.proofs.SoundPieces.{Kept, at_terminal, IsPart, led_by}
use Rattle.wd_parse.proofs.SoundGroups.{commas_spelled, MayBe, GoodSet, set_holds, all_may_stand, one_may, GoodGroup, grouping_word_is, group_item_holds, GoodGroups, group_holds}
use Rattle.wd_read_expression.proofs.CutPieces.{CutBy, MayCut, then_cuts, expect_cuts, name_cuts, on_cuts, either_cuts, pre_then}
use Rattle.wd_parse.proofs.CutPieces.{pre_set, pre_word, pre_group_item, pre_group}
use Rattle.wd_read_expression.proofs.Cut.{IsCut, cut_step, cut_here, SomePasses, listed, GoodList, ListPasses, list_cut, terminal_cuts, mapped_cuts, all_things, WholeCut}

-- ---- what never passes a limit

begun_cuts : {A : Type 0} (K : ℕ → Type 0) (o : Option (Reads A)) (ts : Kinds) (next : A × Kinds → Reads (List A)) → MayCut K o → ((x : A × Kinds) → CutBy K (next x)) → CutBy K (if_begun o ts next)
begun_cuts K None ts next h n = tt
begun_cuts K (Some r) ts next h n = on_cuts K r next h n

many_cuts : {A : Type 0} (K : ℕ → Type 0) (item : Chance A) (n : ℕ) (ts : Kinds) → ((us : Kinds) → MayCut K (item us)) → CutBy K (many item n ts)
unfolding many
many_cuts K item zero ts h = tt
many_cuts K item (suc n) ts h = begun_cuts K (item ts) ts (λ a. many item n a.1 >>= λ xs. Ok (a.0 ∷ xs.0, xs.1)) (h ts) (λ a. on_cuts K (many item n a.1) (λ xs. Ok (a.0 ∷ xs.0, xs.1)) (many_cuts K item n a.1 h) (λ xs. tt))

chosen_cuts : {A : Type 0} (K : ℕ → Type 0) (o : Option Kinds) (item : Parser A) → ((us : Kinds) → CutBy K (item us)) → MayCut K (choose o (λ r. Some (item r)) None)
chosen_cuts K None item h = tt
chosen_cuts K (Some r) item h = h r

after_never : {A : Type 0} (K : ℕ → Type 0) (x : Terminal) (item : Parser A) (ts : Kinds) → ((us : Kinds) → CutBy K (item us)) → MayCut K (after x item ts)
unfolding after
after_never K x item ts h = chosen_cuts K (eat x ts) item h

list_never : {A : Type 0} (K : ℕ → Type 0) (x : Terminal) (item : Parser A) (ts : Kinds) → ((us : Kinds) → CutBy K (item us)) → CutBy K (list_at x item ts)
unfolding list_at
list_never K x item ts h = on_cuts K (item ts) (λ a. many (after x item) (length a.1) a.1 >>= λ xs. Ok (a.0 ∷ xs.0, xs.1)) (h ts) (λ a. on_cuts K (many (after x item) (length a.1) a.1) (λ xs. Ok (a.0 ∷ xs.0, xs.1)) (many_cuts K (after x item) (length a.1) a.1 (λ us. after_never K x item us h)) (λ xs. tt))

group_column_cuts : (K : ℕ → Type 0) (ts : Kinds) → CutBy K (group_column_at ts)
unfolding group_column_at
group_column_cuts K ts =
    on_cuts K (name_at ts) (λ n. choose (eat m.Dot n.1) (λ r. name_at r >>= λ c. Ok (record { table = Some n.0; name = c.0 }, c.1)) (Ok (record { table = None; name = n.0 }, n.1))) (name_cuts K ts) (λ n.
    either_cuts K (eat m.Dot n.1) (λ r. name_at r >>= λ c. Ok (record { table = Some n.0; name = c.0 }, c.1)) (Ok (record { table = None; name = n.0 }, n.1)) (λ r. on_cuts K (name_at r) (λ c. Ok (record { table = Some n.0; name = c.0 }, c.1)) (name_cuts K r) (λ c. tt)) tt)

some_columns_cuts : (K : ℕ → Type 0) (ts : Kinds) → CutBy K (some_columns_at ts)
unfolding some_columns_at
some_columns_cuts K ts = on_cuts K (list_at m.Comma group_column_at ts) (λ cs. expect m.RightBracket cs.1 >>= λ r. Ok (cs.0, r)) (list_never K m.Comma group_column_at ts (group_column_cuts K)) (λ cs. on_cuts K (expect m.RightBracket cs.1) (λ r. Ok (cs.0, r)) (expect_cuts K m.RightBracket cs.1) (λ r. tt))

columns_cuts : (K : ℕ → Type 0) (empty : Bool) (ts : Kinds) → CutBy K (columns_at empty ts)
unfolding columns_at
columns_cuts K true ts = either_cuts K (eat m.RightBracket ts) (λ r. Ok ([], r)) (some_columns_at ts) (λ r. tt) (some_columns_cuts K ts)
columns_cuts K false ts = some_columns_cuts K ts

-- ---- lists

members_are : {A : Type 0} (one : A → Kinds → Kinds) (xs : List A) (us : Kinds) → members_onto one xs us ≡ listed m.Comma one xs us
members_are one [] us = refl
members_are one (a ∷ xs) us = ap (one a) (sym (commas_spelled one xs us))

some_pass : {A : Type 0} (one : A → Kinds → Kinds) (passes : A → Kinds → Kinds → Type 0) (xs : List A) (us rest : Kinds) → SomePasses (led_by m.Comma one) passes xs us rest → MemberPasses one passes xs us rest
some_pass one passes [] us rest h = h
some_pass one passes (a ∷ xs) us rest h = ⊎_elim (λ s. inl (subst (λ z. passes a z rest) (commas_spelled one xs us) s)) (λ s. inr (some_pass one passes xs us rest s)) h

members_pass : {A : Type 0} (one : A → Kinds → Kinds) (passes : A → Kinds → Kinds → Type 0) (xs : List A) (us rest : Kinds) → ListPasses m.Comma one passes xs us rest → MemberPasses one passes xs us rest
members_pass one passes [] us rest h = absurd h
members_pass one passes (a ∷ xs) us rest h = ⊎_elim (λ s. inl (subst (λ z. passes a z rest) (commas_spelled one xs us) s)) (λ s. inr (some_pass one passes xs us rest s)) h

good_members : {A : Type 0} (Good : A → Type 0) (xs : List A) → GoodList Good xs → IsSome xs × Each Good xs
good_members Good [] h = absurd h
good_members Good (a ∷ xs) h = (tt, h)

-- ---- sets and members of GROUP BY

within_cuts : {B : Type 0} (left : ℕ) (K : ℕ → ℕ → Type 0) (f : ℕ → Result B Fault) → K 0 left → ((k : ℕ) → CutBy (K (suc k)) (f k)) → (d : ℕ) → CutBy (K d) (within left d f)
within_cuts left K f h n zero = h
within_cuts left K f h n (suc d) = n d

-- a column that may stand where one is wanted
abbrev some_column : GroupColumn
some_column = record { table = None; name = record { text = codes "a"; quoted = false } }

some_may : (empty : Bool) → MayBe empty (columns (some_column ∷ []))
some_may true = tt
some_may false = tt

set_cut : (d : ℕ) (empty : Bool) (ts : Kinds) → CutBy (IsCut set_onto (MayBe empty) (SetPasses d) ts) (set_at d empty ts)
unfolding set_at
set_cut d empty ts =
    let L : ℕ → ℕ → Type 0 = λ j. IsCut set_onto (MayBe empty) (SetPasses j) ts in
    at_terminal (CutBy (L d)) m.LeftBracket ts (λ r. within (length ts) d (λ k. columns_at empty r) >>= λ cs. Ok (columns cs.0, cs.1)) (group_column_at ts >>= λ c. Ok (one_column c.0, c.1))
    (λ r e. on_cuts (L d) (within (length ts) d (λ k. columns_at empty r)) (λ cs. Ok (columns cs.0, cs.1))
    (within_cuts (length ts) L (λ k. columns_at empty r)
    (cut_here set_onto (MayBe empty) (SetPasses 0) ts (λ z. z) (t.Terminal m.LeftBracket) r (columns (some_column ∷ [])) (λ us. members_onto group_column_onto (some_column ∷ []) (m.RightBracket ▸ us)) (length ts) (λ x y. refl) (some_may empty) e (sym (ap length e)) (λ us. refl) (λ us. refl))
    (λ k. columns_cuts (L (suc k)) empty r) d)
    (λ cs. tt))
    (on_cuts (L d) (group_column_at ts) (λ c. Ok (one_column c.0, c.1)) (group_column_cuts (L d) ts) (λ c. tt))

sets_cut : (d : ℕ) (word : GroupingWord) (ts us : Kinds) → ts ≡ grouping_word_onto word us → CutBy (IsCut group_item_onto GroupLevelled (GroupPasses d) ts) (sets_at d word us)
unfolding sets_at
sets_cut d word ts us start =
    let empty : Bool = takes_empty word in
    let L : ℕ → ℕ → Type 0 = λ j. IsCut group_item_onto GroupLevelled (GroupPasses j) ts in
    terminal_cuts (L d) m.LeftBracket us (λ r. within (length us) d (λ k. list_at m.Comma (set_at k empty) r >>= λ sets. expect m.RightBracket sets.1 >>= λ q. Ok (constructed word sets.0, q))) (λ r e.
    let begun : ts ≡ grouping_word_onto word (m.LeftBracket ▸ r) = start ∙ ap (grouping_word_onto word) e in
    within_cuts (length us) L (λ k. list_at m.Comma (set_at k empty) r >>= λ sets. expect m.RightBracket sets.1 >>= λ q. Ok (constructed word sets.0, q))
    (cut_here group_item_onto GroupLevelled (GroupPasses 0) ts (grouping_word_onto word) (t.Terminal m.LeftBracket) r (constructed word (one_column some_column ∷ [])) (λ vs. members_onto set_onto (one_column some_column ∷ []) (m.RightBracket ▸ vs)) (length us) (pre_word word) (tt, all_may_stand word (one_column some_column ∷ []) (one_may empty some_column, tt)) begun (sym (ap length e)) (λ vs. refl) (λ vs. refl))
    (λ k. then_cuts (IsCut (listed m.Comma set_onto) (GoodList (MayBe empty)) (ListPasses m.Comma set_onto (SetPasses k)) r) (L (suc k)) (λ z. Unit {0}) (list_at m.Comma (set_at k empty) r) (λ sets. expect m.RightBracket sets.1 >>= λ q. Ok (constructed word sets.0, q))
    (list_cut m.Comma set_onto (MayBe empty) (GoodSet empty k) (SetPasses k) (set_at k empty) r pre_set (λ a g. g.0) (λ vs. set_cut k empty vs) (λ vs. set_holds k empty vs)) (all_things (list_at m.Comma (set_at k empty) r))
    (cut_step (listed m.Comma set_onto) (GoodList (MayBe empty)) (ListPasses m.Comma set_onto (SetPasses k)) r group_item_onto GroupLevelled (GroupPasses (suc k)) ts (λ z. grouping_word_onto word (m.LeftBracket ▸ z)) (λ sets. constructed word sets) (λ sets vs. m.RightBracket ▸ vs) (pre_then (grouping_word_onto word) (λ z. m.LeftBracket ▸ z) (pre_word word) (λ x y. refl)) begun
    (λ sets g. let y = good_members (MayBe empty) sets g in (y.0, all_may_stand word sets y.1)) (λ sets vs g. ap (λ (z : Kinds). grouping_word_onto word (m.LeftBracket ▸ z)) (members_are set_onto sets (m.RightBracket ▸ vs))) (λ sets vs rest g s. members_pass set_onto (SetPasses k) sets (m.RightBracket ▸ vs) rest s))
    (λ sets u. on_cuts (L (suc k)) (expect m.RightBracket sets.1) (λ q. Ok (constructed word sets.0, q)) (expect_cuts (L (suc k)) m.RightBracket sets.1) (λ q. tt))) d)

group_item_if_cut : (d : ℕ) (ts : Kinds) (o : Option (GroupingWord × Kinds)) → Kept (λ x. ts ≡ grouping_word_onto x.0 x.1) o → CutBy (IsCut group_item_onto GroupLevelled (GroupPasses d) ts) (group_item_if d o ts)
group_item_if_cut d ts None h =
    then_cuts (IsCut set_onto (MayBe true) (SetPasses d) ts) (IsCut group_item_onto GroupLevelled (GroupPasses d) ts) (λ z. Unit {0}) (set_at d true ts) (λ s. Ok (grouped_by s.0, s.1)) (set_cut d true ts) (all_things (set_at d true ts))
    (cut_step set_onto (MayBe true) (SetPasses d) ts group_item_onto GroupLevelled (GroupPasses d) ts (λ z. z) (λ s. grouped_by s) (λ s us. us) (λ x y. refl) refl (λ s g. tt) (λ s us g. refl) (λ s us rest g p. p)) (λ s u. tt)
group_item_if_cut d ts (Some x) h = sets_cut d x.0 ts x.1 h

group_item_cut : (d : ℕ) (ts : Kinds) → CutBy (IsCut group_item_onto GroupLevelled (GroupPasses d) ts) (group_item_at d ts)
unfolding group_item_at
group_item_cut d ts = group_item_if_cut d ts (grouping_word_at ts) (grouping_word_is ts)

-- ---- the clauses

group_spelled : (xs : List GroupTree) (us : Kinds) → GoodList GroupLevelled xs → group_onto xs us ≡ m.Group ▸ m.By ▸ listed m.Comma group_item_onto xs us
group_spelled [] us h = absurd h
group_spelled (a ∷ xs) us h = ap (λ (z : Kinds). m.Group ▸ m.By ▸ z) (members_are group_item_onto (a ∷ xs) us)

abbrev GroupCut : ℕ → Kinds → ℕ → Type 0
GroupCut d ts = IsCut group_onto (Each GroupLevelled) (MemberPasses group_item_onto (GroupPasses d)) ts

group_cut : (d : ℕ) (ts : Kinds) → CutBy (GroupCut d ts) (group_at d ts)
unfolding group_at
group_cut d ts =
    at_terminal (CutBy (GroupCut d ts)) m.Group ts (λ r. expect m.By r >>= λ q. list_at m.Comma (group_item_at d) q) (Ok ([], ts))
    (λ r e. terminal_cuts (GroupCut d ts) m.By r (λ q. list_at m.Comma (group_item_at d) q) (λ us f.
    mapped_cuts (IsCut (listed m.Comma group_item_onto) (GoodList GroupLevelled) (ListPasses m.Comma group_item_onto (GroupPasses d)) us) (GroupCut d ts) (list_at m.Comma (group_item_at d) us)
    (list_cut m.Comma group_item_onto GroupLevelled (GoodGroup d) (GroupPasses d) (group_item_at d) us pre_group_item (λ a g. g.0) (λ vs. group_item_cut d vs) (λ vs. group_item_holds d vs))
    (cut_step (listed m.Comma group_item_onto) (GoodList GroupLevelled) (ListPasses m.Comma group_item_onto (GroupPasses d)) us group_onto (Each GroupLevelled) (MemberPasses group_item_onto (GroupPasses d)) ts (λ z. m.Group ▸ m.By ▸ z) (λ xs. xs) (λ xs vs. vs) (λ x y. refl) (e ∙ ap (λ (z : Kinds). m.Group ▸ z) f) (λ xs g. let y = good_members GroupLevelled xs g in y.1) group_spelled (λ xs vs rest g s. members_pass group_item_onto (GroupPasses d) xs vs rest s))))
    tt

module _ (c : ℕ) where
  having_cut : (d : ℕ) (item : Parser Tree) (ts : Kinds) → WholeCut c d item → CutBy (IsCut having_onto OptionLevelled (FilterPasses c d) ts) (having_at item ts)
  unfolding having_at
  having_cut d item ts cut =
      let L : ℕ → Type 0 = IsCut having_onto OptionLevelled (FilterPasses c d) ts in
      at_terminal (CutBy L) m.Having ts (λ r. item r >>= λ a. Ok (Some a.0, a.1)) (Ok (None, ts))
      (λ r e. then_cuts (IsCut onto IsLevelled (Passes c d) r) L (λ z. Unit {0}) (item r) (λ a. Ok (Some a.0, a.1)) (cut r) (all_things (item r)) (cut_step onto IsLevelled (Passes c d) r having_onto OptionLevelled (FilterPasses c d) ts (λ z. m.Having ▸ z) (λ a. Some a) (λ a us. us) (λ x y. refl) e (λ a g. g) (λ a us g. refl) (λ a us rest g s. s)) (λ a u. tt))
      tt

  pub grouping_cut : (d : ℕ) (item : Parser Tree) (ts : Kinds) → WholeCut c d item → CutBy (IsCut grouping_onto GroupingLevelled (GroupingPasses c d) ts) (grouping_at d item ts)
  unfolding grouping_at
  grouping_cut d item ts cut =
      let L : ℕ → Type 0 = IsCut grouping_onto GroupingLevelled (GroupingPasses c d) ts in
      then_cuts (GroupCut d ts) L (IsPart group_onto (GoodGroups d) ts) (group_at d ts) (λ items. having_at item items.1 >>= λ having. Ok (record { items = items.0; having = having.0 }, having.1)) (group_cut d ts) (group_holds d ts)
      (cut_step group_onto (Each GroupLevelled) (MemberPasses group_item_onto (GroupPasses d)) ts grouping_onto GroupingLevelled (GroupingPasses c d) ts (λ z. z) (λ xs. record { items = xs; having = None }) (λ xs us. us) (λ x y. refl) refl (λ xs g. (g, tt)) (λ xs us g. refl) (λ xs us rest g s. inl s))
      (λ items i. then_cuts (IsCut having_onto OptionLevelled (FilterPasses c d) items.1) L (λ z. Unit {0}) (having_at item items.1) (λ having. Ok (record { items = items.0; having = having.0 }, having.1)) (having_cut d item items.1 cut) (all_things (having_at item items.1))
      (cut_step having_onto OptionLevelled (FilterPasses c d) items.1 grouping_onto GroupingLevelled (GroupingPasses c d) ts (group_onto items.0) (λ having. record { items = items.0; having = having }) (λ having us. us) (pre_group items.0) i.parts (λ having g. (i.good.0, g)) (λ having us g. refl) (λ having us rest g s. inr s))
      (λ having u. tt))
