-- What is read of GROUP BY and HAVING is spelled so, is well-levelled and keeps the limits.
use Rattle.std.proofs.Common.{◌≡◌, ℕ, zero, suc, Bool, true, false, List, [], ◌∷◌, length, Option, Some, None, Result, Ok, refl, ap, ◌∙◌}
use Rattle.wd_lex.specs.declared.token.Terminal.TheVariants as m
use Rattle.wd_read_cursor.specs.declared.words.KeyWord.TheVariants as k
use Rattle.wd_syntax.specs.declared.query.GroupColumn.{GroupColumn}
use Rattle.wd_syntax.specs.declared.query.GroupingWord.{GroupingWord}
use Rattle.wd_syntax.specs.declared.query.GroupingWord.TheVariants.{Rollup, Cube, Sets}
use Rattle.wd_read_cursor.specs.Tokens.{Kinds, ◌▸◌, ◌▹◌, name_kind}
use Rattle.wd_syntax.specs.Tree.{Tree, SetTree, one_column, columns, GroupTree, grouped_by, constructed, GroupingTree, Each}
use Rattle.wd_syntax.specs.Spelling.{onto, commas_onto, members_onto, group_column_onto, set_onto, grouping_word_onto, group_item_onto, group_onto, having_onto, grouping_onto}
use Rattle.wd_syntax.specs.Levels.{OptionLevelled, IsSome, HasColumn, MayStandIn, GroupLevelled, GroupingLevelled}
use Rattle.wd_parse.proofs.Fitting.{OptionFits, SetFits, GroupFits, GroupingFits}
use Rattle.wd_read_cursor.specs.Cursor.{Fault, ◌>>=◌, Parser, choose, eat, eat_word, expect, name_at, list_at}
use Rattle.wd_parse.specs.Reading.{group_column_at, within, some_columns_at, columns_at, set_at, takes_empty, grouping_word_at, sets_at, group_item_if, group_item_at, group_at, having_at, grouping_at}
use Rattle.wd_read_expression.proofs.SoundPieces.{Kept, Holds, then_holds, at_terminal, at_word, past_terminal, past_name, IsPart, Spelled, all_onto, led_by, IsListed, list_holds, looser_holds}
use Rattle.wd_read_expression.proofs.Sound.{each_left, each_right, Good, Whole}

-- ---- lists

pub commas_spelled : {A : Type 0} (one : A → Kinds → Kinds) (xs : List A) (ts : Kinds) → all_onto (led_by m.Comma one) xs ts ≡ commas_onto one xs ts
commas_spelled one [] ts = refl
commas_spelled one (a ∷ xs) ts = ap (λ (z : Kinds). m.Comma ▸ one a z) (commas_spelled one xs ts)

-- a list that was read is spelled so, and has a member
pub members_listed : {A : Type 0} (one : A → Kinds → Kinds) (Good : A → Type 0) (ts rest : Kinds) (xs : List A) → IsListed m.Comma one Good ts xs rest → (ts ≡ members_onto one xs rest) × IsSome xs × Each Good xs
members_listed one Good ts rest [] h = absurd h
members_listed one Good ts rest (a ∷ xs) h = (h.0 ∙ ap (one a) (commas_spelled one xs rest), tt, (h.1, h.2))

-- ---- columns

group_column_is : (ts : Kinds) → Holds (Spelled group_column_onto ts) (group_column_at ts)
unfolding group_column_at
group_column_is ts =
    let Q : GroupColumn × Kinds → Type 0 = Spelled group_column_onto ts in
    past_name Q ts (λ n. choose (eat m.Dot n.1) (λ r. name_at r >>= λ c. Ok (record { table = Some n.0; name = c.0 }, c.1)) (Ok (record { table = None; name = n.0 }, n.1))) (λ n e.
    at_terminal (Holds Q) m.Dot n.1 (λ r. name_at r >>= λ c. Ok (record { table = Some n.0; name = c.0 }, c.1)) (Ok (record { table = None; name = n.0 }, n.1))
    (λ r f. past_name Q r (λ c. Ok (record { table = Some n.0; name = c.0 }, c.1)) (λ c g. e ∙ ap (λ (z : Kinds). name_kind n.0 ∷ z) (f ∙ ap (λ (z : Kinds). m.Dot ▸ z) g)))
    e)

abbrev pub AnyColumn : GroupColumn → Type 0
AnyColumn c = Unit {0}

group_column_holds : (ts : Kinds) → Holds (IsPart group_column_onto AnyColumn ts) (group_column_at ts)
group_column_holds ts = looser_holds (Spelled group_column_onto ts) (IsPart group_column_onto AnyColumn ts) (group_column_at ts) (group_column_is ts) (λ x e. record { parts = e; good = tt })

-- a set may be empty, or has a column
abbrev pub MayBe : Bool → SetTree → Type 0
MayBe true s = Unit {0}
MayBe false s = HasColumn s

-- columns, and the closing bracket
abbrev pub columns_closed : List GroupColumn → Kinds → Kinds
columns_closed cs ts = members_onto group_column_onto cs (m.RightBracket ▸ ts)

some_columns_hold : (ts : Kinds) → Holds (IsPart columns_closed IsSome ts) (some_columns_at ts)
unfolding some_columns_at
some_columns_hold ts =
    let Q : List GroupColumn × Kinds → Type 0 = IsPart columns_closed IsSome ts in
    then_holds (λ y. IsListed m.Comma group_column_onto AnyColumn ts y.0 y.1) Q (list_at m.Comma group_column_at ts) (λ cs. expect m.RightBracket cs.1 >>= λ r. Ok (cs.0, r)) (list_holds m.Comma group_column_onto AnyColumn group_column_at ts group_column_holds) (λ cs h.
    let l = members_listed group_column_onto AnyColumn ts cs.1 cs.0 h in
    past_terminal Q m.RightBracket cs.1 (λ r. Ok (cs.0, r)) (λ r e. record { parts = l.0 ∙ ap (members_onto group_column_onto cs.0) e; good = l.1 }))

abbrev MayBeColumns : Bool → List GroupColumn → Type 0
MayBeColumns empty cs = MayBe empty (columns cs)

columns_hold : (empty : Bool) (ts : Kinds) → Holds (IsPart columns_closed (MayBeColumns empty) ts) (columns_at empty ts)
unfolding columns_at
columns_hold true ts =
    let Q : List GroupColumn × Kinds → Type 0 = IsPart columns_closed (MayBeColumns true) ts in
    at_terminal (Holds Q) m.RightBracket ts (λ r. Ok ([], r)) (some_columns_at ts) (λ r e. record { parts = e; good = tt })
    (looser_holds (IsPart columns_closed IsSome ts) Q (some_columns_at ts) (some_columns_hold ts) (λ x i. record { parts = i.parts; good = tt }))
columns_hold false ts = looser_holds (IsPart columns_closed IsSome ts) (IsPart columns_closed (MayBeColumns false) ts) (some_columns_at ts) (some_columns_hold ts) (λ x i. record { parts = i.parts; good = i.good })

-- ---- sets

pub within_holds : {B : Type 0} (left : ℕ) (P : ℕ → B → Type 0) (f : ℕ → Result B Fault) → ((k : ℕ) → Holds (P (suc k)) (f k)) → (d : ℕ) → Holds (P d) (within left d f)
within_holds left P f h zero = tt
within_holds left P f h (suc d) = h d

abbrev pub GoodSet : Bool → ℕ → SetTree → Type 0
GoodSet empty d s = MayBe empty s × SetFits d s

pub one_may : (empty : Bool) (c : GroupColumn) → MayBe empty (one_column c)
one_may true c = tt
one_may false c = tt

pub set_holds : (d : ℕ) (empty : Bool) (ts : Kinds) → Holds (IsPart set_onto (GoodSet empty d) ts) (set_at d empty ts)
unfolding set_at
set_holds d empty ts =
    let Q : SetTree × Kinds → Type 0 = IsPart set_onto (GoodSet empty d) ts in
    let In : ℕ → List GroupColumn → Type 0 = λ j cs. GoodSet empty j (columns cs) in
    at_terminal (Holds Q) m.LeftBracket ts (λ r. within (length ts) d (λ k. columns_at empty r) >>= λ cs. Ok (columns cs.0, cs.1)) (group_column_at ts >>= λ c. Ok (one_column c.0, c.1))
    (λ r e. then_holds (IsPart columns_closed (In d) r) Q (within (length ts) d (λ k. columns_at empty r)) (λ cs. Ok (columns cs.0, cs.1))
    (within_holds (length ts) (λ j. IsPart columns_closed (In j) r) (λ k. columns_at empty r) (λ k. looser_holds (IsPart columns_closed (MayBeColumns empty) r) (IsPart columns_closed (In (suc k)) r) (columns_at empty r) (columns_hold empty r) (λ x i. record { parts = i.parts; good = (i.good, tt) })) d)
    (λ cs i. record { parts = e ∙ ap (λ (z : Kinds). m.LeftBracket ▸ z) i.parts; good = i.good }))
    (then_holds (Spelled group_column_onto ts) Q (group_column_at ts) (λ c. Ok (one_column c.0, c.1)) (group_column_is ts) (λ c e. record { parts = e; good = (one_may empty c.0, tt) }))

-- what a word takes may stand there
pub may_stand : (word : GroupingWord) (s : SetTree) → MayBe (takes_empty word) s → MayStandIn word s
may_stand Rollup s h = h
may_stand Cube s h = h
may_stand Sets s h = h

pub all_may_stand : (word : GroupingWord) (sets : List SetTree) → Each (MayBe (takes_empty word)) sets → Each (MayStandIn word) sets
all_may_stand word [] h = tt
all_may_stand word (s ∷ sets) h = (may_stand word s h.0, all_may_stand word sets h.1)

-- ---- members of GROUP BY

abbrev pub GoodGroup : ℕ → GroupTree → Type 0
GoodGroup d a = GroupLevelled a × GroupFits d a

pub grouping_word_is : (ts : Kinds) → Kept (λ x. ts ≡ grouping_word_onto x.0 x.1) (grouping_word_at ts)
unfolding grouping_word_at
grouping_word_is ts =
    let K : Option (GroupingWord × Kinds) → Type 0 = Kept (λ x. ts ≡ grouping_word_onto x.0 x.1) in
    let third : Option (GroupingWord × Kinds) = choose (eat_word k.Grouping ts) (λ r. choose (eat_word k.Sets r) (λ q. Some (Sets, q)) None) None in
    let second : Option (GroupingWord × Kinds) = choose (eat_word k.Cube ts) (λ r. choose (eat m.LeftBracket r) (λ q. Some (Cube, r)) None) third in
    at_word K k.Rollup ts (λ r. choose (eat m.LeftBracket r) (λ q. Some (Rollup, r)) None) second (λ r e. at_terminal K m.LeftBracket r (λ q. Some (Rollup, r)) None (λ q f. e) tt)
    (at_word K k.Cube ts (λ r. choose (eat m.LeftBracket r) (λ q. Some (Cube, r)) None) third (λ r e. at_terminal K m.LeftBracket r (λ q. Some (Cube, r)) None (λ q f. e) tt)
    (at_word K k.Grouping ts (λ r. choose (eat_word k.Sets r) (λ q. Some (Sets, q)) None) None (λ r e. at_word K k.Sets r (λ q. Some (Sets, q)) None (λ q f. e ∙ ap (λ (z : Kinds). k.Grouping ▹ z) f) tt) tt))

sets_hold : (d : ℕ) (word : GroupingWord) (ts us : Kinds) → ts ≡ grouping_word_onto word us → Holds (IsPart group_item_onto (GoodGroup d) ts) (sets_at d word us)
unfolding sets_at
sets_hold d word ts us start =
    let empty : Bool = takes_empty word in
    let Q : ℕ → GroupTree × Kinds → Type 0 = λ j. IsPart group_item_onto (GoodGroup j) ts in
    past_terminal (Q d) m.LeftBracket us (λ r. within (length us) d (λ k. list_at m.Comma (set_at k empty) r >>= λ sets. expect m.RightBracket sets.1 >>= λ q. Ok (constructed word sets.0, q))) (λ r e.
    within_holds (length us) Q (λ k. list_at m.Comma (set_at k empty) r >>= λ sets. expect m.RightBracket sets.1 >>= λ q. Ok (constructed word sets.0, q)) (λ k.
    then_holds (λ y. IsListed m.Comma set_onto (GoodSet empty k) r y.0 y.1) (Q (suc k)) (list_at m.Comma (set_at k empty) r) (λ sets. expect m.RightBracket sets.1 >>= λ q. Ok (constructed word sets.0, q)) (list_holds m.Comma set_onto (GoodSet empty k) (set_at k empty) r (λ vs. set_holds k empty vs)) (λ sets h.
    let l = members_listed set_onto (GoodSet empty k) r sets.1 sets.0 h in
    past_terminal (Q (suc k)) m.RightBracket sets.1 (λ q. Ok (constructed word sets.0, q)) (λ q f. record {
      parts = start ∙ ap (grouping_word_onto word) (e ∙ ap (λ (z : Kinds). m.LeftBracket ▸ z) (l.0 ∙ ap (members_onto set_onto sets.0) f));
      good = ((l.1, all_may_stand word sets.0 (each_left (MayBe empty) (SetFits k) sets.0 l.2)), each_right (MayBe empty) (SetFits k) sets.0 l.2);
    }))) d)

group_item_if_holds : (d : ℕ) (ts : Kinds) (o : Option (GroupingWord × Kinds)) → Kept (λ x. ts ≡ grouping_word_onto x.0 x.1) o → Holds (IsPart group_item_onto (GoodGroup d) ts) (group_item_if d o ts)
group_item_if_holds d ts None h = then_holds (IsPart set_onto (GoodSet true d) ts) (IsPart group_item_onto (GoodGroup d) ts) (set_at d true ts) (λ s. Ok (grouped_by s.0, s.1)) (set_holds d true ts) (λ s i. record { parts = i.parts; good = (tt, i.good.1) })
group_item_if_holds d ts (Some x) h = sets_hold d x.0 ts x.1 h

pub group_item_holds : (d : ℕ) (ts : Kinds) → Holds (IsPart group_item_onto (GoodGroup d) ts) (group_item_at d ts)
unfolding group_item_at
group_item_holds d ts = group_item_if_holds d ts (grouping_word_at ts) (grouping_word_is ts)

-- ---- the clauses

abbrev pub GoodGroups : ℕ → List GroupTree → Type 0
GoodGroups d items = Each GroupLevelled items × Each (GroupFits d) items

group_listed : (d : ℕ) (ts us rest : Kinds) (xs : List GroupTree) → ts ≡ m.Group ▸ m.By ▸ us → IsListed m.Comma group_item_onto (GoodGroup d) us xs rest → IsPart group_onto (GoodGroups d) ts (xs, rest)
group_listed d ts us rest [] e h = absurd h
group_listed d ts us rest (a ∷ xs) e h = record {
  parts = e ∙ ap (λ (z : Kinds). m.Group ▸ m.By ▸ z) (h.0 ∙ ap (group_item_onto a) (commas_spelled group_item_onto xs rest));
  good = ((h.1.0, each_left GroupLevelled (GroupFits d) xs h.2), (h.1.1, each_right GroupLevelled (GroupFits d) xs h.2));
}

pub group_holds : (d : ℕ) (ts : Kinds) → Holds (IsPart group_onto (GoodGroups d) ts) (group_at d ts)
unfolding group_at
group_holds d ts =
    let Q : List GroupTree × Kinds → Type 0 = IsPart group_onto (GoodGroups d) ts in
    at_terminal (Holds Q) m.Group ts (λ r. expect m.By r >>= λ q. list_at m.Comma (group_item_at d) q) (Ok ([], ts))
    (λ r e. past_terminal Q m.By r (λ q. list_at m.Comma (group_item_at d) q) (λ us f.
    looser_holds (λ y. IsListed m.Comma group_item_onto (GoodGroup d) us y.0 y.1) Q (list_at m.Comma (group_item_at d) us) (list_holds m.Comma group_item_onto (GoodGroup d) (group_item_at d) us (λ vs. group_item_holds d vs)) (λ y h. group_listed d ts us y.1 y.0 (e ∙ ap (λ (z : Kinds). m.Group ▸ z) f) h)))
    (record { parts = refl; good = (tt, tt) })

module _ (c : ℕ) where
  abbrev pub GoodHaving : ℕ → Option Tree → Type 0
  GoodHaving d having = OptionLevelled having × OptionFits c d having

  pub having_holds : (d : ℕ) (item : Parser Tree) (ts : Kinds) → Whole c d item → Holds (IsPart having_onto (GoodHaving d) ts) (having_at item ts)
  unfolding having_at
  having_holds d item ts op =
      let Q : Option Tree × Kinds → Type 0 = IsPart having_onto (GoodHaving d) ts in
      at_terminal (Holds Q) m.Having ts (λ r. item r >>= λ a. Ok (Some a.0, a.1)) (Ok (None, ts))
      (λ r e. then_holds (IsPart onto (Good c d) r) Q (item r) (λ a. Ok (Some a.0, a.1)) (op r) (λ a i. record { parts = e ∙ ap (λ (z : Kinds). m.Having ▸ z) i.parts; good = i.good }))
      (record { parts = refl; good = (tt, tt) })

  abbrev pub GoodGrouping : ℕ → GroupingTree → Type 0
  GoodGrouping d g = GroupingLevelled g × GroupingFits c d g

  pub grouping_holds : (d : ℕ) (item : Parser Tree) (ts : Kinds) → Whole c d item → Holds (IsPart grouping_onto (GoodGrouping d) ts) (grouping_at d item ts)
  unfolding grouping_at
  grouping_holds d item ts op =
      let Q : GroupingTree × Kinds → Type 0 = IsPart grouping_onto (GoodGrouping d) ts in
      then_holds (IsPart group_onto (GoodGroups d) ts) Q (group_at d ts) (λ items. having_at item items.1 >>= λ having. Ok (record { items = items.0; having = having.0 }, having.1)) (group_holds d ts) (λ items i.
      then_holds (IsPart having_onto (GoodHaving d) items.1) Q (having_at item items.1) (λ having. Ok (record { items = items.0; having = having.0 }, having.1)) (having_holds d item items.1 op) (λ having j.
      record { parts = i.parts ∙ ap (group_onto items.0) j.parts; good = ((i.good.0, j.good.0), (i.good.1, j.good.1)) }))
