-- What GROUP BY and HAVING spell is read as they are, or passes a limit that they pass.
use Rattle.std.proofs.Common.{◌≡◌, ℕ, zero, suc, ◌<◌, ◌≤◌, Bool, true, false, cond, List, [], ◌∷◌, length, Option, Some, None, Ok, refl, arith}
use Rattle.wd_lex.specs.declared.token.Terminal.{Terminal}
use Rattle.wd_lex.specs.declared.token.Terminal.TheVariants as m
use Rattle.wd_read_cursor.specs.declared.words.KeyWord.{KeyWord}
use Rattle.wd_read_cursor.specs.declared.words.KeyWord.TheVariants as k
use Rattle.wd_read_cursor.specs.declared.name.Name.{Name}
use Rattle.wd_syntax.specs.declared.query.GroupColumn.{GroupColumn}
use Rattle.wd_syntax.specs.declared.query.GroupingWord.{GroupingWord}
use Rattle.wd_syntax.specs.declared.query.GroupingWord.TheVariants.{Rollup, Cube, Sets}
use Rattle.wd_read_cursor.specs.Tokens.{Kinds, ◌▸◌, name_kind}
use Rattle.wd_syntax.specs.Tree.{Tree, SetTree, one_column, columns, GroupTree, grouped_by, constructed, GroupingTree, Each}
use Rattle.wd_syntax.specs.Spelling.{onto, commas_onto, members_onto, qualifier_onto, group_column_onto, set_onto, grouping_word_onto, group_item_onto, group_onto, having_onto, grouping_onto}
use Rattle.wd_syntax.specs.Levels.{OptionLevelled, MayStandIn, GroupLevelled, GroupingLevelled}
use Rattle.wd_read_expression.proofs.Fitting.{Below, Fits}
use Rattle.wd_parse.proofs.Fitting.{OptionFits, SetFits, GroupFits, GroupingFits}
use Rattle.wd_read_cursor.specs.Cursor.{◌>>=◌, Reads, Parser, choose, eat, expect, eat_word, is_word, after, list_at}
use Rattle.wd_parse.specs.Reading.{group_column_at, within, some_columns_at, columns_at, set_at, takes_empty, grouping_word_at, sets_at, group_item_at, group_at, having_at, grouping_at}
use Rattle.wd_read_cursor.proofs.Eaten.{eat_same, expect_same, name_at_same, eat_name_kind}
use Rattle.wd_read_expression.proofs.TerminalFacts.{clauses, clause_stops, clause_grips, clause_no_word}
use Rattle.wd_read_expression.proofs.Complete.{Yields, then_yields, then_exactly, Turns, after_same, after_none, list_yields, longer, level, item, known}
use Rattle.wd_parse.proofs.SoundGroups.{AnyColumn, MayBe}

-- ---- the tokens of a part stand before the others

qualifier_longer : (o : Option Name) (ts : Kinds) → length ts ≤ length (qualifier_onto o ts)
qualifier_longer None ts = omega arith
qualifier_longer (Some n) ts = omega arith

group_column_longer : (c : GroupColumn) (ts : Kinds) → length ts ≤ length (group_column_onto c ts)
group_column_longer c ts = omega (arith, qualifier_longer c.table (name_kind c.name ∷ ts))

commas_longer : {A : Type 0} (one : A → Kinds → Kinds) → ((a : A) (ts : Kinds) → length ts ≤ length (one a ts)) → (xs : List A) (ts : Kinds) → length ts ≤ length (commas_onto one xs ts)
commas_longer one h [] ts = omega arith
commas_longer one h (a ∷ xs) ts = omega (arith, h a (commas_onto one xs ts), commas_longer one h xs ts)

members_longer : {A : Type 0} (one : A → Kinds → Kinds) → ((a : A) (ts : Kinds) → length ts ≤ length (one a ts)) → (xs : List A) (ts : Kinds) → length ts ≤ length (members_onto one xs ts)
members_longer one h [] ts = omega arith
members_longer one h (a ∷ xs) ts = omega (arith, h a (commas_onto one xs ts), commas_longer one h xs ts)

set_longer : (s : SetTree) (ts : Kinds) → length ts ≤ length (set_onto s ts)
set_longer (one_column c) ts = group_column_longer c ts
set_longer (columns cs) ts = omega (arith, members_longer group_column_onto group_column_longer cs (m.RightBracket ▸ ts))

word_longer : (word : GroupingWord) (ts : Kinds) → length ts ≤ length (grouping_word_onto word ts)
word_longer Rollup ts = omega arith
word_longer Cube ts = omega arith
word_longer Sets ts = omega arith

group_item_longer : (a : GroupTree) (ts : Kinds) → length ts ≤ length (group_item_onto a ts)
group_item_longer (grouped_by s) ts = set_longer s ts
group_item_longer (constructed word sets) ts = omega (arith, word_longer word (m.LeftBracket ▸ members_onto set_onto sets (m.RightBracket ▸ ts)), members_longer set_onto set_longer sets (m.RightBracket ▸ ts))

group_longer : (items : List GroupTree) (ts : Kinds) → length ts ≤ length (group_onto items ts)
group_longer [] ts = omega arith
group_longer (a ∷ items) ts = omega (arith, members_longer group_item_onto group_item_longer (a ∷ items) ts)

having_longer : (having : Option Tree) (ts : Kinds) → length ts ≤ length (having_onto having ts)
having_longer None ts = omega arith
having_longer (Some a) ts = omega (arith, longer a ts)

pub grouping_longer : (g : GroupingTree) (ts : Kinds) → length ts ≤ length (grouping_onto g ts)
grouping_longer g ts = omega (arith, group_longer g.items (having_onto g.having ts), having_longer g.having ts)

-- ---- what follows each clause

commas_clause : {A : Type 0} (one : A → Kinds → Kinds) (xs : List A) (ts : Kinds) → 0 < clauses ts → 0 < clauses (commas_onto one xs ts)
commas_clause one [] ts lt = lt
commas_clause one (a ∷ xs) ts lt = omega arith

having_clause : (having : Option Tree) (ts : Kinds) → 3 < clauses ts → 3 < clauses (having_onto having ts)
having_clause None ts lt = lt
having_clause (Some a) ts lt = omega arith

group_clause : (items : List GroupTree) (ts : Kinds) → 2 < clauses ts → 2 < clauses (group_onto items ts)
group_clause [] ts lt = lt
group_clause (a ∷ items) ts lt = omega arith

pub grouping_clause : (g : GroupingTree) (ts : Kinds) → 4 < clauses ts → 2 < clauses (grouping_onto g ts)
grouping_clause g ts lt = group_clause g.items (having_onto g.having ts) (omega (arith, having_clause g.having ts (omega arith)))

-- ---- lists

module _ {A : Type 0} (one : A → Kinds → Kinds) (F Good : A → Type 0) (p : Parser A) (long : (a : A) (ts : Kinds) → length ts ≤ length (one a ts)) (reads : (a : A) (rest : Kinds) → Good a → 0 < clauses rest → Yields (F a) (a, rest) (p (one a rest))) where
  member_turns : (xs : List A) (rest : Kinds) → Each Good xs → 1 < clauses rest → Turns F (after m.Comma p) xs (commas_onto one xs rest) rest
  member_turns [] rest wl lt = (refl, after_none m.Comma p rest (clause_stops m.Comma rest lt))
  member_turns (a ∷ xs) rest wl lt =
      let mid : Kinds = commas_onto one xs rest in
      (mid, p (one a mid), after_same m.Comma p (one a mid), reads a mid wl.0 (commas_clause one xs rest (omega arith)), omega (arith, long a mid), member_turns xs rest wl.1 lt)

  members_read : (a : A) (xs : List A) (rest : Kinds) → Good a → Each Good xs → 1 < clauses rest → Yields (Each F (a ∷ xs)) (a ∷ xs, rest) (list_at m.Comma p (members_onto one (a ∷ xs) rest))
  members_read a xs rest wa wl lt =
      let mid : Kinds = commas_onto one xs rest in
      list_yields F m.Comma p a xs (one a mid) mid rest (reads a mid wa (commas_clause one xs rest (omega arith))) (member_turns xs rest wl lt)

-- ---- columns

column_by : (table : Option Name) (n : Name) (ts : Kinds) → eat m.Dot ts ≡ None → group_column_at (qualifier_onto table (name_kind n ∷ ts)) ≡ Ok (record { table = table; name = n }, ts)
unfolding group_column_at
column_by None n ts e = rw (name_at_same n ts, e) refl
column_by (Some q) n ts e = rw (name_at_same q (m.Dot ▸ (name_kind n ∷ ts)), eat_same m.Dot (name_kind n ∷ ts), name_at_same n ts) refl

group_column_same : (c : GroupColumn) (ts : Kinds) → eat m.Dot ts ≡ None → group_column_at (group_column_onto c ts) ≡ Ok (c, ts)
group_column_same c ts e = column_by c.table c.name ts e

column_read : (c : GroupColumn) (rest : Kinds) → AnyColumn c → 0 < clauses rest → Yields (AnyColumn c) (c, rest) (group_column_at (group_column_onto c rest))
column_read c rest g lt = rw (group_column_same c rest (clause_stops m.Dot rest lt)) refl

any_columns : (cs : List GroupColumn) → Each AnyColumn cs
any_columns [] = tt
any_columns (c ∷ cs) = (tt, any_columns cs)

some_columns_read : (c : GroupColumn) (cs : List GroupColumn) (rest : Kinds) → Yields (Unit {0}) (c ∷ cs, rest) (some_columns_at (members_onto group_column_onto (c ∷ cs) (m.RightBracket ▸ rest)))
unfolding some_columns_at
some_columns_read c cs rest =
    then_exactly (Each AnyColumn (c ∷ cs)) (Unit {0}) (c ∷ cs, m.RightBracket ▸ rest) (c ∷ cs, rest) (list_at m.Comma group_column_at (members_onto group_column_onto (c ∷ cs) (m.RightBracket ▸ rest))) (λ x. expect m.RightBracket x.1 >>= λ r. Ok (x.0, r)) (λ u. any_columns (c ∷ cs))
    (members_read group_column_onto AnyColumn AnyColumn group_column_at group_column_longer column_read c cs (m.RightBracket ▸ rest) tt (any_columns cs) (omega arith))
    (rw (expect_same m.RightBracket rest) refl)

begins_by : (x : Terminal) (table : Option Name) (n : Name) (ts : Kinds) → eat x (qualifier_onto table (name_kind n ∷ ts)) ≡ None
begins_by x None n ts = eat_name_kind x n ts
begins_by x (Some q) n ts = eat_name_kind x q (m.Dot ▸ (name_kind n ∷ ts))

-- a column begins with no terminal
column_begins : (x : Terminal) (c : GroupColumn) (ts : Kinds) → eat x (group_column_onto c ts) ≡ None
column_begins x c ts = begins_by x c.table c.name ts

columns_read : (empty : Bool) (cs : List GroupColumn) (rest : Kinds) → MayBe empty (columns cs) → Yields (Unit {0}) (cs, rest) (columns_at empty (members_onto group_column_onto cs (m.RightBracket ▸ rest)))
unfolding columns_at
columns_read true [] rest g = rw (eat_same m.RightBracket rest) refl
columns_read true (c ∷ cs) rest g = rw (column_begins m.RightBracket c (commas_onto group_column_onto cs (m.RightBracket ▸ rest))) (some_columns_read c cs rest)
columns_read false [] rest g = absurd g
columns_read false (c ∷ cs) rest g = some_columns_read c cs rest

-- ---- sets

within_yields : {B : Type 0} (left d : ℕ) (F : ℕ → Type 0) (y : B × Kinds) (f : ℕ → Reads B) → ((k : ℕ) → Yields (F k) y (f k)) → Yields (Below d F) y (within left d f)
within_yields left zero F y f h = λ x. x
within_yields left (suc d) F y f h = h d

set_reads : (d : ℕ) (empty : Bool) (s : SetTree) (rest : Kinds) → MayBe empty s → 0 < clauses rest → Yields (SetFits d s) (s, rest) (set_at d empty (set_onto s rest))
unfolding set_at
set_reads d empty (one_column c) rest g lt = rw (column_begins m.LeftBracket c rest) (rw (group_column_same c rest (clause_stops m.Dot rest lt)) refl)
set_reads d empty (columns cs) rest g lt =
    let inside : Kinds = members_onto group_column_onto cs (m.RightBracket ▸ rest) in
    let F : Type 0 = Below d (λ k. Unit {0}) in
    rw (eat_same m.LeftBracket inside)
    (then_exactly F F (cs, rest) (columns cs, rest) (within (length (m.LeftBracket ▸ inside)) d (λ k. columns_at empty inside)) (λ x. Ok (columns x.0, x.1)) (λ f. f) (within_yields (length (m.LeftBracket ▸ inside)) d (λ k. Unit {0}) (cs, rest) (λ k. columns_at empty inside) (λ k. columns_read empty cs rest g)) refl)

stands_may : (word : GroupingWord) (s : SetTree) → MayStandIn word s → MayBe (takes_empty word) s
stands_may Rollup s h = h
stands_may Cube s h = h
stands_may Sets s h = h

all_stand_may : (word : GroupingWord) (sets : List SetTree) → Each (MayStandIn word) sets → Each (MayBe (takes_empty word)) sets
all_stand_may word [] h = tt
all_stand_may word (s ∷ sets) h = (stands_may word s h.0, all_stand_may word sets h.1)

-- ---- words that make sets

cond_none : {B : Type 0} (v : Bool) (r : Kinds) (f : Kinds → Option B) (b : Option B) → f r ≡ None → b ≡ None → choose (cond v (Some r) None) f b ≡ None
cond_none true r f b h i = h
cond_none false r f b h i = i

word_none : {B : Type 0} (x : KeyWord) (n : Name) (r : Kinds) (f : Kinds → Option B) (b : Option B) → f r ≡ None → b ≡ None → choose (eat_word x (name_kind n ∷ r)) f b ≡ None
unfolding eat_word
word_none x n r f b h i = cond_none (is_word x (name_kind n)) r f b h i

-- a name is no such word where neither a bracket nor SETS follows
name_none : (n : Name) (r : Kinds) → eat m.LeftBracket r ≡ None → eat_word k.Sets r ≡ None → grouping_word_at (name_kind n ∷ r) ≡ None
unfolding grouping_word_at
name_none n r b s =
    word_none k.Rollup n r (λ r. choose (eat m.LeftBracket r) (λ q. Some (Rollup, r)) None) (choose (eat_word k.Cube (name_kind n ∷ r)) (λ r. choose (eat m.LeftBracket r) (λ q. Some (Cube, r)) None) (choose (eat_word k.Grouping (name_kind n ∷ r)) (λ r. choose (eat_word k.Sets r) (λ q. Some (Sets, q)) None) None)) (rw b refl)
    (word_none k.Cube n r (λ r. choose (eat m.LeftBracket r) (λ q. Some (Cube, r)) None) (choose (eat_word k.Grouping (name_kind n ∷ r)) (λ r. choose (eat_word k.Sets r) (λ q. Some (Sets, q)) None) None) (rw b refl)
    (word_none k.Grouping n r (λ r. choose (eat_word k.Sets r) (λ q. Some (Sets, q)) None) None (rw s refl) refl))

dot_follows : (ts : Kinds) → (eat m.LeftBracket (m.Dot ▸ ts) ≡ None) × (eat_word k.Sets (m.Dot ▸ ts) ≡ None)
unfolding eat eat_word
dot_follows ts = (refl, refl)

bracket_none : (ts : Kinds) → grouping_word_at (m.LeftBracket ▸ ts) ≡ None
unfolding grouping_word_at eat_word
bracket_none ts = refl

qualified_none : (table : Option Name) (n : Name) (rest : Kinds) → 0 < clauses rest → grouping_word_at (qualifier_onto table (name_kind n ∷ rest)) ≡ None
qualified_none None n rest lt = name_none n rest (clause_stops m.LeftBracket rest lt) (clause_no_word k.Sets rest lt)
qualified_none (Some q) n rest lt = let d = dot_follows (name_kind n ∷ rest) in name_none q (m.Dot ▸ (name_kind n ∷ rest)) d.0 d.1

word_absent : (s : SetTree) (rest : Kinds) → 0 < clauses rest → grouping_word_at (set_onto s rest) ≡ None
word_absent (one_column c) rest lt = qualified_none c.table c.name rest lt
word_absent (columns cs) rest lt = bracket_none (members_onto group_column_onto cs (m.RightBracket ▸ rest))

word_same : (word : GroupingWord) (ts : Kinds) → grouping_word_at (grouping_word_onto word (m.LeftBracket ▸ ts)) ≡ Some (word, m.LeftBracket ▸ ts)
unfolding grouping_word_at eat_word eat
word_same Rollup ts = refl
word_same Cube ts = refl
word_same Sets ts = refl

-- ---- members of GROUP BY

sets_read : (k : ℕ) (word : GroupingWord) (sets : List SetTree) (rest : Kinds) → GroupLevelled (constructed word sets) → Yields (Each (SetFits k) sets) (constructed word sets, rest) (list_at m.Comma (set_at k (takes_empty word)) (members_onto set_onto sets (m.RightBracket ▸ rest)) >>= λ x. expect m.RightBracket x.1 >>= λ q. Ok (constructed word x.0, q))
sets_read k word [] rest wl = absurd wl.0
sets_read k word (s ∷ sets) rest wl =
    let F : Type 0 = Each (SetFits k) (s ∷ sets) in
    let may = all_stand_may word (s ∷ sets) wl.1 in
    then_exactly F F (s ∷ sets, m.RightBracket ▸ rest) (constructed word (s ∷ sets), rest) (list_at m.Comma (set_at k (takes_empty word)) (members_onto set_onto (s ∷ sets) (m.RightBracket ▸ rest))) (λ x. expect m.RightBracket x.1 >>= λ q. Ok (constructed word x.0, q)) (λ f. f)
    (members_read set_onto (SetFits k) (MayBe (takes_empty word)) (set_at k (takes_empty word)) set_longer (λ a us g lt. set_reads k (takes_empty word) a us g lt) s sets (m.RightBracket ▸ rest) may.0 may.1 (omega arith))
    (rw (expect_same m.RightBracket rest) refl)

group_item_reads : (d : ℕ) (a : GroupTree) (rest : Kinds) → GroupLevelled a → 0 < clauses rest → Yields (GroupFits d a) (a, rest) (group_item_at d (group_item_onto a rest))
unfolding group_item_at sets_at
group_item_reads d (grouped_by s) rest wl lt =
    rw (word_absent s rest lt)
    (then_exactly (SetFits d s) (SetFits d s) (s, rest) (grouped_by s, rest) (set_at d true (set_onto s rest)) (λ x. Ok (grouped_by x.0, x.1)) (λ f. f) (set_reads d true s rest tt lt) refl)
group_item_reads d (constructed word sets) rest wl lt =
    let inside : Kinds = members_onto set_onto sets (m.RightBracket ▸ rest) in
    rw (word_same word inside) (rw (expect_same m.LeftBracket inside)
    (within_yields (length (m.LeftBracket ▸ inside)) d (λ k. Each (SetFits k) sets) (constructed word sets, rest) (λ k. list_at m.Comma (set_at k (takes_empty word)) inside >>= λ x. expect m.RightBracket x.1 >>= λ q. Ok (constructed word x.0, q)) (λ k. sets_read k word sets rest wl)))

-- ---- the clauses

group_reads : (d : ℕ) (items : List GroupTree) (rest : Kinds) → Each GroupLevelled items → 3 < clauses rest → Yields (Each (GroupFits d) items) (items, rest) (group_at d (group_onto items rest))
unfolding group_at
group_reads d [] rest wl lt = rw (clause_stops m.Group rest lt) refl
group_reads d (a ∷ items) rest wl lt =
    let inside : Kinds = members_onto group_item_onto (a ∷ items) rest in
    rw (eat_same m.Group (m.By ▸ inside)) (rw (expect_same m.By inside)
    (members_read group_item_onto (GroupFits d) GroupLevelled (group_item_at d) group_item_longer (λ b us g l. group_item_reads d b us g l) a items rest wl.0 wl.1 (omega arith)))

module _ (c : ℕ) where
  having_reads : (d : ℕ) (having : Option Tree) (rest : Kinds) → OptionLevelled having → 4 < clauses rest → Yields (OptionFits c d having) (having, rest) (having_at (level c d 8) (having_onto having rest))
  unfolding having_at
  having_reads d None rest wl lt = rw (clause_stops m.Having rest lt) refl
  having_reads d (Some a) rest wl lt =
      rw (eat_same m.Having (onto a rest))
      (then_yields (Fits c d a) (Fits c d a) (a, rest) (Some a, rest) (level c d 8 (onto a rest)) (λ x. Ok (Some x.0, x.1)) (λ f. f) (item c a d rest (known c a wl d) (omega (arith, clause_grips rest (omega arith)))) refl)

  pub grouping_reads : (d : ℕ) (g : GroupingTree) (rest : Kinds) → GroupingLevelled g → 4 < clauses rest → Yields (GroupingFits c d g) (g, rest) (grouping_at d (level c d 8) (grouping_onto g rest))
  unfolding grouping_at
  grouping_reads d g rest wl lt =
      let mid : Kinds = having_onto g.having rest in
      then_yields (Each (GroupFits d) g.items) (GroupingFits c d g) (g.items, mid) (g, rest) (group_at d (group_onto g.items mid)) (λ x. having_at (level c d 8) x.1 >>= λ y. Ok (record { items = x.0; having = y.0 }, y.1)) (λ f. f.0) (group_reads d g.items mid wl.0 (having_clause g.having rest (omega arith)))
      (then_yields (OptionFits c d g.having) (GroupingFits c d g) (g.having, rest) (g, rest) (having_at (level c d 8) mid) (λ y. Ok (record { items = g.items; having = y.0 }, y.1)) (λ f. f.1) (having_reads d g.having rest wl.1 lt) refl)
