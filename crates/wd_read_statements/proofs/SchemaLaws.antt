-- Token lists and the schemas that they spell.
use Rattle.std.proofs.Common.{inl, inr, ◌≡◌, ◌≢◌, ◌∙◌, ℕ, zero, suc, ◌+◌, ◌-◌, ◌<◌, ◌≤◌, sym, ap, subst, List, [], ◌∷◌, ◌++◌, length, Bool, true, false, Option, Some, None, Ok, Err, refl, arith, eqb-true, take}
use Rattle.std.specs.Prelude.{⊤, ◌==◌}
use Rattle.std.proofs.lemmas.Bool.{cases_order, true≢false}
use Rattle.std.proofs.lemmas.List.Elements.{All-head, All-push, All-tail}
use Rattle.std.specs.List.{All}
use Rattle.wd_lex.specs.Lexed.{kinds_of}
use Rattle.wd_lex.specs.declared.token.Token.{Token}
use Rattle.wd_lex.specs.declared.token.Terminal.TheVariants as m
use Rattle.wd_lex.specs.declared.token.TokenKind.{TokenKind}
use Rattle.wd_lex.specs.declared.token.TokenKind.TheVariants as k
use Rattle.wd_read_statements.specs.declared.syntax.ColumnRule.{ColumnRule}
use Rattle.wd_read_statements.specs.declared.syntax.KeyWords.{KeyWords}
use Rattle.wd_read_statements.specs.declared.syntax.KeyWords.TheVariants.{Primary, Unique}
use Rattle.wd_read_cursor.specs.declared.name.Name.{Name}
use Rattle.wd_read_cursor.specs.Cursor.{Unexpected, Limit, ◌>>=◌, Reads, some_or_unexpected, eat, expect}
use Rattle.wd_read_statements.specs.declared.syntax.Nulls.TheVariants.{Unsaid, Distinct, NotDistinct}
use Rattle.wd_read_statements.specs.Grammar.{AreStatements, Begins, IsEnd, IsSchema, IsTable, IsUnexpected, listed, spell_constraint, spell_element, spell_key, spell_name, spell_rule, spell_rules, spell_schema, spell_stop, spell_tables, spell_words}
use Rattle.wd_read_statements.specs.Reading.{statement_at, stop_at, table_at}
use Rattle.wd_read_cursor.specs.Given.{Fails, left_of}
use Rattle.wd_read_cursor.specs.declared.refusal.Refusal.{Refusal}
use Rattle.wd_read_cursor.specs.declared.refusal.Refusal.TheVariants as r
use Rattle.wd_read_statements.specs.Laws.{HasOnePlace}
use Rattle.wd_read_statements.specs.Written.{ElementTree, Column, Key, SchemaTree, TableTree}
use Rattle.wd_read_statements.proofs.Exactness.{Agree, Before, Exact, IsRead, IsRefused}
use Rattle.wd_read_statements.proofs.ReaderFacts.{push-some, tables-push}
use Rattle.wd_read_statements.proofs.GrammarExact.{MayStatement, WholeStatement, longer_by, spell_statement, statement_exact}

-- ---- lists that agree

agree_same : (left : ℕ) (kinds : List TokenKind) → Agree left kinds kinds
agree_same left [] = tt
agree_same left (x ∷ kinds) = (refl, λ le. agree_same left kinds)

agree_whole : (xs ys : List TokenKind) → Agree 0 xs ys → xs ≡ ys
agree_whole [] [] agree = refl
agree_whole (x ∷ xs) [] agree = absurd agree
agree_whole [] (y ∷ ys) agree = absurd agree
agree_whole (x ∷ xs) (y ∷ ys) agree = ap (λ z. z ∷ xs) agree.0 ∙ ap (λ zs. y ∷ zs) (agree_whole xs ys (agree.1 (omega arith)))

head_same : (x y : TokenKind) (xs ys : List TokenKind) → x ∷ xs ≡ y ∷ ys → x ≡ y
head_same x y xs ys e = cc

tail_same : (x y : TokenKind) (xs ys : List TokenKind) → x ∷ xs ≡ y ∷ ys → xs ≡ ys
tail_same x y xs ys e = cc

cons_nil : (x : TokenKind) (xs : List TokenKind) → x ∷ xs ≡ [] → ⊥
cons_nil x xs e = cc

-- the same up to a place
pub agree_at : (place left : ℕ) (xs ys : List TokenKind) → place + left ≡ length ys → take (suc place) xs ≡ take (suc place) ys → Agree left xs ys
agree_at place left [] [] sum e = tt
agree_at place left (x ∷ xs) [] sum e = absurd (cons_nil x (take place xs) e)
agree_at place left [] (y ∷ ys) sum e = absurd (cons_nil y (take place ys) (sym e))
agree_at zero left (x ∷ xs) (y ∷ ys) sum e = (head_same x y [] [] e, λ le. absurd (omega arith))
agree_at (suc place) left (x ∷ xs) (y ∷ ys) sum e =
    (head_same x y (take (suc place) xs) (take (suc place) ys) e, λ le. agree_at place left xs ys (omega arith) (tail_same x y (take (suc place) xs) (take (suc place) ys) e))

-- the same before a place
before_at : (place left : ℕ) (xs ys : List TokenKind) → place + left ≡ length ys → Before left xs ys → take place xs ≡ take place ys
before_at zero left xs ys sum before = refl
before_at (suc place) left xs [] sum before = absurd (omega arith)
before_at (suc place) left [] (y ∷ ys) sum before = absurd (before (omega arith))
before_at (suc place) left (x ∷ xs) (y ∷ ys) sum before =
    let both = before (omega arith) in ap (λ z. z ∷ take place xs) both.0 ∙ ap (λ zs. y ∷ zs) (before_at place left xs ys (omega arith) both.1)

-- ---- one statement

unique_by : (kinds : List TokenKind) (r : Reads (TableTree × Bool)) → Exact spell_statement WholeStatement MayStatement kinds r → (a b : TableTree × Bool) (more rest : List TokenKind)
    → WholeStatement a → MayStatement a more → kinds ≡ spell_statement a more → WholeStatement b → MayStatement b rest → kinds ≡ spell_statement b rest → (a ≡ b) × (more ≡ rest)
unique_by kinds (Err (Limit left)) refused a b more rest wa ma ea wb mb eb = absurd refused
unique_by kinds (Err (Unexpected left)) refused a b more rest wa ma ea wb mb eb = absurd (refused.none a more wa ma (subst (Agree left (spell_statement a more)) (sym ea) (agree_same left (spell_statement a more))))
unique_by kinds (Ok z) read a b more rest wa ma ea wb mb eb =
    let first = read.same 0 a more wa ma (omega arith) (subst (Agree 0 (spell_statement a more)) (sym ea) (agree_same 0 (spell_statement a more))) in
    let second = read.same 0 b rest wb mb (omega arith) (subst (Agree 0 (spell_statement b rest)) (sym eb) (agree_same 0 (spell_statement b rest))) in
    (first.0 ∙ sym second.0, agree_whole more z.1 first.1 ∙ sym (agree_whole rest z.1 second.1))

unique_statement : (a b : TableTree × Bool) (more rest : List TokenKind) → WholeStatement a → MayStatement a more → WholeStatement b → MayStatement b rest → spell_statement a more ≡ spell_statement b rest → (a ≡ b) × (more ≡ rest)
unique_statement a b more rest wa ma wb mb e = unique_by (spell_statement a more) (statement_at (spell_statement a more)) (statement_exact (spell_statement a more)) a b more rest wa ma refl wb mb e

-- ---- the first statement of a schema, and the schema after it

abbrev first_stop : List TableTree → Bool → Bool
first_stop [] ended = ended
first_stop (table ∷ tables) ended = true

abbrev next_ended : List TableTree → Bool → Bool
next_ended [] ended = false
next_ended (table ∷ tables) ended = ended

abbrev schema_of : List TableTree → Bool → SchemaTree
schema_of tables ended = record { tables = tables; ended = ended }

first_is : (table : TableTree) (tables : List TableTree) (ended : Bool) → spell_schema (schema_of (table ∷ tables) ended) ≡ spell_statement (table, first_stop tables ended) (spell_schema (schema_of tables (next_ended tables ended)))
first_is table [] ended = refl
first_is table (other ∷ tables) ended = refl

first_may : (table : TableTree) (tables : List TableTree) (ended : Bool) → MayStatement (table, first_stop tables ended) (spell_schema (schema_of tables (next_ended tables ended)))
first_may table [] ended = λ e. refl
first_may table (other ∷ tables) ended = λ e. absurd (true≢false e)

cons≢nil : (table : TableTree) (tables : List TableTree) → table ∷ tables ≡ [] → ⊥
cons≢nil table tables e = cc

next_whole : (table : TableTree) (tables : List TableTree) (ended : Bool) → All IsTable (table ∷ tables) → IsSchema (schema_of tables (next_ended tables ended))
next_whole table [] ended all = record { tables = All-tail IsTable table [] all; ended = λ e. refl }
next_whole table (other ∷ tables) ended all = record { tables = All-tail IsTable table (other ∷ tables) all; ended = λ e. absurd (cons≢nil other tables e) }

-- a schema without tables has no tokens
none_spelled : (ended : Bool) → ended ≡ false → spell_schema (schema_of [] ended) ≡ []
none_spelled ended e = ap (λ b. spell_stop b []) e

-- ---- unique reading

ends_same : (ts us : List TableTree) (e f : Bool) → first_stop ts e ≡ first_stop us f → schema_of ts (next_ended ts e) ≡ schema_of us (next_ended us f) → e ≡ f
ends_same [] [] e f stops nexts = stops
ends_same [] (u ∷ us) e f stops nexts = absurd (cons≢nil u us (sym (ap (λ (s : SchemaTree). s.tables) nexts)))
ends_same (t ∷ ts) [] e f stops nexts = absurd (cons≢nil t ts (ap (λ (s : SchemaTree). s.tables) nexts))
ends_same (t ∷ ts) (u ∷ us) e f stops nexts = ap (λ (s : SchemaTree). s.ended) nexts

one_schema : (ts us : List TableTree) (e f : Bool) → IsSchema (schema_of ts e) → IsSchema (schema_of us f) → spell_schema (schema_of ts e) ≡ spell_schema (schema_of us f) → schema_of ts e ≡ schema_of us f
one_schema [] [] e f a b same = ap (schema_of []) (a.ended refl ∙ sym (b.ended refl))
one_schema [] (u ∷ us) e f a b same = absurd (cons_nil _ _ (sym (first_is u us f) ∙ sym same ∙ none_spelled e (a.ended refl)))
one_schema (t ∷ ts) [] e f a b same = absurd (cons_nil _ _ (sym (first_is t ts e) ∙ same ∙ none_spelled f (b.ended refl)))
one_schema (t ∷ ts) (u ∷ us) e f a b same =
    let first = unique_statement (t, first_stop ts e) (u, first_stop us f) (spell_schema (schema_of ts (next_ended ts e))) (spell_schema (schema_of us (next_ended us f)))
    (All-head IsTable t ts a.tables) (first_may t ts e) (All-head IsTable u us b.tables) (first_may u us f) (sym (first_is t ts e) ∙ same ∙ first_is u us f) in
    let nexts = one_schema ts us (next_ended ts e) (next_ended us f) (next_whole t ts e a.tables) (next_whole u us f b.tables) first.1 in
    let ended : e ≡ f = ends_same ts us e f (ap (λ (y : TableTree × Bool). y.1) first.0) nexts in
    ap (λ x. schema_of (x ∷ ts) e) (ap (λ (y : TableTree × Bool). y.0) first.0) ∙ ap (λ xs. schema_of (u ∷ xs) e) (ap (λ (s : SchemaTree). s.tables) nexts) ∙ ap (schema_of (u ∷ us)) ended

pub one_tree : (a b : SchemaTree) → IsSchema a → IsSchema b → spell_schema a ≡ spell_schema b → a ≡ b
one_tree a b wa wb same = one_schema a.tables b.tables a.ended b.ended wa wb same

-- ---- a statement has tokens

rules_longer : (ys : List ColumnRule) (after : List TokenKind) → length after ≤ length (spell_rules ys after)
rules_longer [] after = omega arith
rules_longer (y ∷ ys) after =
    let one : length (spell_rules ys after) < length (spell_constraint y.constraint (spell_rule y.rule (spell_rules ys after))) = longer_by y.constraint y.rule (spell_rules ys after) in
    let others : length after ≤ length (spell_rules ys after) = rules_longer ys after in
    omega arith

listed_longer : {A : Type 0} (spell : A → List TokenKind → List TokenKind) → ((x : A) (after : List TokenKind) → length after ≤ length (spell x after)) → (xs : List A) (after : List TokenKind) → length after ≤ length (listed m.Comma spell xs after)
listed_longer spell longer [] after = omega arith
listed_longer spell longer (x ∷ []) after = longer x after
listed_longer spell longer (x ∷ y ∷ xs) after =
    let others : length after ≤ length (listed m.Comma spell (y ∷ xs) after) = listed_longer spell longer (y ∷ xs) after in
    let one : suc (length (listed m.Comma spell (y ∷ xs) after)) ≤ length (spell x (k.Terminal m.Comma ∷ listed m.Comma spell (y ∷ xs) after)) = longer x (k.Terminal m.Comma ∷ listed m.Comma spell (y ∷ xs) after) in
    omega arith

words_longer : (words : KeyWords) (after : List TokenKind) → length after ≤ length (spell_words words after)
words_longer Primary after = omega arith
words_longer (Unique Unsaid) after = omega arith
words_longer (Unique Distinct) after = omega arith
words_longer (Unique NotDistinct) after = omega arith

constraint_longer : (name : Option Name) (after : List TokenKind) → length after ≤ length (spell_constraint name after)
constraint_longer None after = omega arith
constraint_longer (Some name) after = omega arith

element_longer : (y : ElementTree) (after : List TokenKind) → length after ≤ length (spell_element y after)
element_longer (Column column) after = let rules : length after ≤ length (spell_rules column.rules after) = rules_longer column.rules after in omega arith
element_longer (Key key) after =
    let names = listed m.Comma spell_name key.columns (k.Terminal m.RightBracket ∷ after) in
    let a : suc (length after) ≤ length names = listed_longer spell_name (λ x rest. omega arith) key.columns (k.Terminal m.RightBracket ∷ after) in
    let b : suc (length names) ≤ length (spell_words key.words (k.Terminal m.LeftBracket ∷ names)) = words_longer key.words (k.Terminal m.LeftBracket ∷ names) in
    let c : length (spell_words key.words (k.Terminal m.LeftBracket ∷ names)) ≤ length (spell_key key after) = constraint_longer key.constraint (spell_words key.words (k.Terminal m.LeftBracket ∷ names)) in
    omega arith

stop_longer : (stop : Bool) (after : List TokenKind) → length after ≤ length (spell_stop stop after)
stop_longer true after = omega arith
stop_longer false after = omega arith

statement_longer : (y : TableTree × Bool) (after : List TokenKind) → length after < length (spell_statement y after)
statement_longer y after =
    let a : length after ≤ length (spell_stop y.1 after) = stop_longer y.1 after in
    let b : suc (length (spell_stop y.1 after)) ≤ length (listed m.Comma spell_element y.0.elements (k.Terminal m.RightBracket ∷ spell_stop y.1 after)) = listed_longer spell_element element_longer y.0.elements (k.Terminal m.RightBracket ∷ spell_stop y.1 after) in
    omega arith

-- ---- the statements that tokens begin with

end_cases : (rest : List TokenKind) → IsEnd rest → (stop : Bool) × (more : List TokenKind) × (rest ≡ spell_stop stop more) × (stop ≡ false → more ≡ [])
end_cases [] is = (false, [], refl, λ e. refl)
end_cases (k.Terminal m.Semicolon ∷ more) is = (true, more, refl, λ e. absurd (true≢false e))
end_cases (k.Terminal _ ∷ more) is = absurd is
end_cases (k.Word text ∷ more) is = absurd is
end_cases (k.Quoted text ∷ more) is = absurd is
end_cases (k.Literal text ∷ more) is = absurd is
end_cases (k.Number n ∷ more) is = absurd is

-- a semicolon stands after the tables, or there are none
abbrev pub MayGoOn : List TableTree → Bool → List TokenKind → Type 0
MayGoOn tables ended rest = (tables ≢ [] → ended ≡ false → rest ≡ []) × (tables ≡ [] → ended ≡ false)

-- no statement stands there
abbrev pub IsOver : List TokenKind → Type 0
IsOver rest = (x : TableTree × Bool) (after : List TokenKind) → WholeStatement x → MayStatement x after → rest ≡ spell_statement x after → ⊥

pub nothing_over : IsOver []
nothing_over x after whole may e = absurd (omega (arith, ap length e, statement_longer x after))

-- a statement opens no level
pub no_limit : (rest : List TokenKind) (left : ℕ) → statement_at rest ≡ Err (Limit left) → ⊥
no_limit rest left e = subst (Exact spell_statement WholeStatement MayStatement rest) e (statement_exact rest)

pub refused_as : (e : Refusal) (rest : List TokenKind) (left : ℕ) → left_of e ≡ Some left → Fails e (statement_at rest) → statement_at rest ≡ Err (Unexpected left)
refused_as (r.Unexpected n) rest left is fails = let same : n ≡ left = cc in rw same at fails
refused_as (r.PastLimit n) rest left is fails = absurd (no_limit rest n fails)
refused_as r.OutOfMemory rest left is fails = absurd (cc)

pub refused_over : (rest : List TokenKind) (left : ℕ) → statement_at rest ≡ Err (Unexpected left) → IsOver rest
refused_over rest left e x after whole may is =
    let refused : IsRefused spell_statement WholeStatement MayStatement rest left = subst (Exact spell_statement WholeStatement MayStatement rest) e (statement_exact rest) in
    refused.none x after whole may (subst (Agree left (spell_statement x after)) (sym is) (agree_same left (spell_statement x after)))

-- tables, their semicolon, and the rest
abbrev onto : List TableTree → Bool → List TokenKind → List TokenKind
onto [] ended rest = rest
onto (table ∷ tables) ended rest = spell_tables (table ∷ tables) (spell_stop ended rest)

onto_is : (tables : List TableTree) (ended : Bool) (rest : List TokenKind) → (tables ≡ [] → ended ≡ false) → spell_tables tables (spell_stop ended rest) ≡ onto tables ended rest
onto_is [] ended rest fresh = ap (λ b. spell_stop b rest) (fresh refl)
onto_is (table ∷ tables) ended rest fresh = refl

statement_is : (table : TableTree) (tables : List TableTree) (ended : Bool) (rest : List TokenKind) → onto (table ∷ tables) ended rest ≡ spell_statement (table, first_stop tables ended) (onto tables ended rest)
statement_is table [] ended rest = refl
statement_is table (other ∷ tables) ended rest = refl

statement_may : (table : TableTree) (tables : List TableTree) (ended : Bool) (rest : List TokenKind) → (ended ≡ false → rest ≡ []) → MayStatement (table, first_stop tables ended) (onto tables ended rest)
statement_may table [] ended rest over = over
statement_may table (other ∷ tables) ended rest over = λ e. absurd (true≢false e)

-- tables after which no statement stands: others that are spelled alike are the first of them
fronts : (ts us : List TableTree) (e f : Bool) (rest more : List TokenKind) → All IsTable ts → All IsTable us → (ts ≢ [] → e ≡ false → rest ≡ []) → (f ≡ false → more ≡ []) → IsOver rest
    → onto ts e rest ≡ onto us f more → (others : List TableTree) × (ts ≡ us ++ others)
fronts ts [] e f rest more all each may ends over same = (ts, refl)
fronts [] (u ∷ us) e f rest more all each may ends over same =
    absurd (over (u, first_stop us f) (onto us f more) (All-head IsTable u us each) (statement_may u us f more ends) (same ∙ statement_is u us f more))
fronts (t ∷ ts) (u ∷ us) e f rest more all each may ends over same =
    let ended = may (cons≢nil t ts) in
    let first = unique_statement (t, first_stop ts e) (u, first_stop us f) (onto ts e rest) (onto us f more)
    (All-head IsTable t ts all) (statement_may t ts e rest ended) (All-head IsTable u us each) (statement_may u us f more ends) (sym (statement_is t ts e rest) ∙ same ∙ statement_is u us f more) in
    let others = fronts ts us e f rest more (All-tail IsTable t ts all) (All-tail IsTable u us each) (λ some. ended) ends over first.1 in
    (others.0, ap (λ x. x ∷ ts) (ap (λ (y : TableTree × Bool). y.0) first.0) ∙ ap (λ xs. u ∷ xs) others.1)

end_of : (ended : Bool) (rest : List TokenKind) → (ended ≡ false → rest ≡ []) → IsEnd (spell_stop ended rest)
end_of true rest over = tt
end_of false rest over = subst IsEnd (sym (over refl)) tt

pub statements_are : (kinds : List TokenKind) (tables : List TableTree) (ended : Bool) (rest : List TokenKind) → All IsTable tables → kinds ≡ spell_tables tables (spell_stop ended rest) → MayGoOn tables ended rest → IsOver rest
    → AreStatements kinds tables
statements_are kinds tables ended rest each spelled may over = record {
  begins = record { rest = spell_stop ended rest; each = each; spelled = spelled; ends = λ some. end_of ended rest (may.0 some) };
  all = all;
}
  where
    all : (others : List TableTree) → Begins kinds others → (more : List TableTree) × (tables ≡ others ++ more)
    all [] begins = (tables, refl)
    all (u ∷ us) begins =
        let end = end_cases begins.rest (begins.ends (cons≢nil u us)) in
        fronts tables (u ∷ us) ended end.0 rest end.1 each begins.each may.0 end.3 over (sym (onto_is tables ended rest may.1) ∙ sym spelled ∙ begins.spelled ∙ ap (spell_tables (u ∷ us)) end.2)

-- the tables of a schema are all its statements
pub schema_statements : (tree : SchemaTree) → IsSchema tree → AreStatements (spell_schema tree) tree.tables
schema_statements tree whole = statements_are (spell_schema tree) tree.tables tree.ended [] whole.tables refl ((λ some e. refl), whole.ended) nothing_over

-- ---- what a read statement tells

abbrev Holds : {A : Type 0} → (A × List TokenKind → Type 0) → Reads A → Type 0
Holds P (Ok x) = P x
Holds P (Err fault) = ⊤

stop_last : (kinds : List TokenKind) → Holds (λ (x : Bool × List TokenKind). x.0 ≡ false → x.1 ≡ []) (stop_at kinds)
unfolding stop_at expect
stop_last [] = λ e. refl
stop_last (x ∷ kinds) = by (eat m.Semicolon (x ∷ kinds))
  where
    by : (o : Option (List TokenKind)) → Holds (λ (x : Bool × List TokenKind). x.0 ≡ false → x.1 ≡ []) (some_or_unexpected (suc (length kinds)) o >>= λ rest. Ok (true, rest))
    by (Some rest) = λ e. absurd (true≢false e)
    by None = tt

statement_last : (kinds : List TokenKind) → Holds (λ (x : (TableTree × Bool) × List TokenKind). x.0.1 ≡ false → x.1 ≡ []) (statement_at kinds)
unfolding statement_at
statement_last kinds = by (table_at kinds)
  where
    stopped : (table : TableTree) (r : Reads Bool) → Holds (λ (x : Bool × List TokenKind). x.0 ≡ false → x.1 ≡ []) r → Holds (λ (x : (TableTree × Bool) × List TokenKind). x.0.1 ≡ false → x.1 ≡ []) (r >>= λ stop. Ok ((table, stop.0), stop.1))
    stopped table (Ok x) h = h
    stopped table (Err fault) h = tt

    by : (r : Reads TableTree) → Holds (λ (x : (TableTree × Bool) × List TokenKind). x.0.1 ≡ false → x.1 ≡ []) (r >>= λ table. stop_at table.1 >>= λ stop. Ok ((table.0, stop.0), stop.1))
    by (Ok table) = stopped table.0 (stop_at table.1) (stop_last table.1)
    by (Err fault) = tt

pub read_is : (kinds : List TokenKind) (x : TableTree × Bool) (after : List TokenKind) → statement_at kinds ≡ Ok (x, after) → IsRead spell_statement WholeStatement MayStatement kinds x after
read_is kinds x after e = subst (Exact spell_statement WholeStatement MayStatement kinds) e (statement_exact kinds)

pub read_last : (kinds : List TokenKind) (x : TableTree × Bool) (after : List TokenKind) → statement_at kinds ≡ Ok (x, after) → x.1 ≡ false → after ≡ []
read_last kinds x after e = subst (Holds (λ (x : (TableTree × Bool) × List TokenKind). x.0.1 ≡ false → x.1 ≡ [])) e (statement_last kinds)

pub read_longer : (kinds : List TokenKind) (x : TableTree × Bool) (after : List TokenKind) → statement_at kinds ≡ Ok (x, after) → length after < length kinds
read_longer kinds x after e = rw (read_is kinds x after e).spelled (statement_longer x after)

-- ---- how far the tokens are those of a schema

-- Tables have been read. Each schema that is spelled like the tokens, past those read so far, goes on as a schema; what goes
-- on after the tables like the tokens that are left is like the tokens from the first on.
pub record IsSettled (kinds : List TokenKind) (tables : List TableTree) (ended : Bool) (rest : List TokenKind) : Type 0 where
  pub shorter : length rest ≤ length kinds
  pub goes : (left : ℕ) (tree : SchemaTree) → IsSchema tree → left ≤ length rest → Agree left (spell_schema tree) kinds → (next : SchemaTree) × IsSchema next × Agree left (spell_schema next) rest
  pub carries : (left : ℕ) (after : List TokenKind) → Before left after rest → Before left (spell_tables tables (spell_stop ended after)) kinds

pub settled_first : (kinds : List TokenKind) → IsSettled kinds [] false kinds
settled_first kinds = record { shorter = omega arith; goes = λ left tree whole le agree. (tree, whole, agree); carries = λ left after before. before }

nothing_left : (left : ℕ) (rest : List TokenKind) → rest ≢ [] → Agree left [] rest → ⊥
nothing_left left [] some agree = some refl
nothing_left left (x ∷ rest) some agree = agree

settled_step : (left : ℕ) (tables : List TableTree) (ended : Bool) (rest : List TokenKind) (x : TableTree × Bool) (after : List TokenKind) → rest ≢ [] → IsSchema (schema_of tables ended) → statement_at rest ≡ Ok (x, after) → left ≤ length after → Agree left (spell_schema (schema_of tables ended)) rest
    → (next : SchemaTree) × IsSchema next × Agree left (spell_schema next) after
settled_step left [] ended rest x after some whole e le agree = absurd (nothing_left left rest some (subst (λ ks. Agree left ks rest) (none_spelled ended (whole.ended refl)) agree))
settled_step left (t ∷ ts) ended rest x after some whole e le agree =
    let both = (read_is rest x after e).same left (t, first_stop ts ended) (spell_schema (schema_of ts (next_ended ts ended))) (All-head IsTable t ts whole.tables) (first_may t ts ended) le
    (subst (λ ks. Agree left ks rest) (first_is t ts ended) agree) in
    (schema_of ts (next_ended ts ended), next_whole t ts ended whole.tables, both.1)

-- a further statement after the tables
push_is : (tables : List TableTree) (ended : Bool) (rest : List TokenKind) (x : TableTree × Bool) (after : List TokenKind) → rest ≢ [] → MayGoOn tables ended rest → spell_tables tables (spell_stop ended (spell_statement x after)) ≡ spell_tables (tables ++ x.0 ∷ []) (spell_stop x.1 after)
push_is tables ended rest x after some may =
    tables-push tables x.0 ended (spell_statement x after) (spell_stop x.1 after) (λ others none. absurd (some (may.0 others none))) may.1 refl

pub settled_more : (kinds : List TokenKind) (tables : List TableTree) (ended : Bool) (rest : List TokenKind) (x : TableTree × Bool) (after : List TokenKind) → rest ≢ [] → MayGoOn tables ended rest → statement_at rest ≡ Ok (x, after) → IsSettled kinds tables ended rest → IsSettled kinds (tables ++ x.0 ∷ []) x.1 after
settled_more kinds tables ended rest x after some may e settled = record {
  shorter = let lt : length after < length rest = read_longer rest x after e in omega (arith, settled.shorter);
  goes = λ left tree whole le agree.
      let lt : length after < length rest = read_longer rest x after e in
      let next = settled.goes left tree whole (omega arith) agree in
      settled_step left next.0.tables next.0.ended rest x after some next.1 e le next.2;
  carries = λ left others before.
      subst (λ ks. Before left ks kinds) (push_is tables ended rest x others some may) (settled.carries left (spell_statement x others) ((read_is rest x after e).carries left others before));
}

refused_step : (left : ℕ) (tables : List TableTree) (ended : Bool) (rest : List TokenKind) → rest ≢ [] → IsSchema (schema_of tables ended) → IsRefused spell_statement WholeStatement MayStatement rest left → Agree left (spell_schema (schema_of tables ended)) rest → ⊥
refused_step left [] ended rest some whole refused agree = nothing_left left rest some (subst (λ ks. Agree left ks rest) (none_spelled ended (whole.ended refl)) agree)
refused_step left (t ∷ ts) ended rest some whole refused agree =
    refused.none (t, first_stop ts ended) (spell_schema (schema_of ts (next_ended ts ended))) (All-head IsTable t ts whole.tables) (first_may t ts ended) (subst (λ ks. Agree left ks rest) (first_is t ts ended) agree)

pub settled_stops : (kinds : List TokenKind) (tables : List TableTree) (ended : Bool) (rest : List TokenKind) (left : ℕ) → rest ≢ [] → MayGoOn tables ended rest → All IsTable tables → statement_at rest ≡ Err (Unexpected left) → IsSettled kinds tables ended rest → IsUnexpected kinds (length kinds - left)
settled_stops kinds tables ended rest left some may each e settled =
    let refused : IsRefused spell_statement WholeStatement MayStatement rest left = subst (Exact spell_statement WholeStatement MayStatement rest) e (statement_exact rest) in
    let within : left ≤ length kinds = omega (arith, refused.within, settled.shorter) in
    let near = refused.near.0 in
    let tree : SchemaTree = schema_of (tables ++ near.0 ∷ []) near.1 in
    let whole : IsSchema tree = record { tables = All-push IsTable tables near.0 each refused.near.1; ended = λ h. absurd (push-some tables near.0 h) } in
    let before : Before left (spell_schema tree) kinds = subst (λ ks. Before left ks kinds) (push_is tables ended rest near [] some may) (settled.carries left (spell_statement near []) (refused.near.2 [])) in
    record {
      within = omega arith;
      before = (tree, whole, before_at (length kinds - left) left (spell_schema tree) kinds (omega arith) before);
      none = λ other is same.
          let next = settled.goes left other is refused.within (agree_at (length kinds - left) left (spell_schema other) kinds (omega arith) same) in
          refused_step left next.0.tables next.0.ended rest some next.1 refused next.2;
    }

-- ---- no schema goes on at one place alone

take_take : (n m : ℕ) (xs : List TokenKind) → n ≤ m → take n (take m xs) ≡ take n xs
take_take zero m xs le = refl
take_take (suc n) zero xs le = absurd (omega arith)
take_take (suc n) (suc m) [] le = refl
take_take (suc n) (suc m) (x ∷ xs) le = ap (λ zs. x ∷ zs) (take_take n m xs (omega arith))

none_later : (kinds : List TokenKind) (p q : ℕ) → p < q → IsUnexpected kinds p → IsUnexpected kinds q → ⊥
none_later kinds p q lt first second =
    let tree = second.before.0 in
    first.none tree second.before.1 (sym (take_take (suc p) q (spell_schema tree) lt) ∙ ap (take (suc p)) second.before.2 ∙ take_take (suc p) q kinds lt)

pub one_place : HasOnePlace
one_place kinds p q first second = elim (cases_order p q) [
  | inl e ↦ e
  | inr (inl lt) ↦ absurd (none_later kinds p q lt first second)
  | inr (inr lt) ↦ absurd (none_later kinds q p lt second first)
]

pub kinds_some : (tokens : List Token) → (length tokens == 0) ≡ false → kinds_of tokens ≢ []
kinds_some [] h = absurd (true≢false h)
kinds_some (token ∷ tokens) h = λ e. cons_nil token.kind (kinds_of tokens) e

pub kinds_none : (tokens : List Token) → (length tokens == 0) ≡ true → kinds_of tokens ≡ []
kinds_none [] h = refl
kinds_none (token ∷ tokens) h = absurd (omega (arith, eqb-true (length (token ∷ tokens)) 0 h))
