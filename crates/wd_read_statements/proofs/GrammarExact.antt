-- Each reader of the grammar of schemas is exact.
use Rattle.std.proofs.Common.{◌≡◌, ◌≢◌, ◌∙◌, ◌⊎◌, inl, inr, ℕ, zero, suc, ◌<◌, ◌≤◌, sym, ap, subst, List, [], ◌∷◌, length, Bool, true, false, Option, Some, None, is_some, Ok, refl, arith, ◌||◌, cond}
use Rattle.std.proofs.lemmas.Bool.{true≢false}
use Rattle.std.specs.List.{All}
use Rattle.std.proofs.lemmas.List.Elements.{All-nil, All-cons, All-head, All-tail}
use Rattle.std.specs.Prelude.{⊤}
use Rattle.wd_lex.specs.declared.token.Terminal.{Terminal}
use Rattle.wd_lex.specs.declared.token.Terminal.TheVariants as m
use Rattle.wd_lex.specs.declared.token.TokenKind.{TokenKind}
use Rattle.wd_lex.specs.declared.token.TokenKind.TheVariants as k
use Rattle.wd_read_cursor.specs.declared.name.Name.{Name}
use Rattle.wd_read_cursor.specs.declared.words.KeyWord.TheVariants as w
use Rattle.wd_read_cursor.specs.Tokens.{letters, written, name_kind}
use Rattle.wd_read_cursor.specs.Cursor.{◌>>=◌, Parser, Reads, choose, is_terminal, eat, eat_word, expect, expect_word, eat_name, name_at, if_begun, many, after, list_at}
use Rattle.wd_read_statements.specs.declared.syntax.Nulls.{Nulls}
use Rattle.wd_read_statements.specs.declared.syntax.Nulls.TheVariants.{Unsaid, Distinct, NotDistinct}
use Rattle.wd_read_statements.specs.declared.syntax.KeyWords.{KeyWords}
use Rattle.wd_read_statements.specs.declared.syntax.KeyWords.TheVariants.{Primary, Unique}
use Rattle.wd_read_statements.specs.declared.syntax.Rule.{Rule}
use Rattle.wd_read_statements.specs.declared.syntax.Rule.TheVariants as rule
use Rattle.wd_read_statements.specs.declared.syntax.ColumnRule.{ColumnRule}
use Rattle.wd_read_statements.specs.Grammar.{HasColumns, IsTable, listed, spell_column, spell_constraint, spell_element, spell_key, spell_name, spell_nulls, spell_rule, spell_rules, spell_stop, spell_table, spell_words}
use Rattle.wd_read_statements.specs.Reading.{nulls_at, words_at, rule_at, constraint_at, column_rule_at, ends_column, rule_if, rules_at, column_at, key_at, begins_key, element_at, table_at, stop_at, statement_at}
use Rattle.wd_read_statements.specs.Written.{ColumnTree, KeyTree, ElementTree, Column, Key, TableTree}
use Rattle.wd_read_statements.proofs.Exactness.{Agree, Exact, Without, before_first, choose_exact, done_exact, empty_exact, eats_terminal, eats_word, expect_exact, narrow_exact, then_exact}

abbrev Any : {A : Type 0} → A → Type 0
Any x = ⊤

abbrev Ever : {A : Type 0} → A → List TokenKind → Type 0
Ever x after = ⊤

-- ---- a name

no_name : Name
no_name = record { text = []; quoted = false }

name_by : (x : Name) (text : List ℕ) (quoted : Bool) → x.text ≡ text → x.quoted ≡ quoted → x ≡ record { text = text; quoted = quoted }
name_by x text quoted e f = ap (λ t. let z : Name = record { text = t; quoted = x.quoted } in z) e ∙ ap (λ q. let z : Name = record { text = text; quoted = q } in z) f

written_word : (quoted : Bool) (text word : List ℕ) → written quoted text ≡ k.Word word → (text ≡ word) × (quoted ≡ false)
written_word true text word e = absurd (cc)
written_word false text word e = (cc, refl)

written_quoted : (quoted : Bool) (text name : List ℕ) → written quoted text ≡ k.Quoted name → (text ≡ name) × (quoted ≡ true)
written_quoted true text name e = (cc, refl)
written_quoted false text name e = absurd (cc)

name_is : (x : Name) (text : List ℕ) → name_kind x ≡ k.Word text → x ≡ record { text = text; quoted = false }
name_is x text e = let parts = written_word x.quoted x.text text e in name_by x text false parts.0 parts.1

quoted_is : (x : Name) (text : List ℕ) → name_kind x ≡ k.Quoted text → x ≡ record { text = text; quoted = true }
quoted_is x text e = let parts = written_quoted x.quoted x.text text e in name_by x text true parts.0 parts.1

no_terminal : (quoted : Bool) (text : List ℕ) (y : Terminal) → written quoted text ≡ k.Terminal y → ⊥
no_terminal true text y e = cc
no_terminal false text y e = cc

no_literal : (quoted : Bool) (text y : List ℕ) → written quoted text ≡ k.Literal y → ⊥
no_literal true text y e = cc
no_literal false text y e = cc

no_number : (quoted : Bool) (text : List ℕ) (y : ℕ) → written quoted text ≡ k.Number y → ⊥
no_number true text y e = cc
no_number false text y e = cc

pub name_exact : (kinds : List TokenKind) → Exact spell_name Any Ever kinds (name_at kinds)
unfolding name_at eat_name
name_exact [] = record { within = omega arith; none = λ x after w may agree. agree; near = (no_name, tt, λ after. tt) }
name_exact (k.Word text ∷ kinds) = record {
  spelled = refl;
  whole = tt;
  shorter = omega arith;
  same = λ left x after w may lt agree. (name_is x text agree.0, agree.1 lt);
  carries = λ left after before. λ le. (refl, before);
}
name_exact (k.Quoted text ∷ kinds) = record {
  spelled = refl;
  whole = tt;
  shorter = omega arith;
  same = λ left x after w may lt agree. (quoted_is x text agree.0, agree.1 lt);
  carries = λ left after before. λ le. (refl, before);
}
name_exact (k.Terminal y ∷ kinds) = record { within = omega arith; none = λ x after w may agree. no_terminal x.quoted x.text y agree.0; near = (no_name, tt, λ after. before_first (spell_name no_name after) (k.Terminal y ∷ kinds)) }
name_exact (k.Literal y ∷ kinds) = record { within = omega arith; none = λ x after w may agree. no_literal x.quoted x.text y agree.0; near = (no_name, tt, λ after. before_first (spell_name no_name after) (k.Literal y ∷ kinds)) }
name_exact (k.Number y ∷ kinds) = record { within = omega arith; none = λ x after w may agree. no_number x.quoted x.text y agree.0; near = (no_name, tt, λ after. before_first (spell_name no_name after) (k.Number y ∷ kinds)) }

-- ---- NULLS [NOT] DISTINCT

abbrev nulls_token : TokenKind
nulls_token = k.Word (letters w.Nulls)

abbrev IsSaid : Nulls → Type 0
IsSaid Unsaid = ⊥
IsSaid Distinct = ⊤
IsSaid NotDistinct = ⊤

said_or_not : (y : Nulls) → IsSaid y ⊎ (y ≡ Unsaid)
said_or_not Unsaid = inr refl
said_or_not Distinct = inl tt
said_or_not NotDistinct = inl tt

-- what follows the word NULLS
abbrev after_nulls : Nulls → List TokenKind → List TokenKind
after_nulls Unsaid after = after
after_nulls Distinct after = k.Terminal m.Distinct ∷ after
after_nulls NotDistinct after = k.Terminal m.Not ∷ k.Terminal m.Distinct ∷ after

after_nulls_is : (y : Nulls) (after : List TokenKind) → IsSaid y → spell_nulls y after ≡ nulls_token ∷ after_nulls y after
after_nulls_is Unsaid after said = absurd said
after_nulls_is Distinct after said = refl
after_nulls_is NotDistinct after said = refl

distinct_or_not : (y : Nulls) → IsSaid y → (y ≡ NotDistinct) ⊎ (y ≡ Distinct)
distinct_or_not Unsaid said = absurd said
distinct_or_not Distinct said = inr refl
distinct_or_not NotDistinct said = inl refl

distinct_not : (rest after : List TokenKind) → k.Terminal m.Distinct ∷ after ≡ k.Terminal m.Not ∷ rest → ⊥
distinct_not rest after e = cc

abbrev MayNulls : {A : Type 0} → A → List TokenKind → Type 0
MayNulls y after = Without nulls_token after

pub nulls_exact : (kinds : List TokenKind) → Exact spell_nulls Any MayNulls kinds (nulls_at kinds)
unfolding nulls_at expect
nulls_exact kinds =
    choose_exact nulls_token (eat_word w.Nulls) (eats_word w.Nulls) spell_nulls Any MayNulls after_nulls IsSaid (λ y. y ≡ Unsaid)
    (λ y w. said_or_not y) (λ y after w said. after_nulls_is y after said)
    (λ y after w is may. λ rest e. may rest (sym (ap (λ z. spell_nulls z after) is) ∙ e))
    kinds _ _
    (λ nulls at.
    choose_exact (k.Terminal m.Not) (eat m.Not) (eats_terminal m.Not) after_nulls (λ y. Any y × IsSaid y) MayNulls (λ y after. k.Terminal m.Distinct ∷ after) (λ y. y ≡ NotDistinct) (λ y. y ≡ Distinct)
    (λ y w. distinct_or_not y w.1) (λ y after w is. ap (λ z. after_nulls z after) is)
    (λ y after w is may. λ rest e. distinct_not rest after (sym (ap (λ z. after_nulls z after) is) ∙ e))
    nulls _ _
    (λ not at'. expect_exact (k.Terminal m.Distinct) (eat m.Distinct) (eats_terminal m.Distinct) (λ y after. k.Terminal m.Distinct ∷ after) (λ y. (Any y × IsSaid y) × (y ≡ NotDistinct)) MayNulls (λ y after. after)
    (λ y after w. refl) (NotDistinct, ((tt, tt), refl)) not _ (λ rest. done_exact (λ y. (Any y × IsSaid y) × (y ≡ NotDistinct)) MayNulls NotDistinct rest ((tt, tt), refl) (λ y w. w.1)))
    (expect_exact (k.Terminal m.Distinct) (eat m.Distinct) (eats_terminal m.Distinct) after_nulls (λ y. (Any y × IsSaid y) × (y ≡ Distinct)) MayNulls (λ y after. after)
    (λ y after w. ap (λ z. after_nulls z after) w.1) (Distinct, ((tt, tt), refl)) nulls _ (λ rest. done_exact (λ y. (Any y × IsSaid y) × (y ≡ Distinct)) MayNulls Distinct rest ((tt, tt), refl) (λ y w. w.1))))
    (empty_exact spell_nulls (λ y. Any y × (y ≡ Unsaid)) MayNulls Unsaid kinds (λ after. refl) (tt, refl) (λ y w. w.1))

-- ---- the words of a key

abbrev IsUnique : KeyWords → Type 0
IsUnique Primary = ⊥
IsUnique (Unique nulls) = ⊤

primary_or_unique : (y : KeyWords) → (y ≡ Primary) ⊎ IsUnique y
primary_or_unique Primary = inl refl
primary_or_unique (Unique nulls) = inr tt

-- what UNIQUE says of NULLs
abbrev nulls_in : KeyWords → Nulls
nulls_in Primary = Unsaid
nulls_in (Unique nulls) = nulls

unique_is : (y : KeyWords) (after : List TokenKind) → IsUnique y → spell_words y after ≡ k.Terminal m.Unique ∷ spell_nulls (nulls_in y) after
unique_is Primary after w = absurd w
unique_is (Unique nulls) after w = refl

unique_of : (y : KeyWords) (nulls : Nulls) → IsUnique y → nulls_in y ≡ nulls → y ≡ Unique nulls
unique_of Primary nulls w e = absurd w
unique_of (Unique x) nulls w e = ap Unique e

unique_not_primary : (x rest : List TokenKind) → k.Terminal m.Unique ∷ x ≡ k.Terminal m.Primary ∷ rest → ⊥
unique_not_primary x rest e = cc

pub words_exact : (kinds : List TokenKind) → Exact spell_words Any MayNulls kinds (words_at kinds)
unfolding words_at expect expect_word
words_exact kinds =
    choose_exact (k.Terminal m.Primary) (eat m.Primary) (eats_terminal m.Primary) spell_words Any MayNulls (λ y after. k.Word (letters w.Key) ∷ after) (λ y. y ≡ Primary) IsUnique
    (λ y w. primary_or_unique y) (λ y after w is. ap (λ z. spell_words z after) is)
    (λ y after w is may. λ rest e. unique_not_primary (spell_nulls (nulls_in y) after) rest (sym (unique_is y after is) ∙ e))
    kinds _ _
    (λ primary at. expect_exact (k.Word (letters w.Key)) (eat_word w.Key) (eats_word w.Key) (λ y after. k.Word (letters w.Key) ∷ after) (λ y. Any y × (y ≡ Primary)) MayNulls (λ y after. after)
    (λ y after w. refl) (Primary, (tt, refl)) primary _ (λ rest. done_exact (λ y. Any y × (y ≡ Primary)) MayNulls Primary rest (tt, refl) (λ y w. w.1)))
    (expect_exact (k.Terminal m.Unique) (eat m.Unique) (eats_terminal m.Unique) spell_words (λ y. Any y × IsUnique y) MayNulls (λ y after. spell_nulls (nulls_in y) after)
    (λ y after w. unique_is y after w.1) (Unique Unsaid, (tt, tt)) kinds _
    (λ unique. then_exact spell_nulls Any MayNulls (λ y after. spell_nulls (nulls_in y) after) (λ y. Any y × IsUnique y) MayNulls nulls_in (λ y after. after)
    (λ y after w. refl) (λ y w. tt) (λ y after w may. may) (λ nulls w. (Unique nulls, (tt, tt), refl)) unique _ _ (nulls_exact unique)
    (λ nulls rest w e le. done_exact (λ y. (Any y × IsUnique y) × (nulls_in y ≡ nulls)) MayNulls (Unique nulls) rest ((tt, tt), refl) (λ y h. unique_of y nulls h.0.1 h.1))))

-- ---- a rule for a column

abbrev IsOther : Rule → Type 0
IsOther rule.NotNull = ⊥
IsOther rule.Null = ⊤
IsOther (rule.Key words) = ⊤

abbrev IsKeyRule : Rule → Type 0
IsKeyRule rule.NotNull = ⊥
IsKeyRule rule.Null = ⊥
IsKeyRule (rule.Key words) = ⊤

not_null_or_other : (y : Rule) → (y ≡ rule.NotNull) ⊎ IsOther y
not_null_or_other rule.NotNull = inl refl
not_null_or_other rule.Null = inr tt
not_null_or_other (rule.Key words) = inr tt

null_or_key : (y : Rule) → IsOther y → (y ≡ rule.Null) ⊎ IsKeyRule y
null_or_key rule.NotNull w = absurd w
null_or_key rule.Null w = inl refl
null_or_key (rule.Key words) w = inr tt

abbrev words_in : Rule → KeyWords
words_in rule.NotNull = Primary
words_in rule.Null = Primary
words_in (rule.Key words) = words

key_rule_is : (y : Rule) (after : List TokenKind) → IsKeyRule y → spell_rule y after ≡ spell_words (words_in y) after
key_rule_is rule.NotNull after w = absurd w
key_rule_is rule.Null after w = absurd w
key_rule_is (rule.Key words) after w = refl

key_rule_of : (y : Rule) (words : KeyWords) → IsKeyRule y → words_in y ≡ words → y ≡ rule.Key words
key_rule_of rule.NotNull words w e = absurd w
key_rule_of rule.Null words w e = absurd w
key_rule_of (rule.Key x) words w e = ap rule.Key e

words_not : (y : KeyWords) (after : List TokenKind) → Without (k.Terminal m.Not) (spell_words y after) × Without (k.Terminal m.Null) (spell_words y after) × Without (k.Terminal m.Constraint) (spell_words y after)
words_not Primary after = (λ rest e. cc, λ rest e. cc, λ rest e. cc)
words_not (Unique nulls) after = (λ rest e. cc, λ rest e. cc, λ rest e. cc)

other_not : (y : Rule) (after : List TokenKind) → IsOther y → Without (k.Terminal m.Not) (spell_rule y after)
other_not rule.NotNull after w = absurd w
other_not rule.Null after w = λ rest e. cc
other_not (rule.Key words) after w = (words_not words after).0

pub rule_exact : (kinds : List TokenKind) → Exact spell_rule Any MayNulls kinds (rule_at kinds)
unfolding rule_at expect
rule_exact kinds =
    choose_exact (k.Terminal m.Not) (eat m.Not) (eats_terminal m.Not) spell_rule Any MayNulls (λ y after. k.Terminal m.Null ∷ after) (λ y. y ≡ rule.NotNull) IsOther
    (λ y w. not_null_or_other y) (λ y after w is. ap (λ z. spell_rule z after) is) (λ y after w is may. other_not y after is)
    kinds _ _
    (λ not at. expect_exact (k.Terminal m.Null) (eat m.Null) (eats_terminal m.Null) (λ y after. k.Terminal m.Null ∷ after) (λ y. Any y × (y ≡ rule.NotNull)) MayNulls (λ y after. after)
    (λ y after w. refl) (rule.NotNull, (tt, refl)) not _ (λ rest. done_exact (λ y. Any y × (y ≡ rule.NotNull)) MayNulls rule.NotNull rest (tt, refl) (λ y w. w.1)))
    (choose_exact (k.Terminal m.Null) (eat m.Null) (eats_terminal m.Null) spell_rule (λ y. Any y × IsOther y) MayNulls (λ y after. after) (λ y. y ≡ rule.Null) IsKeyRule
    (λ y w. null_or_key y w.1) (λ y after w is. ap (λ z. spell_rule z after) is)
    (λ y after w is may. λ rest e. (words_not (words_in y) after).1 rest (sym (key_rule_is y after is) ∙ e))
    kinds _ _
    (λ rest at. done_exact (λ y. (Any y × IsOther y) × (y ≡ rule.Null)) MayNulls rule.Null rest ((tt, tt), refl) (λ y w. w.1))
    (then_exact spell_words Any MayNulls spell_rule (λ y. (Any y × IsOther y) × IsKeyRule y) MayNulls words_in (λ y after. after)
    (λ y after w. key_rule_is y after w.1) (λ y w. tt) (λ y after w may. may) (λ words w. (rule.Key words, ((tt, tt), tt), refl)) kinds _ _ (words_exact kinds)
    (λ words rest w e le. done_exact (λ y. ((Any y × IsOther y) × IsKeyRule y) × (words_in y ≡ words)) MayNulls (rule.Key words) rest (((tt, tt), tt), refl) (λ y h. key_rule_of y words h.0.1 h.1))))

-- ---- [CONSTRAINT name]

abbrev HasName : Option Name → Type 0
HasName None = ⊥
HasName (Some name) = ⊤

has_name_or_not : (y : Option Name) → HasName y ⊎ (y ≡ None)
has_name_or_not None = inr refl
has_name_or_not (Some name) = inl tt

abbrev name_in : Option Name → Name
name_in None = no_name
name_in (Some name) = name

constraint_is : (y : Option Name) (after : List TokenKind) → HasName y → spell_constraint y after ≡ k.Terminal m.Constraint ∷ spell_name (name_in y) after
constraint_is None after w = absurd w
constraint_is (Some name) after w = refl

constraint_of : (y : Option Name) (name : Name) → HasName y → name_in y ≡ name → y ≡ Some name
constraint_of None name w e = absurd w
constraint_of (Some x) name w e = ap (λ n. let some : Option Name = Some n in some) e

abbrev MayConstraint : Option Name → List TokenKind → Type 0
MayConstraint y after = Without (k.Terminal m.Constraint) after

pub constraint_exact : (kinds : List TokenKind) → Exact spell_constraint Any MayConstraint kinds (constraint_at kinds)
unfolding constraint_at
constraint_exact kinds =
    choose_exact (k.Terminal m.Constraint) (eat m.Constraint) (eats_terminal m.Constraint) spell_constraint Any MayConstraint (λ y after. spell_name (name_in y) after) HasName (λ y. y ≡ None)
    (λ y w. has_name_or_not y) (λ y after w is. constraint_is y after is) (λ y after w is may. λ rest e. may rest (sym (ap (λ z. spell_constraint z after) is) ∙ e))
    kinds _ _
    (λ named at. then_exact spell_name Any Ever (λ y after. spell_name (name_in y) after) (λ y. Any y × HasName y) MayConstraint name_in (λ y after. after)
    (λ y after w. refl) (λ y w. tt) (λ y after w may. tt) (λ name w. (Some name, (tt, tt), refl)) named _ _ (name_exact named)
    (λ name rest w e le. done_exact (λ y. (Any y × HasName y) × (name_in y ≡ name)) MayConstraint (Some name) rest ((tt, tt), refl) (λ y h. constraint_of y name h.0.1 h.1)))
    (empty_exact spell_constraint (λ y. Any y × (y ≡ None)) MayConstraint None kinds (λ after. refl) (tt, refl) (λ y w. w.1))

-- ---- a rule and its constraint's name

rule_not_constraint : (y : Rule) (after : List TokenKind) → Without (k.Terminal m.Constraint) (spell_rule y after)
rule_not_constraint rule.NotNull after = λ rest e. cc
rule_not_constraint rule.Null after = λ rest e. cc
rule_not_constraint (rule.Key words) after = (words_not words after).2

column_rule_of : (y : ColumnRule) (name : Option Name) (r : Rule) → y.constraint ≡ name → y.rule ≡ r → y ≡ record { constraint = name; rule = r }
column_rule_of y name r e f = ap (λ n. let z : ColumnRule = record { constraint = n; rule = y.rule } in z) e ∙ ap (λ x. let z : ColumnRule = record { constraint = name; rule = x } in z) f

abbrev spell_column_rule : ColumnRule → List TokenKind → List TokenKind
spell_column_rule y after = spell_constraint y.constraint (spell_rule y.rule after)

pub column_rule_exact : (kinds : List TokenKind) → Exact spell_column_rule Any MayNulls kinds (column_rule_at kinds)
unfolding column_rule_at
column_rule_exact kinds =
    then_exact spell_constraint Any MayConstraint spell_column_rule Any MayNulls (λ y. y.constraint) (λ y after. spell_rule y.rule after)
    (λ y after w. refl) (λ y w. tt) (λ y after w may. rule_not_constraint y.rule after) (λ name w. (record { constraint = name; rule = rule.Null }, tt, refl)) kinds _ _ (constraint_exact kinds)
    (λ name others w e le. then_exact spell_rule Any MayNulls (λ y after. spell_rule y.rule after) (λ y. Any y × (y.constraint ≡ name)) MayNulls (λ y. y.rule) (λ y after. after)
    (λ y after w. refl) (λ y w. tt) (λ y after w may. may) (λ r w. (record { constraint = name; rule = r }, (tt, refl), refl)) others _ _ (rule_exact others)
    (λ r rest w e le. done_exact (λ y. (Any y × (y.constraint ≡ name)) × (y.rule ≡ r)) MayNulls (record { constraint = name; rule = r }) rest ((tt, refl), refl) (λ y h. column_rule_of y name r h.0.1 h.1)))

-- ---- lists with a first item

abbrev IsCons : {A : Type 0} → List A → Type 0
IsCons [] = ⊥
IsCons (x ∷ xs) = ⊤

abbrev head_or : {A : Type 0} → A → List A → A
head_or d [] = d
head_or d (x ∷ xs) = x

abbrev tail_of : {A : Type 0} → List A → List A
tail_of [] = []
tail_of (x ∷ xs) = xs

cons_of : {A : Type 0} (d : A) (ys : List A) (x : A) (xs : List A) → IsCons ys → head_or d ys ≡ x → tail_of ys ≡ xs → ys ≡ x ∷ xs
cons_of d [] x xs w e f = absurd w
cons_of d (y ∷ ys) x xs w e f = ap (λ z. z ∷ ys) e ∙ ap (λ zs. x ∷ zs) f

cons_or_not : {A : Type 0} (ys : List A) → IsCons ys ⊎ (ys ≡ [])
cons_or_not [] = inr refl
cons_or_not (y ∷ ys) = inl tt

cons_from : {A : Type 0} (ys : List A) → ys ≢ [] → IsCons ys
cons_from [] ne = absurd (ne refl)
cons_from (y ∷ ys) ne = tt

some_from : {A : Type 0} (ys : List A) → IsCons ys → ys ≢ []
some_from [] w = absurd w
some_from (y ∷ ys) w = λ e. cc

-- ---- the rules of a column

is_some_if : (b : Bool) (kinds : List TokenKind) → is_some (cond b (Some kinds) None) ≡ b
is_some_if true kinds = refl
is_some_if false kinds = refl

ends_is : (x : TokenKind) (kinds : List TokenKind) → ends_column (x ∷ kinds) ≡ (is_terminal m.Comma x || is_terminal m.RightBracket x)
unfolding ends_column eat
ends_is x kinds = rw (is_some_if (is_terminal m.Comma x) kinds, is_some_if (is_terminal m.RightBracket x) kinds) refl

ends_agree : (left : ℕ) (xs ys : List TokenKind) → Agree left xs ys → ends_column xs ≡ ends_column ys
ends_agree left [] [] agree = refl
ends_agree left (x ∷ xs) [] agree = absurd agree
ends_agree left [] (y ∷ ys) agree = absurd agree
ends_agree left (x ∷ xs) (y ∷ ys) agree = ends_is x xs ∙ ap (λ z. is_terminal m.Comma z || is_terminal m.RightBracket z) agree.0 ∙ sym (ends_is y ys)

rule_goes_on : (y : Rule) (after : List TokenKind) → ends_column (spell_rule y after) ≡ false
unfolding ends_column eat
rule_goes_on rule.NotNull after = refl
rule_goes_on rule.Null after = refl
rule_goes_on (rule.Key Primary) after = refl
rule_goes_on (rule.Key (Unique nulls)) after = refl

goes_on_by : (name : Option Name) (y : Rule) (after : List TokenKind) → ends_column (spell_constraint name (spell_rule y after)) ≡ false
unfolding ends_column eat
goes_on_by None y after = rule_goes_on y after
goes_on_by (Some name) y after = refl

goes_on : (y : ColumnRule) (after : List TokenKind) → ends_column (spell_column_rule y after) ≡ false
goes_on y after = goes_on_by y.constraint y.rule after

word_goes_on : (rest : List TokenKind) → ends_column (nulls_token ∷ rest) ≡ false
unfolding ends_column eat
word_goes_on rest = refl

pub ends_not_nulls : (after : List TokenKind) → ends_column after ≡ true → Without nulls_token after
ends_not_nulls after ends = λ rest e. true≢false (sym ends ∙ ap ends_column e ∙ word_goes_on rest)

rule_not_nulls : (name : Option Name) (y : Rule) (after : List TokenKind) → Without nulls_token (spell_constraint name (spell_rule y after))
rule_not_nulls (Some name) y after = λ rest e. cc
rule_not_nulls None rule.NotNull after = λ rest e. cc
rule_not_nulls None rule.Null after = λ rest e. cc
rule_not_nulls None (rule.Key Primary) after = λ rest e. cc
rule_not_nulls None (rule.Key (Unique nulls)) after = λ rest e. cc

rules_not_nulls : (ys : List ColumnRule) (after : List TokenKind) → ends_column after ≡ true → Without nulls_token (spell_rules ys after)
rules_not_nulls [] after ends = ends_not_nulls after ends
rules_not_nulls (y ∷ ys) after ends = rule_not_nulls y.constraint y.rule (spell_rules ys after)

rule_longer : (y : Rule) (after : List TokenKind) → length after < length (spell_rule y after)
rule_longer rule.NotNull after = omega arith
rule_longer rule.Null after = omega arith
rule_longer (rule.Key Primary) after = omega arith
rule_longer (rule.Key (Unique Unsaid)) after = omega arith
rule_longer (rule.Key (Unique Distinct)) after = omega arith
rule_longer (rule.Key (Unique NotDistinct)) after = omega arith

pub longer_by : (name : Option Name) (y : Rule) (after : List TokenKind) → length after < length (spell_constraint name (spell_rule y after))
longer_by None y after = rule_longer y after
longer_by (Some name) y after = let lt : length after < length (spell_rule y after) = rule_longer y after in omega arith

not_empty : (y : ColumnRule) (after : List TokenKind) → spell_column_rule y after ≢ []
not_empty y after = λ e. let n : length (spell_column_rule y after) ≡ 0 = ap length e in let lt : length after < length (spell_column_rule y after) = longer_by y.constraint y.rule after in absurd (omega arith)

agree_nil : (left : ℕ) (xs : List TokenKind) → Agree left xs [] → xs ≡ []
agree_nil left [] agree = refl
agree_nil left (x ∷ xs) agree = absurd agree

abbrev MayEnd : {A : Type 0} → A → List TokenKind → Type 0
MayEnd y after = ends_column after ≡ true

rules_stop : (kinds : List TokenKind) → ((left : ℕ) (y : List ColumnRule) (after : List TokenKind) → ends_column after ≡ true → Agree left (spell_rules y after) kinds → y ≡ []) → Exact spell_rules Any MayEnd kinds (Ok ([], kinds))
rules_stop kinds one =
    narrow_exact spell_rules Any (λ y. y ≡ []) MayEnd kinds (Ok ([], kinds)) (λ left y after w may agree. one left y after may agree) (λ y e. tt)
    (empty_exact spell_rules (λ y. y ≡ []) MayEnd [] kinds (λ after. refl) refl (λ y e. e))

no_rule : ColumnRule
no_rule = record { constraint = None; rule = rule.Null }

none_at_end : (left : ℕ) (y : List ColumnRule) (after : List TokenKind) → Agree left (spell_rules y after) [] → y ≡ []
none_at_end left [] after agree = refl
none_at_end left (y ∷ ys) after agree = absurd (not_empty y (spell_rules ys after) (agree_nil left (spell_rules (y ∷ ys) after) agree))

none_where_ends : (kinds : List TokenKind) → ends_column kinds ≡ true → (left : ℕ) (y : List ColumnRule) (after : List TokenKind) → Agree left (spell_rules y after) kinds → y ≡ []
none_where_ends kinds ends left [] after agree = refl
none_where_ends kinds ends left (y ∷ ys) after agree = absurd (true≢false (sym ends ∙ sym (ends_agree left (spell_rules (y ∷ ys) after) kinds agree) ∙ goes_on y (spell_rules ys after)))

some_where_goes : (kinds : List TokenKind) → ends_column kinds ≡ false → (left : ℕ) (y : List ColumnRule) (after : List TokenKind) → ends_column after ≡ true → Agree left (spell_rules y after) kinds → IsCons y
some_where_goes kinds goes left [] after ends agree = absurd (true≢false (sym ends ∙ ends_agree left after kinds agree ∙ goes))
some_where_goes kinds goes left (y ∷ ys) after ends agree = tt

rules_is : (y : List ColumnRule) (after : List TokenKind) → IsCons y → spell_rules y after ≡ spell_column_rule (head_or no_rule y) (spell_rules (tail_of y) after)
rules_is [] after w = absurd w
rules_is (y ∷ ys) after w = refl

many_rules_exact : (n : ℕ) (kinds : List TokenKind) → length kinds ≤ n → Exact spell_rules Any MayEnd kinds (many rule_if n kinds)
unfolding many rule_if
many_rules_exact zero [] le = rules_stop [] (λ left y after may agree. none_at_end left y after agree)
many_rules_exact zero (x ∷ kinds) le = absurd (omega arith)
many_rules_exact (suc n) kinds le = by (ends_column kinds) refl (many_rules_exact n)
  where
    by : (b : Bool) → ends_column kinds ≡ b → ((rest : List TokenKind) → length rest ≤ n → Exact spell_rules Any MayEnd rest (many rule_if n rest)) → Exact spell_rules Any MayEnd kinds (if_begun (cond b None (Some (column_rule_at kinds))) kinds (λ r. many rule_if n r.1 >>= λ rs. Ok (r.0 ∷ rs.0, rs.1)))
    by true e others = rules_stop kinds (λ left y after may agree. none_where_ends kinds e left y after agree)
    by false e others =
        narrow_exact spell_rules Any IsCons MayEnd kinds (column_rule_at kinds >>= λ r. many rule_if n r.1 >>= λ rs. Ok (r.0 ∷ rs.0, rs.1)) (λ left y after w may agree. some_where_goes kinds e left y after may agree) (λ y w. tt)
        (then_exact spell_column_rule Any MayNulls spell_rules IsCons MayEnd (head_or no_rule) (λ y after. spell_rules (tail_of y) after)
        (λ y after w. rules_is y after w) (λ y w. tt) (λ y after w may. rules_not_nulls (tail_of y) after may) (λ r w. (r ∷ [], tt, refl)) kinds _ _ (column_rule_exact kinds)
        (λ r rest w at le'. then_exact spell_rules Any MayEnd (λ y after. spell_rules (tail_of y) after) (λ y. IsCons y × (head_or no_rule y ≡ r)) MayEnd tail_of (λ y after. after)
        (λ y after w. refl) (λ y w. tt) (λ y after w may. may) (λ rs w. (r ∷ rs, (tt, refl), refl)) rest _ _
        (others rest (let n : length kinds ≡ length (spell_column_rule r rest) = ap length at in let lt : length rest < length (spell_column_rule r rest) = longer_by r.constraint r.rule rest in omega arith))
        (λ rs last w at le'. done_exact (λ y. (IsCons y × (head_or no_rule y ≡ r)) × (tail_of y ≡ rs)) MayEnd (r ∷ rs) last ((tt, refl), refl) (λ y h. cons_of no_rule y r rs h.0.0 h.0.1 h.1))))

pub rules_exact : (kinds : List TokenKind) → Exact spell_rules Any MayEnd kinds (rules_at kinds)
unfolding rules_at
rules_exact kinds = many_rules_exact (length kinds) kinds (omega arith)

-- ---- items with commas between them

abbrev EachIs : {A : Type 0} → (A → Type 0) → List A → Type 0
EachIs Whole [] = ⊤
EachIs Whole (x ∷ xs) = Whole x × EachIs Whole xs

-- further items, each after a comma
abbrev spell_more : {A : Type 0} → (A → List TokenKind → List TokenKind) → List A → List TokenKind → List TokenKind
spell_more spell [] after = after
spell_more spell (x ∷ xs) after = k.Terminal m.Comma ∷ spell x (spell_more spell xs after)

listed_is_by : {A : Type 0} (spell : A → List TokenKind → List TokenKind) (x : A) (xs : List A) (after : List TokenKind) → listed m.Comma spell (x ∷ xs) after ≡ spell x (spell_more spell xs after)
listed_is_by spell x [] after = refl
listed_is_by spell x (y ∷ ys) after = ap (λ r. spell x (k.Terminal m.Comma ∷ r)) (listed_is_by spell y ys after)

module _ {A : Type 0} (d : A) (item : Parser A) (spell : A → List TokenKind → List TokenKind) (Whole : A → Type 0) (May : A → List TokenKind → Type 0)
    (exact : (kinds : List TokenKind) → Exact spell Whole May kinds (item kinds)) (may_comma : (y : A) (after : List TokenKind) → May y (k.Terminal m.Comma ∷ after)) where
  -- no comma follows the last item
  abbrev MayMore : List A → List TokenKind → Type 0
  MayMore ys after = Without (k.Terminal m.Comma) after × ((y : A) → May y after)

  may_item : (y : A) (ys : List A) (after : List TokenKind) → MayMore ys after → May y (spell_more spell ys after)
  may_item y [] after may = may.1 y
  may_item y (x ∷ xs) after may = may_comma y (spell x (spell_more spell xs after))

  listed_is : (ys : List A) (after : List TokenKind) → IsCons ys → listed m.Comma spell ys after ≡ spell (head_or d ys) (spell_more spell (tail_of ys) after)
  listed_is [] after w = absurd w
  listed_is (y ∷ ys) after w = listed_is_by spell y ys after

  more_is : (ys : List A) (after : List TokenKind) → IsCons ys → spell_more spell ys after ≡ k.Terminal m.Comma ∷ spell (head_or d ys) (spell_more spell (tail_of ys) after)
  more_is [] after w = absurd w
  more_is (y ∷ ys) after w = refl

  head_whole : (ys : List A) → EachIs Whole ys → IsCons ys → Whole (head_or d ys)
  head_whole [] each w = absurd w
  head_whole (y ∷ ys) each w = each.0

  tail_whole : (ys : List A) → EachIs Whole ys → EachIs Whole (tail_of ys)
  tail_whole [] each = tt
  tail_whole (y ∷ ys) each = each.1

  none_left : (left : ℕ) (ys : List A) (after : List TokenKind) → Agree left (spell_more spell ys after) [] → ys ≡ []
  none_left left [] after agree = refl
  none_left left (y ∷ ys) after agree = absurd agree

  -- what is read after a comma, or nothing
  chosen : (o : Option (List TokenKind)) (kinds : List TokenKind) (next : A × List TokenKind → Reads (List A)) → choose o (λ rest. item rest >>= next) (Ok ([], kinds)) ≡ if_begun (choose o (λ rest. Some (item rest)) None) kinds next
  chosen (Some rest) kinds next = refl
  chosen None kinds next = refl

  pub more_exact : (n : ℕ) (kinds : List TokenKind) → length kinds ≤ n → Exact (spell_more spell) (EachIs Whole) MayMore kinds (many (after m.Comma item) n kinds)
  unfolding many after
  more_exact zero [] le =
      narrow_exact (spell_more spell) (EachIs Whole) (λ y. y ≡ []) MayMore [] (Ok ([], [])) (λ left y after w may agree. none_left left y after agree) (λ y e. subst (EachIs Whole) (sym e) tt)
      (empty_exact (spell_more spell) (λ y. y ≡ []) MayMore [] [] (λ after. refl) refl (λ y e. e))
  more_exact zero (x ∷ kinds) le = absurd (omega arith)
  more_exact (suc n) kinds le =
      subst (Exact (spell_more spell) (EachIs Whole) MayMore kinds) (chosen (eat m.Comma kinds) kinds (λ a. many (after m.Comma item) n a.1 >>= λ xs. Ok (a.0 ∷ xs.0, xs.1)))
      (choose_exact (k.Terminal m.Comma) (eat m.Comma) (eats_terminal m.Comma) (spell_more spell) (EachIs Whole) MayMore (λ y after. spell (head_or d y) (spell_more spell (tail_of y) after)) IsCons (λ y. y ≡ [])
      (λ y w. cons_or_not y) (λ y after w is. more_is y after is) (λ y after w is may. λ rest e. may.0 rest (sym (ap (λ z. spell_more spell z after) is) ∙ e))
      kinds _ _
      (λ rest at. then_exact spell Whole May (λ y after. spell (head_or d y) (spell_more spell (tail_of y) after)) (λ y. EachIs Whole y × IsCons y) MayMore (head_or d) (λ y after. spell_more spell (tail_of y) after)
      (λ y after w. refl) (λ y w. head_whole y w.0 w.1) (λ y after w may. may_item (head_or d y) (tail_of y) after may) (λ x w. (x ∷ [], ((w, tt), tt), refl)) rest _ _ (exact rest)
      (λ x last w e le'. then_exact (spell_more spell) (EachIs Whole) MayMore (λ y after. spell_more spell (tail_of y) after) (λ y. (EachIs Whole y × IsCons y) × (head_or d y ≡ x)) MayMore tail_of (λ y after. after)
      (λ y after w. refl) (λ y w. tail_whole y w.0.0) (λ y after w may. may) (λ xs ws. (x ∷ xs, (((w, ws), tt), refl), refl)) last _ _ (more_exact n last (let n : length kinds ≡ suc (length rest) = ap length at in omega arith))
      (λ xs end ws e le''. done_exact (λ y. ((EachIs Whole y × IsCons y) × (head_or d y ≡ x)) × (tail_of y ≡ xs)) MayMore (x ∷ xs) end ((((w, ws), tt), refl), refl) (λ y h. cons_of d y x xs h.0.0.1 h.0.1 h.1))))
      (empty_exact (spell_more spell) (λ y. EachIs Whole y × (y ≡ [])) MayMore [] kinds (λ after. refl) (tt, refl) (λ y w. w.1)))

  pub list_exact : (kinds : List TokenKind) → Exact (listed m.Comma spell) (λ y. EachIs Whole y × IsCons y) MayMore kinds (list_at m.Comma item kinds)
  unfolding list_at
  list_exact kinds =
      then_exact spell Whole May (listed m.Comma spell) (λ y. EachIs Whole y × IsCons y) MayMore (head_or d) (λ y after. spell_more spell (tail_of y) after)
      (λ y after w. listed_is y after w.1) (λ y w. head_whole y w.0 w.1) (λ y after w may. may_item (head_or d y) (tail_of y) after may) (λ x w. (x ∷ [], ((w, tt), tt), refl)) kinds _ _ (exact kinds)
      (λ x rest w e le. then_exact (spell_more spell) (EachIs Whole) MayMore (λ y after. spell_more spell (tail_of y) after) (λ y. (EachIs Whole y × IsCons y) × (head_or d y ≡ x)) MayMore tail_of (λ y after. after)
      (λ y after w. refl) (λ y w. tail_whole y w.0.0) (λ y after w may. may) (λ xs ws. (x ∷ xs, (((w, ws), tt), refl), refl)) rest _ _ (more_exact (length rest) rest (omega arith))
      (λ xs end ws e le''. done_exact (λ y. ((EachIs Whole y × IsCons y) × (head_or d y ≡ x)) × (tail_of y ≡ xs)) MayMore (x ∷ xs) end ((((w, ws), tt), refl), refl) (λ y h. cons_of d y x xs h.0.0.1 h.0.1 h.1)))

-- ---- a column

column_of : (y : ColumnTree) (name kind : Name) (rules : List ColumnRule) → y.name ≡ name → y.kind ≡ kind → y.rules ≡ rules → y ≡ record { name = name; kind = kind; rules = rules }
column_of y name kind rules e f g =
    ap (λ x. let z : ColumnTree = record { name = x; kind = y.kind; rules = y.rules } in z) e ∙ ap (λ x. let z : ColumnTree = record { name = name; kind = x; rules = y.rules } in z) f
    ∙ ap (λ x. let z : ColumnTree = record { name = name; kind = kind; rules = x } in z) g

pub column_exact : (kinds : List TokenKind) → Exact spell_column Any MayEnd kinds (column_at kinds)
unfolding column_at
column_exact kinds =
    then_exact spell_name Any Ever spell_column Any MayEnd (λ y. y.name) (λ y after. spell_name y.kind (spell_rules y.rules after))
    (λ y after w. refl) (λ y w. tt) (λ y after w may. tt) (λ name w. (record { name = name; kind = name; rules = [] }, tt, refl)) kinds _ _ (name_exact kinds)
    (λ name others w e le. then_exact spell_name Any Ever (λ y after. spell_name y.kind (spell_rules y.rules after)) (λ y. Any y × (y.name ≡ name)) MayEnd (λ y. y.kind) (λ y after. spell_rules y.rules after)
    (λ y after w. refl) (λ y w. tt) (λ y after w may. tt) (λ kind w. (record { name = name; kind = kind; rules = [] }, (tt, refl), refl)) others _ _ (name_exact others)
    (λ kind more w e le. then_exact spell_rules Any MayEnd (λ y after. spell_rules y.rules after) (λ y. (Any y × (y.name ≡ name)) × (y.kind ≡ kind)) MayEnd (λ y. y.rules) (λ y after. after)
    (λ y after w. refl) (λ y w. tt) (λ y after w may. may) (λ rules w. (record { name = name; kind = kind; rules = rules }, ((tt, refl), refl), refl)) more _ _ (rules_exact more)
    (λ rules rest w e le. done_exact (λ y. ((Any y × (y.name ≡ name)) × (y.kind ≡ kind)) × (y.rules ≡ rules)) MayEnd (record { name = name; kind = kind; rules = rules }) rest (((tt, refl), refl), refl)
    (λ y h. column_of y name kind rules h.0.0.1 h.0.1 h.1))))

-- ---- a key that stands by itself

abbrev HasNames : KeyTree → Type 0
HasNames key = key.columns ≢ []

abbrev MayNames : List Name → List TokenKind → Type 0
MayNames = MayMore no_name name_at spell_name Any Ever name_exact (λ y after. tt)

any_each : {A : Type 0} (ys : List A) → EachIs Any ys
any_each [] = tt
any_each (y ∷ ys) = (tt, any_each ys)

key_is : (y : KeyTree) (name : Option Name) (words : KeyWords) (columns : List Name) → y.constraint ≡ name → y.words ≡ words → y.columns ≡ columns → y ≡ record { constraint = name; words = words; columns = columns }
key_is y name words columns e f g =
    ap (λ x. let z : KeyTree = record { constraint = x; words = y.words; columns = y.columns } in z) e ∙ ap (λ x. let z : KeyTree = record { constraint = name; words = x; columns = y.columns } in z) f
    ∙ ap (λ x. let z : KeyTree = record { constraint = name; words = words; columns = x } in z) g

bracket_not_nulls : (after : List TokenKind) → Without nulls_token (k.Terminal m.LeftBracket ∷ after)
bracket_not_nulls after = λ rest e. cc

bracket_not_comma : (after : List TokenKind) → Without (k.Terminal m.Comma) (k.Terminal m.RightBracket ∷ after)
bracket_not_comma after = λ rest e. cc

-- what follows the name and the words of a key
abbrev spell_names : KeyTree → List TokenKind → List TokenKind
spell_names y after = listed m.Comma spell_name y.columns (k.Terminal m.RightBracket ∷ after)

a_name : List Name
a_name = no_name ∷ []

has_a_name : a_name ≢ []
unfolding a_name
has_a_name = λ e. cc

pub key_exact : (kinds : List TokenKind) → Exact spell_key HasNames Ever kinds (key_at kinds)
unfolding key_at expect
key_exact kinds =
    then_exact spell_constraint Any MayConstraint spell_key HasNames Ever (λ y. y.constraint) (λ y after. spell_words y.words (k.Terminal m.LeftBracket ∷ spell_names y after))
    (λ y after w. refl) (λ y w. tt) (λ y after w may. (words_not y.words (k.Terminal m.LeftBracket ∷ spell_names y after)).2) (λ name w. (record { constraint = name; words = Primary; columns = a_name }, has_a_name, refl)) kinds _ _ (constraint_exact kinds)
    (λ name others w e le. then_exact spell_words Any MayNulls (λ y after. spell_words y.words (k.Terminal m.LeftBracket ∷ spell_names y after)) (λ y. HasNames y × (y.constraint ≡ name)) Ever (λ y. y.words) (λ y after. k.Terminal m.LeftBracket ∷ spell_names y after)
    (λ y after w. refl) (λ y w. tt) (λ y after w may. bracket_not_nulls (spell_names y after)) (λ words w. (record { constraint = name; words = words; columns = a_name }, (has_a_name, refl), refl)) others _ _ (words_exact others)
    (λ words more w e le. expect_exact (k.Terminal m.LeftBracket) (eat m.LeftBracket) (eats_terminal m.LeftBracket) (λ y after. k.Terminal m.LeftBracket ∷ spell_names y after) (λ y. (HasNames y × (y.constraint ≡ name)) × (y.words ≡ words)) Ever spell_names
    (λ y after w. refl) (record { constraint = name; words = words; columns = a_name }, ((has_a_name, refl), refl)) more _
    (λ bracket. then_exact (listed m.Comma spell_name) (λ y. EachIs Any y × IsCons y) MayNames spell_names (λ y. (HasNames y × (y.constraint ≡ name)) × (y.words ≡ words)) Ever (λ y. y.columns) (λ y after. k.Terminal m.RightBracket ∷ after)
    (λ y after w. refl) (λ y w. (any_each y.columns, cons_from y.columns w.0.0)) (λ y after w may. (bracket_not_comma after, λ x. tt)) (λ columns w. (record { constraint = name; words = words; columns = columns }, ((some_from columns w.1, refl), refl), refl)) bracket _ _
    (list_exact no_name name_at spell_name Any Ever name_exact (λ y after. tt) bracket)
    (λ columns last some e le. expect_exact (k.Terminal m.RightBracket) (eat m.RightBracket) (eats_terminal m.RightBracket) (λ y after. k.Terminal m.RightBracket ∷ after) (λ y. ((HasNames y × (y.constraint ≡ name)) × (y.words ≡ words)) × (y.columns ≡ columns)) Ever (λ y after. after)
    (λ y after w. refl) (record { constraint = name; words = words; columns = columns }, (((some_from columns some.1, refl), refl), refl)) last _
    (λ rest. done_exact (λ y. ((HasNames y × (y.constraint ≡ name)) × (y.words ≡ words)) × (y.columns ≡ columns)) Ever (record { constraint = name; words = words; columns = columns }) rest
    (((some_from columns some.1, refl), refl), refl) (λ y h. key_is y name words columns h.0.0.1 h.0.1 h.1))))))

-- ---- an element

begins_is : (x : TokenKind) (kinds : List TokenKind) → begins_key (x ∷ kinds) ≡ (is_terminal m.Constraint x || is_terminal m.Primary x || is_terminal m.Unique x)
unfolding begins_key eat
begins_is x kinds = rw (is_some_if (is_terminal m.Constraint x) kinds, is_some_if (is_terminal m.Primary x) kinds, is_some_if (is_terminal m.Unique x) kinds) refl

begins_agree : (left : ℕ) (xs ys : List TokenKind) → Agree left xs ys → begins_key xs ≡ begins_key ys
begins_agree left [] [] agree = refl
begins_agree left (x ∷ xs) [] agree = absurd agree
begins_agree left [] (y ∷ ys) agree = absurd agree
begins_agree left (x ∷ xs) (y ∷ ys) agree = begins_is x xs ∙ ap (λ z. is_terminal m.Constraint z || is_terminal m.Primary z || is_terminal m.Unique z) agree.0 ∙ sym (begins_is y ys)

key_begins_by : (name : Option Name) (words : KeyWords) (after : List TokenKind) → begins_key (spell_constraint name (spell_words words after)) ≡ true
unfolding begins_key eat
key_begins_by (Some name) words after = refl
key_begins_by None Primary after = refl
key_begins_by None (Unique nulls) after = refl

column_begins_by : (name : Name) (after : List TokenKind) → begins_key (name_kind name ∷ after) ≡ false
unfolding begins_key eat
column_begins_by name after = by name.quoted
  where
    by : (quoted : Bool) → begins_key (written quoted name.text ∷ after) ≡ false
    by true = refl
    by false = refl

abbrev IsKey : ElementTree → Type 0
IsKey (Column column) = ⊥
IsKey (Key key) = ⊤

abbrev IsColumn : ElementTree → Type 0
IsColumn (Column column) = ⊤
IsColumn (Key key) = ⊥

no_column : ColumnTree
no_column = record { name = no_name; kind = no_name; rules = [] }

no_key : KeyTree
no_key = record { constraint = None; words = Primary; columns = [] }

abbrev key_in : ElementTree → KeyTree
key_in (Column column) = no_key
key_in (Key key) = key

abbrev column_in : ElementTree → ColumnTree
column_in (Column column) = column
column_in (Key key) = no_column

key_where_begins : (kinds : List TokenKind) → begins_key kinds ≡ true → (left : ℕ) (y : ElementTree) (after : List TokenKind) → Agree left (spell_element y after) kinds → IsKey y
key_where_begins kinds e left (Column column) after agree =
    absurd (true≢false (sym e ∙ sym (begins_agree left (spell_column column after) kinds agree) ∙ column_begins_by column.name (name_kind column.kind ∷ spell_rules column.rules after)))
key_where_begins kinds e left (Key key) after agree = tt

column_where_not : (kinds : List TokenKind) → begins_key kinds ≡ false → (left : ℕ) (y : ElementTree) (after : List TokenKind) → Agree left (spell_element y after) kinds → IsColumn y
column_where_not kinds e left (Column column) after agree = tt
column_where_not kinds e left (Key key) after agree =
    absurd (true≢false (sym (key_begins_by key.constraint key.words (k.Terminal m.LeftBracket ∷ spell_names key after)) ∙ begins_agree left (spell_key key after) kinds agree ∙ e))

key_element_is : (y : ElementTree) (after : List TokenKind) → IsKey y → spell_element y after ≡ spell_key (key_in y) after
key_element_is (Column column) after w = absurd w
key_element_is (Key key) after w = refl

column_element_is : (y : ElementTree) (after : List TokenKind) → IsColumn y → spell_element y after ≡ spell_column (column_in y) after
column_element_is (Column column) after w = refl
column_element_is (Key key) after w = absurd w

key_whole : (y : ElementTree) → HasColumns y → IsKey y → HasNames (key_in y)
key_whole (Column column) w is = absurd is
key_whole (Key key) w is = w

key_element_of : (y : ElementTree) (key : KeyTree) → IsKey y → key_in y ≡ key → y ≡ Key key
key_element_of (Column column) key w e = absurd w
key_element_of (Key x) key w e = ap Key e

column_element_of : (y : ElementTree) (column : ColumnTree) → IsColumn y → column_in y ≡ column → y ≡ Column column
column_element_of (Column x) column w e = ap Column e
column_element_of (Key key) column w e = absurd w

pub element_exact : (kinds : List TokenKind) → Exact spell_element HasColumns MayEnd kinds (element_at kinds)
unfolding element_at
element_exact kinds = by (begins_key kinds) refl
  where
    by : (b : Bool) → begins_key kinds ≡ b → Exact spell_element HasColumns MayEnd kinds (cond b (key_at kinds >>= λ key. Ok (Key key.0, key.1)) (column_at kinds >>= λ column. Ok (Column column.0, column.1)))
    by true e =
        narrow_exact spell_element HasColumns (λ y. HasColumns y × IsKey y) MayEnd kinds (key_at kinds >>= λ key. Ok (Key key.0, key.1)) (λ left y after w may agree. (w, key_where_begins kinds e left y after agree)) (λ y w. w.0)
        (then_exact spell_key HasNames Ever spell_element (λ y. HasColumns y × IsKey y) MayEnd key_in (λ y after. after)
        (λ y after w. key_element_is y after w.1) (λ y w. key_whole y w.0 w.1) (λ y after w may. tt) (λ key w. (Key key, (w, tt), refl)) kinds _ _ (key_exact kinds)
        (λ key rest some e le. done_exact (λ y. (HasColumns y × IsKey y) × (key_in y ≡ key)) MayEnd (Key key) rest ((some, tt), refl) (λ y h. key_element_of y key h.0.1 h.1)))
    by false e =
        narrow_exact spell_element HasColumns (λ y. HasColumns y × IsColumn y) MayEnd kinds (column_at kinds >>= λ column. Ok (Column column.0, column.1)) (λ left y after w may agree. (w, column_where_not kinds e left y after agree)) (λ y w. w.0)
        (then_exact spell_column Any MayEnd spell_element (λ y. HasColumns y × IsColumn y) MayEnd column_in (λ y after. after)
        (λ y after w. column_element_is y after w.1) (λ y w. tt) (λ y after w may. may) (λ column w. (Column column, (tt, tt), refl)) kinds _ _ (column_exact kinds)
        (λ column rest w e le. done_exact (λ y. (HasColumns y × IsColumn y) × (column_in y ≡ column)) MayEnd (Column column) rest ((tt, tt), refl) (λ y h. column_element_of y column h.0.1 h.1)))

-- ---- a table

comma_ends : (y : ElementTree) (after : List TokenKind) → ends_column (k.Terminal m.Comma ∷ after) ≡ true
unfolding ends_column eat
comma_ends y after = refl

bracket_ends : (after : List TokenKind) → ends_column (k.Terminal m.RightBracket ∷ after) ≡ true
unfolding ends_column eat
bracket_ends after = refl

each_from_all : (ys : List ElementTree) → All HasColumns ys → EachIs HasColumns ys
each_from_all [] all = tt
each_from_all (y ∷ ys) all = (All-head HasColumns y ys all, each_from_all ys (All-tail HasColumns y ys all))

all_from_each : (ys : List ElementTree) → EachIs HasColumns ys → All HasColumns ys
all_from_each [] each = All-nil HasColumns
all_from_each (y ∷ ys) each = All-cons HasColumns y ys each.0 (all_from_each ys each.1)

table_of : (y : TableTree) (name : Name) (elements : List ElementTree) → y.name ≡ name → y.elements ≡ elements → y ≡ record { name = name; elements = elements }
table_of y name elements e f = ap (λ x. let z : TableTree = record { name = x; elements = y.elements } in z) e ∙ ap (λ x. let z : TableTree = record { name = name; elements = x } in z) f

abbrev spell_elements : TableTree → List TokenKind → List TokenKind
spell_elements y after = listed m.Comma spell_element y.elements (k.Terminal m.RightBracket ∷ after)

some_elements : List ElementTree
some_elements = Column no_column ∷ []

a_table : (name : Name) → IsTable (record { name = name; elements = some_elements })
unfolding some_elements
a_table name = record { some = λ e. cc; each = all_from_each (Column no_column ∷ []) (tt, tt) }

pub table_exact : (kinds : List TokenKind) → Exact spell_table IsTable Ever kinds (table_at kinds)
unfolding table_at expect
table_exact kinds =
    expect_exact (k.Terminal m.Create) (eat m.Create) (eats_terminal m.Create) spell_table IsTable Ever (λ y after. k.Terminal m.Table ∷ name_kind y.name ∷ k.Terminal m.LeftBracket ∷ spell_elements y after) (λ y after w. refl) (record { name = no_name; elements = some_elements }, a_table no_name) kinds _
    (λ create. expect_exact (k.Terminal m.Table) (eat m.Table) (eats_terminal m.Table) (λ y after. k.Terminal m.Table ∷ name_kind y.name ∷ k.Terminal m.LeftBracket ∷ spell_elements y after) IsTable Ever (λ y after. spell_name y.name (k.Terminal m.LeftBracket ∷ spell_elements y after))
    (λ y after w. refl) (record { name = no_name; elements = some_elements }, a_table no_name) create _
    (λ word. then_exact spell_name Any Ever (λ y after. spell_name y.name (k.Terminal m.LeftBracket ∷ spell_elements y after)) IsTable Ever (λ y. y.name) (λ y after. k.Terminal m.LeftBracket ∷ spell_elements y after)
    (λ y after w. refl) (λ y w. tt) (λ y after w may. tt) (λ name w. (record { name = name; elements = some_elements }, a_table name, refl)) word _ _ (name_exact word)
    (λ name others w e le. expect_exact (k.Terminal m.LeftBracket) (eat m.LeftBracket) (eats_terminal m.LeftBracket) (λ y after. k.Terminal m.LeftBracket ∷ spell_elements y after) (λ y. IsTable y × (y.name ≡ name)) Ever spell_elements
    (λ y after w. refl) (record { name = name; elements = some_elements }, (a_table name, refl)) others _
    (λ bracket. then_exact (listed m.Comma spell_element) (λ y. EachIs HasColumns y × IsCons y) (MayMore (Column no_column) element_at spell_element HasColumns MayEnd element_exact comma_ends)
    spell_elements (λ y. IsTable y × (y.name ≡ name)) Ever (λ y. y.elements) (λ y after. k.Terminal m.RightBracket ∷ after)
    (λ y after w. refl) (λ y w. (each_from_all y.elements w.0.each, cons_from y.elements w.0.some)) (λ y after w may. (bracket_not_comma after, λ x. bracket_ends after)) (λ elements w. (record { name = name; elements = elements }, (record { some = some_from elements w.1; each = all_from_each elements w.0 }, refl), refl)) bracket _ _
    (list_exact (Column no_column) element_at spell_element HasColumns MayEnd element_exact comma_ends bracket)
    (λ elements last some e le. expect_exact (k.Terminal m.RightBracket) (eat m.RightBracket) (eats_terminal m.RightBracket) (λ y after. k.Terminal m.RightBracket ∷ after) (λ y. (IsTable y × (y.name ≡ name)) × (y.elements ≡ elements)) Ever (λ y after. after)
    (λ y after w. refl) (record { name = name; elements = elements }, ((record { some = some_from elements some.1; each = all_from_each elements some.0 }, refl), refl)) last _
    (λ rest. done_exact (λ y. (IsTable y × (y.name ≡ name)) × (y.elements ≡ elements)) Ever (record { name = name; elements = elements }) rest
    ((record { some = some_from elements some.1; each = all_from_each elements some.0 }, refl), refl) (λ y h. table_of y name elements h.0.1 h.1)))))))

-- ---- the end of a statement

abbrev pub MayStop : Bool → List TokenKind → Type 0
MayStop stop after = stop ≡ false → after ≡ []

no_stop : (left : ℕ) (y : Bool) (after : List TokenKind) → Agree left (spell_stop y after) [] → y ≡ false
no_stop left true after agree = absurd agree
no_stop left false after agree = refl

a_stop : (left : ℕ) (y : Bool) (after : List TokenKind) (x : TokenKind) (kinds : List TokenKind) → MayStop y after → Agree left (spell_stop y after) (x ∷ kinds) → y ≡ true
a_stop left true after x kinds may agree = refl
a_stop left false after x kinds may agree = absurd (subst (λ ks. Agree left ks (x ∷ kinds)) (may refl) agree)

pub stop_exact : (kinds : List TokenKind) → Exact spell_stop Any MayStop kinds (stop_at kinds)
unfolding stop_at expect
stop_exact [] =
    narrow_exact spell_stop Any (λ y. y ≡ false) MayStop [] (Ok (false, [])) (λ left y after w may agree. no_stop left y after agree) (λ y e. tt)
    (empty_exact spell_stop (λ y. y ≡ false) MayStop false [] (λ after. refl) refl (λ y e. e))
stop_exact (x ∷ kinds) =
    narrow_exact spell_stop Any (λ y. y ≡ true) MayStop (x ∷ kinds) (expect m.Semicolon (x ∷ kinds) >>= λ rest. Ok (true, rest)) (λ left y after w may agree. a_stop left y after x kinds may agree) (λ y e. tt)
    (expect_exact (k.Terminal m.Semicolon) (eat m.Semicolon) (eats_terminal m.Semicolon) spell_stop (λ y. y ≡ true) MayStop (λ y after. after) (λ y after w. ap (λ z. spell_stop z after) w) (true, refl) (x ∷ kinds) _
    (λ rest. done_exact (λ y. y ≡ true) MayStop true rest refl (λ y e. e)))

-- ---- a statement

abbrev pub spell_statement : TableTree × Bool → List TokenKind → List TokenKind
spell_statement y after = spell_table y.0 (spell_stop y.1 after)

abbrev pub WholeStatement : TableTree × Bool → Type 0
WholeStatement y = IsTable y.0

abbrev pub MayStatement : TableTree × Bool → List TokenKind → Type 0
MayStatement y after = MayStop y.1 after

statement_of : (y : TableTree × Bool) (table : TableTree) (stop : Bool) → y.0 ≡ table → y.1 ≡ stop → y ≡ (table, stop)
statement_of y table stop e f = ap (λ x. let z : TableTree × Bool = (x, y.1) in z) e ∙ ap (λ x. let z : TableTree × Bool = (table, x) in z) f

pub statement_exact : (kinds : List TokenKind) → Exact spell_statement WholeStatement MayStatement kinds (statement_at kinds)
unfolding statement_at
statement_exact kinds =
    then_exact spell_table IsTable Ever spell_statement WholeStatement MayStatement (λ y. y.0) (λ y after. spell_stop y.1 after)
    (λ y after w. refl) (λ y w. w) (λ y after w may. tt) (λ table w. ((table, false), w, refl)) kinds _ _ (table_exact kinds)
    (λ table others whole e le. then_exact spell_stop Any MayStop (λ y after. spell_stop y.1 after) (λ y. WholeStatement y × (y.0 ≡ table)) MayStatement (λ y. y.1) (λ y after. after)
    (λ y after w. refl) (λ y w. tt) (λ y after w may. may) (λ stop w. ((table, stop), (whole, refl), refl)) others _ _ (stop_exact others)
    (λ stop rest w e le. done_exact (λ y. (WholeStatement y × (y.0 ≡ table)) × (y.1 ≡ stop)) MayStatement (table, stop) rest ((whole, refl), refl) (λ y h. statement_of y table stop h.0.1 h.1)))
