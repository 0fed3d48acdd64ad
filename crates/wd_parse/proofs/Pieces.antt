-- What the parts of a select that hold no expression spell is read as those parts.
use Rattle.std.proofs.Common.{◌≡◌, ℕ, ◌<◌, Bool, true, false, ◌∷◌, Option, Some, None, Ok, refl, arith}
use Rattle.wd_lex.specs.declared.token.Terminal.TheVariants as m
use Rattle.wd_lex.specs.declared.token.TokenKind.TheVariants as t
use Rattle.wd_read_cursor.specs.declared.words.KeyWord.TheVariants as k
use Rattle.wd_read_cursor.specs.declared.name.Name.{Name}
use Rattle.wd_syntax.specs.declared.query.Alias.{Alias}
use Rattle.wd_syntax.specs.declared.query.Quantifier.{Quantifier}
use Rattle.wd_syntax.specs.declared.query.Quantifier.TheVariants as q
use Rattle.wd_syntax.specs.declared.query.RowWord.{RowWord}
use Rattle.wd_syntax.specs.declared.query.RowWord.TheVariants as w
use Rattle.wd_syntax.specs.declared.query.FetchWord.{FetchWord}
use Rattle.wd_syntax.specs.declared.query.FetchWord.TheVariants as f
use Rattle.wd_syntax.specs.declared.query.Offset.{Offset}
use Rattle.wd_syntax.specs.declared.query.Count.{Count}
use Rattle.wd_syntax.specs.declared.query.Count.TheVariants as c
use Rattle.wd_syntax.specs.declared.query.Limits.{Limits}
use Rattle.wd_syntax.specs.declared.query.Limits.TheVariants.{OffsetFirst, CountFirst}
use Rattle.wd_read_cursor.specs.Tokens.{Kinds, ◌▸◌, name_kind}
use Rattle.wd_syntax.specs.Spelling.{quantifier_onto, as_onto, given_onto, alias_onto, row_onto, row_option_onto, offset_onto, fetch_onto, number_onto, ties_onto, count_onto, offset_option_onto, count_option_onto, limits_onto}
use Rattle.wd_read_cursor.specs.Cursor.{eat, eat_word, expect_word, number_at, optional}
use Rattle.wd_parse.specs.Reading.{quantifier_at, required_alias_at, alias_at, star_at, row_at, offset_at, fetch_word_at, number_option_at, ties_at, fetch_at, limit_at, count_if, offset_if, limits_at}
use Rattle.wd_read_cursor.proofs.Eaten.{eat_same, eat_name_same, name_at_same, eat_name_kind}
use Rattle.wd_read_expression.proofs.TerminalFacts.{clauses, clause_stops, clause_no_name, clause_no_word}

-- ---- selects

quantifier_same_differs : (ts : Kinds) → eat m.All (m.Distinct ▸ ts) ≡ None
unfolding eat
quantifier_same_differs ts = refl

pub quantifier_same : (quantifier : Option Quantifier) (ts : Kinds) → eat m.All ts ≡ None → eat m.Distinct ts ≡ None → quantifier_at (quantifier_onto quantifier ts) ≡ (quantifier, ts)
unfolding quantifier_at
quantifier_same None ts a d = rw (a, d) refl
quantifier_same (Some q.All) ts a d = rw (eat_same m.All ts) refl
quantifier_same (Some q.Distinct) ts a d = rw (let e : eat m.All (m.Distinct ▸ ts) ≡ None = quantifier_same_differs ts in e, eat_same m.Distinct ts) refl

given_by : (b : Bool) (n : Name) (ts : Kinds) → required_alias_at (as_onto b (name_kind n ∷ ts)) ≡ Ok (record { with_as = b; name = n }, ts)
unfolding required_alias_at
given_by true n ts = rw (eat_same m.As (name_kind n ∷ ts), name_at_same n ts) refl
given_by false n ts = rw (eat_name_kind m.As n ts, name_at_same n ts) refl

pub given_same : (alias : Alias) (ts : Kinds) → required_alias_at (given_onto alias ts) ≡ Ok (alias, ts)
given_same alias ts = given_by alias.with_as alias.name ts

alias_by : (b : Bool) (n : Name) (ts : Kinds) → alias_at (as_onto b (name_kind n ∷ ts)) ≡ Ok (Some (record { with_as = b; name = n }), ts)
unfolding alias_at
alias_by true n ts = rw (eat_same m.As (name_kind n ∷ ts), name_at_same n ts) refl
alias_by false n ts = rw (eat_name_kind m.As n ts, eat_name_same n ts) refl

pub alias_same : (alias : Option Alias) (ts : Kinds) → 0 < clauses ts → alias_at (alias_onto alias ts) ≡ Ok (alias, ts)
unfolding alias_at
alias_same None ts lt = rw (clause_stops m.As ts lt, clause_no_name ts lt) refl
alias_same (Some alias) ts lt = alias_by alias.with_as alias.name ts

pub star_same : (n : Name) (ts : Kinds) → star_at (name_kind n ∷ (m.Dot ▸ m.Star ▸ ts)) ≡ Some (n, ts)
unfolding star_at
star_same n ts = rw (eat_name_same n (m.Dot ▸ m.Star ▸ ts), eat_same m.Dot (m.Star ▸ ts), eat_same m.Star ts) refl

-- ---- limits

row_same : (row : RowWord) (ts : Kinds) → row_at (row_onto row ts) ≡ Some (row, ts)
unfolding row_at eat eat_word
row_same w.Row ts = refl
row_same w.Rows ts = refl

row_stops : (ts : Kinds) → 7 < clauses ts → row_at ts ≡ None
unfolding row_at
row_stops ts lt = rw (clause_no_word k.Row ts (omega arith), clause_stops m.Rows ts lt) refl

count_begins : (count : Count) (ts : Kinds) → (row_at (count_onto count ts) ≡ None) × (offset_if (count_onto count ts) ≡ None)
unfolding row_at offset_if eat eat_word
count_begins (c.Limit n) ts = (refl, refl)
count_begins (c.Fetch word number row ties) ts = (refl, refl)

offset_by : (n : ℕ) (word : Option RowWord) (ts : Kinds) → row_at ts ≡ None → offset_at (t.Number n ∷ row_option_onto word ts) ≡ Ok (record { number = n; word = word }, ts)
unfolding offset_at number_at
offset_by n None ts e = rw e refl
offset_by n (Some word) ts e = rw (row_same word ts) refl

offset_same : (o : Offset) (ts : Kinds) → row_at ts ≡ None → offset_if (offset_onto o ts) ≡ Some (Ok (o, ts))
unfolding offset_if
offset_same o ts e = rw (eat_same m.Offset (t.Number o.number ∷ row_option_onto o.word ts), offset_by o.number o.word ts e) refl

fetch_word_same : (word : FetchWord) (ts : Kinds) → fetch_word_at (fetch_onto word ts) ≡ Ok (word, ts)
unfolding fetch_word_at eat_word expect_word
fetch_word_same f.First ts = refl
fetch_word_same f.Next ts = refl

ties_same : (ties : Bool) (ts : Kinds) → ties_at (ties_onto ties ts) ≡ Ok (ties, ts)
unfolding ties_at eat eat_word expect_word
ties_same true ts = refl
ties_same false ts = refl

number_option_same : (number : Option ℕ) (row : RowWord) (ts : Kinds) → number_option_at (number_onto number (row_onto row ts)) ≡ (number, row_onto row ts)
unfolding number_option_at number_at
number_option_same None w.Row ts = refl
number_option_same None w.Rows ts = refl
number_option_same (Some n) row ts = refl

fetch_same : (word : FetchWord) (number : Option ℕ) (row : RowWord) (ties : Bool) (ts : Kinds) → fetch_at (fetch_onto word (number_onto number (row_onto row (ties_onto ties ts)))) ≡ Ok (c.Fetch word number row ties, ts)
unfolding fetch_at
fetch_same word number row ties ts = rw (fetch_word_same word (number_onto number (row_onto row (ties_onto ties ts))), number_option_same number row (ties_onto ties ts), row_same row (ties_onto ties ts), ties_same ties ts) refl

limit_same : (n : ℕ) (ts : Kinds) → limit_at (t.Number n ∷ ts) ≡ Ok (c.Limit n, ts)
unfolding limit_at number_at
limit_same n ts = refl

count_same_differs : (ts : Kinds) → eat m.Limit (m.Fetch ▸ ts) ≡ None
unfolding eat
count_same_differs ts = refl

count_same : (count : Count) (ts : Kinds) → count_if (count_onto count ts) ≡ Some (Ok (count, ts))
unfolding count_if
count_same (c.Limit n) ts = rw (eat_same m.Limit (t.Number n ∷ ts), limit_same n ts) refl
count_same (c.Fetch word number row ties) ts =
    let inside : Kinds = fetch_onto word (number_onto number (row_onto row (ties_onto ties ts))) in
    rw (let e : eat m.Limit (m.Fetch ▸ inside) ≡ None = count_same_differs inside in e, eat_same m.Fetch inside, fetch_same word number row ties ts) refl

count_stops : (ts : Kinds) → 7 < clauses ts → count_if ts ≡ None
unfolding count_if
count_stops ts lt = rw (clause_stops m.Limit ts lt, clause_stops m.Fetch ts lt) refl

offset_stops : (ts : Kinds) → 7 < clauses ts → offset_if ts ≡ None
unfolding offset_if
offset_stops ts lt = rw (clause_stops m.Offset ts lt) refl

count_option_same : (count : Option Count) (ts : Kinds) → 7 < clauses ts → optional count_if (count_option_onto count ts) ≡ Ok (count, ts)
count_option_same None ts lt = rw (count_stops ts lt) refl
count_option_same (Some count) ts lt = rw (count_same count ts) refl

offset_option_same : (o : Option Offset) (ts : Kinds) → 7 < clauses ts → optional offset_if (offset_option_onto o ts) ≡ Ok (o, ts)
offset_option_same None ts lt = rw (offset_stops ts lt) refl
offset_option_same (Some o) ts lt = rw (offset_same o ts (row_stops ts lt)) refl

row_before_count : (count : Option Count) (ts : Kinds) → 7 < clauses ts → row_at (count_option_onto count ts) ≡ None
row_before_count None ts lt = row_stops ts lt
row_before_count (Some count) ts lt = (count_begins count ts).0

pub limits_same : (limits : Option Limits) (ts : Kinds) → 7 < clauses ts → limits_at (limits_onto limits ts) ≡ Ok (limits, ts)
unfolding limits_at
limits_same None ts lt = rw (offset_stops ts lt, count_stops ts lt) refl
limits_same (Some (OffsetFirst o count)) ts lt = rw (offset_same o (count_option_onto count ts) (row_before_count count ts lt), count_option_same count ts lt) refl
limits_same (Some (CountFirst count o)) ts lt = rw ((count_begins count (offset_option_onto o ts)).1, count_same count (offset_option_onto o ts), offset_option_same o ts lt) refl

count_clause : (count : Count) (ts : Kinds) → clauses (count_onto count ts) ≡ 7
count_clause (c.Limit n) ts = refl
count_clause (c.Fetch word number row ties) ts = refl

pub limits_clause : (limits : Option Limits) (ts : Kinds) → 6 < clauses ts → 6 < clauses (limits_onto limits ts)
limits_clause None ts lt = lt
limits_clause (Some (OffsetFirst o count)) ts lt = omega arith
limits_clause (Some (CountFirst count o)) ts lt = omega (arith, count_clause count (offset_option_onto o ts))
