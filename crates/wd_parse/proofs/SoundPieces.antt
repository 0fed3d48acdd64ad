-- What is read of the parts of a select that hold no expression is spelled so.
use Rattle.std.proofs.Common.{◌≡◌, ℕ, Bool, true, false, ◌∷◌, length, Option, Some, None, Ok, Err, refl, ap, ◌∙◌}
use Rattle.wd_lex.specs.declared.token.Terminal.TheVariants as m
use Rattle.wd_lex.specs.declared.token.TokenKind.TheVariants as t
use Rattle.wd_read_cursor.specs.declared.words.KeyWord.TheVariants as k
use Rattle.wd_read_cursor.specs.declared.name.Name.{Name}
use Rattle.wd_syntax.specs.declared.query.Alias.{Alias}
use Rattle.wd_syntax.specs.declared.query.Quantifier.{Quantifier}
use Rattle.wd_syntax.specs.declared.query.Quantifier.TheVariants as q
use Rattle.wd_syntax.specs.declared.query.RowWord.{RowWord}
use Rattle.wd_syntax.specs.declared.query.RowWord.TheVariants as w
use Rattle.wd_syntax.specs.declared.query.FetchWord.{FetchWord}
use Rattle.wd_syntax.specs.declared.query.FetchWord.TheVariants as f
use Rattle.wd_syntax.specs.declared.query.Count.{Count}
use Rattle.wd_syntax.specs.declared.query.Count.TheVariants as c
use Rattle.wd_syntax.specs.declared.query.Limits.{Limits}
use Rattle.wd_syntax.specs.declared.query.Limits.TheVariants.{OffsetFirst, CountFirst}
use Rattle.wd_read_cursor.specs.Tokens.{Kinds, ◌▸◌, name_kind}
use Rattle.wd_syntax.specs.Spelling.{quantifier_onto, given_onto, alias_onto, row_onto, row_option_onto, offset_onto, fetch_onto, number_onto, ties_onto, count_onto, offset_option_onto, count_option_onto, limits_onto}
use Rattle.wd_read_cursor.specs.Cursor.{◌>>=◌, Reads, choose, eat, expect_word, eat_name, name_at, number_at, some_or_unexpected, try, optional}
use Rattle.wd_parse.specs.Reading.{quantifier_at, required_alias_at, bare_if, alias_at, star_if, star_at, row_at, row_if, offset_at, fetch_word_at, number_if, number_option_at, ties_at, fetch_at, limit_at, count_if, offset_if, limits_at}
use Rattle.wd_read_expression.proofs.SoundPieces.{Kept, Holds, MayHold, then_holds, at_terminal, at_word, some_holds, past_word, eat_name_is, past_name, number_is, Spelled}

-- ---- selects

pub quantifier_is : (ts : Kinds) → ts ≡ quantifier_onto (quantifier_at ts).0 (quantifier_at ts).1
unfolding quantifier_at
quantifier_is ts =
    let P : Option Quantifier × Kinds → Type 0 = λ y. ts ≡ quantifier_onto y.0 y.1 in
    at_terminal P m.All ts (λ r. (Some q.All, r)) (choose (eat m.Distinct ts) (λ r. (Some q.Distinct, r)) (None, ts)) (λ r e. e)
    (at_terminal P m.Distinct ts (λ r. (Some q.Distinct, r)) (None, ts) (λ r e. e) refl)

pub given_is : (ts : Kinds) → Holds (Spelled given_onto ts) (required_alias_at ts)
unfolding required_alias_at
given_is ts =
    let Q : Alias × Kinds → Type 0 = Spelled given_onto ts in
    at_terminal (Holds Q) m.As ts (λ r. name_at r >>= λ n. Ok (record { with_as = true; name = n.0 }, n.1)) (name_at ts >>= λ n. Ok (record { with_as = false; name = n.0 }, n.1))
    (λ r e. past_name Q r (λ n. Ok (record { with_as = true; name = n.0 }, n.1)) (λ n f. e ∙ ap (λ (z : Kinds). m.As ▸ z) f))
    (past_name Q ts (λ n. Ok (record { with_as = false; name = n.0 }, n.1)) (λ n f. f))

bare_is : (ts : Kinds) (o : Option (Name × Kinds)) → Kept (λ x. ts ≡ name_kind x.0 ∷ x.1) o → Holds (Spelled alias_onto ts) (bare_if o ts)
bare_is ts None k = refl
bare_is ts (Some x) k = k

pub alias_is : (ts : Kinds) → Holds (Spelled alias_onto ts) (alias_at ts)
unfolding alias_at
alias_is ts =
    let Q : Option Alias × Kinds → Type 0 = Spelled alias_onto ts in
    at_terminal (Holds Q) m.As ts (λ r. name_at r >>= λ n. Ok (Some (record { with_as = true; name = n.0 }), n.1)) (bare_if (eat_name ts) ts)
    (λ r e. past_name Q r (λ n. Ok (Some (record { with_as = true; name = n.0 }), n.1)) (λ n f. e ∙ ap (λ (z : Kinds). m.As ▸ z) f))
    (bare_is ts (eat_name ts) (eat_name_is ts))

star_if_is : (ts : Kinds) (o : Option (Name × Kinds)) → Kept (λ x. ts ≡ name_kind x.0 ∷ x.1) o → Kept (λ x. ts ≡ name_kind x.0 ∷ (m.Dot ▸ m.Star ▸ x.1)) (star_if o)
star_if_is ts None k = tt
star_if_is ts (Some n) k =
    let P : Option (Name × Kinds) → Type 0 = Kept (λ x. ts ≡ name_kind x.0 ∷ (m.Dot ▸ m.Star ▸ x.1)) in
    at_terminal P m.Dot n.1 (λ r. choose (eat m.Star r) (λ r. Some (n.0, r)) None) None
    (λ r e. at_terminal P m.Star r (λ r. Some (n.0, r)) None (λ q f. k ∙ ap (λ (z : Kinds). name_kind n.0 ∷ z) (e ∙ ap (λ (z : Kinds). m.Dot ▸ z) f)) tt)
    tt

pub star_is : (ts : Kinds) → Kept (λ x. ts ≡ name_kind x.0 ∷ (m.Dot ▸ m.Star ▸ x.1)) (star_at ts)
unfolding star_at
star_is ts = star_if_is ts (eat_name ts) (eat_name_is ts)

-- ---- limits

row_is : (ts : Kinds) → Kept (λ x. ts ≡ row_onto x.0 x.1) (row_at ts)
unfolding row_at
row_is ts =
    let P : Option (RowWord × Kinds) → Type 0 = Kept (λ x. ts ≡ row_onto x.0 x.1) in
    at_word P k.Row ts (λ r. Some (w.Row, r)) (choose (eat m.Rows ts) (λ r. Some (w.Rows, r)) None) (λ r e. e)
    (at_terminal P m.Rows ts (λ r. Some (w.Rows, r)) None (λ r e. e) tt)

row_if_is : (ts : Kinds) (o : Option (RowWord × Kinds)) → Kept (λ x. ts ≡ row_onto x.0 x.1) o → ts ≡ row_option_onto (row_if o ts).0 (row_if o ts).1
row_if_is ts None k = refl
row_if_is ts (Some x) k = k

offset_is : (ts r : Kinds) → ts ≡ m.Offset ▸ r → Holds (Spelled offset_onto ts) (offset_at r)
unfolding offset_at
offset_is ts r e =
    then_holds (λ x. r ≡ t.Number x.0 ∷ x.1) (Spelled offset_onto ts) (number_at r) (λ n. Ok (record { number = n.0; word = (row_if (row_at n.1) n.1).0 }, (row_if (row_at n.1) n.1).1)) (number_is r) (λ n f.
    e ∙ ap (λ (z : Kinds). m.Offset ▸ z) (f ∙ ap (λ (z : Kinds). t.Number n.0 ∷ z) (row_if_is n.1 (row_at n.1) (row_is n.1))))

fetch_word_is : (ts : Kinds) → Holds (Spelled fetch_onto ts) (fetch_word_at ts)
unfolding fetch_word_at
fetch_word_is ts =
    let Q : FetchWord × Kinds → Type 0 = Spelled fetch_onto ts in
    at_word (Holds Q) k.First ts (λ r. Ok (f.First, r)) (expect_word k.Next ts >>= λ r. Ok (f.Next, r)) (λ r e. e)
    (past_word Q k.Next ts (λ r. Ok (f.Next, r)) (λ r e. e))

number_if_is : (ts : Kinds) (r : Reads ℕ) → Holds (λ x. ts ≡ t.Number x.0 ∷ x.1) r → ts ≡ number_onto (number_if r ts).0 (number_if r ts).1
number_if_is ts (Ok n) h = h
number_if_is ts (Err e) h = refl

number_option_is : (ts : Kinds) → ts ≡ number_onto (number_option_at ts).0 (number_option_at ts).1
unfolding number_option_at
number_option_is ts = number_if_is ts (number_at ts) (number_is ts)

ties_is : (ts : Kinds) → Holds (Spelled ties_onto ts) (ties_at ts)
unfolding ties_at
ties_is ts =
    let Q : Bool × Kinds → Type 0 = Spelled ties_onto ts in
    at_terminal (Holds Q) m.With ts (λ r. expect_word k.Ties r >>= λ r. Ok (true, r)) (expect_word k.Only ts >>= λ r. Ok (false, r))
    (λ r e. past_word Q k.Ties r (λ r. Ok (true, r)) (λ q f. e ∙ ap (λ (z : Kinds). m.With ▸ z) f))
    (past_word Q k.Only ts (λ r. Ok (false, r)) (λ r e. e))

fetch_is : (ts r : Kinds) → ts ≡ m.Fetch ▸ r → Holds (Spelled count_onto ts) (fetch_at r)
unfolding fetch_at
fetch_is ts r e =
    let Q : Count × Kinds → Type 0 = Spelled count_onto ts in
    then_holds (Spelled fetch_onto r) Q (fetch_word_at r) (λ w. some_or_unexpected (length (number_option_at w.1).1) (row_at (number_option_at w.1).1) >>= λ row. ties_at row.1 >>= λ ties. Ok (c.Fetch w.0 (number_option_at w.1).0 row.0 ties.0, ties.1)) (fetch_word_is r) (λ w f.
    then_holds (λ x. (number_option_at w.1).1 ≡ row_onto x.0 x.1) Q (some_or_unexpected (length (number_option_at w.1).1) (row_at (number_option_at w.1).1)) (λ row. ties_at row.1 >>= λ ties. Ok (c.Fetch w.0 (number_option_at w.1).0 row.0 ties.0, ties.1)) (some_holds _ (λ x. (number_option_at w.1).1 ≡ row_onto x.0 x.1) (row_at (number_option_at w.1).1) (row_is (number_option_at w.1).1)) (λ row g.
    then_holds (Spelled ties_onto row.1) Q (ties_at row.1) (λ ties. Ok (c.Fetch w.0 (number_option_at w.1).0 row.0 ties.0, ties.1)) (ties_is row.1) (λ ties h.
    e ∙ ap (λ (z : Kinds). m.Fetch ▸ z) (f ∙ ap (fetch_onto w.0) (number_option_is w.1 ∙ ap (number_onto (number_option_at w.1).0) (g ∙ ap (row_onto row.0) h))))))

limit_is : (ts r : Kinds) → ts ≡ m.Limit ▸ r → Holds (Spelled count_onto ts) (limit_at r)
unfolding limit_at
limit_is ts r e =
    then_holds (λ x. r ≡ t.Number x.0 ∷ x.1) (Spelled count_onto ts) (number_at r) (λ n. Ok (c.Limit n.0, n.1)) (number_is r) (λ n f. e ∙ ap (λ (z : Kinds). m.Limit ▸ z) f)

count_if_is : (ts : Kinds) → MayHold (Spelled count_onto ts) (count_if ts)
unfolding count_if
count_if_is ts =
    let P : Option (Reads Count) → Type 0 = MayHold (Spelled count_onto ts) in
    at_terminal P m.Limit ts (λ r. Some (limit_at r)) (choose (eat m.Fetch ts) (λ r. Some (fetch_at r)) None) (λ r e. limit_is ts r e)
    (at_terminal P m.Fetch ts (λ r. Some (fetch_at r)) None (λ r e. fetch_is ts r e) tt)

offset_if_is : (ts : Kinds) → MayHold (Spelled offset_onto ts) (offset_if ts)
unfolding offset_if
offset_if_is ts = at_terminal (MayHold (Spelled offset_onto ts)) m.Offset ts (λ r. Some (offset_at r)) None (λ r e. offset_is ts r e) tt

try_holds : {A B : Type 0} (P : A × Kinds → Type 0) (Q : B × Kinds → Type 0) (o : Option (Reads A)) (f : A × Kinds → Reads B) (b : Reads B) → MayHold P o → ((x : A × Kinds) → P x → Holds Q (f x)) → Holds Q b → Holds Q (try o f b)
try_holds P Q None f b h k i = i
try_holds P Q (Some r) f b h k i = then_holds P Q r f h k

pub limits_is : (ts : Kinds) → Holds (Spelled limits_onto ts) (limits_at ts)
unfolding limits_at
limits_is ts =
    let Q : Option Limits × Kinds → Type 0 = Spelled limits_onto ts in
    try_holds (Spelled offset_onto ts) Q (offset_if ts) (λ o. optional count_if o.1 >>= λ c. Ok (Some (OffsetFirst o.0 c.0), c.1)) (try (count_if ts) (λ c. optional offset_if c.1 >>= λ o. Ok (Some (CountFirst c.0 o.0), o.1)) (Ok (None, ts))) (offset_if_is ts)
    (λ o e. then_holds (Spelled count_option_onto o.1) Q (optional count_if o.1) (λ c. Ok (Some (OffsetFirst o.0 c.0), c.1)) (try_holds (Spelled count_onto o.1) (Spelled count_option_onto o.1) (count_if o.1) (λ x. Ok (Some x.0, x.1)) (Ok (None, o.1)) (count_if_is o.1) (λ x g. g) refl) (λ c g. e ∙ ap (offset_onto o.0) g))
    (try_holds (Spelled count_onto ts) Q (count_if ts) (λ c. optional offset_if c.1 >>= λ o. Ok (Some (CountFirst c.0 o.0), o.1)) (Ok (None, ts)) (count_if_is ts)
    (λ c e. then_holds (Spelled offset_option_onto c.1) Q (optional offset_if c.1) (λ o. Ok (Some (CountFirst c.0 o.0), o.1)) (try_holds (Spelled offset_onto c.1) (Spelled offset_option_onto c.1) (offset_if c.1) (λ x. Ok (Some x.0, x.1)) (Ok (None, c.1)) (offset_if_is c.1) (λ x g. g) refl) (λ o g. e ∙ ap (count_onto c.0) g))
    refl)
