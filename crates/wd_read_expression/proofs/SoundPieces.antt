-- What is read of tokens, lists, frames and the parts of sort keys and windows that hold no expression is spelled so.
use Rattle.std.proofs.Common.{◌≡◌, ℕ, zero, suc, Bool, true, false, cond, eqb, List, [], ◌∷◌, length, Option, Some, None, Result, Ok, Err, refl, ap, ◌∙◌}
use Rattle.wd_lex.specs.declared.token.Terminal.{Terminal}
use Rattle.wd_lex.specs.declared.token.Terminal.TheVariants as m
use Rattle.wd_lex.specs.declared.token.TokenKind.TheVariants as t
use Rattle.wd_lex.specs.Terminals.{terminal_code}
use Rattle.wd_read_cursor.specs.declared.words.KeyWord.{KeyWord}
use Rattle.wd_read_cursor.specs.declared.words.KeyWord.TheVariants as k
use Rattle.wd_read_cursor.specs.declared.name.Name.{Name}
use Rattle.wd_syntax.specs.declared.frame.Frame.{Frame}
use Rattle.wd_syntax.specs.declared.frame.FrameMode.{FrameMode}
use Rattle.wd_syntax.specs.declared.frame.Bound.{Bound}
use Rattle.wd_syntax.specs.declared.frame.Bound.TheVariants.{CurrentRow}
use Rattle.wd_syntax.specs.declared.frame.Extent.{Extent}
use Rattle.wd_syntax.specs.declared.frame.Extent.TheVariants.{Start, Between}
use Rattle.wd_syntax.specs.declared.frame.Exclusion.{Exclusion}
use Rattle.wd_syntax.specs.declared.frame.Exclusion.TheVariants as x
use Rattle.wd_syntax.specs.declared.expression.SortDirection.{SortDirection}
use Rattle.wd_syntax.specs.declared.expression.SortDirection.TheVariants.{Ascending, Descending}
use Rattle.wd_syntax.specs.declared.expression.NullsPlace.{NullsPlace}
use Rattle.wd_syntax.specs.declared.expression.NullsPlace.TheVariants as p
use Rattle.wd_read_cursor.specs.Tokens.{Kinds, ◌▸◌, ◌▹◌, letters, name_kind}
use Rattle.wd_syntax.specs.Tree.{Each}
use Rattle.wd_syntax.specs.Spelling.{mode_onto, bound_onto, extent_onto, excluded_onto, exclusion_onto, frame_onto, direction_onto, nulls_onto, base_onto}
use Rattle.wd_read_cursor.specs.Cursor.{Fault, ◌>>=◌, Reads, Parser, Chance, choose, eat, expect, eat_word, expect_word, with_rest, eat_name, name_at, number_at, some_or_unexpected, if_begun, many, after, list_at}
use Rattle.wd_read_expression.specs.Reading.{mode_if, mode_at, side_at, unbounded, away, bound_at, extent_at, exclusion_words_at, exclusion_at, frame_if, frame_at, direction_at, nulls_at, base_if, base_at}
use Rattle.std.proofs.lemmas.Bool.{eqb-true}
use Rattle.std.proofs.lemmas.Slice.Eq.{bytes_eq-Decides}
use Rattle.std.specs.Str.{bytes_eq}
use Rattle.wd_lex.proofs.TerminalLaws.{same_terminal}

-- what holds of the value, if there is one
abbrev pub Kept : {A : Type 0} → (A → Type 0) → Option A → Type 0
Kept P None = Unit {0}
Kept P (Some x) = P x

abbrev pub Holds : {A : Type 0} → (A → Type 0) → Result A Fault → Type 0
Holds P (Ok x) = P x
Holds P (Err e) = Unit {0}

-- what holds of the value that is read, if something begins here
abbrev pub MayHold : {A : Type 0} → (A → Type 0) → Option (Result A Fault) → Type 0
MayHold P None = Unit {0}
MayHold P (Some r) = Holds P r

pub then_holds : {A B : Type 0} (P : A → Type 0) (Q : B → Type 0) (r : Result A Fault) (f : A → Result B Fault) → Holds P r → ((x : A) → P x → Holds Q (f x)) → Holds Q (r >>= f)
then_holds P Q (Ok x) f h k = k x h
then_holds P Q (Err e) f h k = tt

-- ---- single tokens

pub kept_if : {A : Type 0} (P : A → Type 0) (b : Bool) (x : A) → (b ≡ true → P x) → Kept P (cond b (Some x) None)
kept_if P true x h = h refl
kept_if P false x h = tt

eat_is : (x : Terminal) (ts : Kinds) → Kept (λ r. ts ≡ x ▸ r) (eat x ts)
unfolding eat
eat_is x [] = tt
eat_is x (t.Terminal y ∷ ts) = kept_if (λ r. t.Terminal y ∷ ts ≡ x ▸ r) (eqb (terminal_code y) (terminal_code x)) ts (λ e. ap (λ (z : Terminal). z ▸ ts) (same_terminal y x (eqb-true (terminal_code y) (terminal_code x) e)))
eat_is x (t.Word text ∷ ts) = tt
eat_is x (t.Quoted text ∷ ts) = tt
eat_is x (t.Literal text ∷ ts) = tt
eat_is x (t.Number n ∷ ts) = tt

eat_word_is : (x : KeyWord) (ts : Kinds) → Kept (λ r. ts ≡ x ▹ r) (eat_word x ts)
unfolding eat_word
eat_word_is x [] = tt
eat_word_is x (t.Terminal y ∷ ts) = tt
eat_word_is x (t.Word text ∷ ts) = kept_if (λ r. t.Word text ∷ ts ≡ x ▹ r) (bytes_eq text (letters x)) ts (λ e. ap (λ (z : List ℕ). t.Word z ∷ ts) ((bytes_eq-Decides text (letters x)).0 e))
eat_word_is x (t.Quoted text ∷ ts) = tt
eat_word_is x (t.Literal text ∷ ts) = tt
eat_word_is x (t.Number n ∷ ts) = tt

chosen : {B : Type 0} (P : B → Type 0) (K : Kinds → Type 0) (o : Option Kinds) (f : Kinds → B) (b : B) → Kept K o → ((r : Kinds) → K r → P (f r)) → P b → P (choose o f b)
chosen P K None f b k h i = i
chosen P K (Some r) f b k h i = h r k

pub at_terminal : {B : Type 0} (P : B → Type 0) (x : Terminal) (ts : Kinds) (f : Kinds → B) (b : B) → ((r : Kinds) → ts ≡ x ▸ r → P (f r)) → P b → P (choose (eat x ts) f b)
at_terminal P x ts f b h i = chosen P (λ r. ts ≡ x ▸ r) (eat x ts) f b (eat_is x ts) h i

pub at_word : {B : Type 0} (P : B → Type 0) (x : KeyWord) (ts : Kinds) (f : Kinds → B) (b : B) → ((r : Kinds) → ts ≡ x ▹ r → P (f r)) → P b → P (choose (eat_word x ts) f b)
at_word P x ts f b h i = chosen P (λ r. ts ≡ x ▹ r) (eat_word x ts) f b (eat_word_is x ts) h i

pub some_holds : {A : Type 0} (left : ℕ) (P : A → Type 0) (o : Option A) → Kept P o → Holds P (some_or_unexpected left o)
some_holds left P None k = tt
some_holds left P (Some x) k = k

pub expect_holds : (x : Terminal) (ts : Kinds) → Holds (λ r. ts ≡ x ▸ r) (expect x ts)
unfolding expect
expect_holds x ts = some_holds _ (λ r. ts ≡ x ▸ r) (eat x ts) (eat_is x ts)

pub past_terminal : {B : Type 0} (Q : B → Type 0) (x : Terminal) (ts : Kinds) (f : Kinds → Result B Fault) → ((r : Kinds) → ts ≡ x ▸ r → Holds Q (f r)) → Holds Q (expect x ts >>= f)
unfolding expect
past_terminal Q x ts f h = then_holds (λ r. ts ≡ x ▸ r) Q (some_or_unexpected (length ts) (eat x ts)) f (some_holds _ (λ r. ts ≡ x ▸ r) (eat x ts) (eat_is x ts)) h

pub past_word : {B : Type 0} (Q : B → Type 0) (x : KeyWord) (ts : Kinds) (f : Kinds → Result B Fault) → ((r : Kinds) → ts ≡ x ▹ r → Holds Q (f r)) → Holds Q (expect_word x ts >>= f)
unfolding expect_word
past_word Q x ts f h = then_holds (λ r. ts ≡ x ▹ r) Q (some_or_unexpected (length ts) (eat_word x ts)) f (some_holds _ (λ r. ts ≡ x ▹ r) (eat_word x ts) (eat_word_is x ts)) h

pub eat_name_is : (ts : Kinds) → Kept (λ x. ts ≡ name_kind x.0 ∷ x.1) (eat_name ts)
unfolding eat_name
eat_name_is [] = tt
eat_name_is (t.Terminal y ∷ ts) = tt
eat_name_is (t.Word text ∷ ts) = refl
eat_name_is (t.Quoted text ∷ ts) = refl
eat_name_is (t.Literal text ∷ ts) = tt
eat_name_is (t.Number n ∷ ts) = tt

pub name_holds : (ts : Kinds) → Holds (λ x. ts ≡ name_kind x.0 ∷ x.1) (name_at ts)
unfolding name_at
name_holds ts = some_holds _ (λ x. ts ≡ name_kind x.0 ∷ x.1) (eat_name ts) (eat_name_is ts)

pub past_name : {B : Type 0} (Q : B → Type 0) (ts : Kinds) (f : Name × Kinds → Result B Fault) → ((x : Name × Kinds) → ts ≡ name_kind x.0 ∷ x.1 → Holds Q (f x)) → Holds Q (name_at ts >>= f)
unfolding name_at
past_name Q ts f h = then_holds (λ x. ts ≡ name_kind x.0 ∷ x.1) Q (some_or_unexpected (length ts) (eat_name ts)) f (some_holds _ (λ x. ts ≡ name_kind x.0 ∷ x.1) (eat_name ts) (eat_name_is ts)) h

pub number_is : (ts : Kinds) → Holds (λ x. ts ≡ t.Number x.0 ∷ x.1) (number_at ts)
unfolding number_at
number_is [] = tt
number_is (t.Terminal y ∷ ts) = tt
number_is (t.Word text ∷ ts) = tt
number_is (t.Quoted text ∷ ts) = tt
number_is (t.Literal text ∷ ts) = tt
number_is (t.Number n ∷ ts) = refl

-- ---- what is read is a part that is spelled so

pub record IsPart {A : Type 0} (one : A → Kinds → Kinds) (Good : A → Type 0) (ts : Kinds) (x : A × Kinds) : Type 0 where
  pub parts : ts ≡ one x.0 x.1
  pub good : Good x.0

abbrev pub Spelled : {A : Type 0} → (A → Kinds → Kinds) → Kinds → A × Kinds → Type 0
Spelled one ts x = ts ≡ one x.0 x.1

-- ---- lists

abbrev pub all_onto : {A : Type 0} → (A → Kinds → Kinds) → List A → Kinds → Kinds
all_onto one [] ts = ts
all_onto one (x ∷ xs) ts = one x (all_onto one xs ts)

many_begun : {A : Type 0} (one : A → Kinds → Kinds) (Good : A → Type 0) (ts : Kinds) (o : Option (Reads A)) (next : A × Kinds → Reads (List A)) → MayHold (IsPart one Good ts) o → ((x : A × Kinds) → IsPart one Good ts x → Holds (IsPart (all_onto one) (Each Good) ts) (next x)) → Holds (IsPart (all_onto one) (Each Good) ts) (if_begun o ts next)
many_begun one Good ts None next h k = record { parts = refl; good = tt }
many_begun one Good ts (Some r) next h k = then_holds (IsPart one Good ts) (IsPart (all_onto one) (Each Good) ts) r next h k

pub many_hold : {A : Type 0} (one : A → Kinds → Kinds) (Good : A → Type 0) (item : Chance A) (n : ℕ) (ts : Kinds) → ((us : Kinds) → MayHold (IsPart one Good us) (item us)) → Holds (IsPart (all_onto one) (Each Good) ts) (many item n ts)
unfolding many
many_hold one Good item zero ts h = record { parts = refl; good = tt }
many_hold one Good item (suc n) ts h =
    many_begun one Good ts (item ts) (λ a. many item n a.1 >>= λ xs. Ok (a.0 ∷ xs.0, xs.1)) (h ts) (λ x i.
    then_holds (IsPart (all_onto one) (Each Good) x.1) (IsPart (all_onto one) (Each Good) ts) (many item n x.1) (λ xs. Ok (x.0 ∷ xs.0, xs.1)) (many_hold one Good item n x.1 h) (λ xs j.
    record { parts = i.parts ∙ ap (one x.0) j.parts; good = (i.good, j.good) }))

-- a terminal, and an item
abbrev pub led_by : {A : Type 0} → Terminal → (A → Kinds → Kinds) → A → Kinds → Kinds
led_by x one a ts = x ▸ one a ts

led_by_part : {A : Type 0} (x : Terminal) (one : A → Kinds → Kinds) (Good : A → Type 0) (ts r : Kinds) (o : Reads A) → ts ≡ x ▸ r → Holds (IsPart one Good r) o → Holds (IsPart (led_by x one) Good ts) o
led_by_part x one Good ts r (Ok y) e i = record { parts = e ∙ ap (λ (z : Kinds). x ▸ z) i.parts; good = i.good }
led_by_part x one Good ts r (Err f) e i = tt

pub after_holds : {A : Type 0} (x : Terminal) (one : A → Kinds → Kinds) (Good : A → Type 0) (item : Parser A) (ts : Kinds) → ((us : Kinds) → Holds (IsPart one Good us) (item us)) → MayHold (IsPart (led_by x one) Good ts) (after x item ts)
unfolding after
after_holds x one Good item ts h = at_terminal (MayHold (IsPart (led_by x one) Good ts)) x ts (λ r. Some (item r)) None (λ r e. led_by_part x one Good ts r (item r) e (h r)) tt

-- a list is not empty
abbrev pub IsListed : {A : Type 0} → Terminal → (A → Kinds → Kinds) → (A → Type 0) → Kinds → List A → Kinds → Type 0
IsListed x one Good ts [] rest = ⊥
IsListed x one Good ts (a ∷ xs) rest = (ts ≡ one a (all_onto (led_by x one) xs rest)) × Good a × Each Good xs

pub list_holds : {A : Type 0} (x : Terminal) (one : A → Kinds → Kinds) (Good : A → Type 0) (item : Parser A) (ts : Kinds) → ((us : Kinds) → Holds (IsPart one Good us) (item us)) → Holds (λ y. IsListed x one Good ts y.0 y.1) (list_at x item ts)
unfolding list_at
list_holds x one Good item ts h =
    then_holds (IsPart one Good ts) (λ y. IsListed x one Good ts y.0 y.1) (item ts) (λ a. many (after x item) (length a.1) a.1 >>= λ xs. Ok (a.0 ∷ xs.0, xs.1)) (h ts) (λ a i.
    then_holds (IsPart (all_onto (led_by x one)) (Each Good) a.1) (λ y. IsListed x one Good ts y.0 y.1) (many (after x item) (length a.1) a.1) (λ xs. Ok (a.0 ∷ xs.0, xs.1)) (many_hold (led_by x one) Good (after x item) (length a.1) a.1 (λ us. after_holds x one Good item us h)) (λ xs j.
    (i.parts ∙ ap (one a.0) j.parts, i.good, j.good)))

-- ---- frames

mode_is_at : (x : Terminal) (ts : Kinds) → Kept (λ y. x ▸ ts ≡ mode_onto y.0 y.1) (with_rest ts (mode_if x))
mode_is_at m.Rows ts = refl
mode_is_at m.Range ts = refl
mode_is_at m.Groups ts = refl
mode_is_at _ ts = tt

mode_is : (ts : Kinds) → Kept (λ y. ts ≡ mode_onto y.0 y.1) (mode_at ts)
unfolding mode_at
mode_is [] = tt
mode_is (t.Terminal x ∷ ts) = mode_is_at x ts
mode_is (t.Word text ∷ ts) = tt
mode_is (t.Quoted text ∷ ts) = tt
mode_is (t.Literal text ∷ ts) = tt
mode_is (t.Number n ∷ ts) = tt

abbrev side_onto : Bool → Kinds → Kinds
side_onto true ts = k.Preceding ▹ ts
side_onto false ts = k.Following ▹ ts

side_is : (ts : Kinds) → Holds (Spelled side_onto ts) (side_at ts)
unfolding side_at
side_is ts =
    at_word (Holds (Spelled side_onto ts)) k.Preceding ts (λ r. Ok (true, r)) (expect_word k.Following ts >>= λ r. Ok (false, r)) (λ r e. e)
    (past_word (Spelled side_onto ts) k.Following ts (λ r. Ok (false, r)) (λ r e. e))

unbounded_is : (side : Bool) (ts : Kinds) → k.Unbounded ▹ side_onto side ts ≡ bound_onto (unbounded side) ts
unbounded_is true ts = refl
unbounded_is false ts = refl

away_is : (n : ℕ) (side : Bool) (ts : Kinds) → t.Number n ∷ side_onto side ts ≡ bound_onto (away n side) ts
away_is n true ts = refl
away_is n false ts = refl

bound_is : (ts : Kinds) → Holds (Spelled bound_onto ts) (bound_at ts)
unfolding bound_at
bound_is ts =
    let Q : Bound × Kinds → Type 0 = Spelled bound_onto ts in
    at_word (Holds Q) k.Unbounded ts (λ r. side_at r >>= λ side. Ok (unbounded side.0, side.1)) (choose (eat_word k.Current ts) (λ r. expect_word k.Row r >>= λ r. Ok (CurrentRow, r)) (number_at ts >>= λ n. side_at n.1 >>= λ side. Ok (away n.0 side.0, side.1)))
    (λ r e. then_holds (Spelled side_onto r) Q (side_at r) (λ side. Ok (unbounded side.0, side.1)) (side_is r) (λ side f. e ∙ ap (λ (z : Kinds). k.Unbounded ▹ z) f ∙ unbounded_is side.0 side.1))
    (at_word (Holds Q) k.Current ts (λ r. expect_word k.Row r >>= λ r. Ok (CurrentRow, r)) (number_at ts >>= λ n. side_at n.1 >>= λ side. Ok (away n.0 side.0, side.1))
    (λ r e. past_word Q k.Row r (λ r. Ok (CurrentRow, r)) (λ q f. e ∙ ap (λ (z : Kinds). k.Current ▹ z) f))
    (then_holds (λ x. ts ≡ t.Number x.0 ∷ x.1) Q (number_at ts) (λ n. side_at n.1 >>= λ side. Ok (away n.0 side.0, side.1)) (number_is ts) (λ n e.
    then_holds (Spelled side_onto n.1) Q (side_at n.1) (λ side. Ok (away n.0 side.0, side.1)) (side_is n.1) (λ side f. e ∙ ap (λ (z : Kinds). t.Number n.0 ∷ z) f ∙ away_is n.0 side.0 side.1))))

extent_is : (ts : Kinds) → Holds (Spelled extent_onto ts) (extent_at ts)
unfolding extent_at
extent_is ts =
    let Q : Extent × Kinds → Type 0 = Spelled extent_onto ts in
    at_word (Holds Q) k.Between ts (λ r. bound_at r >>= λ a. expect m.And a.1 >>= λ r. bound_at r >>= λ b. Ok (Between a.0 b.0, b.1)) (bound_at ts >>= λ a. Ok (Start a.0, a.1))
    (λ r e. then_holds (Spelled bound_onto r) Q (bound_at r) (λ a. expect m.And a.1 >>= λ r. bound_at r >>= λ b. Ok (Between a.0 b.0, b.1)) (bound_is r) (λ a f.
    past_terminal Q m.And a.1 (λ r. bound_at r >>= λ b. Ok (Between a.0 b.0, b.1)) (λ q g.
    then_holds (Spelled bound_onto q) Q (bound_at q) (λ b. Ok (Between a.0 b.0, b.1)) (bound_is q) (λ b h.
    e ∙ ap (λ (z : Kinds). k.Between ▹ z) (f ∙ ap (bound_onto a.0) (g ∙ ap (λ (z : Kinds). m.And ▸ z) h))))))
    (then_holds (Spelled bound_onto ts) Q (bound_at ts) (λ a. Ok (Start a.0, a.1)) (bound_is ts) (λ a f. f))

excluded_is : (ts : Kinds) → Holds (Spelled excluded_onto ts) (exclusion_words_at ts)
unfolding exclusion_words_at
excluded_is ts =
    let Q : Exclusion × Kinds → Type 0 = Spelled excluded_onto ts in
    at_word (Holds Q) k.Current ts (λ r. expect_word k.Row r >>= λ r. Ok (x.CurrentRow, r)) (choose (eat m.Group ts) (λ r. Ok (x.Group, r)) (choose (eat_word k.Ties ts) (λ r. Ok (x.Ties, r)) (expect_word k.No ts >>= λ r. expect_word k.Others r >>= λ r. Ok (x.NoOthers, r))))
    (λ r e. past_word Q k.Row r (λ r. Ok (x.CurrentRow, r)) (λ q f. e ∙ ap (λ (z : Kinds). k.Current ▹ z) f))
    (at_terminal (Holds Q) m.Group ts (λ r. Ok (x.Group, r)) (choose (eat_word k.Ties ts) (λ r. Ok (x.Ties, r)) (expect_word k.No ts >>= λ r. expect_word k.Others r >>= λ r. Ok (x.NoOthers, r))) (λ r e. e)
    (at_word (Holds Q) k.Ties ts (λ r. Ok (x.Ties, r)) (expect_word k.No ts >>= λ r. expect_word k.Others r >>= λ r. Ok (x.NoOthers, r)) (λ r e. e)
    (past_word Q k.No ts (λ r. expect_word k.Others r >>= λ r. Ok (x.NoOthers, r)) (λ r e.
    past_word Q k.Others r (λ r. Ok (x.NoOthers, r)) (λ q f. e ∙ ap (λ (z : Kinds). k.No ▹ z) f)))))

exclusion_is : (ts : Kinds) → Holds (Spelled exclusion_onto ts) (exclusion_at ts)
unfolding exclusion_at
exclusion_is ts =
    let Q : Option Exclusion × Kinds → Type 0 = Spelled exclusion_onto ts in
    at_word (Holds Q) k.Exclude ts (λ r. exclusion_words_at r >>= λ e. Ok (Some e.0, e.1)) (Ok (None, ts))
    (λ r e. then_holds (Spelled excluded_onto r) Q (exclusion_words_at r) (λ e. Ok (Some e.0, e.1)) (excluded_is r) (λ y f. e ∙ ap (λ (z : Kinds). k.Exclude ▹ z) f))
    refl

frame_if_is : (ts : Kinds) (o : Option (FrameMode × Kinds)) → Kept (λ y. ts ≡ mode_onto y.0 y.1) o → Holds (Spelled frame_onto ts) (frame_if o ts)
frame_if_is ts None k = refl
frame_if_is ts (Some y) k =
    let Q : Option Frame × Kinds → Type 0 = Spelled frame_onto ts in
    then_holds (Spelled extent_onto y.1) Q (extent_at y.1) (λ a. exclusion_at a.1 >>= λ e. Ok (Some (record { mode = y.0; extent = a.0; exclusion = e.0 }), e.1)) (extent_is y.1) (λ a f.
    then_holds (Spelled exclusion_onto a.1) Q (exclusion_at a.1) (λ e. Ok (Some (record { mode = y.0; extent = a.0; exclusion = e.0 }), e.1)) (exclusion_is a.1) (λ e g.
    k ∙ ap (mode_onto y.0) (f ∙ ap (extent_onto a.0) g)))

pub frame_is : (ts : Kinds) → Holds (Spelled frame_onto ts) (frame_at ts)
unfolding frame_at
frame_is ts = frame_if_is ts (mode_at ts) (mode_is ts)

-- ---- sort keys

pub direction_is : (ts : Kinds) → ts ≡ direction_onto (direction_at ts).0 (direction_at ts).1
unfolding direction_at
direction_is ts =
    let P : Option SortDirection × Kinds → Type 0 = λ y. ts ≡ direction_onto y.0 y.1 in
    at_terminal P m.Asc ts (λ r. (Some Ascending, r)) (choose (eat m.Desc ts) (λ r. (Some Descending, r)) (None, ts)) (λ r e. e)
    (at_terminal P m.Desc ts (λ r. (Some Descending, r)) (None, ts) (λ r e. e) refl)

pub nulls_is : (ts : Kinds) → Holds (Spelled nulls_onto ts) (nulls_at ts)
unfolding nulls_at
nulls_is ts =
    let Q : Option NullsPlace × Kinds → Type 0 = Spelled nulls_onto ts in
    at_word (Holds Q) k.Nulls ts (λ r. choose (eat_word k.First r) (λ r. Ok (Some p.First, r)) (expect_word k.Last r >>= λ r. Ok (Some p.Last, r))) (Ok (None, ts))
    (λ r e. at_word (Holds Q) k.First r (λ r. Ok (Some p.First, r)) (expect_word k.Last r >>= λ r. Ok (Some p.Last, r)) (λ q f. e ∙ ap (λ (z : Kinds). k.Nulls ▹ z) f)
    (past_word Q k.Last r (λ r. Ok (Some p.Last, r)) (λ q f. e ∙ ap (λ (z : Kinds). k.Nulls ▹ z) f)))
    refl

base_if_is : (ts : Kinds) (o : Option (Name × Kinds)) → Kept (λ x. ts ≡ name_kind x.0 ∷ x.1) o → ts ≡ base_onto (base_if o ts).0 (base_if o ts).1
base_if_is ts None k = refl
base_if_is ts (Some x) k = k

pub base_is : (ts : Kinds) → ts ≡ base_onto (base_at ts).0 (base_at ts).1
unfolding base_at
base_is ts = base_if_is ts (eat_name ts) (eat_name_is ts)

pub looser_holds : {A : Type 0} (P Q : A → Type 0) (r : Result A Fault) → Holds P r → ((x : A) → P x → Q x) → Holds Q r
looser_holds P Q (Ok x) h k = k x h
looser_holds P Q (Err e) h k = tt
