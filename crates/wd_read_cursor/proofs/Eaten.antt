-- Tokens that are eaten, and tokens that are not.
use Rattle.std.proofs.Common.{◌≡◌, ◌≢◌, ℕ, Bool, true, false, cond, eqb, List, [], ◌∷◌, Some, None, Ok, refl, ap, ◌∙◌, rules}
use Rattle.std.proofs.lemmas.Bool.{eqb-true}
use Rattle.std.proofs.lemmas.Slice.Eq.{bytes_eq-Decides}
use Rattle.std.specs.Str.{bytes_eq}
use Rattle.wd_lex.specs.declared.token.Terminal.{Terminal}
use Rattle.wd_lex.specs.declared.token.TokenKind.{TokenKind}
use Rattle.wd_lex.specs.declared.token.TokenKind.TheVariants as t
use Rattle.wd_lex.specs.Terminals.{terminal_code}
use Rattle.wd_lex.proofs.TerminalLaws.{same_terminal}
use Rattle.wd_read_cursor.specs.declared.words.KeyWord.{KeyWord}
use Rattle.wd_read_cursor.specs.declared.name.Name.{Name}
use Rattle.wd_read_cursor.specs.Tokens.{Kinds, ◌▸◌, ◌▹◌, letters, written, name_kind}
use Rattle.wd_read_cursor.specs.Cursor.{is_terminal, eat, expect, is_word, eat_word, expect_word, name_of, eat_name, name_at}

pub eqb-same : (n : ℕ) → eqb n n ≡ true
eqb-same n = search rules

pub not_same : (a b : ℕ) → a ≢ b → eqb a b ≡ false
not_same a b ne = search rules

bytes-same : (text : List ℕ) → bytes_eq text text ≡ true
bytes-same text = (bytes_eq-Decides text text).1 refl

pub eat_same : (x : Terminal) (ts : Kinds) → eat x (x ▸ ts) ≡ Some ts
unfolding eat
eat_same x ts = rw (eqb-same (terminal_code x)) refl

pub expect_same : (x : Terminal) (ts : Kinds) → expect x (x ▸ ts) ≡ Ok ts
unfolding expect
expect_same x ts = rw (eat_same x ts) refl

pub eat_word_same : (x : KeyWord) (ts : Kinds) → eat_word x (x ▹ ts) ≡ Some ts
unfolding eat_word
eat_word_same x ts = rw (bytes-same (letters x)) refl

pub expect_word_same : (x : KeyWord) (ts : Kinds) → expect_word x (x ▹ ts) ≡ Ok ts
unfolding expect_word
expect_word_same x ts = rw (eat_word_same x ts) refl

-- ---- what was eaten

if_some : (b : Bool) (kinds rest : Kinds) → cond b (Some kinds) None ≡ Some rest → (b ≡ true) × (kinds ≡ rest)
if_some true kinds rest e = (refl, cc)
if_some false kinds rest e = absurd (cc)

is_terminal_is : (x : Terminal) (y : TokenKind) → is_terminal x y ≡ true → y ≡ t.Terminal x
is_terminal_is x (t.Terminal y) e = ap t.Terminal (same_terminal y x (eqb-true (terminal_code y) (terminal_code x) e))
is_terminal_is x (t.Word word) e = absurd (cc)
is_terminal_is x (t.Quoted name) e = absurd (cc)
is_terminal_is x (t.Literal text) e = absurd (cc)
is_terminal_is x (t.Number n) e = absurd (cc)

is_word_is : (x : KeyWord) (y : TokenKind) → is_word x y ≡ true → y ≡ t.Word (letters x)
is_word_is x (t.Word word) e = ap t.Word ((bytes_eq-Decides word (letters x)).0 e)
is_word_is x (t.Terminal y) e = absurd (cc)
is_word_is x (t.Quoted name) e = absurd (cc)
is_word_is x (t.Literal text) e = absurd (cc)
is_word_is x (t.Number n) e = absurd (cc)

pub eat_is : (x : Terminal) (ts rest : Kinds) → eat x ts ≡ Some rest → ts ≡ x ▸ rest
unfolding eat
eat_is x [] rest e = absurd (cc)
eat_is x (y ∷ ts) rest e = let found = if_some (is_terminal x y) ts rest e in ap (λ z. z ∷ ts) (is_terminal_is x y found.0) ∙ ap (λ z. x ▸ z) found.1

pub eat_word_is : (x : KeyWord) (ts rest : Kinds) → eat_word x ts ≡ Some rest → ts ≡ x ▹ rest
unfolding eat_word
eat_word_is x [] rest e = absurd (cc)
eat_word_is x (y ∷ ts) rest e = let found = if_some (is_word x y) ts rest e in ap (λ z. z ∷ ts) (is_word_is x y found.0) ∙ ap (λ z. x ▹ z) found.1

-- ---- names

written_is : (b : Bool) (text : List ℕ) → name_of (written b text) ≡ Some (record { text = text; quoted = b })
written_is true text = refl
written_is false text = refl

pub eat_name_same : (n : Name) (ts : Kinds) → eat_name (name_kind n ∷ ts) ≡ Some (n, ts)
unfolding eat_name
eat_name_same n ts = rw (written_is n.quoted n.text) refl

pub name_at_same : (n : Name) (ts : Kinds) → name_at (name_kind n ∷ ts) ≡ Ok (n, ts)
unfolding name_at
name_at_same n ts = rw (eat_name_same n ts) refl

-- a name is no terminal
eat_written : (x : Terminal) (b : Bool) (text : List ℕ) (ts : Kinds) → eat x (written b text ∷ ts) ≡ None
unfolding eat
eat_written x true text ts = refl
eat_written x false text ts = refl

pub eat_name_kind : (x : Terminal) (n : Name) (ts : Kinds) → eat x (name_kind n ∷ ts) ≡ None
eat_name_kind x n ts = eat_written x n.quoted n.text ts

-- a terminal that is not the first
eat_other_by : (x : Terminal) (y : Terminal) (ts : Kinds) (b : Bool) → eqb (terminal_code y) (terminal_code x) ≡ b → (y ≡ x → ⊥) → cond b (Some ts) None ≡ None
eat_other_by x y ts true e ne = absurd (ne (same_terminal y x (eqb-true (terminal_code y) (terminal_code x) e)))
eat_other_by x y ts false e ne = refl

pub eat_other : (x y : Terminal) (ts : Kinds) → (y ≡ x → ⊥) → eat x (y ▸ ts) ≡ None
unfolding eat
eat_other x y ts ne = eat_other_by x y ts (eqb (terminal_code y) (terminal_code x)) refl ne
