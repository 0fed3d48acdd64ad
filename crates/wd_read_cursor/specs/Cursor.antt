-- Reading tokens from left to right: what they begin with, what follows it, and why tokens are not read.
use Rattle.std.specs.Prelude.{ℕ, zero, suc, ◌==◌, ◌++◌, if◌then◌else◌, List, [], ◌∷◌, length, Bool, true, false, Option, Some, None, Result, Ok, Err}
use Rattle.std.specs.Str.{bytes_eq}
use Rattle.wd_lex.specs.Terminals.{terminal_code}
use Rattle.wd_lex.specs.declared.token.Terminal.{Terminal}
use Rattle.wd_lex.specs.declared.token.TokenKind.{TokenKind}
use Rattle.wd_lex.specs.declared.token.TokenKind.TheVariants as t
use Rattle.wd_read_cursor.specs.declared.name.Name.{Name}
use Rattle.wd_read_cursor.specs.declared.words.KeyWord.{KeyWord}
use Rattle.wd_read_cursor.specs.Tokens.{Kinds, letters}

-- why tokens are not read, and how many there are from the refused one on
pub data Fault : Type 0 where
  Unexpected : ℕ → Fault
  Limit : ℕ → Fault

infixl 10 ◌>>=◌
abbrev pub ◌>>=◌ : {A B : Type 0} → Result A Fault → (A → Result B Fault) → Result B Fault
(Ok x) >>= f = f x
(Err e) >>= f = Err e

-- what is read, and the tokens after it
abbrev pub Reads : Type 0 → Type 0
Reads A = Result (A × Kinds) Fault

abbrev pub Parser : Type 0 → Type 0
Parser A = Kinds → Reads A

-- what is read, if it begins here
abbrev pub Chance : Type 0 → Type 0
Chance A = Kinds → Option (Reads A)

abbrev pub choose : {B : Type 0} → Option Kinds → (Kinds → B) → B → B
choose (Some ts) f b = f ts
choose None f b = b

-- ---- single tokens

abbrev pub is_terminal : Terminal → TokenKind → Bool
is_terminal x (t.Terminal y) = terminal_code y == terminal_code x
is_terminal x _ = false

-- the tokens after that terminal, if they begin with it
unfoldable pub eat : Terminal → Kinds → Option Kinds
eat x [] = None
eat x (y ∷ ts) = if is_terminal x y then Some ts else None

-- what was found; or the first token is unexpected, where the given number of tokens are left
abbrev pub some_or_unexpected : {A : Type 0} → ℕ → Option A → Result A Fault
some_or_unexpected left (Some x) = Ok x
some_or_unexpected left None = Err (Unexpected left)

unfoldable pub expect : Terminal → Kinds → Result Kinds Fault
expect x ts = some_or_unexpected (length ts) (eat x ts)

abbrev pub is_word : KeyWord → TokenKind → Bool
is_word x (t.Word text) = bytes_eq text (letters x)
is_word x _ = false

unfoldable pub eat_word : KeyWord → Kinds → Option Kinds
eat_word x [] = None
eat_word x (y ∷ ts) = if is_word x y then Some ts else None

unfoldable pub expect_word : KeyWord → Kinds → Result Kinds Fault
expect_word x ts = some_or_unexpected (length ts) (eat_word x ts)

-- the name that a token is
abbrev pub name_of : TokenKind → Option Name
name_of (t.Word text) = Some (record { text = text; quoted = false })
name_of (t.Quoted text) = Some (record { text = text; quoted = true })
name_of _ = None

abbrev pub with_rest : {A : Type 0} → Kinds → Option A → Option (A × Kinds)
with_rest ts None = None
with_rest ts (Some x) = Some (x, ts)

unfoldable pub eat_name : Kinds → Option (Name × Kinds)
eat_name [] = None
eat_name (y ∷ ts) = with_rest ts (name_of y)

unfoldable pub name_at : Parser Name
name_at ts = some_or_unexpected (length ts) (eat_name ts)

unfoldable pub number_at : Parser ℕ
number_at [] = Err (Unexpected 0)
number_at (t.Number n ∷ ts) = Ok (n, ts)
number_at (_ ∷ ts) = Err (Unexpected (suc (length ts)))

-- ---- lists

abbrev pub if_begun : {A : Type 0} → Option (Reads A) → Kinds → (A × Kinds → Reads (List A)) → Reads (List A)
if_begun None ts next = Ok ([], ts)
if_begun (Some r) ts next = r >>= next

-- as many items as begin one after another; the number bounds the turns, and the count of the tokens is always enough
unfoldable pub many : {A : Type 0} → Chance A → ℕ → Parser (List A)
many item zero ts = Ok ([], ts)
many item (suc n) ts = if_begun (item ts) ts (λ a. many item n a.1 >>= λ xs. Ok (a.0 ∷ xs.0, xs.1))

-- what is read after a terminal, if the tokens begin with the terminal
unfoldable pub after : {A : Type 0} → Terminal → Parser A → Chance A
after x item ts = choose (eat x ts) (λ r. Some (item r)) None

-- items with a terminal between them
unfoldable pub list_at : {A : Type 0} → Terminal → Parser A → Parser (List A)
list_at x item ts = item ts >>= λ a. many (after x item) (length a.1) a.1 >>= λ xs. Ok (a.0 ∷ xs.0, xs.1)

-- what was read before, followed by what is still read
abbrev pub with_front : {A : Type 0} → List A → Reads (List A) → Reads (List A)
with_front front read = read >>= λ x. Ok (front ++ x.0, x.1)

abbrev pub try : {A B : Type 0} → Option (Reads A) → (A × Kinds → Reads B) → Reads B → Reads B
try None f other = other
try (Some r) f other = r >>= f

-- what is read if it begins here, or nothing
abbrev pub optional : {A : Type 0} → Chance A → Parser (Option A)
optional item ts = try (item ts) (λ x. Ok (Some x.0, x.1)) (Ok (None, ts))
