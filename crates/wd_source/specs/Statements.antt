-- The statements of a text.
use Rattle.std.specs.Prelude.{◌≡◌, ◌⊎◌, ℕ, ◌≤◌, Bool, true, false, List, [], ◌∷◌, length, if◌then◌else◌}
use Rattle.wd_lex.specs.declared.token.Span.{Span}
use Rattle.wd_lex.specs.declared.token.Token.{Token}
use Rattle.wd_lex.specs.declared.token.TokenKind.{TokenKind}
use Rattle.wd_lex.specs.declared.token.TokenKind.TheVariants as t
use Rattle.wd_lex.specs.declared.token.Terminal.TheVariants as m
use Rattle.wd_lex.specs.declared.error.LexError.{LexError}
use Rattle.wd_lex.specs.Causes.{HasCause}
use Rattle.wd_lex.specs.Lexed.{IsLexed}

abbrev pub is_semicolon : TokenKind → Bool
is_semicolon (t.Terminal m.Semicolon) = true
is_semicolon (t.Terminal _) = false
is_semicolon (t.Word _) = false
is_semicolon (t.Quoted _) = false
is_semicolon (t.Literal _) = false
is_semicolon (t.Number _) = false

-- a range of a text before others, if a statement has begun in it
abbrev pub if_begun : Bool → Span → List Span → List Span
if_begun true span spans = span ∷ spans
if_begun false span spans = spans

-- The statements of tokens in a text that ends at a byte. The first statement begins at a place, and has begun where one of its tokens
-- comes before these tokens. Each statement ends with a semicolon, the last one at the end of the text. A semicolon alone is no
-- statement.
abbrev pub statements_from : (end start : ℕ) → (begun : Bool) → List Token → List Span
statements_from end start begun [] = if_begun begun (record { start = start; end = end }) []
statements_from end start begun (token ∷ tokens) =
    if is_semicolon token.kind
    then if_begun begun (record { start = start; end = token.span.end }) (statements_from end token.span.end false tokens)
    else statements_from end start true tokens

-- the statements of a text are those of its tokens; a text without tokens is one statement
abbrev pub AreStatements : List ℕ → List Span → Type 0
AreStatements text spans =
    ((tokens : List Token) × IsLexed text tokens × (spans ≡ statements_from (length text) 0 false tokens))
    ⊎ ((refusal : LexError) × HasCause refusal text × (spans ≡ record { start = 0; end = length text } ∷ []))

-- each one comes after the one before it, and all are between two places
abbrev pub StandInOrder : ℕ → List Span → ℕ → Type 0
StandInOrder start [] end = start ≤ end
StandInOrder start (span ∷ spans) end = (start ≤ span.start) × (span.start ≤ span.end) × StandInOrder span.end spans end
