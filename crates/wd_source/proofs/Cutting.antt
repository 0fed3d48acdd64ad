-- Cutting tokens into statements, a token at a time.
use Rattle.std.proofs.Common.{◌≡◌, ◌∙◌, ℕ, ◌+◌, ◌<◌, ◌≤◌, Bool, true, false, List, [], ◌∷◌, ◌++◌, length, drop, append_assoc, refl, sym, ap, arith, get_or, suc, add-one, drop-cons}
use Rattle.wd_lex.specs.declared.token.Span.{Span}
use Rattle.wd_lex.specs.declared.token.Token.{Token}
use Rattle.wd_lex.specs.Lexed.{AreInOrder}
use Rattle.wd_source.specs.Statements.{StandInOrder, if_begun, is_semicolon, statements_from}

-- spans that stand in order up to a place do so up to a later one
pub stand_later : (start place later : ℕ) (spans : List Span) → place ≤ later → StandInOrder start spans place → StandInOrder start spans later
stand_later start place later [] h s = omega (arith, h, s)
stand_later start place later (span ∷ spans) h s = (s.0, s.1, stand_later span.end place later spans h s.2)

-- a further one after them
pub stand_more : (start place : ℕ) (spans : List Span) (span : Span) → place ≤ span.start → span.start ≤ span.end → StandInOrder start spans place → StandInOrder start (spans ++ span ∷ []) span.end
stand_more start place [] span a b s = (omega (arith, a, s), b, omega arith)
stand_more start place (first ∷ spans) span a b s = (s.0, s.1, stand_more first.end place spans span a b s.2)

-- a range where something stands in it, before others
pub if_begun-before : (begun : Bool) (span : Span) (spans : List Span) → if_begun begun span spans ≡ if_begun begun span [] ++ spans
if_begun-before true span spans = refl
if_begun-before false span spans = refl

-- a semicolon ends a statement
pub cut_at : (found : List Span) (end start : ℕ) (begun : Bool) (token : Token) (rest : List Token) → is_semicolon token.kind ≡ true
    → (found ++ if_begun begun (record { start = start; end = token.span.end }) []) ++ statements_from end token.span.end false rest ≡ found ++ statements_from end start begun (token ∷ rest)
cut_at found end start begun token rest h =
    rw h (rw (if_begun-before begun (record { start = start; end = token.span.end }) (statements_from end token.span.end false rest)) (append_assoc found _ _))

-- another token goes on with one
pub go_on : (found : List Span) (end start : ℕ) (begun : Bool) (token : Token) (rest : List Token) → is_semicolon token.kind ≡ false
    → found ++ statements_from end start true rest ≡ found ++ statements_from end start begun (token ∷ rest)
go_on found end start begun token rest h = rw h refl

-- tokens in order after a place are so after an earlier one
pub order_before : (earlier start : ℕ) (tokens : List Token) (end : ℕ) → earlier ≤ start → AreInOrder start tokens end → AreInOrder earlier tokens end
order_before earlier start [] end h o = omega (arith, h, o)
order_before earlier start (token ∷ tokens) end h o = (omega (arith, h, o.0), o.1, o.2)

-- The tokens up to the rest are cut: what stands in order, what is left, and that both make up the statements of all.
pub record IsCutUpTo (end : ℕ) (tokens rest : List Token) (found : List Span) (start : ℕ) (begun : Bool) : Type 0 where
  pub left : AreInOrder start rest end
  pub stand : StandInOrder 0 found start
  pub all : found ++ statements_from end start begun rest ≡ statements_from end 0 false tokens

-- past a semicolon
pub past_semicolon : (end : ℕ) (tokens rest : List Token) (found : List Span) (start : ℕ) (begun : Bool) (token : Token) (next : List Span)
    → IsCutUpTo end tokens (token ∷ rest) found start begun → is_semicolon token.kind ≡ true → next ≡ found ++ if_begun begun (record { start = start; end = token.span.end }) []
    → (StandInOrder 0 found start → StandInOrder 0 next token.span.end) → IsCutUpTo end tokens rest next token.span.end false
past_semicolon end tokens rest found start begun token next is h e order = record {
  left = is.left.2;
  stand = order is.stand;
  all = ap (λ (spans : List Span). spans ++ statements_from end token.span.end false rest) e ∙ (cut_at found end start begun token rest h ∙ is.all);
}

-- past another token
pub past_other : (end : ℕ) (tokens rest : List Token) (found : List Span) (start : ℕ) (begun : Bool) (token : Token)
    → IsCutUpTo end tokens (token ∷ rest) found start begun → is_semicolon token.kind ≡ false → IsCutUpTo end tokens rest found start true
past_other end tokens rest found start begun token is h = record {
  left = order_before start token.span.end rest end (omega (arith, is.left.0, is.left.1)) is.left.2;
  stand = is.stand;
  all = go_on found end start begun token rest h ∙ is.all;
}

-- the token at a place, and those after it
pub at_token : (tokens : List Token) (i : ℕ) (token : Token) → i < length tokens → token ≡ get_or tokens i token → drop i tokens ≡ token ∷ drop (i + 1) tokens
at_token tokens i token h is = rw add-one (drop-cons tokens i token h ∙ ap (λ (t : Token). t ∷ drop (suc i) tokens) (sym is))
