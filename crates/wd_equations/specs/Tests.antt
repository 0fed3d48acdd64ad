-- Which test comes after an operand, and its parts.
use Rattle.std.specs.Str.{bytes_eq}
use Rattle.std.specs.Prelude.{◌||◌, not, codes, Bool, true, false, if◌then◌else◌, List, [], ◌∷◌, Option, Some, None}
use Rattle.wd_lex.specs.declared.token.Terminal.TheVariants as m
use Rattle.wd_lex.specs.declared.token.Span.{Span}
use Rattle.wd_lex.specs.declared.token.Token.{Token}
use Rattle.wd_lex.specs.declared.token.TokenKind.{TokenKind}
use Rattle.wd_lex.specs.declared.token.TokenKind.TheVariants as t
use Rattle.wd_equations.specs.declared.equation.Form.{Form}
use Rattle.wd_equations.specs.declared.equation.Form.TheVariants as form
use Rattle.wd_equations.specs.declared.found.Before.{Before}
use Rattle.wd_equations.specs.declared.found.Before.TheVariants.{Open, Compared, Inside}
use Rattle.wd_equations.specs.Parts.{values_of}
use Rattle.wd_equations.specs.Places.{Place, place}
use Rattle.wd_operands.specs.Parts.{brackets_at, operand_at}
use Rattle.wd_equations.specs.Tokens.{◌>>=◌, goes_on, is_terminal, is_word, past}

-- by the tokens after something that may come first, or else by the tokens themselves
abbrev pub choose : {A : Type 0} → Option (List Token) → (List Token → A) → A → A
choose (Some rest) found other = found rest
choose None found other = other

-- ---- BETWEEN and IN

unfoldable pub begins_symmetry : List Token → Bool
begins_symmetry [] = false
begins_symmetry (token ∷ tokens) = is_word (codes "symmetric") token.kind || is_word (codes "asymmetric") token.kind

-- x [NOT] BETWEEN a AND b, after BETWEEN; not with SYMMETRIC or ASYMMETRIC
unfoldable pub between_after : Bool → Span → List Token → List Token → Option Place
between_after is_not at tested tokens =
    if begins_symmetry tokens then None
    else (operand_at tokens >>= λ low. past m.And low.1 >>= λ rest. operand_at rest >>= λ high. Some (place form.Between is_not at (tested ∷ low.0 ∷ high.0 ∷ []) high.1))

-- a query begins with SELECT, WITH, TABLE or VALUES, or with a query in brackets
abbrev pub is_query_word : TokenKind → Bool
is_query_word (t.Terminal m.Select) = true
is_query_word (t.Terminal m.With) = true
is_query_word (t.Terminal m.Table) = true
is_query_word (t.Word text) = bytes_eq text (codes "values")
is_query_word _ = false

unfoldable pub begins_query : List Token → Bool
begins_query [] = false
begins_query (token ∷ tokens) = if is_terminal m.LeftBracket token.kind then begins_query tokens else is_query_word token.kind

-- whether tokens begin with a list of values that is not a query
unfoldable pub begins_list : List Token → Bool
begins_list [] = false
begins_list (token ∷ tokens) = not (begins_query (token ∷ tokens))

-- x [NOT] IN (a, b, ..), after IN
unfoldable pub among_after : Bool → Span → List Token → List Token → Option Place
among_after is_not at tested tokens =
    brackets_at tokens >>= λ list. if begins_list list.0 then Some (place form.Among is_not at (tested ∷ values_of list.0) list.1) else None

unfoldable pub word_test : Bool → List Token → List Token → Option Place
word_test is_not tested [] = None
word_test is_not tested (token ∷ tokens) =
    if is_word (codes "between") token.kind then between_after is_not token.span tested tokens
    else (if is_word (codes "in") token.kind then among_after is_not token.span tested tokens else None)

-- [NOT] BETWEEN .. | [NOT] IN ..
unfoldable pub word_test_at : List Token → List Token → Option Place
word_test_at tested tokens = choose (past m.Not tokens) (λ rest. word_test true tested rest) (word_test false tested tokens)

-- ---- IS

-- x IS [NOT] DISTINCT FROM y, after DISTINCT, where y is the whole right side
unfoldable pub distinct_after : Bool → Span → List Token → List Token → Option Place
distinct_after is_not at tested tokens =
    past m.From tokens >>= λ rest. operand_at rest >>= λ other. if goes_on other.1 then None else Some (place form.Distinct is_not at (tested ∷ other.0 ∷ []) other.1)

abbrev pub truth_form : TokenKind → Option Form
truth_form (t.Terminal m.True) = Some form.IsTrue
truth_form (t.Terminal m.False) = Some form.IsFalse
truth_form (t.Word text) = if bytes_eq text (codes "unknown") then Some form.IsUnknown else None
truth_form _ = None

-- x IS [NOT] TRUE | FALSE | UNKNOWN, from that word on
unfoldable pub truth_after : Bool → Span → List Token → List Token → Option Place
truth_after is_not at tested [] = None
truth_after is_not at tested (token ∷ tokens) =
    truth_form token.kind >>= λ found. if goes_on tokens then None else Some (place found is_not at (tested ∷ []) tokens)

unfoldable pub is_test : Bool → Span → List Token → List Token → Option Place
is_test is_not at tested tokens = choose (past m.Distinct tokens) (λ rest. distinct_after is_not at tested rest) (truth_after is_not at tested tokens)

-- [NOT] DISTINCT FROM .. | [NOT] TRUE | [NOT] FALSE | [NOT] UNKNOWN
unfoldable pub is_after : Span → List Token → List Token → Option Place
is_after at tested tokens = choose (past m.Not tokens) (λ rest. is_test true at tested rest) (is_test false at tested tokens)

-- ---- tests of the operand that begins here

unfoldable pub test_after : List Token → List Token → Option Place
test_after tested [] = None
test_after tested (token ∷ tokens) = if is_terminal m.Is token.kind then is_after token.span tested tokens else word_test_at tested (token ∷ tokens)

-- any test where the operand is the whole left side; BETWEEN and IN after a comparison too; none within an operand
abbrev pub test_of : Before → List Token → List Token → Option Place
test_of Open tested rest = test_after tested rest
test_of Compared tested rest = word_test_at tested rest
test_of Inside tested rest = None

abbrev pub is_inside : Before → Bool
is_inside Inside = true
is_inside _ = false

unfoldable pub test_at : Before → List Token → Option Place
test_at before tokens = if is_inside before then None else (operand_at tokens >>= λ tested. test_of before tested.0 tested.1)
