-- The casts of an operand have at least its tokens.
use Rattle.std.proofs.Common.{◌≡◌, ◌∙◌, ◌≤◌, List, [], ◌∷◌, get_or, length, Option, Some, None, ap, sym, subst, length-append, arith}
use Rattle.std.proofs.lemmas.List.{append-nil}
use Rattle.wd_clauses.specs.declared.error.RespellError.{RespellError}
use Rattle.wd_lex.specs.declared.token.Span.{Span}
use Rattle.wd_lex.specs.declared.token.Token.{Token}
use Rattle.wd_casts.specs.declared.equation.Form.{Form}
use Rattle.wd_casts.specs.declared.equation.Form.TheVariants.{Same, DateText, TimestampText, IntervalText, Day, Midnight}
use Rattle.wd_casts.specs.declared.equation.Piece.{Piece}
use Rattle.wd_casts.specs.declared.equation.Piece.TheVariants as p
use Rattle.wd_casts.specs.declared.known.Known.{Known}
use Rattle.wd_casts.specs.declared.term.Cast.{Cast}
use Rattle.wd_casts.specs.Equations.{cast_tokens, equation, piece_tokens, pieces, pieces_tokens}
use Rattle.wd_casts.specs.Known.{known_as}
use Rattle.wd_casts.specs.Walked.{cast_by}
use Rattle.wd_casts.proofs.WriteFacts.{Refused, more_refused}

same_tokens : (at : Span) (operand : List Token) → pieces_tokens at operand (p.Operand ∷ []) ≡ operand
unfolding pieces_tokens
same_tokens at operand = append-nil operand

-- pieces that begin with the operand
operand_first : (at : Span) (operand : List Token) (more : List Piece) → length operand ≤ length (pieces_tokens at operand (p.Operand ∷ more))
unfolding pieces_tokens
operand_first at operand more = omega (arith, length-append operand (pieces_tokens at operand more))

-- and with another piece before it
operand_later : (at : Span) (operand : List Token) (piece : Piece) (more : List Piece) → length operand ≤ length (pieces_tokens at operand more) → length operand ≤ length (pieces_tokens at operand (piece ∷ more))
unfolding pieces_tokens
operand_later at operand piece more le = omega (arith, le, length-append (piece_tokens at operand piece) (pieces_tokens at operand more))

form_grows : (at : Span) (operand : List Token) (form : Form) → length operand ≤ length (pieces_tokens at operand (pieces form))
form_grows at operand Same = operand_first at operand []
form_grows at operand DateText = operand_later at operand _ _ (operand_first at operand [])
form_grows at operand TimestampText = operand_later at operand _ _ (operand_first at operand [])
form_grows at operand IntervalText = operand_later at operand _ _ (operand_first at operand [])
form_grows at operand Day = operand_later at operand _ _ (operand_later at operand _ _ (operand_first at operand _))
form_grows at operand Midnight = operand_later at operand _ _ (operand_first at operand _)

pub cast_grows : (at : Span) (operand : List Token) (form : Option Form) → length operand ≤ length (cast_tokens at operand form)
cast_grows at operand None = omega arith
cast_grows at operand (Some form) = form_grows at operand form

pub casts_grow : (known : Known) (casts : List Cast) (operand : List Token) → length operand ≤ length (cast_by known casts operand)
unfolding cast_by
casts_grow known [] operand = omega arith
casts_grow known (cast ∷ casts) operand =
    let now : length operand ≤ length (cast_tokens cast.at operand (equation known cast.kind)) = cast_grows cast.at operand (equation known cast.kind) in
    let then : length (cast_tokens cast.at operand (equation known cast.kind)) ≤ length (cast_by (known_as known cast.kind) casts (cast_tokens cast.at operand (equation known cast.kind))) = casts_grow (known_as known cast.kind) casts (cast_tokens cast.at operand (equation known cast.kind)) in
    omega (arith, now, then)

-- one cast is too much
pub casts_refused : (refusal : RespellError) (known : Known) (casts : List Cast) (other : Cast) (operand total : List Token) → 1 ≤ length casts
    → Refused refusal (cast_tokens (get_or casts 0 other).at operand (equation known (get_or casts 0 other).kind)) → cast_by known casts operand ≡ total → Refused refusal total
unfolding cast_by
casts_refused refusal known [] other operand total le h e = absurd (omega arith)
casts_refused refusal known (cast ∷ casts) other operand total le h e =
    let few = cast_tokens cast.at operand (equation known cast.kind) in
    more_refused refusal few total (subst (λ (ys : List Token). length few ≤ length ys) e (casts_grow (known_as known cast.kind) casts few)) h

-- an operand as its own type
pub same_form : (at : Span) (operand : List Token) (form found : Option Form) → found ≡ form → found ≡ Some Same → cast_tokens at operand form ≡ operand
same_form at operand form found e is = ap (λ (f : Option Form). cast_tokens at operand f) (sym e ∙ is) ∙ same_tokens at operand
