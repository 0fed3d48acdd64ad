-- How the loop over the pieces of an equation goes on.
use Rattle.std.proofs.Common.{◌≡◌, ◌∙◌, ◌<◌, ◌≤◌, ◌-◌, ◌++◌, List, [], ◌∷◌, get_or, length, take, drop, refl, ap, sym, arith}
use Rattle.std.proofs.lemmas.Grind.{common_steps}
use Rattle.wd_lex.specs.declared.token.Span.{Span}
use Rattle.wd_lex.specs.declared.token.Token.{Token}
use Rattle.wd_equations.specs.declared.equation.Piece.{Piece}
use Rattle.wd_equations.specs.declared.error.ExpandError.{ExpandError}
use Rattle.wd_equations.specs.Given.{Fails}
use Rattle.wd_equations.specs.Expanded.{piece_tokens, pieces_tokens}
use Rattle.wd_equations.proofs.AddFacts.{adds_fail, adds_more}

following : (piece : Piece) (pieces : List Piece) → take (length (piece ∷ pieces) - 1) pieces ≡ pieces
following piece pieces = grind (arith, common_steps)

pieces_one : (inner : List Token → List Token) (at : Span) (parts : List (List Token)) (pieces : List Piece) (other : Piece) → 1 ≤ length pieces
    → pieces_tokens inner at parts pieces ≡ piece_tokens inner at parts (get_or pieces 0 other) ++ pieces_tokens inner at parts (take (length pieces - 1) (drop 1 pieces))
unfolding pieces_tokens
pieces_one inner at parts [] other le = absurd (omega arith)
pieces_one inner at parts (piece ∷ pieces) other le = ap (λ more. piece_tokens inner at parts piece ++ pieces_tokens inner at parts more) (sym (following piece pieces))

pub pieces_more : (inner : List Token → List Token) (at : Span) (parts : List (List Token)) (pieces : List Piece) (other : Piece) (old mid new total : List Token) → 1 ≤ length pieces
    → new ≡ mid ++ piece_tokens inner at parts (get_or pieces 0 other) → mid ++ pieces_tokens inner at parts pieces ≡ old ++ total
    → new ++ pieces_tokens inner at parts (take (length pieces - 1) (drop 1 pieces)) ≡ old ++ total
pieces_more inner at parts pieces other old mid new total le added so_far =
    adds_more mid new (piece_tokens inner at parts (get_or pieces 0 other)) (pieces_tokens inner at parts (take (length pieces - 1) (drop 1 pieces))) old total added
    (ap (λ ys. mid ++ ys) (sym (pieces_one inner at parts pieces other le)) ∙ so_far)

pub pieces_fail : (refusal : ExpandError) (inner : List Token → List Token) (at : Span) (parts : List (List Token)) (pieces : List Piece) (other : Piece) (old mid total : List Token) → 1 ≤ length pieces
    → Fails refusal mid (piece_tokens inner at parts (get_or pieces 0 other)) → mid ++ pieces_tokens inner at parts pieces ≡ old ++ total → Fails refusal old total
pieces_fail refusal inner at parts pieces other old mid total le added so_far =
    adds_fail refusal mid (piece_tokens inner at parts (get_or pieces 0 other)) (pieces_tokens inner at parts (take (length pieces - 1) (drop 1 pieces))) old total added
    (ap (λ ys. mid ++ ys) (sym (pieces_one inner at parts pieces other le)) ∙ so_far)

pub pieces_none : (inner : List Token → List Token) (at : Span) (parts : List (List Token)) (pieces : List Piece) → length pieces < 1 → pieces_tokens inner at parts pieces ≡ []
unfolding pieces_tokens
pieces_none inner at parts [] lt = refl
pieces_none inner at parts (piece ∷ pieces) lt = absurd (omega arith)
