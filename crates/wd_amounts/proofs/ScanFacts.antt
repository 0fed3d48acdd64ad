-- How the loop over the tokens of a query goes on that finds the names given in it.
use Rattle.std.proofs.Common.{◌≡◌, ◌∙◌, ◌≤◌, ◌-◌, ◌++◌, ℕ, Bool, List, [], ◌∷◌, length, take, drop, get_or, Option, append_assoc, arith}
use Rattle.std.proofs.lemmas.Grind.{common_steps}
use Rattle.wd_lex.specs.declared.token.Token.{Token}
use Rattle.wd_amounts.specs.declared.scan.ItemOperand.{ItemOperand}
use Rattle.wd_amounts.specs.declared.scan.Scan.{Scan}
use Rattle.wd_units.specs.declared.unit.Unit.{Unit as Counts}
use Rattle.wd_amounts.specs.Names.{current_operand, is_at, level_uses_from, scan_after, use_here}
use Rattle.wd_amounts.specs.Uses.{Use}

following : (token : Token) (tokens : List Token) → take (length (token ∷ tokens) - 1) tokens ≡ tokens
following token tokens = grind (arith, common_steps)

abbrev pub after : List Token → List Token
after tokens = take (length tokens - 1) (drop 1 tokens)

-- what the token at the start gives is added
pub level_uses_more : (unit : List Token → Option Counts) (level : ℕ) (here next : Scan) (tokens : List Token) (first : Token) (is_here : Bool) (found : Option ItemOperand) (old new total : List (Use Counts))
    → 1 ≤ length tokens → first ≡ get_or tokens 0 first → is_here ≡ is_at level here → found ≡ current_operand unit level here tokens → next ≡ scan_after first.kind here.depth found
    → new ≡ old ++ use_here unit is_here found tokens → old ++ level_uses_from unit level here tokens ≡ total → new ++ level_uses_from unit level next (after tokens) ≡ total
unfolding level_uses_from
level_uses_more unit level here next [] first is_here found old new total le is_first at is_found is_next added so_far = absurd (omega arith)
level_uses_more unit level here next (token ∷ tokens) first is_here found old new total le is_first at is_found is_next added so_far =
    let same : first ≡ token = is_first in
    let f = current_operand unit level here (token ∷ tokens) in
    rw (added, is_next, same, at, is_found, following token tokens)
    (append_assoc old (use_here unit (is_at level here) f (token ∷ tokens)) (level_uses_from unit level (scan_after token.kind here.depth f) tokens) ∙ so_far)
