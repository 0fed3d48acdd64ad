-- Lists of things with a terminal between them, printed one after the other.
use Rattle.std.proofs.Common.{◌≡◌, ℕ, Bool, true, not, cond, nat_eq, List, [], ◌∷◌, ◌++◌, length, map, ap, ◌∙◌, arith, ne_eqb}
use Rattle.wd_lex.specs.declared.token.Terminal.{Terminal}
use Rattle.wd_read_cursor.specs.Tokens.{Kinds, ◌▸◌}
use Rattle.wd_read_statements.specs.Grammar.{listed}
use Rattle.wd_print.specs.Printed.{printed}

-- a list is its first thing, a terminal where more follow, and these
pub listed_first : {X A : Type 0} (tree : X → A) (spell : A → Kinds → Kinds) (terminal : Terminal) (first : X) (others : List X) (more : Bool) (rest : Kinds)
    → more ≡ not (nat_eq (length others) 0)
    → spell (tree first) (cond more (terminal ▸ listed terminal spell (map tree others) rest) (listed terminal spell (map tree others) rest)) ≡ listed terminal spell (tree first ∷ map tree others) rest
listed_first tree spell terminal first [] more rest e = ap (λ b. spell (tree first) (cond b (terminal ▸ rest) rest)) e
listed_first tree spell terminal first (second ∷ others) more rest e =
    ap (λ b. spell (tree first) (cond b (terminal ▸ listed terminal spell (tree second ∷ map tree others) rest) (listed terminal spell (tree second ∷ map tree others) rest))) (e ∙ some)
  where
    some : not (nat_eq (length (second ∷ others)) 0) ≡ true
    some = ap not (ne_eqb (length (second ∷ others)) 0 (λ none. absurd (omega arith)))

-- one step of printing a list
pub list_step : {X A : Type 0} (tree : X → A) (spell : A → Kinds → Kinds) (terminal : Terminal) (first : X) (others : List X) (more : Bool) (before written after : List ℕ) (rest : Kinds)
    → more ≡ not (nat_eq (length others) 0)
    → ((r : Kinds) → written ++ printed r ≡ before ++ printed (spell (tree first) r))
    → ((r : Kinds) → after ++ printed r ≡ written ++ printed (cond more (terminal ▸ r) r))
    → after ++ printed (listed terminal spell (map tree others) rest) ≡ before ++ printed (listed terminal spell (tree first ∷ map tree others) rest)
list_step tree spell terminal first others more before written after rest e wrote separated =
    separated (listed terminal spell (map tree others) rest) ∙ wrote (cond more (terminal ▸ listed terminal spell (map tree others) rest) (listed terminal spell (map tree others) rest))
    ∙ ap (λ kinds. before ++ printed kinds) (listed_first tree spell terminal first others more rest e)
