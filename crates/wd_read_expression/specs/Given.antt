-- Levels, and what the code's values show.
use Rattle.std.specs.Prelude.{◌≡◌, ℕ, suc, Bool, true, false, List, map, Option, Some, None, Result, MatchResult}
use Rattle.std.proofs.Common.{Vec, Global}
use Rattle.wd_syntax.specs.declared.expression.Expr.{Expr}
use Rattle.wd_syntax.specs.declared.expression.Height.{Height}
use Rattle.wd_syntax.specs.declared.expression.Height.TheVariants as h
use Rattle.wd_syntax.specs.Tree.{Tree}
use Rattle.wd_syntax.specs.View.{view}
use Rattle.wd_read_cursor.specs.declared.refusal.Refusal.{Refusal}
use Rattle.wd_read_cursor.specs.declared.refusal.Refusal.TheVariants as r

-- One level fewer is left, or none was left and the refusal is the limit's at this place.
abbrev pub MakesDeeper : ℕ → ℕ → Result ℕ Refusal → Type 0
MakesDeeper depth left result = MatchResult result (λ inside. depth ≡ suc inside) (λ refusal. (depth ≡ 0) × (refusal ≡ r.PastLimit left))

-- the heights of chains of operators
abbrev pub is_chain : Height → Bool
is_chain h.Product = true
is_chain h.Sum = true
is_chain h.Conjunction = true
is_chain h.Disjunction = true
is_chain _ = false

-- the arguments of a call, or `*`
abbrev pub view_arguments : Option (Vec Expr Global) → Option (List Tree)
view_arguments None = None
view_arguments (Some arguments) = Some (map view arguments.items)
