-- Calls that each name a class.
use Rattle.std.proofs.Common.{◌≡◌, ℕ, zero, suc, ◌<◌, List, [], ◌∷◌, length, get_or, sym, subst, arith}
use Rattle.wd_plan.specs.declared.window.Call.{Call}
use Rattle.wd_plan.specs.Plans.{NameBelow}

-- the call at a place of a list whose calls all name classes
pub named_at : (count : ℕ) (calls : List Call) (call : Call) (i : ℕ) → NameBelow count calls → i < length calls → call ≡ get_or calls i call → call.class < count
named_at count [] call i all within is = absurd (omega arith)
named_at count (first ∷ calls) call zero all within is = subst (λ (c : Call). c.class < count) (sym is) all.0
named_at count (first ∷ calls) call (suc i) all within is = named_at count calls call i all.1 (omega arith) is
