-- The keys that a Window's calls ask for.
use Rattle.std.proofs.Common.{◌≡◌, ℕ, ◌<◌, ◌&&◌, true, length, get_or, sym, ap, ◌∙◌}
use Rattle.std.specs.Prelude.{nat_eq}
use Rattle.std.proofs.lemmas.List.Folds.{list_any_at}
use Rattle.std.proofs.lemmas.Cmp.{nat_eq_equiv}
use Rattle.wd_plan.specs.declared.window.Call.{Call}
use Rattle.wd_plan.specs.Plans.{WindowRule}
use Rattle.wd_frame.specs.Laws.{has_range_offset}
use Rattle.wd_eval.specs.ClassIndexes.{AreAskedBy, asks_keys}

-- a call of a Window whose frame needs keys asks for those of its class
pub asked_by_own : (w : WindowRule) (i : ℕ) (call : Call) → i < length w.calls → call ≡ get_or w.calls i call → AreAskedBy call.frame (asks_keys w call.class)
asked_by_own w i call lt is h =
    let asks = λ (other : Call). nat_eq other.class call.class && has_range_offset other.frame in
    let own : asks call ≡ true = (λ j. nat_eq_equiv.refl call.class j && h j) in
    list_any_at asks w.calls i call lt (ap asks (sym is) ∙ own)
