-- Lists that grow at their end, and what is left of them.
use Rattle.std.proofs.Common.{◌≡◌, ℕ, zero, suc, ◌+◌, List, [], ◌∷◌, ◌++◌, add-one, ap, arith}
use Rattle.std.specs.List.{range_with_len}
use Rattle.std.proofs.lemmas.List.{append_assoc}
use Rattle.wd_plan.specs.declared.window.Call.{Call}
use Rattle.wd_plan.specs.Expressions.{Expression}
use Rattle.wd_plan.specs.Outcomes.{class_at}
use Rattle.wd_plan.specs.Plans.{WindowRule}
use Rattle.wd_step_facts.specs.Facts.{Fact}
use Rattle.wd_step_facts.specs.Steps.{call_facts, calls_facts, output_facts, outputs_facts}

pub range_more : (a n j : ℕ) → a + n ≡ j → range_with_len a (suc n) ≡ range_with_len a n ++ (j ∷ [])
range_more a zero j e = ap (λ x. x ∷ []) (omega arith)
range_more a (suc n) j e = ap (λ l. a ∷ l) (range_more (a + 1) n j (omega arith))

pub columns_more : (n : ℕ) → range_with_len 0 (n + 1) ≡ range_with_len 0 n ++ (n ∷ [])
columns_more n = rw add-one (range_more 0 n n (omega arith))

-- ---- facts of calls and of outputs, one after another

pub calls_next : (rule : WindowRule) (front : List Fact) (w : ℕ) (call : Call) (calls : List Call) → (front ++ call_facts (class_at rule call.class) call.frame call.function w) ++ calls_facts rule (w + 1) calls ≡ front ++ calls_facts rule w (call ∷ calls)
calls_next rule front w call calls = append_assoc front (call_facts (class_at rule call.class) call.frame call.function w) (calls_facts rule (w + 1) calls)

pub outputs_next : (m j : ℕ) (front : List Fact) (e : Expression) (es : List Expression) → (front ++ output_facts m j e) ++ outputs_facts m (j + 1) es ≡ front ++ outputs_facts m j (e ∷ es)
outputs_next m j front e es = append_assoc front (output_facts m j e) (outputs_facts m (j + 1) es)
