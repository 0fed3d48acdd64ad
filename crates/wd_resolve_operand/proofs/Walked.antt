-- What is still to be done is done from the last on.
use Rattle.std.proofs.Common.{◌≡◌, ◌∙◌, refl, sym, ap, List, [], ◌∷◌, ◌++◌, map, Bor, Err}
use Rattle.std.proofs.lemmas.List.{append-nil, append_assoc}
use Rattle.wd_resolve_operand.specs.declared.expression.BoundExpression.{BoundExpression as Code}
use Rattle.wd_resolve_operand.specs.BoundExpressions.{bound_expression_of, references}
use Rattle.wd_resolve_operand.specs.declared.walk.Pending.{Pending}
use Rattle.wd_resolve_operand.specs.declared.cause.Cause.{Cause}
use Rattle.wd_resolve_operand.specs.Causes.{Meant, ◌>>=◌}
use Rattle.wd_resolve_operand.specs.Mappings.{Making, all_closed, closed, waiting}

module _ {K L T S : Type 0} (read : K → L) (shown : T → S) (made : Making S) (reference : L → Meant S) where
  -- the last first
  pub all_closed_push : (outer : List (Pending K T)) (last : Pending K T) (x : Meant S) → all_closed read shown made reference (outer ++ last ∷ []) x ≡ all_closed read shown made reference outer (x >>= λ y. closed read shown made reference last y)
  all_closed_push [] last x = refl
  all_closed_push (first ∷ outer) last x = ap (λ m. m >>= λ y. closed read shown made reference first y) (all_closed_push outer last x)

  -- where a part has no meaning, the whole has none
  pub all_closed_err : (outer : List (Pending K T)) (cause : Cause) → all_closed read shown made reference outer (Err cause) ≡ Err cause
  all_closed_err [] cause = refl
  all_closed_err (first ∷ outer) cause = ap (λ m. m >>= λ y. closed read shown made reference first y) (all_closed_err outer cause)

-- the expression that waits last is looked at first
pub waiting_push : {K L : Type 0} (shown : K → L) (fs : List (Bor (Code K))) (f : Bor (Code K)) → waiting shown (fs ++ f ∷ []) ≡ references (bound_expression_of shown f.now) ++ waiting shown fs
waiting_push shown [] f = sym (append-nil (references (bound_expression_of shown f.now)))
waiting_push shown (g ∷ fs) f = ap (λ l. l ++ references (bound_expression_of shown g.now)) (waiting_push shown fs f) ∙ append_assoc (references (bound_expression_of shown f.now)) (waiting shown fs) (references (bound_expression_of shown g.now))

-- a reference that was found stands before what waits
pub found_push : {K L : Type 0} (shown : K → L) (found : List (Bor K)) (k : Bor K) (rest : List L) → map (λ (b : Bor K). shown b.now) (found ++ k ∷ []) ++ rest ≡ map (λ (b : Bor K). shown b.now) found ++ (shown k.now ∷ rest)
found_push shown [] k rest = refl
found_push shown (f ∷ found) k rest = ap (λ l. shown f.now ∷ l) (found_push shown found k rest)
