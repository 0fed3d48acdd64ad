-- The row of a group, one call on.
use Rattle.std.proofs.Common.{◌≡◌, ℕ, zero, suc, ◌<◌, List, [], ◌∷◌, ◌++◌, length, get_or, map, Option, Result, Ok, Err, sym, ◌∙◌, ap, arith}
use Rattle.std.specs.List.{AllByRecursion}
use Rattle.std.proofs.lemmas.List.{append_assoc}
use Rattle.wd_value.specs.declared.value.Value.{Value}
use Rattle.wd_value.specs.declared.value.Fault.{Fault}
use Rattle.wd_value.specs.Rows.{Row}
use Rattle.wd_plan.specs.Faults.{least_fault, values_among}
use Rattle.wd_plan.specs.Plans.{GroupCall, HasMask, group_call_of}
use Rattle.wd_plan.specs.declared.group.GroupCall.{GroupCall as CodeGroupCall}
use Rattle.wd_steps.specs.Faults.{with_fault}
use Rattle.wd_steps.proofs.Results.{least_fault-push, values_among-push_err, values_among-push_ok}

-- what is shown of a group, then the values among these results; and their least fault
pub record IsRowSoFar (front : Row) (results : List (Result Value Fault)) (row : Row) (fault : Option Fault) : Type 0 where
  pub row_is : row ≡ front ++ values_among results
  pub fault_is : fault ≡ least_fault results

module _ {front : Row} {results more : List (Result Value Fault)} {row next : Row} {fault after : Option Fault} (r : Result Value Fault) (so_far : IsRowSoFar front results row fault) (longer : more ≡ results ++ r ∷ []) where
  -- a value more
  pub IsRowSoFar-more_ok : (v : Value) → r ≡ Ok v → next ≡ row ++ v ∷ [] → after ≡ fault → IsRowSoFar front more next after
  IsRowSoFar-more_ok v is grown same = record {
    row_is = grown ∙ ap (λ l. l ++ v ∷ []) so_far.row_is ∙ append_assoc front (values_among results) (v ∷ [])
        ∙ ap (λ l. front ++ l) (sym (values_among-push_ok results v) ∙ sym (ap values_among (longer ∙ ap (λ x. results ++ x ∷ []) is)));
    fault_is = same ∙ so_far.fault_is ∙ sym (ap least_fault (longer ∙ ap (λ x. results ++ x ∷ []) is) ∙ least_fault-push results (Ok v));
  }

  -- a fault more
  pub IsRowSoFar-more_err : (found : Fault) → r ≡ Err found → next ≡ row → after ≡ with_fault fault found → IsRowSoFar front more next after
  IsRowSoFar-more_err found is same met = record {
    row_is = same ∙ so_far.row_is ∙ ap (λ l. front ++ l) (sym (values_among-push_err results found) ∙ sym (ap values_among (longer ∙ ap (λ x. results ++ x ∷ []) is)));
    fault_is = met ∙ ap (λ f. with_fault f found) so_far.fault_is ∙ sym (ap least_fault (longer ∙ ap (λ x. results ++ x ∷ []) is) ∙ least_fault-push results (Err found));
  }

-- the mask of the call at a place
pub mask_at : (calls : List CodeGroupCall) (k : ℕ) (d : CodeGroupCall) → k < length calls → AllByRecursion (λ (call : GroupCall). HasMask call) (map group_call_of calls) → HasMask (group_call_of (get_or calls k d))
mask_at [] k d h a = absurd (omega arith)
mask_at (call ∷ calls) zero d h a = a.0
mask_at (call ∷ calls) (suc k) d h a = mask_at calls k d (omega arith) a.1
