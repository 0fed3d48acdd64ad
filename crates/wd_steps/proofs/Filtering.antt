-- The rows for which a condition is true, and the least fault of the condition, one row on and at the end.
use Rattle.std.proofs.Common.{◌≡◌, ℕ, ◌+◌, ◌<◌, ◌≤◌, Bool, true, false, cond, List, [], ◌∷◌, ◌++◌, map, filter, take, length, Option, sym, ap, ◌∙◌, subst}
use Rattle.std.proofs.lemmas.List.{append-nil, map_push, take_all, take_more}
use Rattle.std.proofs.lemmas.List.Elements.{filter-append}
use Rattle.wd_value.specs.declared.value.Fault.{Fault}
use Rattle.wd_value.specs.Rows.{Row, row_at, rows_at}
use Rattle.wd_plan.specs.Expressions.{Expression, value_of}
use Rattle.wd_plan.specs.Faults.{least_fault, unless}
use Rattle.wd_plan.specs.Outcomes.{filter_outcome, passes}
use Rattle.wd_steps.specs.Faults.{with_result}
use Rattle.wd_steps.proofs.Results.{least_fault-push}
use Rattle.wd_steps.proofs.Rising.{AreRisingTo, rising_dropped, rising_kept}

-- the rows kept of those that were looked at, and their least fault
pub record AreCopied (condition : Expression) (seen kept : List Row) (fault : Option Fault) : Type 0 where
  pub kept_are : kept ≡ filter (λ row. passes (value_of condition row)) seen
  pub fault_is : fault ≡ least_fault (map (value_of condition) seen)

pub AreCopied-more : (condition : Expression) (seen kept next : List Row) (fault after : Option Fault) (row : Row) → AreCopied condition seen kept fault
    → next ≡ kept ++ cond (passes (value_of condition row)) (row ∷ []) [] → after ≡ with_result fault (value_of condition row) → AreCopied condition (seen ++ row ∷ []) next after
AreCopied-more condition seen kept next fault after row so_far grown looked =
    let t : Row → Bool = λ r. passes (value_of condition r) in
    record {
      kept_are = grown ∙ ap (λ rs. rs ++ cond (t row) (row ∷ []) []) so_far.kept_are ∙ sym (filter-append t seen (row ∷ []));
      fault_is = looked ∙ ap (λ f. with_result f (value_of condition row)) so_far.fault_is ∙ sym (ap least_fault (map_push (value_of condition) seen row) ∙ least_fault-push (map (value_of condition) seen) (value_of condition row));
    }

pub AreCopied-all : (condition : Expression) (rows kept : List Row) (fault : Option Fault) → AreCopied condition rows kept fault → unless fault kept ≡ filter_outcome condition rows
AreCopied-all condition rows kept fault copied = λ i. unless (copied.fault_is i) (copied.kept_are i)

-- ---- the positions of these rows

pub record ArePassingTo (condition : Expression) (rows : List Row) (kept : List ℕ) (i : ℕ) (fault : Option Fault) : Type 0 where
  pub copied : AreCopied condition (take i rows) (rows_at rows kept) fault
  pub order : AreRisingTo kept i

module _ {condition : Expression} {rows : List Row} {kept : List ℕ} {i : ℕ} {fault after : Option Fault} (so_far : ArePassingTo condition rows kept i fault) (within : i < length rows) (looked : after ≡ with_result fault (value_of condition (row_at rows i))) where
  one_more : (next : List Row) → next ≡ rows_at rows kept ++ cond (passes (value_of condition (row_at rows i))) (row_at rows i ∷ []) [] → AreCopied condition (take (i + 1) rows) next after
  one_more next grown =
      subst (λ seen. AreCopied condition seen next after) (sym (take_more rows i [] within))
      (AreCopied-more condition (take i rows) (rows_at rows kept) next fault after (row_at rows i) so_far.copied grown looked)

  pub passing_kept : passes (value_of condition (row_at rows i)) ≡ true → ArePassingTo condition rows (kept ++ i ∷ []) (i + 1) after
  passing_kept p = record {
    copied = one_more (rows_at rows (kept ++ i ∷ [])) (map_push (row_at rows) kept i ∙ ap (λ b. rows_at rows kept ++ cond b (row_at rows i ∷ []) []) (sym p));
    order = rising_kept so_far.order;
  }

  pub passing_dropped : passes (value_of condition (row_at rows i)) ≡ false → ArePassingTo condition rows kept (i + 1) after
  passing_dropped p = record {
    copied = one_more (rows_at rows kept) (sym (append-nil (rows_at rows kept)) ∙ ap (λ b. rows_at rows kept ++ cond b (row_at rows i ∷ []) []) (sym p));
    order = rising_dropped so_far.order;
  }

pub passing_all : (condition : Expression) (rows : List Row) (kept : List ℕ) (i : ℕ) (fault : Option Fault) → ArePassingTo condition rows kept i fault → length rows ≤ i → unless fault (rows_at rows kept) ≡ filter_outcome condition rows
passing_all condition rows kept i fault so_far all =
    AreCopied-all condition rows (rows_at rows kept) fault (subst (λ seen. AreCopied condition seen (rows_at rows kept) fault) (take_all i rows all) so_far.copied)
