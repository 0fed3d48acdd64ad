-- Evaluations that show nothing, one after another.
use Rattle.std.proofs.Common.{◌≡◌, ℕ, zero, suc, ◌+◌, ◌<◌, ◌≤◌, ◌^◌, ◌-◌, min, List, Some, Ok, Err, refl, sym, subst, arith, inl, inr, ◌⊎◌}
use Rattle.wd_value.specs.Rows.{Instance}
use Rattle.wd_plan.specs.Outcomes.{Agree, RowsOrFault, outcome}
use Rattle.wd_plan.specs.Plans.{PlanTree, ordering_count}
use Rattle.wd_eval.specs.Tied.{IsTurnedTooLarge, IsValidTurnedChoice, turned_at}
use Rattle.wd_partition.specs.declared.turn.Turn.{Turn}
use Rattle.wd_seek.specs.Evaluations.{AllPass, IsTooLargeAt, Passes, flip_of, most_evaluations}
use Rattle.wd_seek.specs.Probed.{IsAgreeing, IsFirst, IsStableOutcome}

below_or_at : (k n : ℕ) → k < n + 1 → (k < n) ⊎ (k ≡ n)
below_or_at zero zero h = inr refl
below_or_at zero (suc n) h = inl (omega arith)
below_or_at (suc k) zero h = absurd (omega arith)
below_or_at (suc k) (suc n) h = by (below_or_at k n (omega (arith, h)))
  where
    by : (k < n) ⊎ (k ≡ n) → (suc k < suc n) ⊎ (suc k ≡ suc n)
    by (inl l) = inl (omega arith)
    by (inr e) = inr (λ i. suc (e i))

pub all_pass_more : (turn : Turn) (plan : PlanTree) (instance : Instance) (n : ℕ) → AllPass turn plan instance n → Passes turn plan instance n → AllPass turn plan instance (n + 1)
all_pass_more turn plan instance n all last k h = by (below_or_at k n h)
  where
    by : (k < n) ⊎ (k ≡ n) → Passes turn plan instance k
    by (inl l) = all k l
    by (inr e) = subst (Passes turn plan instance) (sym e) last

pub none_pass : (turn : Turn) (plan : PlanTree) (instance : Instance) → AllPass turn plan instance 0
none_pass turn plan instance k h = absurd (omega (arith, h))

-- ---- against the first

pub agree_self : (o : RowsOrFault) → Agree o o
agree_self (Ok rows) = λ r. refl
agree_self (Err fault) = refl

pub first_passes : (turn : Turn) (plan : PlanTree) (instance : Instance) (o : RowsOrFault) → IsFirst plan instance o → AllPass turn plan instance (0 + 1)
first_passes turn plan instance o first = all_pass_more turn plan instance 0 (none_pass turn plan instance)
    (record { first = first.choice; choice = first.choice; first_valid = first.tied.valid; valid = first.tied.valid; agree = agree_self (outcome plan instance first.choice) })

next_flip : (turn : Turn) (k : ℕ) → flip_of turn (k + 1) ≡ Some (turned_at turn k)
next_flip turn k = let e : k + 1 ≡ suc k = omega arith in subst (λ n. flip_of turn n ≡ Some (turned_at turn k)) (sym e) refl

pub agreeing_passes : (turn : Turn) (plan : PlanTree) (instance : Instance) (o : RowsOrFault) (k : ℕ) → IsFirst plan instance o → IsAgreeing turn plan instance o k → Passes turn plan instance (k + 1)
agreeing_passes turn plan instance o k first a = record {
  first = first.choice;
  choice = a.choice;
  first_valid = first.tied.valid;
  valid = subst (λ f. IsValidTurnedChoice plan instance f a.choice) (sym (next_flip turn k)) a.valid;
  agree = subst (λ x. Agree x (outcome plan instance a.choice)) first.tied.is a.agree;
}

pub next_passes : (turn : Turn) (plan : PlanTree) (instance : Instance) (o other : RowsOrFault) (k : ℕ) (choice : List (List ℕ)) → IsFirst plan instance o → IsStableOutcome plan instance (Some (turned_at turn k)) choice other → Agree o other → Passes turn plan instance (k + 1)
next_passes turn plan instance o other k choice first tied agree = agreeing_passes turn plan instance o k first (record { choice = choice; valid = tied.valid; agree = subst (Agree o) tied.is agree })

pub next_too_large : (turn : Turn) (plan : PlanTree) (instance : Instance) (k : ℕ) → k < ordering_count plan → AllPass turn plan instance (k + 1) → IsTurnedTooLarge plan instance (Some (turned_at turn k)) → IsTooLargeAt turn plan instance (k + 1)
next_too_large turn plan instance k within passed large = record {
  within = omega (arith, within);
  passed = passed;
  large = subst (IsTurnedTooLarge plan instance) (sym (next_flip turn k)) large;
}

-- ---- the plan's orderings, which are counted up to a limit

pub within_count : (count k n : ℕ) → n ≡ min count (2 ^ 32 - 1) → k < n → k < count
within_count count k n e h = omega (arith, e, h)

pub counted : (count n : ℕ) → n ≡ min count (2 ^ 32 - 1) → n ≤ most_evaluations → n ≡ count
counted count n e h = omega (arith, e, h)
