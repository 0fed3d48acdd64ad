-- What the evaluations of one instance show, as a search through it alone.
use Rattle.std.proofs.Common.{◌≡◌, ◌⊎◌, ℕ, ◌+◌, List, [], ◌∷◌, Some, None, refl, sym, subst, arith, inl, inr}
use Rattle.wd_value.specs.Rows.{Instance}
use Rattle.wd_plan.specs.Outcomes.{Agree, RowsOrFault, outcome}
use Rattle.wd_plan.specs.Plans.{PlanTree}
use Rattle.wd_plan.specs.declared.plan.Choice.{Choice}
use Rattle.wd_eval.specs.Windows.{orderings_of}
use Rattle.wd_eval.specs.Tied.{IsTurnedTooLarge}
use Rattle.wd_partition.specs.declared.turn.Turn.{Turn}
use Rattle.wd_seek.specs.Evaluations.{AllPass, IsTooLargeAt, evaluations, most_evaluations}
use Rattle.wd_seek.specs.Search.{FindsNothing, FindsTwo}
use Rattle.wd_seek.specs.Probed.{IsOther, IsStableOutcome, ShowNoOther}
use Rattle.wd_seek.proofs.Passing.{none_pass}

-- no evaluation is left
pub none_left : (turn : Turn) (plan : PlanTree) (instance : Instance) → FindsNothing turn plan (instance ∷ []) most_evaluations most_evaluations
none_left turn plan instance = record {
  before = [];
  rest = instance ∷ [];
  spent = 0;
  part = 0;
  parts = refl;
  nothing = refl;
  begun = (none_pass turn plan instance, omega arith);
  total = omega arith;
  whole = inr refl;
}

-- a step is too large in the first
pub first_too_large : (turn : Turn) (plan : PlanTree) (instance : Instance) (start : ℕ) → IsTurnedTooLarge plan instance None → FindsNothing turn plan (instance ∷ []) start (start + 1)
first_too_large turn plan instance start large = record {
  before = instance ∷ [];
  rest = [];
  spent = 1;
  part = 0;
  parts = refl;
  nothing = (1, 0, refl, inr (0, refl, record { within = omega arith; passed = none_pass turn plan instance; large = large }), refl);
  begun = refl;
  total = omega arith;
  whole = inl refl;
}

-- the others show nothing
pub no_other : (turn : Turn) (plan : PlanTree) (instance : Instance) (o : RowsOrFault) (start end : ℕ) → IsOther turn plan instance o (start + 1) end None → FindsNothing turn plan (instance ∷ []) start end
no_other turn plan instance o start end h = by h.2
  where
    made : ℕ
    made = h.0

    total : end ≡ start + ((made + 1) + 0)
    total = let e = h.1 in omega arith

    given_up : ((made + 1 ≡ evaluations plan) × AllPass turn plan instance (made + 1)) ⊎ ((k : ℕ) × (made + 1 ≡ k + 1) × IsTooLargeAt turn plan instance k) → FindsNothing turn plan (instance ∷ []) start end
    given_up all = record {
      before = instance ∷ [];
      rest = [];
      spent = made + 1;
      part = 0;
      parts = refl;
      nothing = (made + 1, 0, omega arith, all, refl);
      begun = refl;
      total = total;
      whole = inl refl;
    }

    by : ShowNoOther turn plan instance made end → FindsNothing turn plan (instance ∷ []) start end
    by (inl all) = given_up (inl (let e = all.0 in omega arith, all.1))
    by (inr (inl large)) = given_up (inr (made, refl, large))
    by (inr (inr cut)) = record {
      before = [];
      rest = instance ∷ [];
      spent = 0;
      part = made + 1;
      parts = refl;
      nothing = refl;
      begun = (cut.2, let w = cut.1 in omega arith);
      total = let t = total in omega arith;
      whole = inr cut.0;
    }

-- one of them differs from the first
pub another : (turn : Turn) (plan : PlanTree) (instance : Instance) (start end : ℕ) (o : RowsOrFault) (first : List (List ℕ)) (second : Choice) → IsStableOutcome plan instance None first o
    → IsOther turn plan instance o (start + 1) end (Some second) → FindsTwo turn plan (instance ∷ []) start end instance first (orderings_of second.orderings.items)
another turn plan instance start end o first second tied h = record {
  before = [];
  after = [];
  spent = 0;
  flipped = h.0;
  parts = refl;
  nothing = refl;
  two = record {
    within = h.2.within;
    passed = h.2.passed;
    first_valid = tied.valid;
    second_valid = h.2.valid;
    differ = λ agree. h.2.differ (subst (λ x. Agree x (outcome plan instance (orderings_of second.orderings.items))) (sym tied.is) agree);
  };
  total = let e = h.1 in omega arith;
}
