-- What candidates show that were tried before, and how it is kept.
use Rattle.std.proofs.Common.{◌≡◌, ◌⊎◌, ℕ, ◌+◌, ◌-◌, ◌<◌, List, [], ◌++◌, refl, sym, ap, ◌∙◌, subst, arith, inl, inr}
use Rattle.std.proofs.lemmas.List.{append-nil}
use Rattle.wd_value.specs.Rows.{Instance}
use Rattle.wd_plan.specs.Plans.{PlanTree}
use Rattle.wd_partition.specs.declared.turn.Turn.{Turn}
use Rattle.wd_seek.specs.Evaluations.{ShowNothing, most_evaluations}
use Rattle.wd_seek.specs.Search.{FindsNothing}
use Rattle.wd_seek.proofs.Searching.{begun_end}

-- candidates that show nothing are gone through
pub gone_through : (turn : Turn) (plan : PlanTree) (instances : List Instance) (start n : ℕ) → ShowNothing turn plan instances n → FindsNothing turn plan instances start (start + n)
gone_through turn plan instances start n h = record {
  before = instances;
  rest = [];
  spent = n;
  part = 0;
  parts = sym (append-nil instances);
  nothing = h;
  begun = refl;
  total = omega arith;
  whole = inl refl;
}

-- where a search that finds nothing does not make the most evaluations, it goes through all
pub all_shown : (turn : Turn) (plan : PlanTree) (instances : List Instance) (start end : ℕ) → end < most_evaluations → FindsNothing turn plan instances start end → ShowNothing turn plan instances (end - start)
all_shown turn plan instances start end few h = by h.whole
  where
    by : (h.rest ≡ []) ⊎ (end ≡ most_evaluations) → ShowNothing turn plan instances (end - start)
    by (inl through) =
        let t = h.total in
        let none = begun_end turn plan h.rest h.part through h.begun in
        let count : h.spent ≡ end - start = omega arith in
        let all : h.before ≡ instances = sym (h.parts ∙ ap (λ r. h.before ++ r) through ∙ append-nil h.before) in
        subst (λ is. ShowNothing turn plan is (end - start)) all (subst (ShowNothing turn plan h.before) count h.nothing)
    by (inr e) = absurd (omega arith)
