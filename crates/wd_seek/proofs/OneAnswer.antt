-- Evaluations of a plan that has one answer, and whose steps are small: they all agree.
use Rattle.std.proofs.Common.{◌≡◌, ◌⊎◌, ℕ, ◌+◌, ◌<◌, ◌≤◌, ◌-◌, min, true, false, List, [], ◌∷◌, length, Option, None, refl, sym, ◌∙◌, arith, inl, inr}
use Rattle.std.proofs.lemmas.Bool.{cases_lt}
use Rattle.wd_value.specs.Rows.{Instance}
use Rattle.wd_schema.specs.Meets.{Meets}
use Rattle.wd_schema.specs.Tables.{TableRule}
use Rattle.wd_plan.specs.Fits.{fits}
use Rattle.wd_plan.specs.Plans.{PlanTree, ordering_count, plan_of}
use Rattle.wd_lighter.proofs.Carried.{itself}
use Rattle.wd_eval.proofs.Lawful.{tied_lawful}
use Rattle.wd_eval.proofs.SomeTied.{has_stable_choice}
use Rattle.wd_eval.specs.Tied.{IsValidTurnedChoice}
use Rattle.wd_eval.specs.declared.turned.Turned.{Turned}
use Rattle.wd_partition.specs.declared.turn.Turn.{Turn}
use Rattle.wd_rules.specs.Laws.{HasOneAnswer}
use Rattle.wd_sizes.proofs.Bounded.{bounded_are_small}
use Rattle.wd_sizes.specs.Sizes.{IsBounded}
use Rattle.wd_seek.specs.Evaluations.{AllPass, Passes, evaluations, flip_of, most_evaluations}
use Rattle.wd_seek.specs.Search.{FindsNothing}
use Rattle.wd_seek.specs.Searched.{IsSearched}
use Rattle.wd_seek.specs.declared.searched.Searched.{Searched}

-- a plan may be searched itself
pub itself_searched : (tables : List TableRule) (searched : Searched) → fits tables (plan_of searched.plan.now) ≡ true → searched.has_one ≡ false → IsSearched tables (plan_of searched.plan.now) searched
itself_searched tables searched fit none = record { lighter = itself tables (plan_of searched.plan.now) fit; one = λ h. absurd (let e : false ≡ true = sym none ∙ h in cc) }

module _ (turn : Turn) (tables : List TableRule) (plan : PlanTree) (instance : Instance) (one : HasOneAnswer tables plan) (meets : Meets tables instance) (bounded : IsBounded plan instance) where
  stable : (turned : Option Turned) → (choice : List (List ℕ)) × IsValidTurnedChoice plan instance turned choice
  stable turned =
      let t = has_stable_choice plan instance turned in
      let number : length t.0 ≡ ordering_count plan = t.1.number in
      let lawful = tied_lawful instance turned plan 0 t.0 (omega arith) t.1.tied in
      (t.0, record { tied = t.1; valid = record { number = number; lawful = lawful }; small = bounded_are_small plan instance t.0 bounded lawful })

  passes : (k : ℕ) → Passes turn plan instance k
  passes k =
      let first = stable None in
      let other = stable (flip_of turn k) in
      record { first = first.0; choice = other.0; first_valid = first.1; valid = other.1; agree = one instance instance first.0 other.0 meets (λ table r. refl) first.1.valid other.1.valid }

  all : (n : ℕ) → AllPass turn plan instance n
  all n k h = passes k

  pub nothing_found : (start end : ℕ) → start ≤ most_evaluations → end ≡ min (start + evaluations plan) most_evaluations → FindsNothing turn plan (instance ∷ []) start end
  nothing_found start end few e = by (cases_lt most_evaluations (start + evaluations plan))
    where
      by : (most_evaluations < start + evaluations plan) ⊎ (start + evaluations plan ≤ most_evaluations) → FindsNothing turn plan (instance ∷ []) start end
      by (inl more) =
          let cut : end ≡ most_evaluations = omega arith in
          let part = most_evaluations - start in
          record {
            before = [];
            rest = instance ∷ [];
            spent = 0;
            part = part;
            parts = refl;
            nothing = refl;
            begun = (all part, omega arith);
            total = omega arith;
            whole = inr cut;
          }
      by (inr within) = record {
        before = instance ∷ [];
        rest = [];
        spent = evaluations plan;
        part = 0;
        parts = refl;
        nothing = (evaluations plan, 0, omega arith, inl (refl, all (evaluations plan)), refl);
        begun = refl;
        total = omega arith;
        whole = inl refl;
      }
