use Rattle.std.proofs.Common.{◌≡◌, ℕ, ◌-◌, ◌<◌, ◌≤◌, List, ◌∷◌, [], None, Some, ◌∙◌, ap, filter, get_or, length, map, subst, sym}
use Rattle.std.proofs.lemmas.List.FromFn.{length-range_with_len}
use Rattle.wd_plan.specs.Plans.{PlanTree, plan_of}
use Rattle.wd_schema.specs.Schemas.{schema_of}
use Rattle.wd_schema.specs.Tables.{TableRule}
use Rattle.wd_value.specs.Bags.{positions}
use Rattle.wd_seek.specs.Evaluations.{most_evaluations}
use Rattle.wd_seek.specs.Sought.{IsSought, is_meeting}
use Rattle.wd_seek.proofs.Trying.{found_in_one_more, nothing_in_all, nothing_in_one_more, tried_by}
use Rattle.wd_varied.specs.Varied.{varied}
use Rattle.wd_further.specs.Finds.{to_try}
use Rattle.wd_further.specs.Tries.{tries}
use Rattle.wd_further.proofs.Trying.{one_by_one, position_at}
use Rattle.wd_further.proofs.search.search_tries.Goals as goal

-- what was tried, one by one, are the candidates
all_tried : (tables : List TableRule) (plan : PlanTree) (rows count : ℕ) → count ≡ tries plan rows → tried_by tables (λ number. varied tables plan rows number ∷ []) (positions count) ≡ to_try tables plan rows
all_tried tables plan rows count is = ap (filter (is_meeting tables)) (one_by_one (varied tables plan rows) (positions count) ∙ ap (λ n. map (varied tables plan rows) (positions n)) is)

pub loop-number-preserved : goal.loop-number-preserved
loop-number-preserved c =
    let tables = schema_of c.args.schema.now in
    let plan = plan_of c.args.plan.now in
    let l = c.loop-number in
    let f = λ (number : ℕ). varied tables plan c.args.rows number ∷ [] in
    let start = most_evaluations - c.args.most in
    let within : l.number < length (positions c.args.tries) = subst (λ n. l.number < n) (sym (length-range_with_len 0 c.args.tries)) c.loop-number-test.true in
    let here = subst (λ n. IsSought c.args.turn tables plan (filter (is_meeting tables) (f n)) l.spent c.in_ok-found.found c.in_ok-found.made) (sym (position_at c.args.tries l.number 0 c.loop-number-test.true)) c.in_ok-found.ensures.sought in (
      c.in_ok-found.ensures.few,
      nothing_in_one_more c.args.turn tables plan f (positions c.args.tries) l.number 0 start l.spent c.in_ok-found.made c.in_ok-found.ensures.few within l.invariant.1
          (subst (λ found. IsSought c.args.turn tables plan (filter (is_meeting tables) (f (get_or (positions c.args.tries) l.number 0))) l.spent found c.in_ok-found.made) c.in_default.is here),
    )

pub returns-in-Some : goal.returns-in-Some
returns-in-Some c =
    let tables = schema_of c.args.schema.now in
    let plan = plan_of c.args.plan.now in
    let l = c.loop-number in
    let f = λ (number : ℕ). varied tables plan c.args.rows number ∷ [] in
    let start = most_evaluations - c.args.most in
    let within : l.number < length (positions c.args.tries) = subst (λ n. l.number < n) (sym (length-range_with_len 0 c.args.tries)) c.loop-number-test.true in
    let here = subst (λ n. IsSought c.args.turn tables plan (filter (is_meeting tables) (f n)) l.spent c.in_ok-found.found c.in_ok-found.made) (sym (position_at c.args.tries l.number 0 c.loop-number-test.true)) c.in_ok-found.ensures.sought in (
      c.in_ok-found.made,
      subst (λ is. IsSought c.args.turn tables plan is start (Some c.in-Some.witness) c.in_ok-found.made) (all_tried tables plan c.args.rows c.args.tries c.requires.tries)
          (found_in_one_more c.args.turn tables plan f (positions c.args.tries) l.number 0 start l.spent c.in_ok-found.made c.in_ok-found.ensures.few within l.invariant.1 c.in-Some.witness
          (subst (λ found. IsSought c.args.turn tables plan (filter (is_meeting tables) (f (get_or (positions c.args.tries) l.number 0))) l.spent found c.in_ok-found.made) c.in-Some.is here)),
    )

pub returns : goal.returns
returns c =
    let tables = schema_of c.args.schema.now in
    let plan = plan_of c.args.plan.now in
    let l = c.loop-number in
    let f = λ (number : ℕ). varied tables plan c.args.rows number ∷ [] in
    let start = most_evaluations - c.args.most in
    let all : length (positions c.args.tries) ≤ l.number = subst (λ n. n ≤ l.number) (sym (length-range_with_len 0 c.args.tries)) c.loop-number-test.false in (
      l.spent,
      subst (λ is. IsSought c.args.turn tables plan is start None l.spent) (all_tried tables plan c.args.rows c.args.tries c.requires.tries)
          (nothing_in_all c.args.turn tables plan f (positions c.args.tries) l.number start l.spent all l.invariant.1),
    )
