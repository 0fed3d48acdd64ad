use Rattle.std.proofs.Common.{◌∷◌, [], filter, get_or, subst}
use Rattle.wd_partition.specs.declared.turn.Turn.TheVariants.{Reversed}
use Rattle.wd_plan.specs.Plans.{plan_of}
use Rattle.wd_schema.specs.Schemas.{schema_of}
use Rattle.wd_candidates.specs.Candidates.{candidate, shapes}
use Rattle.wd_candidates.specs.declared.shape.Shape.{Shape}
use Rattle.wd_candidates.specs.declared.shape.Style.TheVariants.{TiedNull}
use Rattle.wd_seek.specs.Sought.{IsSought, is_meeting}
use Rattle.wd_seek.proofs.Trying.{found_in_one_more, nothing_in_all, nothing_in_one_more}
use Rattle.wd_seek.proofs.tried.try_shapes.Goals as goal

pub loop-shape-preserved : goal.loop-shape-preserved
loop-shape-preserved c =
    let tables = schema_of c.args.schema.now in
    let plan = plan_of c.args.plan.now in
    let l = c.loop-shape in
    let none : Shape = record { rows = 0; style = TiedNull } in (
      c.in_ok-found.ensures.few,
      λ o tied.
          let here = subst (λ all. IsSought Reversed tables plan (filter (is_meeting tables) (candidate tables plan o (get_or all l.shape-index none) ∷ [])) l.total c.in_ok-found.found c.in_ok-found.made) c.shapes.ensures (c.in_ok-found.ensures.sought o tied) in
          nothing_in_one_more Reversed tables plan (λ shape. candidate tables plan o shape ∷ []) shapes l.shape-index none c.args.spent l.total c.in_ok-found.made c.in_ok-found.ensures.few c.loop-shape-test.true (l.invariant.1 o tied)
          (subst (λ found. IsSought Reversed tables plan (filter (is_meeting tables) (candidate tables plan o (get_or shapes l.shape-index none) ∷ [])) l.total found c.in_ok-found.made) c.in_default.is here),
    )

pub returns-in-Some-clause-sought : goal.returns-in-Some-clause-sought
returns-in-Some-clause-sought c = λ o tied.
    let tables = schema_of c.args.schema.now in
    let plan = plan_of c.args.plan.now in
    let l = c.loop-shape in
    let none : Shape = record { rows = 0; style = TiedNull } in
    let here = subst (λ all. IsSought Reversed tables plan (filter (is_meeting tables) (candidate tables plan o (get_or all l.shape-index none) ∷ [])) l.total c.in_ok-found.found c.in_ok-found.made) c.shapes.ensures (c.in_ok-found.ensures.sought o tied) in
    found_in_one_more Reversed tables plan (λ shape. candidate tables plan o shape ∷ []) shapes l.shape-index none c.args.spent l.total c.in_ok-found.made c.in_ok-found.ensures.few c.loop-shape-test.true (l.invariant.1 o tied) c.in-Some.witness
    (subst (λ found. IsSought Reversed tables plan (filter (is_meeting tables) (candidate tables plan o (get_or shapes l.shape-index none) ∷ [])) l.total found c.in_ok-found.made) c.in-Some.is here)

pub returns-clause-sought : goal.returns-clause-sought
returns-clause-sought c = λ o tied.
    let tables = schema_of c.args.schema.now in
    let plan = plan_of c.args.plan.now in
    nothing_in_all Reversed tables plan (λ shape. candidate tables plan o shape ∷ []) shapes c.loop-shape.shape-index c.args.spent c.loop-shape.total c.loop-shape-test.false (c.loop-shape.invariant.1 o tied)
