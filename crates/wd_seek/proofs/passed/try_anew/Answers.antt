use Rattle.std.proofs.Common.{filter, map, subst}
use Rattle.wd_candidates.specs.Candidates.{candidate, shapes}
use Rattle.wd_partition.specs.declared.turn.Turn.TheVariants.{Reversed}
use Rattle.wd_plan.specs.Plans.{plan_of}
use Rattle.wd_schema.specs.Schemas.{schema_of}
use Rattle.wd_seek.specs.Sought.{IsSought, is_meeting}
use Rattle.wd_seek.proofs.passed.try_anew.Goals as goal

pub returns-in_ok-keep-in-None-clause-passed : goal.returns-in_ok-keep-in-None-clause-passed
returns-in_ok-keep-in-None-clause-passed c =
    let tables = schema_of c.args.schema.now in
    let plan = plan_of c.args.plan.now in
    c.in_ok-keep-in-None.ensures tables plan c.requires.passed
    (λ o tied. subst (λ found. IsSought Reversed tables plan (filter (is_meeting tables) (map (candidate tables plan o) shapes)) c.args.spent found c.in_ok-found.made) c.in-None.is (c.in_ok-found.ensures.sought o tied))
