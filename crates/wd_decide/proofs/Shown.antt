-- A reported witness is true, and its texts refute the query.
use Rattle.std.proofs.Common.{List}
use Rattle.wd_schema.specs.Laws.{HasOneMeaning}
use Rattle.wd_schema.specs.Tables.{TableRule}
use Rattle.wd_plan.specs.Plans.{PlanTree}
use Rattle.wd_analyse.specs.declared.analysis.Analysis.{Analysis}
use Rattle.wd_analyse.specs.declared.analysis.Analysis.TheVariants.{Certified, Open}
use Rattle.wd_query.specs.Laws.{HasOnePlan}
use Rattle.wd_witness_text.specs.Witnesses.{witness_of}
use Rattle.wd_witness_text.specs.declared.witness.Witness.{Witness}
use Rattle.wd_refute.specs.Laws.{IsShown, ShownIsNotRefused}
use Rattle.wd_accept.proofs.Verdicts.{every}
use Rattle.wd_partition.specs.declared.turn.Turn.TheVariants.{Reversed}
use Rattle.wd_seek.proofs.Shown.{found_is_shown}
use Rattle.wd_decide.specs.Laws.{ReportedAreTrue}
use Rattle.wd_decide.specs.Verdicts.{IsVerdictOf}
use Rattle.wd_decide.specs.declared.verdict.Verdict.TheVariants.{Depends}

-- a verdict with a witness shows it
pub shown_of : (tables : List TableRule) (plan : PlanTree) (analysis : Analysis) (witness : Witness) → IsVerdictOf tables plan analysis (Depends witness) → IsShown tables plan (witness_of witness)
shown_of tables plan (Certified certificate) witness is = absurd is
shown_of tables plan (Open reasons marks) witness (n, found) = found_is_shown Reversed tables plan _ 0 n (witness_of witness) found

-- it is true, and nothing refuses its texts
pub true_of : HasOneMeaning → HasOnePlan → ShownIsNotRefused → ReportedAreTrue
true_of one_meaning one_plan shown_is_not_refused schema query witness (read, reads, found) = record {
  shown = (read, reads, shown);
  refuted = λ text spells. (read, reads, record { said = witness_of witness; spelled = spells; of_tables = shown.of_tables; fits = shown.fits; is_true = shown.is_true });
  unrefused = λ text spells refusal numbered refused.
      let shown_there = every one_meaning one_plan schema query (λ tables plan. IsShown tables plan (witness_of witness)) read refused.0 reads refused.1 shown in
      shown_is_not_refused refused.1.tables refused.0.plan (witness_of witness) text refusal shown_there spells numbered refused.2;
}
  where
    shown : IsShown reads.tables read.plan (witness_of witness)
    shown = shown_of reads.tables read.plan found.0 witness found.2
