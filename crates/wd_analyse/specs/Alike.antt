-- Two answers for one plan differ at most in the uses of facts that their traces name.
use Rattle.std.specs.Prelude.{◌≡◌, List, [], map}
use Rattle.wd_schema.specs.Tables.{TableRule}
use Rattle.wd_plan.specs.Plans.{PlanTree}
use Rattle.wd_certificate.specs.Certificates.{NodeRecord, TraceRecord, nodes_of}
use Rattle.wd_analyse.specs.declared.analysis.Analysis.{Analysis}
use Rattle.wd_analyse.specs.declared.analysis.Analysis.TheVariants.{Certified, Open}
use Rattle.wd_analyse.specs.Analysis.{IsAnswer}

abbrev pub without_uses : TraceRecord → TraceRecord
without_uses t = record { from = t.from; uses = [] }

abbrev pub entry_without_uses : NodeRecord → NodeRecord
entry_without_uses e = record { calls = e.calls; keep = e.keep; limit = e.limit; traces = map without_uses e.traces }

abbrev pub AreAlike : Analysis → Analysis → Type 0
AreAlike (Certified a) (Certified b) = (map entry_without_uses (nodes_of a) ≡ map entry_without_uses (nodes_of b)) × (a.version ≡ b.version)
AreAlike (Certified a) (Open reasons marks) = ⊥
AreAlike (Open reasons marks) (Certified a) = ⊥
AreAlike (Open reasons marks) (Open others other_marks) = (reasons.items ≡ others.items) × (marks.items ≡ other_marks.items)

abbrev pub AnswersAreAlike : Type 0
AnswersAreAlike = (tables : List TableRule) (plan : PlanTree) (a b : Analysis) → IsAnswer tables plan a → IsAnswer tables plan b → AreAlike a b
