-- The result of the search for a witness: the first candidate that shows two answers, or that none does.
use Rattle.std.specs.Prelude.{◌&&◌, ℕ, Bool, List, [], filter, flat_map, length, nat_eq, Option, Some, None}
use Rattle.std.specs.List.{list_all}
use Rattle.wd_value.specs.Bags.{positions}
use Rattle.wd_value.specs.Rows.{Instance, table_at}
use Rattle.wd_schema.specs.Meets.{Meets, is_met}
use Rattle.wd_schema.specs.Tables.{TableRule}
use Rattle.wd_plan.specs.Plans.{PlanTree}
use Rattle.wd_partition.specs.declared.turn.Turn.{Turn}
use Rattle.wd_facts.specs.Given.{table_rule}
use Rattle.wd_analyse.specs.declared.analysis.Analysis.{Analysis}
use Rattle.wd_analyse.specs.declared.analysis.Analysis.TheVariants.{Certified, Open}
use Rattle.wd_analyse.specs.declared.analysis.Reason.{Reason}
use Rattle.wd_witness_text.specs.Witnesses.{AllFit64, WitnessRecord, witness_of}
use Rattle.wd_witness_text.specs.declared.witness.Witness.{Witness}
use Rattle.wd_candidates.specs.Candidates.{candidates}
use Rattle.wd_seek.specs.Search.{FindsNothing, FindsTwo}
use Rattle.wd_seek.specs.Witnesses.{IsOver}

-- the reasons of an analysis; a certificate has none
abbrev pub reasons_of : Analysis → List Reason
reasons_of (Certified certificate) = []
reasons_of (Open reasons marks) = reasons.items

-- the test that decides whether an instance meets a schema
abbrev pub is_meeting : List TableRule → Instance → Bool
is_meeting tables instance = nat_eq (length instance) (length tables) && list_all (λ t. is_met (table_rule tables t) (table_at instance t)) (positions (length tables))

-- the candidates for each reason in order
abbrev pub candidates_for : List TableRule → PlanTree → List Reason → List Instance
candidates_for tables plan reasons = flat_map (λ (reason : Reason). candidates tables plan reason.node reason.call) reasons

-- the candidates that meet the schema
abbrev pub to_try : List TableRule → PlanTree → List Reason → List Instance
to_try tables plan reasons = filter (is_meeting tables) (candidates_for tables plan reasons)

-- a witness over the first candidate that shows two answers; the search began and ended with these numbers of evaluations
pub record IsFound (turn : Turn) (tables : List TableRule) (plan : PlanTree) (instances : List Instance) (start end : ℕ) (w : WitnessRecord) : Type 0 where
  pub instance : Instance
  pub meets : Meets tables instance
  pub two : FindsTwo turn plan instances start end instance w.first w.second
  pub over : IsOver tables plan instance w
  pub fits : AllFit64 w

-- what a search through instances finds
abbrev pub IsSought : Turn → List TableRule → PlanTree → List Instance → ℕ → Option Witness → ℕ → Type 0
IsSought turn tables plan instances start None end = FindsNothing turn plan instances start end
IsSought turn tables plan instances start (Some w) end = IsFound turn tables plan instances start end (witness_of w)
