-- Claims, and entries that are not refused.
use Rattle.std.proofs.Common.{◌≡◌, ℕ, ◌+◌, ◌≤◌, true, List, [], ◌∷◌, ◌++◌, length, map, None}
use Rattle.std.specs.List.{AllByRecursion}
use Rattle.wd_schema.specs.Tables.{TableRule}
use Rattle.wd_plan.specs.Fits.{AreBelow, width}
use Rattle.wd_plan.specs.Plans.{PlanTree, node_count}
use Rattle.wd_certificate.specs.Certificates.{NodeRecord}
use Rattle.wd_step_facts.specs.Facts.{Fact, FactList}
use Rattle.wd_facts.specs.Given.{given}
use Rattle.wd_facts.specs.Laws.{ArePlain}
use Rattle.wd_rules.specs.Rules.{entry_refusal, kept_facts}
use Rattle.wd_rules.specs.Validity.{all_entries, has_its_calls, has_its_limit, nodes_refusal, top_at}
use Rattle.wd_analyse.specs.declared.analysis.Reason.{Reason}
use Rattle.wd_analyse.specs.Evidence.{Closing, IsClosing}
use Rattle.wd_analyse.specs.Kept.{kept_fact}

-- what columns of a node give
pub record IsClaim (facts : FactList) (width : ℕ) (c : Closing) : Type 0 where
  pub closing : IsClosing facts c
  pub low : AreBelow width c.from

-- at most 64 of them
pub record AreClaims (facts : FactList) (width : ℕ) (cs : List Closing) : Type 0 where
  pub few : length cs ≤ 64
  pub claims : AllByRecursion (IsClaim facts width) cs

-- the entry that is found for a plan's top node, which keeps these claims; with no reasons after it there were none, and it is
-- not refused
pub record IsFound (facts : FactList) (plan : PlanTree) (node : ℕ) (claims : List Closing) (entry : NodeRecord) (before after : List Reason) : Type 0 where
  pub keeps : kept_facts entry ≡ map (kept_fact (width plan)) claims
  pub settled : after ≡ [] → (before ≡ []) × (entry_refusal node facts plan entry ≡ None) × (has_its_limit plan entry ≡ true) × (has_its_calls plan entry ≡ true)

-- the entry of a plan's top node, which has this number, is not refused
pub record IsEntry (tables : List TableRule) (plan : PlanTree) (kept more : List Fact) (node : ℕ) (entry : NodeRecord) : Type 0 where
  pub passed : entry_refusal node (given tables plan kept more) plan entry ≡ None
  pub limit : has_its_limit plan entry ≡ true
  pub calls : has_its_calls plan entry ≡ true

-- the entries of a plan, which begin at a number, are not refused
pub record AreEntries (tables : List TableRule) (plan : PlanTree) (first : ℕ) (nodes : List NodeRecord) : Type 0 where
  pub passed : nodes_refusal tables plan first nodes ≡ None
  pub limits : all_entries has_its_limit plan first nodes ≡ true
  pub calls : all_entries has_its_calls plan first nodes ≡ true

-- an entry more, of a plan's top node whose inputs keep these; with no reasons after it there were none, and it is not refused
pub record IsTop (tables : List TableRule) (plan : PlanTree) (kept more : List Fact) (old new : List NodeRecord) (before after : List Reason) (facts : List Fact) : Type 0 where
  pub entry : NodeRecord
  pub is : new ≡ old ++ entry ∷ []
  pub keeps : kept_facts entry ≡ facts
  pub plain : ArePlain (width plan) facts
  pub settled : after ≡ [] → (before ≡ []) × IsEntry tables plan kept more (length old) entry

-- the entries of a plan more; with no reasons after them there were none, and they are not refused
pub record IsAnalysed (tables : List TableRule) (plan : PlanTree) (old new : List NodeRecord) (before after : List Reason) (facts : List Fact) : Type 0 where
  pub long : length new ≡ length old + node_count plan
  pub grows : (own : List NodeRecord) × (new ≡ old ++ own)
  pub kept : kept_facts (top_at plan (length old) new) ≡ facts
  pub plain : ArePlain (width plan) facts
  pub settled : after ≡ [] → (before ≡ []) × AreEntries tables plan (length old) new
