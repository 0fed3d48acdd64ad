-- What the sort keys of a plan's last Limit lack.
use Rattle.std.specs.Prelude.{◌≡◌, ℕ, true, not, List, [], Option, None, is_some}
use Rattle.wd_value.specs.Keys.{key_columns}
use Rattle.wd_schema.specs.Tables.{TableRule}
use Rattle.wd_plan.specs.Fits.{width}
use Rattle.wd_plan.specs.Plans.{LimitRule, PlanTree, Over, Map, Limit}
use Rattle.wd_certificate.specs.Certificates.{nodes_of}
use Rattle.wd_certificate.specs.declared.certificate.Certificate.{Certificate}
use Rattle.wd_facts.specs.Given.{given}
use Rattle.wd_rules.specs.Lists.{final_limit, goes_by_keys}
use Rattle.wd_analyse.specs.declared.analysis.Analysis.TheVariants.{Certified}
use Rattle.wd_analyse.specs.Analysis.{IsAnswer}
use Rattle.wd_analyse.specs.Evidence.{Closing, IsClosing}
use Rattle.wd_analyse.specs.Findings.{AreFindings, PlanFindings, facts_kept, lacking}

-- the least column that the sort keys of a Limit do not determine, by the facts that its input keeps; none where they determine all
pub record IsLackOf (tables : List TableRule) (limit : LimitRule) (input : PlanTree) (lack : Option ℕ) : Type 0 where
  pub found : PlanFindings
  pub are : AreFindings tables input 0 found
  pub keys : Closing
  pub closing : IsClosing (given tables (Over (Limit limit) input) (facts_kept input found.top) []) keys
  pub columns : keys.from ≡ key_columns limit.keys
  pub is : lacking (width input) keys ≡ lack

-- what the sort keys of a plan's last Limit lack, the Limit that `final_limit` numbers; none where there is no such Limit
abbrev pub IsLack : List TableRule → PlanTree → Option ℕ → Type 0
IsLack tables (Over (Map outputs) input) lack = IsLack tables input lack
IsLack tables (Over (Limit limit) input) lack = IsLackOf tables limit input lack
IsLack tables plan lack = lack ≡ None

-- `keys` comes first: by the certificate of an analysis the last Limit goes by `keys` exactly where its sort keys lack no column
abbrev pub KeysComeFirst : Type 0
KeysComeFirst = (tables : List TableRule) (plan : PlanTree) (certificate : Certificate) (lack : Option ℕ)
    → IsAnswer tables plan (Certified certificate) → IsLack tables plan lack → is_some (final_limit plan 0) ≡ true
    → is_some lack ≡ not (goes_by_keys (nodes_of certificate) (final_limit plan 0))
