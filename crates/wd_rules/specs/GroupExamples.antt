-- Worked certificates of grouped queries, checked by the definitions.
use Rattle.std.specs.Prelude.{◌≡◌, true, false, List, [], ◌∷◌, Some}
use Rattle.wd_plan.specs.Fits.{fits}
use Rattle.wd_plan.specs.Plans.{Grouping, PlanTree}
use Rattle.wd_laws.specs.examples.Grouping.{count_of_rows, cube, group, more_than_one, numbered_by_count, numbered_rollup, numbered_rollup_told_apart, rolled_up, running_sum_of_sums}
use Rattle.wd_laws.specs.examples.Literals.{scan_t, select}
use Rattle.wd_certificate.specs.Certificates.{NodeRecord}
use Rattle.wd_certificate.specs.declared.certificate.Rule.TheVariants.{Peers, Unique}
use Rattle.wd_certificate.specs.declared.error.CertError.TheVariants as refused
use Rattle.wd_step_facts.specs.declared.facts.Member.TheVariants as member
use Rattle.wd_step_facts.specs.Facts.{key_fact}
use Rattle.wd_rules.specs.Examples.{keeps_row, nothing, of_table, rules, schema, trace, version_1, version_2}
use Rattle.wd_rules.specs.Validity.{IsValidCertificate, first_refusal, given_at}

-- the Group keeps that g and GROUPING determine the row, the Map keeps that its copies of these do, and the call is `unique` by them
abbrev pub told_apart : List NodeRecord
told_apart = nothing ∷ nothing ∷ keeps_row (0 ∷ 2 ∷ []) (0 ∷ []) ∷ keeps_row (2 ∷ 0 ∷ []) (2 ∷ 6 ∷ 0 ∷ []) ∷ rules (Unique 0 ∷ []) (trace (2 ∷ 0 ∷ []) (0 ∷ []) ∷ []) ∷ nothing ∷ []

-- the Group keeps that v determines the row, and so does the Map; the call's trace starts from v, but its class does not sort by v
abbrev pub by_count : List NodeRecord
by_count = nothing ∷ nothing ∷ keeps_row (0 ∷ []) (0 ∷ []) ∷ keeps_row (0 ∷ []) (2 ∷ 0 ∷ []) ∷ rules (Unique 0 ∷ []) (trace (0 ∷ []) (0 ∷ []) ∷ []) ∷ nothing ∷ []

-- id alone below a Group
abbrev pub grouped_ids : PlanTree
grouped_ids = group 1 ((0 ∷ []) ∷ []) (count_of_rows ∷ []) (select (0 ∷ []) scan_t)

pub record GroupsAreCertified : Type 0 where
  pub rollup_fits : fits schema rolled_up ≡ true
  pub cube_fits : fits schema cube ≡ true
  -- each grouping column is in some set
  pub column_in_no_set : fits schema (group 2 ((0 ∷ []) ∷ []) [] (select (1 ∷ 2 ∷ []) scan_t)) ≡ false
  -- GROUPING takes grouping columns, at least one
  pub grouping_of_others : fits schema (group 1 ((0 ∷ []) ∷ []) (Grouping (1 ∷ []) ∷ []) (select (1 ∷ 2 ∷ []) scan_t)) ≡ false
  pub grouping_of_nothing : fits schema (group 1 ((0 ∷ []) ∷ []) (Grouping [] ∷ []) (select (1 ∷ []) scan_t)) ≡ false
  -- HAVING over groups: nothing is left to a choice
  pub having : IsValidCertificate schema more_than_one (version_2 (nothing ∷ nothing ∷ nothing ∷ nothing ∷ nothing ∷ []))
  -- a Group needs version 2, which is checked before the number of nodes
  pub earlier_version : first_refusal schema more_than_one (version_1 (nothing ∷ nothing ∷ nothing ∷ nothing ∷ nothing ∷ [])) ≡ Some refused.Version
  pub version_first : first_refusal schema more_than_one (version_1 []) ≡ Some refused.Version
  -- a running sum of sums goes by peers
  pub sum_of_sums : IsValidCertificate schema running_sum_of_sums (version_2 (nothing ∷ nothing ∷ nothing ∷ nothing ∷ rules (Peers ∷ []) [] ∷ nothing ∷ []))
  -- in a rollup without GROUPING nothing determines the row
  pub nothing_given : (given_at schema (group 1 ((0 ∷ []) ∷ [] ∷ []) (count_of_rows ∷ []) (select (1 ∷ []) scan_t)) 0 []).list ≡ []
  pub rollup_alone : first_refusal schema numbered_rollup (version_2 (nothing ∷ nothing ∷ keeps_row (0 ∷ []) (0 ∷ []) ∷ nothing ∷ rules (Peers ∷ []) [] ∷ nothing ∷ [])) ≡ Some (refused.OutOfRange 2)
  -- with GROUPING the grouping columns and its value determine the row
  pub key_given : (given_at schema (group 1 ((0 ∷ []) ∷ [] ∷ []) (count_of_rows ∷ Grouping (0 ∷ []) ∷ []) (select (1 ∷ []) scan_t)) 0 []).list ≡ key_fact member.Row (0 ∷ 2 ∷ []) ∷ []
  pub rollup_told_apart : IsValidCertificate schema numbered_rollup_told_apart (version_2 told_apart)
  -- a count does not distinguish groups
  pub groups_by_count : first_refusal schema numbered_by_count (version_2 by_count) ≡ Some (refused.UnjustifiedCall 4)
  -- with one set its columns determine the row, and the facts that the input keeps of them hold
  pub one_set : (given_at schema grouped_ids 0 (of_table ∷ keeps_row (0 ∷ []) (2 ∷ 0 ∷ []) ∷ [])).list ≡ key_fact member.Row (0 ∷ []) ∷ key_fact member.Row (0 ∷ []) ∷ []
  -- a repeated set cannot be distinguished
  pub repeated_set : (given_at schema (group 1 ((0 ∷ []) ∷ (0 ∷ []) ∷ []) (Grouping (0 ∷ []) ∷ []) (select (1 ∷ []) scan_t)) 0 []).list ≡ []
