-- A valid certificate by which a plan's last Limit goes by `keys` shows that the plan has one list.
use Rattle.std.proofs.Common.{◌≡◌, ℕ, true, List, None}
use Rattle.std.proofs.lemmas.Bool.{and_parts, false≢true}
use Rattle.wd_value.specs.Rows.{Instance}
use Rattle.wd_schema.specs.Meets.{Meets}
use Rattle.wd_schema.specs.Tables.{TableRule}
use Rattle.wd_plan.specs.Choices.{AreLawful}
use Rattle.wd_plan.specs.Facts.{DeterminesAll, HasWidth}
use Rattle.wd_plan.specs.Fits.{are_outputs, fits, is_limit, kinds_of, width}
use Rattle.wd_plan.specs.Outcomes.{outcome}
use Rattle.wd_plan.specs.Plans.{Map, Limit, PlanTree, Over}
use Rattle.wd_plan.specs.Sorting.{limit_class, order_columns}
use Rattle.wd_certificate.specs.Certificates.{NodeRecord}
use Rattle.wd_step_facts.specs.Facts.{unpaired}
use Rattle.wd_facts.specs.Laws.{Known}
use Rattle.wd_rules.specs.Lists.{IsListedPlan, ListedHasOne, final_limit, goes_by_keys}
use Rattle.wd_rules.specs.Validity.{given_at, nodes_refusal, top_at, top_number, top_refusal}
use Rattle.wd_rules.proofs.Lists.{plan_has_one_list}
use Rattle.wd_rules.proofs.Refused.{first_passed, later_passed}
use Rattle.wd_rules.proofs.Settled.{keys_give}
use Rattle.wd_rules.proofs.Sound.{Keeps, at_map, at_rows, good, known, nodes_passed, sound, valid_shows}
use Rattle.wd_rules.proofs.Traces.{each_true}

module _ (tables : List TableRule) (instance : Instance) (nodes : List NodeRecord) (meets : Meets tables instance) where
  listed : (plan : PlanTree) (choice : List (List ℕ)) (first : ℕ) → fits tables plan ≡ true → nodes_refusal tables plan first nodes ≡ None → AreLawful plan instance choice → goes_by_keys nodes (final_limit plan first) ≡ true → IsListedPlan plan instance choice
  listed (Over (Map outputs) input) choice first f v l t =
      let fitting = (and_parts (fits tables input) (are_outputs (kinds_of tables input) outputs) f).0 in
      listed input choice first fitting (first_passed (nodes_refusal tables input first nodes) (top_refusal tables (Over (Map outputs) input) first nodes) v) l.0 t
  listed (Over (Limit limit) input) choice first f v l t =
      let plan = Over (Limit limit) input in
      let below = nodes_refusal tables input first nodes in
      let own = top_refusal tables plan first nodes in
      let fitting = (and_parts (fits tables input) (is_limit (kinds_of tables input) limit) f).0 in
      let under = sound tables instance nodes meets input choice first fitting (first_passed below own v) l.0 in
      let g = good tables instance nodes meets plan first (later_passed below own v) in
      let facts = given_at tables plan first nodes in
      let node = top_number plan first in
      at_map (outcome input instance choice) (Keeps tables instance nodes meets input first) (λ rows. (width' : ℕ) × HasWidth width' rows × DeterminesAll rows width' (order_columns (limit_class limit))) under.kept (λ rows e k. (
        width input,
        (at_rows (outcome input instance choice) rows (Known tables input) (Unit {0}) e (known tables instance nodes meets input choice fitting l.0)).wide,
        keys_give rows facts tt g.shown (each_true (unpaired rows) facts tt k.hold node (top_at plan first nodes).traces g.shown g.traced) node (width input) limit (top_at plan first nodes).limit t g.rules,
      ))
  listed plan choice first f v l t = absurd (false≢true t)

pub listed_has_one : ListedHasOne
listed_has_one tables plan certificate f v t instance other c1 c2 meets same v1 v2 =
    plan_has_one_list plan instance other c1 c2 same v1 v2
    (valid_shows tables plan certificate f v instance c1 meets v1).settled
    (listed tables instance certificate.nodes meets plan c1 0 f (nodes_passed tables plan certificate v) v1.lawful t)
