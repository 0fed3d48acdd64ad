-- What a valid certificate keeps holds, and its rules settle the plan: by induction on the plan.
use Rattle.std.proofs.Common.{◌≡◌, ℕ, ◌+◌, true, ◌&&◌, List, [], ◌∷◌, ◌++◌, drop, refl, ◌∙◌, ap, subst, None, Result, Ok, Err}
use Rattle.std.specs.List.{AllByRecursion}
use Rattle.std.proofs.lemmas.Bool.{and_parts}
use Rattle.wd_value.specs.Rows.{Row as RowValues, Instance}
use Rattle.wd_schema.specs.Meets.{Meets}
use Rattle.wd_schema.specs.Tables.{TableRule}
use Rattle.wd_plan.specs.declared.window.Call.{Call}
use Rattle.wd_plan.specs.Choices.{AreLawful, AreOrderings, AtRows}
use Rattle.wd_plan.specs.Facts.{HasWidth}
use Rattle.wd_plan.specs.Faults.{and_then}
use Rattle.wd_plan.specs.Fits.{fits, is_join, is_step, is_window, kinds_of, width}
use Rattle.wd_plan.specs.Outcomes.{RowsOrFault, join_outcome, outcome, pairs, step_outcome}
use Rattle.wd_plan.specs.Plans.{WindowRule, Step, Map, Window, Limit, PlanTree, Scan, Join, Over, step_classes, node_count, ordering_count, own_orderings}
use Rattle.wd_plan.specs.Settled.{IsSettledPlan, IsSettledStep}
use Rattle.wd_plan.proofs.Ranges.{IsSound, calls_sound, kinds_below, names_classes}
use Rattle.wd_laws.proofs.TheLaws.{plan_has_one}
use Rattle.wd_certificate.specs.Certificates.{CertificateRecord, NodeRecord}
use Rattle.wd_certificate.specs.declared.error.CertError.{CertError}
use Rattle.wd_certificate.specs.declared.error.CertError.TheVariants.{Version}
use Rattle.wd_step_facts.specs.declared.facts.Member.TheVariants as member
use Rattle.wd_step_facts.specs.Facts.{Fact, FactList, Holds, Paired, PairsRows, beside, unpaired}
use Rattle.wd_step_facts.specs.Steps.{calls_facts}
use Rattle.wd_facts.specs.Laws.{AreKept, ChildrenKeep, InPairs, InRows, Known, rows_described}
use Rattle.wd_facts.proofs.Embeds.{hold_moved, same_facts}
use Rattle.wd_facts.proofs.GivenHolds.{given_facts_hold, known_holds}
use Rattle.wd_facts.proofs.Lists.{all_append}
use Rattle.wd_facts.proofs.Nodes.{kept_map}
use Rattle.wd_facts.proofs.Pairs.{sides}
use Rattle.wd_facts.proofs.Sides.{AreSides, HasSides}
use Rattle.wd_facts.proofs.Windows.{IsWell, calls_hold, shown_carries, shown_rows}
use Rattle.wd_rules.specs.Laws.{FactsHold, GivenHoldAt, KeptHold, NeverBoth, ValidHasOne, ValidShows}
use Rattle.wd_rules.specs.Rules.{EvidenceRecord, claims_refusal, entry_refusal, keep_refusal, kept_facts, or_else, refuse_unless, rules_refusal}
use Rattle.wd_rules.specs.Traces.{Traced, each_traced}
use Rattle.wd_rules.specs.Validity.{IsValidCertificate, entries_refusal, form_refusal, given_at, is_read_for, kept_below, kept_right, nodes_refusal, top_at, top_number, top_refusal}
use Rattle.wd_rules.proofs.Kept.{keeps}
use Rattle.wd_rules.proofs.Refused.{first_passed, later_passed}
use Rattle.wd_rules.proofs.Settled.{in_range, limit_settled, window_settled}
use Rattle.wd_rules.proofs.Traces.{each_true}
use Rattle.wd_rules.proofs.Valid.{not_refused}

-- ---- outcomes of a step

at_step : (a : RowsOrFault) (f : List RowValues → RowsOrFault) (P Q : List RowValues → Type 0) → AtRows a P (Unit {0}) → ((xs ys : List RowValues) → a ≡ Ok xs → P xs → f xs ≡ Ok ys → Q ys) → AtRows (and_then a f) Q (Unit {0})
at_step (Ok xs) f P Q h g = at_end (f xs) (λ ys e. g xs ys refl h e)
  where
    at_end : (o : RowsOrFault) → ((ys : List RowValues) → o ≡ Ok ys → Q ys) → AtRows o Q (Unit {0})
    at_end (Ok ys) k = k ys refl
    at_end (Err d) k = tt
at_step (Err d) f P Q h g = tt

pub at_rows : (o : RowsOrFault) (rows : List RowValues) (P : List RowValues → Type 0) (Q : Type 0) → o ≡ Ok rows → AtRows o P Q → P rows
at_rows o rows P Q e h = let family : RowsOrFault → Type 0 = λ v. AtRows v P Q in subst family e h

pub at_map : (o : RowsOrFault) (P Q : List RowValues → Type 0) → AtRows o P (Unit {0}) → ((rows : List RowValues) → o ≡ Ok rows → P rows → Q rows) → AtRows o Q (Unit {0})
at_map (Ok rows) P Q h g = g rows refl h
at_map (Err f) P Q h g = tt

-- ---- an entry that is not refused

-- its traces are good, and show its claims
pub record IsGood (node : ℕ) (facts : FactList) (plan : PlanTree) (entry : NodeRecord) : Type 0 where
  pub shown : List Traced
  pub traced : each_traced node facts entry.traces ≡ Ok shown
  pub keep : keep_refusal (record { node = node; facts = facts; shown = shown }) (width plan) entry.keep ≡ None
  pub rules : rules_refusal (record { node = node; facts = facts; shown = shown }) plan entry ≡ None

is_good : (node : ℕ) (facts : FactList) (plan : PlanTree) (entry : NodeRecord) → entry_refusal node facts plan entry ≡ None → IsGood node facts plan entry
is_good node facts plan entry e = by (each_traced node facts entry.traces) refl e
  where
    by : (o : Result (List Traced) CertError) → each_traced node facts entry.traces ≡ o → claims_refusal node facts plan entry o ≡ None → IsGood node facts plan entry
    by (Ok shown) h f =
        let evidence : EvidenceRecord = record { node = node; facts = facts; shown = shown } in
        let keep = keep_refusal evidence (width plan) entry.keep in
        let rules = rules_refusal evidence plan entry in
        record { shown = shown; traced = h; keep = first_passed keep rules f; rules = later_passed keep rules f }
    by (Err refusal) h f = cc

-- in positions in which its given facts hold it keeps what holds in them and in their rows
entry_keeps : (n : Paired) (node : ℕ) (facts : FactList) (plan : PlanTree) (entry : NodeRecord) → IsGood node facts plan entry → HasSides n facts.split facts.columns → AllByRecursion (Holds n) facts.list → AreKept (width plan) (kept_facts entry) n.rows × AllByRecursion (Holds n) (kept_facts entry)
entry_keeps n node facts plan entry good sides hold = keeps n facts sides hold node (width plan) entry.traces good.shown good.traced entry.keep good.keep

-- ---- Windows

all_well : (tables : List TableRule) (input : PlanTree) (f : fits tables input ≡ true) (w : WindowRule) (rows : List RowValues) (os : List (List ℕ)) (wide : HasWidth (width input) rows) (calls : List Call) → AllByRecursion (IsSound (kinds_of tables input) (width input) (kinds_below tables input f) w) calls → AllByRecursion (IsWell w rows os (width input) wide) calls
all_well tables input f w rows os wide [] a = tt
all_well tables input f w rows os wide (call ∷ calls) a = (record { names = a.0.names; in_partition = a.0.in_partition; in_order = a.0.in_order }, all_well tables input f w rows os wide calls a.1)

-- the given facts of a Window hold in its rows with NULL for a fault
window_given : (w : WindowRule) (rows : List RowValues) (os : List (List ℕ)) (width : ℕ) (wide : HasWidth width rows) (kept : List Fact) → AreKept width kept rows → AreOrderings w.classes rows os → AllByRecursion (IsWell w rows os width wide) w.calls → AllByRecursion (Holds (unpaired (shown_rows w rows os))) (kept ++ calls_facts w width w.calls)
window_given w rows os width wide kept k valid well =
    all_append (Holds (unpaired (shown_rows w rows os))) kept (calls_facts w width w.calls)
    (subst (AllByRecursion (Holds (unpaired (shown_rows w rows os)))) (same_facts kept) (hold_moved rows (unpaired (shown_rows w rows os)) (λ c. c) member.Row width (shown_carries w rows os width wide) kept k.named k.hold))
    (calls_hold w rows os width wide valid well)

-- ---- Joins

-- the positions of a Join's rows are sides
pairs_sides : (ls rs : List RowValues) (n : Paired) (wl wr : ℕ) → HasWidth wl ls → HasWidth wr rs → PairsRows ls rs n → AreSides n wl (wl + wr)
pairs_sides ls rs n wl wr wide_left wide_right paired = sides ls rs n.rows (record { left = n.left; right = n.right; left_within = paired.left_within; right_within = paired.right_within; is = paired.is; apart = paired.apart }) wl wr wide_left wide_right

-- ---- the induction

module _ (tables : List TableRule) (instance : Instance) (nodes : List NodeRecord) (meets : Meets tables instance) where
  -- what holds of a plan whose entries begin at a number
  pub record IsSoundPlan (plan : PlanTree) (choice : List (List ℕ)) (first : ℕ) : Type 0 where
    pub settled : IsSettledPlan plan instance choice
    pub facts : FactsHold tables plan instance choice first nodes
    pub kept : KeptHold plan instance choice first nodes

  abbrev pub Keeps : PlanTree → ℕ → List RowValues → Type 0
  Keeps plan first rows = AreKept (width plan) (kept_facts (top_at plan first nodes)) rows

  abbrev pub Good : PlanTree → ℕ → Type 0
  Good plan first = IsGood (top_number plan first) (given_at tables plan first nodes) plan (top_at plan first nodes)

  pub good : (plan : PlanTree) (first : ℕ) → top_refusal tables plan first nodes ≡ None → Good plan first
  good plan first e = is_good (top_number plan first) (given_at tables plan first nodes) plan (top_at plan first nodes) e

  -- in the rows of a node whose positions have no sides
  kept_in : (plan : PlanTree) (first : ℕ) (rows : List RowValues) → Good plan first → HasSides (unpaired rows) (given_at tables plan first nodes).split (given_at tables plan first nodes).columns → InRows tables plan (kept_below plan first nodes) (kept_right plan first nodes) rows → Keeps plan first rows
  kept_in plan first rows g none hold = (entry_keeps (unpaired rows) (top_number plan first) (given_at tables plan first nodes) plan (top_at plan first nodes) g none hold).0

  pub known : (plan : PlanTree) (choice : List (List ℕ)) → fits tables plan ≡ true → AreLawful plan instance choice → AtRows (outcome plan instance choice) (Known tables plan) (Unit {0})
  known plan choice f l = known_holds tables plan instance choice f meets l

  given_here : (plan : PlanTree) (choice : List (List ℕ)) (first : ℕ) → fits tables plan ≡ true → AreLawful plan instance choice → ChildrenKeep plan instance choice (kept_below plan first nodes) (kept_right plan first nodes) → GivenHoldAt tables plan instance choice first nodes
  given_here plan choice first f l a = given_facts_hold tables plan instance choice (kept_below plan first nodes) (kept_right plan first nodes) f meets l a

  -- what holds of the rows of which a step's given facts speak, and is kept, holds of its rows
  kept_step : (step : Step) (input : PlanTree) (os : List (List ℕ)) (first : ℕ) (xs ys : List RowValues) → Known tables input xs → step_outcome step os xs ≡ Ok ys → Good (Over step input) first
      → InRows tables (Over step input) (kept_below (Over step input) first nodes) [] (rows_described step ys xs) → Keeps (Over step input) first ys
  kept_step (Map outputs) input os first xs ys is_known is g hold =
      let plan = Over (Map outputs) input in
      let both = kept_in plan first (beside ys xs) g tt hold in
      record { named = both.named; hold = kept_map tables outputs input xs ys is_known is (kept_facts (top_at plan first nodes)) both.named both.hold }
  kept_step step input os first xs ys is_known is g hold = kept_in (Over step input) first ys g tt hold

  -- the rules of a step's entry settle it
  step_settled : (step : Step) (input : PlanTree) (os : List (List ℕ)) (first : ℕ) (rows : List RowValues) → fits tables (Over step input) ≡ true → AreOrderings (step_classes step) rows os → Known tables input rows → Keeps input first rows → Good (Over step input) first → IsSettledStep step rows
  step_settled (Window w) input os first rows f valid is_known k g =
      let plan = Over (Window w) input in
      let facts = given_at tables plan first nodes in
      let node = top_number plan first in
      let entry = top_at plan first nodes in
      let fitting = and_parts (fits tables input) (is_window (kinds_of tables input) (width input) w) f in
      let below = kinds_below tables input fitting.0 in
      let calls = calls_sound (kinds_of tables input) (width input) below w fitting.1 in
      let wide = is_known.wide in
      let hold = window_given w rows os (width input) wide (kept_below plan first nodes) k valid (all_well tables input fitting.0 w rows os wide w.calls calls) in
      let shown = each_true (unpaired (shown_rows w rows os)) facts tt hold node entry.traces g.shown g.traced in
      ((names_classes tables plan f).1, _, width input, wide, window_settled w rows os (width input) wide facts tt g.shown shown node entry.calls (in_range (kinds_of tables input) (width input) below w w.calls calls) g.rules)
  step_settled (Limit limit) input os first rows f valid is_known k g =
      let plan = Over (Limit limit) input in
      let facts = given_at tables plan first nodes in
      let node = top_number plan first in
      let entry = top_at plan first nodes in
      (width input, is_known.wide, limit_settled rows facts tt g.shown (each_true (unpaired rows) facts tt k.hold node entry.traces g.shown g.traced) node (width input) limit entry.limit g.rules)
  step_settled step input os first rows f valid is_known k g = tt

  pub sound : (plan : PlanTree) (choice : List (List ℕ)) (first : ℕ) → fits tables plan ≡ true → nodes_refusal tables plan first nodes ≡ None → AreLawful plan instance choice → IsSoundPlan plan choice first
  sound (Scan table columns) choice first f v l =
      let plan = Scan table columns in
      let given = given_here plan choice first f l tt in
      let kept = kept_in plan first _ (good plan first v) tt given in
      record { settled = tt; facts = (given, kept); kept = kept }
  sound (Over step input) choice first f v l =
      let plan = Over step input in
      let below = nodes_refusal tables input first nodes in
      let own = top_refusal tables plan first nodes in
      let os = own_orderings step input choice in
      let fitting = (and_parts (fits tables input) (is_step (kinds_of tables input) (width input) step) f).0 in
      let under = sound input choice first fitting (first_passed below own v) l.0 in
      let given = given_here plan choice first f l under.kept in
      let g = good plan first (later_passed below own v) in
      let known_at : (rows : List RowValues) → outcome input instance choice ≡ Ok rows → Known tables input rows = λ rows e. at_rows (outcome input instance choice) rows (Known tables input) (Unit {0}) e (known input choice fitting l.0) in
      let In : List RowValues → List RowValues → Type 0 = λ ins outs. InRows tables plan (kept_below plan first nodes) [] (rows_described step outs ins) in
      let kept : KeptHold plan instance choice first nodes = at_step (outcome input instance choice) (step_outcome step os) (λ ins. AtRows (outcome plan instance choice) (In ins) (Unit {0})) (Keeps plan first) given (λ xs ys e h is.
      kept_step step input os first xs ys (known_at xs e) is g (at_rows (outcome plan instance choice) ys (In xs) (Unit {0}) (ap (λ o. and_then o (step_outcome step os)) e ∙ is) h)) in
      let settled = at_map (outcome input instance choice) (Keeps input first) (IsSettledStep step) under.kept (λ rows e k.
      step_settled step input os first rows f (at_rows (outcome input instance choice) rows (λ rows. AreOrderings (step_classes step) rows os) (AllByRecursion (λ o. o ≡ []) os) e l.1) (known_at rows e) k g) in
      record { settled = (under.settled, settled); facts = ((given, kept), under.facts); kept = kept }
  sound (Join condition left right) choice first f v l =
      let plan = Join condition left right in
      let c2 = drop (ordering_count left) choice in
      let second = first + node_count left in
      let of_left = nodes_refusal tables left first nodes in
      let of_right = nodes_refusal tables right second nodes in
      let own = top_refusal tables plan first nodes in
      let rest = later_passed of_left (or_else of_right own) v in
      let fitting = and_parts (fits tables left) (fits tables right) (and_parts (fits tables left && fits tables right) (is_join (kinds_of tables plan) (width left + width right) condition) f).0 in
      let at_left = sound left choice first fitting.0 (first_passed of_left (or_else of_right own) v) l.0 in
      let at_right = sound right c2 second fitting.1 (first_passed of_right own rest) l.1 in
      let given = given_here plan choice first f l (at_left.kept, at_right.kept) in
      let g = good plan first (later_passed of_right own rest) in
      let facts = given_at tables plan first nodes in
      let lk = kept_below plan first nodes in
      let rk = kept_right plan first nodes in
      let Pairs : List RowValues → List RowValues → Type 0 = λ ls rs. AtRows (outcome plan instance choice) (InPairs tables plan lk rk ls rs) (Unit {0}) in
      let kept : KeptHold plan instance choice first nodes = at_step (outcome left instance choice) (λ ls. and_then (outcome right instance c2) (λ rs. join_outcome condition (pairs ls rs))) (λ ls. AtRows (outcome right instance c2) (Pairs ls) (Unit {0})) (Keeps plan first) given (λ ls ys e h is.
      at_rows (and_then (outcome right instance c2) (λ rs. join_outcome condition (pairs ls rs))) ys (Keeps plan first) (Unit {0}) is
      (at_step (outcome right instance c2) (λ rs. join_outcome condition (pairs ls rs)) (Pairs ls) (Keeps plan first) h (λ rs zs e' h' is'.
      (let here : outcome plan instance choice ≡ Ok zs = (λ i. and_then (e i) (λ ls'. and_then (e' i) (λ rs'. join_outcome condition (pairs ls' rs')))) ∙ is' in
      let p = at_rows (outcome plan instance choice) zs (InPairs tables plan lk rk ls rs) (Unit {0}) here h' in
      let wide_left = (at_rows (outcome left instance choice) ls (Known tables left) (Unit {0}) e (known left choice fitting.0 l.0)).wide in
      let wide_right = (at_rows (outcome right instance c2) rs (Known tables right) (Unit {0}) e' (known right c2 fitting.1 l.1)).wide in
      subst (Keeps plan first) p.1 (entry_keeps p.0 (top_number plan first) facts plan (top_at plan first nodes) g (pairs_sides ls rs p.0 (width left) (width right) wide_left wide_right p.2) p.3).0)))) in
      record { settled = (at_left.settled, at_right.settled); facts = ((given, kept), at_left.facts, at_right.facts); kept = kept }

-- a valid certificate's entries are not refused
pub entries_passed : (tables : List TableRule) (plan : PlanTree) (certificate : CertificateRecord) → IsValidCertificate tables plan certificate → entries_refusal tables plan certificate.nodes ≡ None
entries_passed tables plan certificate v = later_passed (refuse_unless (is_read_for plan certificate.version) Version) (entries_refusal tables plan certificate.nodes) (not_refused tables plan certificate v)

-- and none of them is in postorder
pub nodes_passed : (tables : List TableRule) (plan : PlanTree) (certificate : CertificateRecord) → IsValidCertificate tables plan certificate → nodes_refusal tables plan 0 certificate.nodes ≡ None
nodes_passed tables plan certificate v = later_passed (form_refusal plan certificate.nodes) (nodes_refusal tables plan 0 certificate.nodes) (entries_passed tables plan certificate v)

pub valid_shows : ValidShows
valid_shows tables plan certificate f v instance choice meets valid =
    let is = sound tables instance certificate.nodes meets plan choice 0 f (nodes_passed tables plan certificate v) valid.lawful in
    record { facts = is.facts; settled = is.settled }

pub valid_has_one : ValidHasOne
valid_has_one tables plan certificate f v instance other c1 c2 meets same v1 v2 = plan_has_one plan instance other c1 c2 same v1 v2 (valid_shows tables plan certificate f v instance c1 meets v1).settled

pub never_both : NeverBoth
never_both tables plan certificate instance c1 c2 f v w = w.differ (valid_has_one tables plan certificate f v instance instance c1 c2 w.meets (λ table row. refl) w.first w.second)
