-- Plans that go by peers alone are certified.
use Rattle.std.proofs.Common.{◌≡◌, ℕ, zero, suc, ◌+◌, ◌<◌, true, List, [], ◌∷◌, ◌++◌, length, refl, sym, ◌∙◌, ap, subst, arith, Option, None, Some, slice_get}
use Rattle.std.specs.List.{AllByRecursion}
use Rattle.std.proofs.lemmas.Grind.{flat_map-append}
use Rattle.std.proofs.lemmas.List.{length-map}
use Rattle.wd_schema.specs.Tables.{TableRule}
use Rattle.wd_plan.specs.Fits.{width}
use Rattle.wd_plan.specs.Plans.{EachNamesClasses, LimitRule, NameBelow, PlanTree, WindowRule, Scan, Join, Over, Filter, Map, Window, Distinct, Group, Limit}
use Rattle.wd_plan.specs.Settled.{is_by_peers}
use Rattle.wd_plan.specs.Sorting.{class_columns}
use Rattle.wd_plan.specs.declared.window.Call.{Call}
use Rattle.wd_plan.proofs.Ranges.{names_classes}
use Rattle.wd_step_facts.specs.Facts.{Fact, FactList}
use Rattle.wd_rules.specs.Rules.{is_whole_or_ties}
use Rattle.wd_analyse.specs.declared.analysis.Analysis.TheVariants.{Certified, Open}
use Rattle.wd_analyse.specs.Decisions.{decide_of, decided_calls, next_exchange}
use Rattle.wd_analyse.specs.Evidence.{Closing}
use Rattle.wd_analyse.specs.Findings.{AreFindings, Finding, IsFoundOver, IsOfLimit, IsOfWindow, PlanFindings, facts_kept, in_postorder, lacking, reason_of, reasons_by_keys, reasons_in, reasons_of}
use Rattle.wd_analyse.proofs.Sound.{reasons_more}
use Rattle.wd_analyse.specs.Peers.{GoByPeers, PeersAreCertified}

-- ---- lists of findings

reasons_append : (fs gs : List Finding) → reasons_in (fs ++ gs) ≡ reasons_in fs ++ reasons_in gs
reasons_append fs gs = flat_map-append (λ (f : Finding). f.reasons) fs gs

after : (before : List Finding) (top : Finding) → reasons_in before ≡ [] → top.reasons ≡ [] → reasons_in (before ++ top ∷ []) ≡ []
after before top e f = reasons_more [] before top ∙ (λ i. e i ++ f i)

-- ---- a Window

closing_at : (cs : List Closing) (k : ℕ) → k < length cs → (c : Closing) × (slice_get cs k ≡ Some c)
closing_at [] k h = absurd (omega (arith, h))
closing_at (c ∷ cs) zero h = (c, refl)
closing_at (c ∷ cs) (suc k) h = closing_at cs k (omega (arith, h))

module _ (node first columns : ℕ) (classes : List Closing) where
  no_reason : (n : ℕ) (exchange : Option ℕ) (call : Call) → call.class < length classes → is_by_peers call.frame call.function ≡ true → reason_of node n (decide_of (slice_get classes call.class) (first + call.class) columns exchange call) ≡ []
  no_reason n exchange call below peers = let c = closing_at classes call.class below in rw (c.1, peers) refl

  none_of : (n : ℕ) (exchange : Option ℕ) (calls : List Call) → NameBelow (length classes) calls → AllByRecursion (λ (call : Call). is_by_peers call.frame call.function ≡ true) calls → reasons_of node n (decided_calls classes first columns exchange calls) ≡ []
  none_of n exchange [] below peers = refl
  none_of n exchange (call ∷ calls) below peers =
      let here = no_reason n exchange call below.0 peers.0 in
      let rest = none_of (n + 1) (next_exchange exchange call.class (decide_of (slice_get classes call.class) (first + call.class) columns exchange call)) calls below.1 peers.1 in
      λ i. here i ++ rest i

-- ---- a node

module _ (facts : FactList) (node : ℕ) (f : Finding) where
  of_window : (w : WindowRule) (input : PlanTree) → NameBelow (length w.classes) w.calls → AllByRecursion (λ (call : Call). is_by_peers call.frame call.function ≡ true) w.calls → IsOfWindow facts w input node f → f.reasons ≡ []
  of_window w input below peers is =
      let long : length is.classes ≡ length w.classes = sym (length-map is.classes (λ (c : Closing). c.from)) ∙ ap length is.columns ∙ length-map w.classes class_columns in
      is.reasons ∙ none_of node (length f.claims) (width input) is.classes 0 None w.calls (subst (λ n. NameBelow n w.calls) (sym long) below) peers

  of_limit : (limit : LimitRule) (input : PlanTree) → is_whole_or_ties limit ≡ true → IsOfLimit facts limit input node f → f.reasons ≡ []
  of_limit limit input e is = is.reasons ∙ none (lacking (width input) is.keys)
    where
      none : (lack : Option ℕ) → reasons_by_keys node limit lack ≡ []
      none None = refl
      none (Some column) = rw e refl

-- ---- a plan

module _ (tables : List TableRule) where
  of_one : (plan : PlanTree) (first : ℕ) (inner found : PlanFindings) (kept : List Fact) → IsFoundOver tables plan first (in_postorder inner) kept [] found
      → reasons_in (in_postorder inner) ≡ [] → found.top.reasons ≡ [] → reasons_in (in_postorder found) ≡ []
  of_one plan first inner found kept over below own = after found.below found.top (ap reasons_in over.before ∙ below) own

  no_reasons : (plan : PlanTree) (first : ℕ) (found : PlanFindings) → EachNamesClasses plan → GoByPeers plan → AreFindings tables plan first found → reasons_in (in_postorder found) ≡ []
  no_reasons (Scan table columns) first found names peers a = after found.below found.top (ap reasons_in a.0) a.1.said.reasons
  no_reasons (Join condition left right) first found names peers a =
      let l = no_reasons left first a.0 names.0 peers.0 a.2 in
      let r = no_reasons right (first + length (in_postorder a.0)) a.1 names.1 peers.1 a.3 in
      after found.below found.top (ap reasons_in a.4.before ∙ reasons_append (in_postorder a.0) (in_postorder a.1) ∙ (λ i. l i ++ r i)) a.4.finding.said.reasons
  no_reasons (Over (Filter condition) input) first found names peers a = of_one (Over (Filter condition) input) first a.0 found (facts_kept input a.0.top) a.2 (no_reasons input first a.0 names.0 peers a.1) a.2.finding.said.reasons
  no_reasons (Over (Map outputs) input) first found names peers a = of_one (Over (Map outputs) input) first a.0 found (facts_kept input a.0.top) a.2 (no_reasons input first a.0 names.0 peers a.1) a.2.finding.said.reasons
  no_reasons (Over (Window w) input) first found names peers a = of_one (Over (Window w) input) first a.0 found (facts_kept input a.0.top) a.2 (no_reasons input first a.0 names.0 peers.0 a.1) (of_window _ _ found.top w input names.1 peers.1 a.2.finding.said)
  no_reasons (Over Distinct input) first found names peers a = of_one (Over Distinct input) first a.0 found (facts_kept input a.0.top) a.2 (no_reasons input first a.0 names.0 peers a.1) a.2.finding.said.reasons
  no_reasons (Over (Group g) input) first found names peers a = of_one (Over (Group g) input) first a.0 found (facts_kept input a.0.top) a.2 (no_reasons input first a.0 names.0 peers a.1) a.2.finding.said.reasons
  no_reasons (Over (Limit limit) input) first found names peers a = of_one (Over (Limit limit) input) first a.0 found (facts_kept input a.0.top) a.2 (no_reasons input first a.0 names.0 peers.0 a.1) (of_limit _ _ found.top limit input peers.1 a.2.finding.said)

pub peers_are_certified : PeersAreCertified
peers_are_certified tables plan (Certified certificate) fit peers answer = tt
peers_are_certified tables plan (Open reasons marks) fit peers answer =
    let x = answer.exact in
    x.tells.0 (x.tells.1 ∙ no_reasons tables plan 0 x.found (names_classes tables plan fit) peers x.are)
