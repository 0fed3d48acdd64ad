-- Where the analysis of a plain plan is open: it has one reason, and what the window's columns lack.
use Rattle.std.proofs.Common.{◌≡◌, ◌≢◌, ◌⊎◌, inl, inr, ℕ, zero, suc, ◌+◌, ◌<◌, Bool, true, false, cond, not, ◌&&◌, List, [], ◌∷◌, ◌++◌, length, map, refl, sym, ◌∙◌, ap, subst, arith, true≢false, Some, None, is_some}
use Rattle.std.specs.List.{range_with_len}
use Rattle.std.proofs.lemmas.List.{append-nil}
use Rattle.wd_schema.specs.Tables.{TableRule}
use Rattle.wd_plan.specs.Expressions.{Column}
use Rattle.wd_plan.specs.Fits.{width}
use Rattle.wd_plan.specs.Frames.{is_stable}
use Rattle.wd_plan.specs.Sorting.{class_columns}
use Rattle.wd_plan.specs.declared.window.Frame.{Frame}
use Rattle.wd_step_facts.specs.declared.facts.Member.{Member}
use Rattle.wd_step_facts.specs.declared.facts.Member.TheVariants as member
use Rattle.wd_step_facts.specs.Facts.{FactList}
use Rattle.wd_step_facts.specs.Steps.{all_columns}
use Rattle.wd_analyse.specs.declared.analysis.Reason.{Reason}
use Rattle.wd_analyse.specs.declared.decided.Lack.TheVariants as lack
use Rattle.wd_analyse.specs.Decisions.{decide, gives_all, lack_of, missing_of}
use Rattle.wd_analyse.specs.Evidence.{Closing, IsClosing}
use Rattle.wd_analyse.specs.Findings.{AreFindings, Finding, IsFinding, IsOfWindow, PlanFindings, decided_at, facts_kept, in_postorder, reasons_in, reasons_of}
use Rattle.wd_analyse.specs.Sources.{AreClosings, starts}
use Rattle.wd_complete.specs.Plain.{PlainPlan, input_of, number_call, plan_by, window_rule}
use Rattle.wd_complete.proofs.Reached.{scan, window_facts}

-- ---- what is said of the call

abbrev pub the_reason : Reason
the_reason = record { node = 2; call = Some 0; lack = lack.Row }

record IsOpen (has : Member → Bool) (columns : ℕ) (reasons : List Reason) : Type 0 where
  row : has member.Row ≡ false
  some : gives_all has columns ≡ false
  is : reasons ≡ the_reason ∷ []

module _ (has : Member → Bool) (number columns : ℕ) (frame : Frame) where
  lacks_row : lack_of (number_call frame) ≡ lack.Row
  lacks_row = by (is_stable frame) refl
    where
      by : (b : Bool) → is_stable frame ≡ b → lack_of (number_call frame) ≡ lack.Row
      by true e = rw e refl
      by false e = rw e refl

  no_value : (b : Bool) → (b && false) ≡ false
  no_value true = refl
  no_value false = refl

  abbrev said : List Reason
  said = reasons_of 2 0 (decide has number columns None (number_call frame) ∷ [])

  said_is : (said ≡ []) ⊎ IsOpen has columns said
  said_is = by (has member.Row) refl (gives_all has columns) refl
    where
      by : (r : Bool) → has member.Row ≡ r → (a : Bool) → gives_all has columns ≡ a → (said ≡ []) ⊎ IsOpen has columns said
      by true e a f = inl (rw e refl)
      by false e true f = inl (rw (e, no_value (is_stable frame), f) refl)
      by false e false f = inr (record { row = e; some = f; is = rw (e, no_value (is_stable frame), f) (λ i. record { node = 2; call = Some 0; lack = lacks_row i } ∷ []) })

-- ---- the column that is lacking

record IsMissing (has : Member → Bool) (columns : ℕ) : Type 0 where
  column : ℕ
  within : column < columns
  missing : has (member.Column column) ≡ false

missing_in : (has : Member → Bool) (a k : ℕ) → is_some (missing_of has (range_with_len a k)) ≡ true → IsMissing has (a + k)
missing_in has a zero e = absurd (true≢false (sym e))
missing_in has a (suc k) e = by (has (member.Column a)) refl e (missing_in has (a + 1) k)
  where
    by : (b : Bool) → has (member.Column a) ≡ b → is_some (cond b (missing_of has (range_with_len (a + 1) k)) (Some a)) ≡ true → (is_some (missing_of has (range_with_len (a + 1) k)) ≡ true → IsMissing has (a + 1 + k)) → IsMissing has (a + suc k)
    by true f e later = let h = later e in let w = h.within in record { column = h.column; within = omega (arith, w); missing = h.missing }
    by false f e later = record { column = a; within = omega arith; missing = f }

not_false : (b : Bool) → not b ≡ false → b ≡ true
not_false true e = refl
not_false false e = absurd (true≢false e)

missing_is : (has : Member → Bool) (n : ℕ) → gives_all has n ≡ false → IsMissing has n
missing_is has n e =
    let h = missing_in has 0 n (not_false (is_some (missing_of has (all_columns n))) e) in
    let w = h.within in
    record { column = h.column; within = omega (arith, w); missing = h.missing }

-- ---- the one reason

-- what an open analysis says of the window's columns, by what is found at the Scan and at the Map
pub record IsLacking (tables : List TableRule) (p : PlainPlan) : Type 0 where
  pub at_scan : Finding
  pub at_map : Finding
  pub scan_is : IsFinding tables (scan tables p) [] [] 0 at_scan
  pub map_is : IsFinding tables (input_of p) (facts_kept (scan tables p) at_scan) [] 1 at_map
  pub closing : Closing
  pub is : IsClosing (window_facts tables p at_map) closing
  pub from : closing.from ≡ class_columns p.class
  pub row : closing.has member.Row ≡ false
  pub column : ℕ
  pub within : column < length (map Column p.read)
  pub missing : closing.has (member.Column column) ≡ false

pub record IsLeftOpen (tables : List TableRule) (p : PlainPlan) (reasons : List Reason) : Type 0 where
  pub one : reasons ≡ the_reason ∷ []
  pub lacking : IsLacking tables p

module _ (tables : List TableRule) (p : PlainPlan) (f g h : Finding) (scan_is : IsFinding tables (scan tables p) [] [] 0 f) (map_is : IsFinding tables (input_of p) (facts_kept (scan tables p) f) [] 1 g) where
  abbrev facts : FactList
  facts = window_facts tables p g

  opened_by : (classes : List Closing) → AreClosings facts classes → starts classes ≡ class_columns p.class ∷ [] → h.reasons ≡ reasons_of 2 0 (decided_at (window_rule p) (input_of p) h.claims classes) → h.reasons ≢ [] → IsLeftOpen tables p h.reasons
  opened_by [] are e is some = cc
  opened_by (c ∷ d ∷ classes) are e is some = cc
  opened_by (c ∷ []) are e is some = by (said_is c.has (length h.claims + 0) (width (input_of p)) p.frame)
    where
      from : c.from ≡ class_columns p.class
      from = cc

      by : (said c.has (length h.claims + 0) (width (input_of p)) p.frame ≡ []) ⊎ IsOpen c.has (width (input_of p)) (said c.has (length h.claims + 0) (width (input_of p)) p.frame) → IsLeftOpen tables p h.reasons
      by (inl j) = absurd (some (is ∙ j))
      by (inr o) =
          let m = missing_is c.has (width (input_of p)) o.some in
          record {
            one = is ∙ o.is;
            lacking = record { at_scan = f; at_map = g; scan_is = scan_is; map_is = map_is; closing = c; is = are.0; from = from; row = o.row; column = m.column; within = m.within; missing = m.missing };
          }

  open_at : IsOfWindow facts (window_rule p) (input_of p) 2 h → h.reasons ≢ [] → IsLeftOpen tables p h.reasons
  open_at w some = opened_by w.classes w.closings w.columns w.reasons some

pub left_open : (tables : List TableRule) (p : PlainPlan) (found : PlanFindings) → AreFindings tables (plan_by p) 0 found → reasons_in (in_postorder found) ≢ [] → IsLeftOpen tables p (reasons_in (in_postorder found))
left_open tables p found over some =
    let a2 = over.1 in
    let a1 = a2.1 in
    let a0 = a1.1 in
    let top = found.top in
    let at_window = over.0.top in
    let at_map = a2.0.top in
    let at_scan = a1.0.top in
    let d1 : a2.0.below ≡ at_scan ∷ [] = a1.2.before ∙ ap (λ l. l ++ at_scan ∷ []) a0.0 in
    let d2 : over.0.below ≡ at_scan ∷ at_map ∷ [] = a2.2.before ∙ ap (λ l. l ++ at_map ∷ []) d1 in
    let d3 : found.below ≡ at_scan ∷ at_map ∷ at_window ∷ [] = over.2.before ∙ ap (λ l. l ++ at_window ∷ []) d2 in
    let n1 : 0 + length (in_postorder a1.0) ≡ 1 = (let e : length (in_postorder a1.0) ≡ 1 = ap length (ap (λ l. l ++ at_scan ∷ []) a0.0) in omega (arith, e)) in
    let n2 : 0 + length (in_postorder a2.0) ≡ 2 = (let e : length (in_postorder a2.0) ≡ 2 = ap length (ap (λ l. l ++ at_map ∷ []) d1) in omega (arith, e)) in
    let b1 : at_scan.reasons ≡ [] = a0.1.said.reasons in
    let b2 : at_map.reasons ≡ [] = a1.2.finding.said.reasons in
    let b3 : top.reasons ≡ [] = over.2.finding.said.reasons in
    let all : reasons_in (in_postorder found) ≡ at_window.reasons = ap (λ l. reasons_in (l ++ top ∷ [])) d3 ∙ (λ i. b1 i ++ (b2 i ++ (at_window.reasons ++ (b3 i ++ [])))) ∙ append-nil at_window.reasons in
    let map_is = subst (λ n. IsFinding tables (input_of p) (facts_kept (scan tables p) at_scan) [] n at_map) n1 a1.2.finding in
    let said = subst (λ n. IsOfWindow (window_facts tables p at_map) (window_rule p) (input_of p) n at_window) n2 a2.2.finding.said in
    subst (IsLeftOpen tables p) (sym all) (open_at tables p at_scan at_map at_window a0.1 map_is said (λ e. some (all ∙ e)))
