-- What is found at the nodes of a plan makes entries that are not refused, where there are no reasons.
use Rattle.std.proofs.Common.{◌≡◌, ℕ, ◌+◌, Bool, true, false, cond, List, [], ◌∷◌, ◌++◌, append_assoc, length, refl, sym, ◌∙◌, ap, subst, Option, Some, None}
use Rattle.std.proofs.lemmas.Grind.{flat_map-append}
use Rattle.std.proofs.lemmas.List.{append-nil, length-append, length-map, map-append}
use Rattle.wd_schema.specs.Tables.{TableRule}
use Rattle.wd_plan.specs.Expressions.{Expression}
use Rattle.wd_plan.specs.Fits.{width}
use Rattle.wd_plan.specs.Plans.{LimitRule, PlanTree, Scan, Join, Over, Filter, Map, Group, Window, Distinct, Limit}
use Rattle.wd_certificate.specs.Certificates.{NodeRecord}
use Rattle.wd_step_facts.specs.Facts.{Fact, FactList}
use Rattle.wd_facts.specs.Given.{given}
use Rattle.wd_facts.specs.Laws.{AreOfChildren, ArePlain}
use Rattle.wd_rules.specs.Rules.{is_whole_or_ties}
use Rattle.wd_analyse.specs.declared.analysis.Mark.{Mark}
use Rattle.wd_analyse.specs.declared.analysis.Reason.{Reason}
use Rattle.wd_analyse.specs.Entry.{entry_by}
use Rattle.wd_analyse.specs.Findings.{AreFindings, Finding, IsBare, IsFinding, IsFoundOver, IsOfLimit, IsSaid, PlanFindings, entries_in, entry_by_keys, facts_kept, in_postorder, lacking, limit_reason, marks_in, reasons_by_keys, reasons_in}
use Rattle.wd_analyse.specs.Sources.{sources}
use Rattle.wd_analyse.specs.Steps.{is_without_rules}
use Rattle.wd_analyse.proofs.Claims.{are_claims, sources_low}
use Rattle.wd_analyse.proofs.Founds.{keys_found, open_found, plain_found, whole_found, window_found}
use Rattle.wd_analyse.proofs.Postorder.{both_found, child, is_over_one, one_found, scan_found}
use Rattle.wd_analyse.proofs.Tops.{top_found}
use Rattle.wd_analyse.proofs.Valid.{AreClaims, IsAnalysed, IsFound, IsTop}

-- ---- one finding more

pub entries_more : (old : List NodeRecord) (fs : List Finding) (f : Finding) → old ++ entries_in (fs ++ f ∷ []) ≡ (old ++ entries_in fs) ++ f.entry ∷ []
entries_more old fs f = ap (λ l. old ++ l) (map-append (λ (f : Finding). f.entry) fs (f ∷ [])) ∙ sym (append_assoc old (entries_in fs) (f.entry ∷ []))

pub reasons_more : (old : List Reason) (fs : List Finding) (f : Finding) → old ++ reasons_in (fs ++ f ∷ []) ≡ (old ++ reasons_in fs) ++ f.reasons
reasons_more old fs f =
    ap (λ l. old ++ l) (flat_map-append (λ (f : Finding). f.reasons) fs (f ∷ []) ∙ ap (λ l. reasons_in fs ++ l) (append-nil f.reasons)) ∙ sym (append_assoc old (reasons_in fs) f.reasons)

pub marks_more : (old : List Mark) (fs : List Finding) (f : Finding) → old ++ marks_in (fs ++ f ∷ []) ≡ (old ++ marks_in fs) ++ f.marks
marks_more old fs f =
    ap (λ l. old ++ l) (flat_map-append (λ (f : Finding). f.marks) fs (f ∷ []) ∙ ap (λ l. marks_in fs ++ l) (append-nil f.marks)) ∙ sym (append_assoc old (marks_in fs) f.marks)

pub entries_long : (old : List NodeRecord) (fs : List Finding) → length (old ++ entries_in fs) ≡ length old + length fs
entries_long old fs = length-append old (entries_in fs) ∙ ap (λ n. length old + n) (length-map fs (λ (f : Finding). f.entry))

-- ---- a node

module _ (facts : FactList) (node : ℕ) (f : Finding) (before : List Reason) where
  bare : (plan : PlanTree) → is_without_rules plan ≡ true → AreClaims facts (width plan) f.claims → IsBare (width plan) f → IsFound facts plan node f.claims f.entry before (before ++ f.reasons)
  bare plan e c b = plain_found facts node f.claims f.entry before (before ++ f.reasons) plan e c (ap (λ l. before ++ l) b.reasons ∙ append-nil before) b.entry

  module _ (limit : LimitRule) (input : PlanTree) (c : AreClaims facts (width (Over (Limit limit) input)) f.claims) where
    -- whose sort keys lack a column
    of_lack : (column : ℕ) (b : Bool) → is_whole_or_ties limit ≡ b → before ++ f.reasons ≡ before ++ cond b [] (limit_reason node column ∷ []) → f.entry ≡ entry_by (width (Over (Limit limit) input)) f.claims [] [] None
        → IsFound facts (Over (Limit limit) input) node f.claims f.entry before (before ++ f.reasons)
    of_lack column true e r is = whole_found facts node f.claims f.entry before (before ++ f.reasons) limit input (Over (Limit limit) input) refl c e (r ∙ append-nil before) is
    of_lack column false e r is = open_found facts node f.claims f.entry before (before ++ f.reasons) (Over (Limit limit) input) (limit_reason node column) r is

    of_limit : (h : IsOfLimit facts limit input node f) (o : Option ℕ) → lacking (width input) h.keys ≡ o → IsFound facts (Over (Limit limit) input) node f.claims f.entry before (before ++ f.reasons)
    of_limit h None e =
        keys_found facts node f.claims f.entry before (before ++ f.reasons) limit input (Over (Limit limit) input) h.keys refl c h.closing h.columns e
        (ap (λ l. before ++ l) (h.reasons ∙ ap (reasons_by_keys node limit) e) ∙ append-nil before)
        (h.entry ∙ ap (entry_by_keys (width (Over (Limit limit) input)) f.claims h.keys) e)
    of_limit h (Some d) e =
        of_lack d (is_whole_or_ties limit) refl
        (ap (λ l. before ++ l) (h.reasons ∙ ap (reasons_by_keys node limit) e))
        (h.entry ∙ ap (entry_by_keys (width (Over (Limit limit) input)) f.claims h.keys) e)

  pub said_found : (plan : PlanTree) → AreClaims facts (width plan) f.claims → IsSaid facts plan node f → IsFound facts plan node f.claims f.entry before (before ++ f.reasons)
  said_found (Scan table columns) c s = bare (Scan table columns) refl c s
  said_found (Join condition left right) c s = bare (Join condition left right) refl c s
  said_found (Over (Filter condition) input) c s = bare (Over (Filter condition) input) refl c s
  said_found (Over (Map outputs) input) c s = bare (Over (Map outputs) input) refl c s
  said_found (Over (Window w) input) c s =
      window_found facts node f.claims f.entry before (before ++ f.reasons) w input s.classes (Over (Window w) input) refl c s.closings s.columns (ap (λ l. before ++ l) s.reasons) s.entry
  said_found (Over (Group g) input) c s = bare (Over (Group g) input) refl c s
  said_found (Over Distinct input) c s = bare (Over Distinct input) refl c s
  said_found (Over (Limit limit) input) c s = of_limit limit input c s (lacking (width input) s.keys) refl

module _ (tables : List TableRule) where
  pub finding_claims : (plan : PlanTree) (kept more : List Fact) (node : ℕ) (f : Finding) → AreOfChildren plan kept more → IsFinding tables plan kept more node f → AreClaims (given tables plan kept more) (width plan) f.claims
  finding_claims plan kept more node f p is =
      are_claims (given tables plan kept more) (width plan) (sources plan (given tables plan kept more).list kept more) f.claims (sources_low plan (given tables plan kept more).list kept more p) is.keeps

  top_is : (plan : PlanTree) (kept more : List Fact) (node : ℕ) (f : Finding) (old : List NodeRecord) (before : List Reason) → AreOfChildren plan kept more → node ≡ length old → IsFinding tables plan kept more node f
      → IsTop tables plan kept more old (old ++ f.entry ∷ []) before (before ++ f.reasons) (facts_kept plan f)
  top_is plan kept more node f old before p e is =
      let claims = finding_claims plan kept more node f p is in
      top_found tables plan kept more (given tables plan kept more) node f.claims f.entry old (old ++ f.entry ∷ []) before (before ++ f.reasons) (facts_kept plan f)
      refl claims (said_found (given tables plan kept more) node f before plan claims is.said) e refl refl

  -- ---- a plan

  abbrev Analysed : PlanTree → List NodeRecord → List Reason → PlanFindings → Type 0
  Analysed plan old r found = IsAnalysed tables plan old (old ++ entries_in (in_postorder found)) r (r ++ reasons_in (in_postorder found)) (facts_kept plan found.top)

  module _ (old : List NodeRecord) (r : List Reason) (before : List Finding) (top : Finding) where
    -- after the findings of the inputs
    after : (plan : PlanTree) (below : List Finding) → below ≡ before → IsAnalysed tables plan old ((old ++ entries_in before) ++ top.entry ∷ []) r ((r ++ reasons_in before) ++ top.reasons) (facts_kept plan top) → Analysed plan old r (record { below = below; top = top })
    after plan below is a =
        subst (λ b. Analysed plan old r (record { below = b; top = top })) (sym is)
        (subst (λ n. IsAnalysed tables plan old n r (r ++ reasons_in (before ++ top ∷ [])) (facts_kept plan top)) (sym (entries_more old before top))
        (subst (λ m. IsAnalysed tables plan old ((old ++ entries_in before) ++ top.entry ∷ []) r m (facts_kept plan top)) (sym (reasons_more r before top)) a))

  none_below : (old : List NodeRecord) (r : List Reason) (found : PlanFindings) (table columns : ℕ) → found.below ≡ [] → IsFinding tables (Scan table columns) [] [] (length old) found.top → Analysed (Scan table columns) old r found
  none_below old r found table columns none is =
      let top = found.top in
      subst (λ b. Analysed (Scan table columns) old r (record { below = b; top = top })) (sym none)
      (subst (λ m. IsAnalysed tables (Scan table columns) old (old ++ top.entry ∷ []) r (r ++ m) (facts_kept (Scan table columns) top)) (sym (append-nil top.reasons))
      (scan_found tables (Scan table columns) table columns [] [] old (old ++ top.entry ∷ []) r (r ++ top.reasons) (facts_kept (Scan table columns) top) refl refl refl
      (top_is (Scan table columns) [] [] (length old) top old r tt refl is)))

  one_below : (old : List NodeRecord) (r : List Reason) (found inner : PlanFindings) (plan input : PlanTree) → child plan ≡ input → is_over_one plan ≡ true → ((kept : List Fact) → ArePlain (width input) kept → AreOfChildren plan kept [])
      → IsFoundOver tables plan (length old) (in_postorder inner) (facts_kept input inner.top) [] found → Analysed input old r inner → Analysed plan old r found
  one_below old r found inner plan input is one children o a =
      let top = found.top in
      let all = in_postorder inner in
      let kept = facts_kept input inner.top in
      after old r all top plan found.below o.before
      (one_found tables plan input kept [] kept old (old ++ entries_in all) ((old ++ entries_in all) ++ top.entry ∷ []) r (r ++ reasons_in all) ((r ++ reasons_in all) ++ top.reasons) (facts_kept plan top) is one refl refl a
      (top_is plan kept [] (length old + length all) top (old ++ entries_in all) (r ++ reasons_in all) (children kept a.plain) (sym (entries_long old all)) o.finding))

  two_below : (old : List NodeRecord) (r : List Reason) (found on_left on_right : PlanFindings) (condition : Option Expression) (left right : PlanTree)
      → IsFoundOver tables (Join condition left right) (length old) (in_postorder on_left ++ in_postorder on_right) (facts_kept left on_left.top) (facts_kept right on_right.top) found
      → Analysed left old r on_left → Analysed right (old ++ entries_in (in_postorder on_left)) (r ++ reasons_in (in_postorder on_left)) on_right → Analysed (Join condition left right) old r found
  two_below old r found on_left on_right condition left right o a b =
      let plan = Join condition left right in
      let top = found.top in
      let first = in_postorder on_left in
      let second = in_postorder on_right in
      let kept = facts_kept left on_left.top in
      let more = facts_kept right on_right.top in
      let mid = old ++ entries_in first in
      let r1 = r ++ reasons_in first in
      let late : mid ++ entries_in second ≡ old ++ entries_in (first ++ second) = append_assoc old (entries_in first) (entries_in second) ∙ ap (λ l. old ++ l) (sym (map-append (λ (f : Finding). f.entry) first second)) in
      let r2 : r1 ++ reasons_in second ≡ r ++ reasons_in (first ++ second) = append_assoc r (reasons_in first) (reasons_in second) ∙ ap (λ l. r ++ l) (sym (flat_map-append (λ (f : Finding). f.reasons) first second)) in
      let c : IsAnalysed tables right mid (old ++ entries_in (first ++ second)) r1 (r ++ reasons_in (first ++ second)) more =
      subst (λ n. IsAnalysed tables right mid n r1 (r ++ reasons_in (first ++ second)) more) late (subst (λ m. IsAnalysed tables right mid (mid ++ entries_in second) r1 m more) r2 b) in
      after old r (first ++ second) top plan found.below o.before
      (both_found tables plan left right condition kept more kept more old mid (old ++ entries_in (first ++ second)) ((old ++ entries_in (first ++ second)) ++ top.entry ∷ []) r r1 (r ++ reasons_in (first ++ second)) ((r ++ reasons_in (first ++ second)) ++ top.reasons) (facts_kept plan top) refl refl refl a c
      (top_is plan kept more (length old + length (first ++ second)) top (old ++ entries_in (first ++ second)) (r ++ reasons_in (first ++ second)) (a.plain, b.plain) (sym (entries_long old (first ++ second))) o.finding))

  pub are_analysed : (plan : PlanTree) (old : List NodeRecord) (r : List Reason) (found : PlanFindings) → AreFindings tables plan (length old) found → Analysed plan old r found
  are_analysed (Scan table columns) old r found a = none_below old r found table columns a.0 a.1
  are_analysed (Join condition left right) old r found a =
      let first = in_postorder a.0 in
      two_below old r found a.0 a.1 condition left right a.4 (are_analysed left old r a.0 a.2)
      (are_analysed right (old ++ entries_in first) (r ++ reasons_in first) a.1 (subst (λ n. AreFindings tables right n a.1) (sym (entries_long old first)) a.3))
  are_analysed (Over step input) old r found a = one_below old r found a.0 (Over step input) input refl refl (λ kept p. p) a.2 (are_analysed input old r a.0 a.1)
