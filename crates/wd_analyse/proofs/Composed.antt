-- What is found at a plan's nodes, one node after another.
use Rattle.std.proofs.Common.{◌≡◌, ℕ, ◌+◌, true, List, [], ◌∷◌, ◌++◌, append_assoc, length, map, refl, sym, ◌∙◌, ap, subst, Option}
use Rattle.std.proofs.lemmas.Bool.{false≢true}
use Rattle.std.proofs.lemmas.Grind.{flat_map-append}
use Rattle.std.proofs.lemmas.List.{append-nil, map-append}
use Rattle.wd_schema.specs.Tables.{TableRule}
use Rattle.wd_plan.specs.Expressions.{Expression}
use Rattle.wd_plan.specs.Fits.{width}
use Rattle.wd_plan.specs.Plans.{PlanTree, Scan, Join, Over}
use Rattle.wd_certificate.specs.Certificates.{NodeRecord}
use Rattle.wd_step_facts.specs.Facts.{Fact, FactList}
use Rattle.wd_facts.specs.Given.{given}
use Rattle.wd_facts.specs.Laws.{AreOfChildren, ArePlain}
use Rattle.wd_analyse.specs.declared.nodes.Found.{Found}
use Rattle.wd_analyse.specs.Evidence.{Closing}
use Rattle.wd_analyse.specs.Findings.{AreFindings, Finding, IsFinding, IsFoundOver, IsSaid, PlanFindings, entries_in, facts_kept, in_postorder, marks_in, reasons_in}
use Rattle.wd_analyse.specs.Kept.{kept_fact}
use Rattle.wd_analyse.specs.Sources.{Keeps, sources}
use Rattle.wd_analyse.specs.Steps.{Finds, FindsTop, Says, entries_of, told_of}
use Rattle.wd_analyse.proofs.Keeps.{claims_plain}
use Rattle.wd_analyse.proofs.Postorder.{child, is_over_one}
use Rattle.wd_analyse.proofs.Sound.{entries_long, entries_more, finding_claims, marks_more, reasons_more}

module _ (tables : List TableRule) where
  pub top_finds : (plan : PlanTree) (kept more : List Fact) (facts : FactList) (node : ℕ) (claims : List Closing) (entry : NodeRecord) (old new : Found) (result : List Fact)
      → facts ≡ given tables plan kept more → AreOfChildren plan kept more → Keeps facts (width plan) (sources plan facts.list kept more) claims
      → Says facts plan node claims entry (told_of old.findings) (told_of new.findings) → node ≡ length (entries_of old) → entries_of new ≡ entries_of old ++ entry ∷ [] → result ≡ map (kept_fact (width plan)) claims
      → FindsTop tables plan kept more old new result
  top_finds plan kept more facts node claims entry old new result is p k s number grows r =
      let f = s.finding in
      let keeps : Keeps (given tables plan kept more) (width plan) (sources plan (given tables plan kept more).list kept more) f.claims =
      subst (λ cs. Keeps (given tables plan kept more) (width plan) (sources plan (given tables plan kept more).list kept more) cs) (sym s.claims_are) (subst (λ t. Keeps t (width plan) (sources plan t.list kept more) claims) is k) in
      let own : IsFinding tables plan kept more (length (entries_of old)) f = record { keeps = keeps; said = subst (λ n. IsSaid (given tables plan kept more) plan n f) number (subst (λ t. IsSaid t plan node f) is s.said) } in
      let same : result ≡ facts_kept plan f = r ∙ ap (λ cs. map (kept_fact (width plan)) cs) (sym s.claims_are) in
      record {
        finding = f;
        is = own;
        entries = grows ∙ ap (λ e. entries_of old ++ e ∷ []) (sym s.entry_is);
        reasons = s.reasons;
        marks = s.marks;
        keeps = same;
        plain = subst (ArePlain (width plan)) (sym same) (claims_plain (given tables plan kept more) (width plan) f.claims (finding_claims tables plan kept more (length (entries_of old)) f p own).claims);
      }

  pub scan_finds : (plan : PlanTree) (table columns : ℕ) (kept more : List Fact) (old new : Found) (result : List Fact) → plan ≡ Scan table columns → kept ≡ [] → more ≡ [] → FindsTop tables plan kept more old new result → Finds tables plan old new result
  scan_finds plan table columns kept more old new result is none no_more t =
      let found : PlanFindings = record { below = []; top = t.finding } in
      let own = subst (λ m. IsFinding tables plan [] m (length (entries_of old)) t.finding) no_more (subst (λ k. IsFinding tables plan k more (length (entries_of old)) t.finding) none t.is) in
      record {
        found = found;
        are = subst (λ p. AreFindings tables p (length (entries_of old)) found) (sym is) (refl, subst (λ p. IsFinding tables p [] [] (length (entries_of old)) t.finding) is own);
        entries = t.entries;
        reasons = t.reasons ∙ ap (λ l. old.findings.reasons.items ++ l) (sym (append-nil t.finding.reasons));
        marks = t.marks ∙ ap (λ l. old.findings.marks.items ++ l) (sym (append-nil t.finding.marks));
        keeps = t.keeps;
        plain = t.plain;
      }

  over_one : (plan : PlanTree) (first : ℕ) (inner found : PlanFindings) → is_over_one plan ≡ true → AreFindings tables (child plan) first inner → IsFoundOver tables plan first (in_postorder inner) (facts_kept (child plan) inner.top) [] found → AreFindings tables plan first found
  over_one (Scan table columns) first inner found e a is = absurd (false≢true e)
  over_one (Join condition left right) first inner found e a is = absurd (false≢true e)
  over_one (Over step input) first inner found e a is = (inner, a, is)

  pub one_finds : (plan input : PlanTree) (kept more below : List Fact) (old mid new : Found) (result : List Fact) → child plan ≡ input → is_over_one plan ≡ true → kept ≡ below → more ≡ [] → Finds tables input old mid below → FindsTop tables plan kept more mid new result → Finds tables plan old new result
  one_finds plan input kept more below old mid new result is one same none b t =
      let all = in_postorder b.found in
      let found : PlanFindings = record { below = all; top = t.finding } in
      let number : length (entries_of mid) ≡ length (entries_of old) + length all = ap length b.entries ∙ entries_long (entries_of old) all in
      let under : kept ≡ facts_kept (child plan) b.found.top = same ∙ b.keeps ∙ ap (λ p. facts_kept p b.found.top) (sym is) in
      let own = subst (λ n. IsFinding tables plan (facts_kept (child plan) b.found.top) [] n t.finding) number
      (subst (λ m. IsFinding tables plan (facts_kept (child plan) b.found.top) m (length (entries_of mid)) t.finding) none (subst (λ k. IsFinding tables plan k more (length (entries_of mid)) t.finding) under t.is)) in
      record {
        found = found;
        are = over_one plan (length (entries_of old)) b.found found one (subst (λ p. AreFindings tables p (length (entries_of old)) b.found) (sym is) b.are) (record { before = refl; finding = own });
        entries = t.entries ∙ ap (λ l. l ++ t.finding.entry ∷ []) b.entries ∙ sym (entries_more (entries_of old) all t.finding);
        reasons = t.reasons ∙ ap (λ l. l ++ t.finding.reasons) b.reasons ∙ sym (reasons_more old.findings.reasons.items all t.finding);
        marks = t.marks ∙ ap (λ l. l ++ t.finding.marks) b.marks ∙ sym (marks_more old.findings.marks.items all t.finding);
        keeps = t.keeps;
        plain = t.plain;
      }

  pub both_finds : (plan left right : PlanTree) (condition : Option Expression) (kept more below beside : List Fact) (old mid late new : Found) (result : List Fact) → plan ≡ Join condition left right → kept ≡ below → more ≡ beside
      → Finds tables left old mid below → Finds tables right mid late beside → FindsTop tables plan kept more late new result → Finds tables plan old new result
  both_finds plan left right condition kept more below beside old mid late new result is same same_more b c t =
      let first = in_postorder b.found in
      let second = in_postorder c.found in
      let found : PlanFindings = record { below = first ++ second; top = t.finding } in
      let entries : entries_of late ≡ entries_of old ++ entries_in (first ++ second) =
      c.entries ∙ ap (λ l. l ++ entries_in second) b.entries ∙ append_assoc (entries_of old) (entries_in first) (entries_in second) ∙ ap (λ l. entries_of old ++ l) (sym (map-append (λ (f : Finding). f.entry) first second)) in
      let reasons : late.findings.reasons.items ≡ old.findings.reasons.items ++ reasons_in (first ++ second) =
      c.reasons ∙ ap (λ l. l ++ reasons_in second) b.reasons ∙ append_assoc old.findings.reasons.items (reasons_in first) (reasons_in second) ∙ ap (λ l. old.findings.reasons.items ++ l) (sym (flat_map-append (λ (f : Finding). f.reasons) first second)) in
      let marks : late.findings.marks.items ≡ old.findings.marks.items ++ marks_in (first ++ second) =
      c.marks ∙ ap (λ l. l ++ marks_in second) b.marks ∙ append_assoc old.findings.marks.items (marks_in first) (marks_in second) ∙ ap (λ l. old.findings.marks.items ++ l) (sym (flat_map-append (λ (f : Finding). f.marks) first second)) in
      let middle : length (entries_of mid) ≡ length (entries_of old) + length first = ap length b.entries ∙ entries_long (entries_of old) first in
      let number : length (entries_of late) ≡ length (entries_of old) + length (first ++ second) = ap length entries ∙ entries_long (entries_of old) (first ++ second) in
      let own = subst (λ p. IsFinding tables p (facts_kept left b.found.top) (facts_kept right c.found.top) (length (entries_of old) + length (first ++ second)) t.finding) is
      (subst (λ n. IsFinding tables plan (facts_kept left b.found.top) (facts_kept right c.found.top) n t.finding) number
      (subst (λ m. IsFinding tables plan (facts_kept left b.found.top) m (length (entries_of late)) t.finding) (same_more ∙ c.keeps) (subst (λ k. IsFinding tables plan k more (length (entries_of late)) t.finding) (same ∙ b.keeps) t.is))) in
      record {
        found = found;
        are = subst (λ p. AreFindings tables p (length (entries_of old)) found) (sym is)
            (b.found, c.found, b.are, subst (λ n. AreFindings tables right n c.found) middle c.are, record { before = refl; finding = own });
        entries = t.entries ∙ ap (λ l. l ++ t.finding.entry ∷ []) entries ∙ sym (entries_more (entries_of old) (first ++ second) t.finding);
        reasons = t.reasons ∙ ap (λ l. l ++ t.finding.reasons) reasons ∙ sym (reasons_more old.findings.reasons.items (first ++ second) t.finding);
        marks = t.marks ∙ ap (λ l. l ++ t.finding.marks) marks ∙ sym (marks_more old.findings.marks.items (first ++ second) t.finding);
        keeps = t.keeps;
        plain = t.plain;
      }
