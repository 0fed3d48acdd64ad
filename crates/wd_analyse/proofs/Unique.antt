-- What is found at a plan's nodes is one thing, but for the uses that its traces name.
use Rattle.std.proofs.Common.{◌≡◌, ℕ, zero, suc, ◌+◌, ◌<◌, ◌≤◌, Bool, true, false, cond, List, [], ◌∷◌, ◌++◌, filter, length, map, nat_lt, slice_get, refl, sym, ◌∙◌, ap, arith, subst, Option, Some, None}
use Rattle.std.specs.Cmp.{both_ways}
use Rattle.std.proofs.lemmas.Bool.{ltb-false, ltb-true}
use Rattle.std.proofs.lemmas.List.{length-map, map-append, nil_from_length}
use Rattle.wd_schema.specs.Tables.{TableRule}
use Rattle.wd_plan.specs.Fits.{width}
use Rattle.wd_plan.specs.Plans.{LimitRule, PlanTree, WindowRule, Scan, Join, Over, Filter, Map, Group, Window, Distinct, Limit}
use Rattle.wd_plan.specs.declared.window.Call.{Call}
use Rattle.wd_certificate.specs.declared.certificate.Rule.{Rule}
use Rattle.wd_step_facts.specs.declared.facts.Member.{Member}
use Rattle.wd_step_facts.specs.Facts.{Fact, FactList}
use Rattle.wd_facts.specs.Given.{given}
use Rattle.wd_close.specs.Closure.{Follows, is_named}
use Rattle.wd_analyse.specs.declared.analysis.Analysis.{Analysis}
use Rattle.wd_analyse.specs.declared.analysis.Analysis.TheVariants.{Certified, Open}
use Rattle.wd_analyse.specs.Alike.{AnswersAreAlike, AreAlike, entry_without_uses, without_uses}
use Rattle.wd_analyse.specs.Analysis.{Tells}
use Rattle.wd_analyse.specs.Decisions.{decide_of, decided_calls, next_exchange, rules_in}
use Rattle.wd_analyse.specs.Entry.{entry_by}
use Rattle.wd_analyse.specs.Evidence.{Closing, IsClosing, trace_by}
use Rattle.wd_analyse.specs.Findings.{AreFindings, Finding, IsBare, IsFinding, IsFoundOver, IsOfLimit, IsOfWindow, IsSaid, PlanFindings, decided_at, entries_in, entry_by_keys, facts_kept, in_postorder, lacking, marks_by_keys, marks_in, marks_of, reasons_by_keys, reasons_in, reasons_of}
use Rattle.wd_analyse.specs.Kept.{keep_by, kept_fact}
use Rattle.wd_analyse.specs.Sources.{AreClosings, Keeps, gives_some, sources, starts}

-- ---- closings

abbrev pub bare : Closing → Closing
bare c = record { from = c.from; has = c.has; uses = [] }

module _ (facts : FactList) where
  abbrev pub Given : List ℕ → Member → Type 0
  Given X m = (is_named facts m ≡ true) × Follows facts X m

  pub closing_same : (c d : Closing) → IsClosing facts c → IsClosing facts d → c.from ≡ d.from → bare c ≡ bare d
  closing_same c d p q e = λ i. record { from = e i; has = λ m. same m i; uses = [] }
    where
      same : (m : Member) → c.has m ≡ d.has m
      same m = both_ways (c.has m) (d.has m) (λ t. (q.members m).1 (subst (λ X. Given X m) e ((p.members m).0 t))) (λ t. (p.members m).1 (subst (λ X. Given X m) (sym e) ((q.members m).0 t)))

  closings_same : (cs ds : List Closing) → AreClosings facts cs → AreClosings facts ds → starts cs ≡ starts ds → map bare cs ≡ map bare ds
  closings_same [] [] p q e = refl
  closings_same [] (d ∷ ds) p q e = cc
  closings_same (c ∷ cs) [] p q e = cc
  closings_same (c ∷ cs) (d ∷ ds) p q e =
      let head : c.from ≡ d.from = cc in
      let rest : starts cs ≡ starts ds = cc in
      λ i. closing_same c d p.0 q.0 head i ∷ closings_same cs ds p.1 q.1 rest i

  -- ---- what is kept

  module _ (width : ℕ) (u v : List (List ℕ)) where
    abbrev kept : List Closing → List Closing
    kept cs = filter (gives_some width) cs

    -- so many are kept before; with fewer than 64 none is left
    record Bounds (n : ℕ) (cs ds : List Closing) : Type 0 where
      few : n + length cs ≤ 64
      few_more : n + length ds ≤ 64
      all : n + length cs < 64 → u ≡ []
      all_more : n + length ds < 64 → v ≡ []

    cons_nil : (X : List ℕ) (rest : List (List ℕ)) → X ∷ rest ≡ [] → ⊥
    cons_nil X rest h = cc

    -- where there is a source more, 64 are kept
    full : (n : ℕ) (cs : List Closing) (w : List (List ℕ)) (X : List ℕ) (rest : List (List ℕ)) → w ≡ X ∷ rest → (n < 64 → w ≡ []) → n + length cs ≤ 64 → cs ≡ []
    full n cs w X rest e all few =
        nil_from_length cs (by (nat_lt n 64) refl)
      where
        by : (b : Bool) → nat_lt n 64 ≡ b → length cs ≡ 0
        by true h = absurd (cons_nil X rest (sym e ∙ all (ltb-true n 64 h)))
        by false h = omega (arith, ltb-false n 64 h, few)

    kept_same : (n : ℕ) (cs ds : List Closing) → AreClosings facts cs → AreClosings facts ds → starts cs ++ u ≡ starts ds ++ v → Bounds n (kept cs) (kept ds) → map bare (kept cs) ≡ map bare (kept ds)
    kept_same n [] [] p q e b = refl
    kept_same n [] (d ∷ ds) p q e b = ap (map bare) (sym (full n (kept (d ∷ ds)) u d.from (starts ds ++ v) e (λ l. b.all (omega (arith, l))) b.few_more))
    kept_same n (c ∷ cs) [] p q e b = ap (map bare) (full n (kept (c ∷ cs)) v c.from (starts cs ++ u) (sym e) (λ l. b.all_more (omega (arith, l))) b.few)
    kept_same n (c ∷ cs) (d ∷ ds) p q e b =
        let head : c.from ≡ d.from = cc in
        let rest : starts cs ++ u ≡ starts ds ++ v = cc in
        let same = closing_same c d p.0 q.0 head in
        let test : gives_some width d ≡ gives_some width c = ap (gives_some width) (sym same) in
        by same (λ k. kept_same k cs ds p.1 q.1 rest) (gives_some width c) (subst (λ t. Bounds n (cond (gives_some width c) (c ∷ kept cs) (kept cs)) (cond t (d ∷ kept ds) (kept ds))) test b)
        ∙ ap (λ t. map bare (cond t (d ∷ kept ds) (kept ds))) (sym test)
      where
        by : bare c ≡ bare d → ((k : ℕ) → Bounds k (kept cs) (kept ds) → map bare (kept cs) ≡ map bare (kept ds)) → (t : Bool) → Bounds n (cond t (c ∷ kept cs) (kept cs)) (cond t (d ∷ kept ds) (kept ds)) → map bare (cond t (c ∷ kept cs) (kept cs)) ≡ map bare (cond t (d ∷ kept ds) (kept ds))
        by same later true b =
            let inner : Bounds (n + 1) (kept cs) (kept ds) = record {
              few = omega (arith, b.few);
              few_more = omega (arith, b.few_more);
              all = λ l. b.all (omega (arith, l));
              all_more = λ l. b.all_more (omega (arith, l));
            } in
            λ i. same i ∷ later (n + 1) inner i
        by same later false b = later n b

  claims_same : (width : ℕ) (Xs : List (List ℕ)) (cs ds : List Closing) → Keeps facts width Xs cs → Keeps facts width Xs ds → map bare cs ≡ map bare ds
  claims_same width Xs cs ds k l =
      let long : length cs ≡ length (filter (gives_some width) k.tried) = ap length k.kept in
      let long_more : length ds ≡ length (filter (gives_some width) l.tried) = ap length l.kept in
      ap (map bare) k.kept
      ∙ kept_same width k.untried l.untried 0 k.tried l.tried k.closings l.closings (k.order ∙ sym l.order) (record {
        few = omega (arith, long, k.few);
        few_more = omega (arith, long_more, l.few);
        all = λ h. k.all (omega (arith, long, h));
        all_more = λ h. l.all (omega (arith, long_more, h));
      })
      ∙ ap (map bare) (sym l.kept)

-- ---- entries and decisions do not go by uses

same_long : (cs ds : List Closing) → map bare cs ≡ map bare ds → length cs ≡ length ds
same_long cs ds e = sym (length-map cs bare) ∙ ap length e ∙ length-map ds bare

keep_bare : (width n : ℕ) (cs : List Closing) → keep_by width n (map bare cs) ≡ keep_by width n cs
keep_bare width n [] = refl
keep_bare width n (c ∷ cs) = λ i. keep_by width n (c ∷ []) ++ keep_bare width (n + 1) cs i

traces_bare : (cs : List Closing) → map without_uses (map trace_by cs) ≡ map trace_by (map bare cs)
traces_bare [] = refl
traces_bare (c ∷ cs) = λ i. trace_by (bare c) ∷ traces_bare cs i

facts_bare : (width : ℕ) (cs : List Closing) → map (kept_fact width) (map bare cs) ≡ map (kept_fact width) cs
facts_bare width [] = refl
facts_bare width (c ∷ cs) = λ i. kept_fact width c ∷ facts_bare width cs i

entry_same : (width : ℕ) (ks ls os ps : List Closing) (calls : List Rule) (limit : Option ℕ) → map bare ks ≡ map bare ls → map bare os ≡ map bare ps → entry_without_uses (entry_by width ks os calls limit) ≡ entry_without_uses (entry_by width ls ps calls limit)
entry_same width ks ls os ps calls limit e f =
    let keep : keep_by width 0 ks ≡ keep_by width 0 ls = sym (keep_bare width 0 ks) ∙ ap (keep_by width 0) e ∙ keep_bare width 0 ls in
    let all : map bare (ks ++ os) ≡ map bare (ls ++ ps) = map-append bare ks os ∙ (λ i. e i ++ f i) ∙ sym (map-append bare ls ps) in
    let traces = traces_bare (ks ++ os) ∙ ap (map trace_by) all ∙ sym (traces_bare (ls ++ ps)) in
    λ i. record { calls = calls; keep = keep i; limit = limit; traces = traces i }

decided_bare : (number columns : ℕ) (exchange : Option ℕ) (call : Call) (cs : List Closing) (k : ℕ) → decide_of (slice_get (map bare cs) k) number columns exchange call ≡ decide_of (slice_get cs k) number columns exchange call
decided_bare number columns exchange call [] k = refl
decided_bare number columns exchange call (c ∷ cs) zero = refl
decided_bare number columns exchange call (c ∷ cs) (suc k) = decided_bare number columns exchange call cs k

calls_bare : (cs : List Closing) (first columns : ℕ) (exchange : Option ℕ) (calls : List Call) → decided_calls (map bare cs) first columns exchange calls ≡ decided_calls cs first columns exchange calls
calls_bare cs first columns exchange [] = refl
calls_bare cs first columns exchange (call ∷ calls) =
    let here = decided_bare (first + call.class) columns exchange call cs call.class in
    let d = decide_of (slice_get cs call.class) (first + call.class) columns exchange call in
    ap (λ x. x ∷ decided_calls (map bare cs) first columns (next_exchange exchange call.class x) calls) here
    ∙ ap (λ l. d ∷ l) (calls_bare cs first columns (next_exchange exchange call.class d) calls)

decided_same : (cs ds : List Closing) (m n columns : ℕ) (calls : List Call) → map bare cs ≡ map bare ds → m ≡ n → decided_calls cs m columns None calls ≡ decided_calls ds n columns None calls
decided_same cs ds m n columns calls e f =
    sym (calls_bare cs m columns None calls) ∙ (λ i. decided_calls (e i) (f i) columns None calls) ∙ calls_bare ds n columns None calls

-- ---- a node

-- a finding without uses
abbrev pub told : Finding → Finding
told f = record { claims = map bare f.claims; entry = entry_without_uses f.entry; reasons = f.reasons; marks = f.marks }

module _ (facts : FactList) (node : ℕ) (f g : Finding) (claims : map bare f.claims ≡ map bare g.claims) where
  bare_same : (width : ℕ) → IsBare width f → IsBare width g → told f ≡ told g
  bare_same width p q =
      let entry = ap entry_without_uses p.entry ∙ entry_same width f.claims g.claims [] [] [] None claims refl ∙ ap entry_without_uses (sym q.entry) in
      λ i. record { claims = claims i; entry = entry i; reasons = (p.reasons ∙ sym q.reasons) i; marks = (p.marks ∙ sym q.marks) i }

  window_same : (w : WindowRule) (input : PlanTree) → IsOfWindow facts w input node f → IsOfWindow facts w input node g → told f ≡ told g
  window_same w input p q =
      let classes = closings_same facts p.classes q.classes p.closings q.closings (p.columns ∙ sym q.columns) in
      let decided : decided_at w input f.claims p.classes ≡ decided_at w input g.claims q.classes = decided_same p.classes q.classes (length f.claims) (length g.claims) (width input) w.calls classes (same_long f.claims g.claims claims) in
      let entry = ap entry_without_uses p.entry
      ∙ ap (λ ds. entry_without_uses (entry_by (width (Over (Window w) input)) f.claims p.classes (rules_in ds) None)) decided
      ∙ entry_same (width (Over (Window w) input)) f.claims g.claims p.classes q.classes (rules_in (decided_at w input g.claims q.classes)) None claims classes
      ∙ ap entry_without_uses (sym q.entry) in
      λ i. record { claims = claims i; entry = entry i; reasons = (p.reasons ∙ ap (reasons_of node 0) decided ∙ sym q.reasons) i; marks = (p.marks ∙ ap (marks_of node 0) decided ∙ sym q.marks) i }

  limit_same : (limit : LimitRule) (input : PlanTree) → IsOfLimit facts limit input node f → IsOfLimit facts limit input node g → told f ≡ told g
  limit_same limit input p q =
      let keys = closing_same facts p.keys q.keys p.closing q.closing (p.columns ∙ sym q.columns) in
      let lack : lacking (width input) p.keys ≡ lacking (width input) q.keys = ap (lacking (width input)) keys in
      let entry = ap entry_without_uses p.entry
      ∙ by keys (lacking (width input) p.keys)
      ∙ ap (λ o. entry_without_uses (entry_by_keys (width (Over (Limit limit) input)) g.claims q.keys o)) lack
      ∙ ap entry_without_uses (sym q.entry) in
      λ i. record { claims = claims i; entry = entry i; reasons = (p.reasons ∙ ap (reasons_by_keys node limit) lack ∙ sym q.reasons) i; marks = (p.marks ∙ ap (marks_by_keys node limit) lack ∙ sym q.marks) i }
    where
      by : bare p.keys ≡ bare q.keys → (o : Option ℕ) → entry_without_uses (entry_by_keys (width (Over (Limit limit) input)) f.claims p.keys o) ≡ entry_without_uses (entry_by_keys (width (Over (Limit limit) input)) g.claims q.keys o)
      by keys None =
          ap (λ n. entry_without_uses (entry_by (width (Over (Limit limit) input)) f.claims (p.keys ∷ []) [] (Some n))) (same_long f.claims g.claims claims)
          ∙ entry_same (width (Over (Limit limit) input)) f.claims g.claims (p.keys ∷ []) (q.keys ∷ []) [] (Some (length g.claims)) claims (ap (λ c. c ∷ []) keys)
      by keys (Some d) = entry_same (width (Over (Limit limit) input)) f.claims g.claims [] [] [] None claims refl

  said_same : (plan : PlanTree) → IsSaid facts plan node f → IsSaid facts plan node g → told f ≡ told g
  said_same (Scan table columns) p q = bare_same (width (Scan table columns)) p q
  said_same (Join condition left right) p q = bare_same (width (Join condition left right)) p q
  said_same (Over (Filter condition) input) p q = bare_same (width (Over (Filter condition) input)) p q
  said_same (Over (Map outputs) input) p q = bare_same (width (Over (Map outputs) input)) p q
  said_same (Over (Window w) input) p q = window_same w input p q
  said_same (Over (Group g) input) p q = bare_same (width (Over (Group g) input)) p q
  said_same (Over Distinct input) p q = bare_same (width (Over Distinct input)) p q
  said_same (Over (Limit limit) input) p q = limit_same limit input p q

-- ---- a plan

more_told : (fs gs : List Finding) (f g : Finding) → map told fs ≡ map told gs → told f ≡ told g → map told (fs ++ f ∷ []) ≡ map told (gs ++ g ∷ [])
more_told fs gs f g e h = map-append told fs (f ∷ []) ∙ (λ i. e i ++ h i ∷ []) ∙ sym (map-append told gs (g ∷ []))

told_long : (fs gs : List Finding) → map told fs ≡ map told gs → length fs ≡ length gs
told_long fs gs e = sym (length-map fs told) ∙ ap length e ∙ length-map gs told

pub told_facts : (plan : PlanTree) (f g : Finding) → told f ≡ told g → facts_kept plan f ≡ facts_kept plan g
told_facts plan f g e = sym (facts_bare (width plan) f.claims) ∙ ap (λ (h : Finding). map (kept_fact (width plan)) h.claims) e ∙ facts_bare (width plan) g.claims

module _ (tables : List TableRule) where
  finding_same : (plan : PlanTree) (kept more kept' more' : List Fact) (node node' : ℕ) (f g : Finding) → kept ≡ kept' → more ≡ more' → node ≡ node' → IsFinding tables plan kept more node f → IsFinding tables plan kept' more' node' g → told f ≡ told g
  finding_same plan kept more kept' more' node node' f g e h n p q =
      let r : IsFinding tables plan kept more node g = subst (λ k. IsFinding tables plan k more node g) (sym e) (subst (λ m. IsFinding tables plan kept' m node g) (sym h) (subst (λ n. IsFinding tables plan kept' more' n g) (sym n) q)) in
      let facts = given tables plan kept more in
      said_same facts node f g (claims_same facts (width plan) (sources plan facts.list kept more) f.claims g.claims p.keeps r.keeps) plan p.said r.said

  abbrev pub Same : PlanFindings → PlanFindings → Type 0
  Same f g = (map told f.below ≡ map told g.below) × (told f.top ≡ told g.top)

  same_listed : (f g : PlanFindings) → Same f g → map told (in_postorder f) ≡ map told (in_postorder g)
  same_listed f g s = more_told f.below g.below f.top g.top s.0 s.1

  -- over findings that are the same
  over_same : (plan : PlanTree) (first : ℕ) (fs gs : List Finding) (kept more kept' more' : List Fact) (f g : PlanFindings) → map told fs ≡ map told gs → kept ≡ kept' → more ≡ more'
      → IsFoundOver tables plan first fs kept more f → IsFoundOver tables plan first gs kept' more' g → Same f g
  over_same plan first fs gs kept more kept' more' f g e k m a b = (
    ap (map told) a.before ∙ e ∙ ap (map told) (sym b.before),
    finding_same plan kept more kept' more' (first + length fs) (first + length gs) f.top g.top k m (ap (λ n. first + n) (told_long fs gs e)) a.finding b.finding,
  )

  abbrev IsOne : PlanTree → ℕ → Type 0
  IsOne plan first = (f g : PlanFindings) → AreFindings tables plan first f → AreFindings tables plan first g → Same f g

  over_one : (plan input : PlanTree) (first : ℕ) (inner other f g : PlanFindings) → Same inner other
      → IsFoundOver tables plan first (in_postorder inner) (facts_kept input inner.top) [] f → IsFoundOver tables plan first (in_postorder other) (facts_kept input other.top) [] g → Same f g
  over_one plan input first inner other f g s a b =
      over_same plan first (in_postorder inner) (in_postorder other) (facts_kept input inner.top) [] (facts_kept input other.top) [] f g (same_listed inner other s) (told_facts input inner.top other.top s.1) refl a b

  pub are_same : (plan : PlanTree) (first : ℕ) → IsOne plan first
  are_same (Scan table columns) first f g a b = (ap (map told) (a.0 ∙ sym b.0), finding_same (Scan table columns) [] [] [] [] first first f.top g.top refl refl refl a.1 b.1)
  are_same (Join condition left right) first f g a b =
      let under = are_same left first a.0 b.0 a.2 b.2 in
      let front = same_listed a.0 b.0 under in
      let next : first + length (in_postorder b.0) ≡ first + length (in_postorder a.0) = ap (λ n. first + n) (sym (told_long (in_postorder a.0) (in_postorder b.0) front)) in
      let beside = are_same right (first + length (in_postorder a.0)) a.1 b.1 a.3 (subst (λ n. AreFindings tables right n b.1) next b.3) in
      let back = same_listed a.1 b.1 beside in
      let all = map-append told (in_postorder a.0) (in_postorder a.1) ∙ (λ i. front i ++ back i) ∙ sym (map-append told (in_postorder b.0) (in_postorder b.1)) in
      over_same (Join condition left right) first (in_postorder a.0 ++ in_postorder a.1) (in_postorder b.0 ++ in_postorder b.1) (facts_kept left a.0.top) (facts_kept right a.1.top) (facts_kept left b.0.top) (facts_kept right b.1.top) f g
      all (told_facts left a.0.top b.0.top under.1) (told_facts right a.1.top b.1.top beside.1) a.4 b.4
  are_same (Over step input) first f g a b = over_one (Over step input) input first a.0 b.0 f g (are_same input first a.0 b.0 a.1 b.1) a.2 b.2

-- ---- answers

told_entries : (fs : List Finding) → entries_in (map told fs) ≡ map entry_without_uses (entries_in fs)
told_entries [] = refl
told_entries (f ∷ fs) = λ i. entry_without_uses f.entry ∷ told_entries fs i

told_reasons : (fs : List Finding) → reasons_in (map told fs) ≡ reasons_in fs
told_reasons [] = refl
told_reasons (f ∷ fs) = λ i. f.reasons ++ told_reasons fs i

told_marks : (fs : List Finding) → marks_in (map told fs) ≡ marks_in fs
told_marks [] = refl
told_marks (f ∷ fs) = λ i. f.marks ++ told_marks fs i

module _ (fs gs : List Finding) (e : map told fs ≡ map told gs) where
  same_entries : map entry_without_uses (entries_in fs) ≡ map entry_without_uses (entries_in gs)
  same_entries = sym (told_entries fs) ∙ ap entries_in e ∙ told_entries gs

  same_reasons : reasons_in fs ≡ reasons_in gs
  same_reasons = sym (told_reasons fs) ∙ ap reasons_in e ∙ told_reasons gs

  same_marks : marks_in fs ≡ marks_in gs
  same_marks = sym (told_marks fs) ∙ ap marks_in e ∙ told_marks gs

alike : (plan : PlanTree) (a b : Analysis) (fs gs : List Finding) → map told fs ≡ map told gs → Tells plan fs a → Tells plan gs b → AreAlike a b
alike plan (Certified c) (Certified d) fs gs e p q = (ap (map entry_without_uses) p.1 ∙ same_entries fs gs e ∙ ap (map entry_without_uses) (sym q.1), p.2 ∙ sym q.2)
alike plan (Certified c) (Open reasons marks) fs gs e p q = q.0 (q.1 ∙ sym (same_reasons fs gs e) ∙ p.0)
alike plan (Open reasons marks) (Certified c) fs gs e p q = p.0 (p.1 ∙ same_reasons fs gs e ∙ q.0)
alike plan (Open reasons marks) (Open others other_marks) fs gs e p q = (p.1 ∙ same_reasons fs gs e ∙ sym q.1, p.2 ∙ same_marks fs gs e ∙ sym q.2)

pub answers_alike : AnswersAreAlike
answers_alike tables plan a b p q =
    let same = are_same tables plan 0 p.exact.found q.exact.found p.exact.are q.exact.are in
    alike plan a b (in_postorder p.exact.found) (in_postorder q.exact.found) (same_listed tables p.exact.found q.exact.found same) p.exact.tells q.exact.tells
