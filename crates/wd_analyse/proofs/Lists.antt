-- By the certificate of an analysis a plan's last Limit goes by `keys` exactly where its sort keys lack no column.
use Rattle.std.proofs.Common.{◌≡◌, ℕ, ◌+◌, ◌<◌, true, not, List, [], ◌∷◌, ◌++◌, length, refl, sym, ◌∙◌, ap, arith, subst, Option, Some, None, is_some}
use Rattle.std.proofs.lemmas.Bool.{false≢true}
use Rattle.wd_schema.specs.Tables.{TableRule}
use Rattle.wd_plan.specs.Fits.{fits, width}
use Rattle.wd_plan.specs.Plans.{LimitRule, PlanTree, Scan, Join, Over, Filter, Map, Window, Distinct, Group, Limit, node_count}
use Rattle.wd_certificate.specs.Certificates.{NodeRecord}
use Rattle.wd_step_facts.specs.Facts.{Fact, FactList}
use Rattle.wd_facts.specs.Given.{given}
use Rattle.wd_facts.specs.Laws.{AreOfChildren, ArePlain}
use Rattle.wd_rules.specs.Lists.{final_limit, goes_by_keys}
use Rattle.wd_rules.specs.Validity.{entry_at, top_number}
use Rattle.wd_analyse.specs.Evidence.{IsClosing}
use Rattle.wd_analyse.specs.Findings.{AreFindings, Finding, IsOfLimit, PlanFindings, entries_in, entry_by_keys, facts_kept, in_postorder, lacking}
use Rattle.wd_analyse.specs.Lists.{IsLack, IsLackOf, KeysComeFirst}
use Rattle.wd_analyse.proofs.Postorder.{at_end, at_front, top_low}
use Rattle.wd_analyse.proofs.Sound.{are_analysed, entries_more}
use Rattle.wd_analyse.specs.Steps.{Admits}
use Rattle.wd_analyse.proofs.Tops.{given_admits}
use Rattle.wd_analyse.proofs.Unique.{are_same, closing_same, told_facts}

some_is : {X : Type 0} (a b : X) → ◌≡◌ {A = Option X} (Some a) (Some b) → a ≡ b
some_is a b e = cc

-- ---- entries with more after them

final_low : (plan : PlanTree) (first n : ℕ) → final_limit plan first ≡ Some n → n < first + node_count plan
final_low (Scan table columns) first n e = cc
final_low (Join condition left right) first n e = cc
final_low (Over (Filter condition) input) first n e = cc
final_low (Over (Map outputs) input) first n e = let low = final_low input first n e in omega (arith, low)
final_low (Over (Window w) input) first n e = cc
final_low (Over Distinct input) first n e = cc
final_low (Over (Group g) input) first n e = cc
final_low (Over (Limit limit) input) first n e =
    let is : top_number (Over (Limit limit) input) first ≡ n = some_is _ _ e in
    let low = top_low (Over (Limit limit) input) first in
    omega (arith, is, low)

keys_front : (ns more : List NodeRecord) (o : Option ℕ) → ((n : ℕ) → o ≡ Some n → n < length ns) → goes_by_keys (ns ++ more) o ≡ goes_by_keys ns o
keys_front ns more None h = refl
keys_front ns more (Some n) h = ap (λ (e : NodeRecord). is_some e.limit) (at_front ns more n (h n refl))

-- ---- the last Limit

-- an entry that goes by what its sort keys lack
entry_keys : (facts : FactList) (limit : LimitRule) (input : PlanTree) (node : ℕ) (f : Finding) (h : IsOfLimit facts limit input node f) (o : Option ℕ) → lacking (width input) h.keys ≡ o → is_some o ≡ not (is_some f.entry.limit)
entry_keys facts limit input node f h None e = sym (ap (λ (n : NodeRecord). not (is_some n.limit)) (h.entry ∙ ap (entry_by_keys (width (Over (Limit limit) input)) f.claims h.keys) e))
entry_keys facts limit input node f h (Some d) e = sym (ap (λ (n : NodeRecord). not (is_some n.limit)) (h.entry ∙ ap (entry_by_keys (width (Over (Limit limit) input)) f.claims h.keys) e))

module _ (tables : List TableRule) where
  -- what two analyses say that a Limit lacks is one thing
  lack_same : (limit : LimitRule) (input : PlanTree) (o p : Option ℕ) → IsLackOf tables limit input o → IsLackOf tables limit input p → o ≡ p
  lack_same limit input o p a b =
      let under = are_same tables input 0 a.found b.found a.are b.are in
      let kept : facts_kept input a.found.top ≡ facts_kept input b.found.top = told_facts input a.found.top b.found.top under.1 in
      let facts = given tables (Over (Limit limit) input) (facts_kept input a.found.top) [] in
      let there : IsClosing facts b.keys = subst (λ k. IsClosing (given tables (Over (Limit limit) input) k []) b.keys) (sym kept) b.closing in
      sym a.is ∙ ap (lacking (width input)) (closing_same facts a.keys b.keys a.closing there (a.columns ∙ sym b.columns)) ∙ b.is

  long : (plan : PlanTree) (found : PlanFindings) → AreFindings tables plan 0 found → length (entries_in (in_postorder found)) ≡ node_count plan
  long plan found a = let all = (are_analysed tables plan [] [] found a).long in omega (arith, all)

  keys_first : (plan : PlanTree) (found : PlanFindings) (o : Option ℕ) → AreFindings tables plan 0 found → IsLack tables plan o → is_some (final_limit plan 0) ≡ true
      → is_some o ≡ not (goes_by_keys (entries_in (in_postorder found)) (final_limit plan 0))
  keys_first (Scan table columns) found o a l t = absurd (false≢true t)
  keys_first (Join condition left right) found o a l t = absurd (false≢true t)
  keys_first (Over (Filter condition) input) found o a l t = absurd (false≢true t)
  keys_first (Over (Map outputs) input) found o a l t =
      let top = found.top in
      let inner = entries_in (in_postorder a.0) in
      let number = long input a.0 a.1 in
      let all : entries_in (in_postorder found) ≡ inner ++ top.entry ∷ [] = ap (λ b. entries_in (b ++ top ∷ [])) a.2.before ∙ entries_more [] (in_postorder a.0) top in
      keys_first input a.0 o a.1 l t
      ∙ ap not (sym (keys_front inner (top.entry ∷ []) (final_limit input 0) (λ n e. let low = final_low input 0 n e in omega (arith, low, number))))
      ∙ ap (λ ns. not (goes_by_keys ns (final_limit input 0))) (sym all)
  keys_first (Over (Window w) input) found o a l t = absurd (false≢true t)
  keys_first (Over Distinct input) found o a l t = absurd (false≢true t)
  keys_first (Over (Group g) input) found o a l t = absurd (false≢true t)
  keys_first (Over (Limit limit) input) found o a l t =
      let top = found.top in
      let inner = entries_in (in_postorder a.0) in
      let number = long input a.0 a.1 in
      let all : entries_in (in_postorder found) ≡ inner ++ top.entry ∷ [] = ap (λ b. entries_in (b ++ top ∷ [])) a.2.before ∙ entries_more [] (in_postorder a.0) top in
      let last : entry_at (entries_in (in_postorder found)) (top_number (Over (Limit limit) input) 0) ≡ top.entry = ap (λ ns. entry_at ns (top_number (Over (Limit limit) input) 0)) all ∙ at_end inner top.entry (top_number (Over (Limit limit) input) 0) (omega (arith, number)) in
      let said = a.2.finding.said in
      let own : IsLackOf tables limit input (lacking (width input) said.keys) = record { found = a.0; are = a.1; keys = said.keys; closing = said.closing; columns = said.columns; is = refl } in
      ap is_some (lack_same limit input o (lacking (width input) said.keys) l own)
      ∙ entry_keys _ limit input _ top said (lacking (width input) said.keys) refl
      ∙ ap (λ (e : NodeRecord). not (is_some e.limit)) (sym last)

pub keys_come_first : KeysComeFirst
keys_come_first tables plan certificate o answer l t =
    let exact = answer.exact in
    keys_first tables plan exact.found o exact.are l t
    ∙ ap (λ ns. not (goes_by_keys ns (final_limit plan 0))) (sym exact.tells.1)

-- the given facts of a Limit over an input that keeps plain facts can be closed
pub lack_admits : (tables : List TableRule) (plan input : PlanTree) (limit : LimitRule) (kept own : List Fact) (facts : FactList) → plan ≡ Over (Limit limit) input → fits tables plan ≡ true → kept ≡ own → ArePlain (width input) own → facts ≡ given tables plan kept [] → Admits facts (width plan)
lack_admits tables plan input limit kept own facts is f same plain given_is =
    given_admits tables plan kept [] facts given_is f (subst (λ p. AreOfChildren p kept []) (sym is) (subst (ArePlain (width input)) (sym same) plain))
