-- The entries of a plan and their lean forms are refused alike.
use Rattle.std.proofs.Common.{◌≡◌, ℕ, zero, suc, ◌+◌, List, [], ◌∷◌, map, refl, sym, ◌∙◌, ap, subst}
use Rattle.wd_schema.specs.Tables.{TableRule}
use Rattle.wd_plan.specs.Plans.{PlanTree, Scan, Join, Over, node_count}
use Rattle.wd_certificate.specs.Certificates.{NodeRecord, node_of}
use Rattle.wd_certificate.specs.declared.certificate.Node.{Node}
use Rattle.wd_facts.specs.Given.{given}
use Rattle.wd_rules.specs.Rules.{entry_refusal, kept_facts, or_else}
use Rattle.wd_rules.specs.Validity.{entry_at, kept_below, kept_right, nodes_refusal, top_at, top_number, top_refusal}
use Rattle.wd_verify.specs.Lean.{lean_entry, lean_of}
use Rattle.wd_verify.proofs.Alike.{entry_alike, given_alike, given_with}
use Rattle.wd_traces.proofs.AlikeFacts.{AreAlike}
use Rattle.wd_verify.proofs.LeanEntry.{lean_refusal}

entry_lean : (nodes : List NodeRecord) (n : ℕ) → lean_entry (entry_at nodes n) ≡ entry_at (map lean_entry nodes) n
entry_lean [] n = refl
entry_lean (entry ∷ nodes) zero = refl
entry_lean (entry ∷ nodes) (suc n) = entry_lean nodes n

module _ (tables : List TableRule) (nodes : List NodeRecord) where
  abbrev Lean : List NodeRecord
  Lean = map lean_entry nodes

  kept_lean : (plan : PlanTree) (first : ℕ) → AreAlike (kept_facts (top_at plan first nodes)) (kept_facts (top_at plan first Lean))
  kept_lean plan first = subst (λ entry. AreAlike (kept_facts (top_at plan first nodes)) (kept_facts entry)) (entry_lean nodes (top_number plan first)) (entry_alike (top_at plan first nodes))

  below_lean : (plan : PlanTree) (first : ℕ) → AreAlike (kept_below plan first nodes) (kept_below plan first Lean)
  below_lean (Scan table columns) first = tt
  below_lean (Join condition left right) first = kept_lean left first
  below_lean (Over step input) first = kept_lean input first

  right_lean : (plan : PlanTree) (first : ℕ) → AreAlike (kept_right plan first nodes) (kept_right plan first Lean)
  right_lean (Scan table columns) first = tt
  right_lean (Join condition left right) first = kept_lean right (first + node_count left)
  right_lean (Over step input) first = tt

  top_lean : (plan : PlanTree) (first : ℕ) → top_refusal tables plan first nodes ≡ top_refusal tables plan first Lean
  top_lean plan first =
      let number = top_number plan first in
      let kept = kept_below plan first nodes in
      let more = kept_right plan first nodes in
      let others = kept_below plan first Lean in
      let rest = kept_right plan first Lean in
      let list = (given tables plan others rest).list in
      lean_refusal number (given tables plan kept more) list (given_alike tables plan kept others more rest (below_lean plan first) (right_lean plan first)) plan (top_at plan first nodes)
      ∙ ap (λ facts. entry_refusal number facts plan (lean_entry (top_at plan first nodes))) (sym (given_with tables plan kept others more rest))
      ∙ ap (entry_refusal number (given tables plan others rest) plan) (entry_lean nodes number)

  pub nodes_lean : (plan : PlanTree) (first : ℕ) → nodes_refusal tables plan first nodes ≡ nodes_refusal tables plan first Lean
  nodes_lean (Scan table columns) first = top_lean (Scan table columns) first
  nodes_lean (Join condition left right) first = λ i. or_else (nodes_lean left first i) (or_else (nodes_lean right (first + node_count left) i) (top_lean (Join condition left right) first i))
  nodes_lean (Over step input) first = λ i. or_else (nodes_lean input first i) (top_lean (Over step input) first i)

pub lean_nodes : (nodes : List Node) → map lean_entry (map node_of nodes) ≡ map lean_of nodes
lean_nodes [] = refl
lean_nodes (node ∷ nodes) = ap (λ rest. lean_of node ∷ rest) (lean_nodes nodes)
