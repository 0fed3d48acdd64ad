-- What the parts of the analysis add to what is found so far.
use Rattle.std.specs.Prelude.{◌≡◌, ℕ, ◌-◌, ◌≤◌, Bool, true, false, not, ◌&&◌, List, [], ◌∷◌, ◌++◌, filter, length, map, nat_eq, nat_lt, vec_items, Option, Some, if◌then◌else◌}
use Rattle.std.specs.HashMap as maps
use Rattle.std.specs.List.{list_all}
use Rattle.wd_schema.specs.Tables.{TableRule}
use Rattle.wd_plan.specs.Fits.{width}
use Rattle.wd_plan.specs.Plans.{PlanTree, Over, Window, Limit}
use Rattle.wd_certificate.specs.Certificates.{NodeRecord, node_of}
use Rattle.wd_step_facts.specs.Facts.{Fact, FactList}
use Rattle.wd_step_facts.specs.Steps.{both_copied, if_copied}
use Rattle.wd_facts.specs.Laws.{ArePlain}
use Rattle.wd_analyse.specs.declared.analysis.Mark.{Mark}
use Rattle.wd_analyse.specs.declared.analysis.Reason.{Reason}
use Rattle.wd_analyse.specs.declared.entry.Findings.{Findings}
use Rattle.wd_analyse.specs.declared.nodes.Found.{Found}
use Rattle.wd_close.specs.Closure.{are_named, is_split_within}
use Rattle.wd_analyse.specs.Evidence.{Closing, IsClosing}
use Rattle.wd_analyse.specs.Findings.{AreFindings, Finding, IsFinding, IsSaid, PlanFindings, entries_in, facts_kept, in_postorder, marks_in, reasons_in}
use Rattle.wd_analyse.specs.declared.copies.Copies.{Copies}
use Rattle.wd_analyse.specs.declared.tried.Tried.{Tried}
use Rattle.wd_analyse.specs.Sources.{Keeps, columns_in, gives_some, is_tried, starts}

-- ---- the sources of a Map

-- the lowest output that copies a column, as looked up in an index
abbrev pub copy_in : Copies → ℕ → Option ℕ
copy_in copies c = maps.get nat_eq copies.lowest c

-- the definitions of `Sources` for a Map, for any function that tells which output copies a column

abbrev pub output_by : (ℕ → Option ℕ) → ℕ → ℕ → Option ℕ
output_by copy width c = if nat_lt c width then Some c else copy (c - width)

abbrev pub outputs_by : (ℕ → Option ℕ) → ℕ → List ℕ → Option (List ℕ)
outputs_by copy width [] = Some []
outputs_by copy width (c ∷ X) = both_copied (output_by copy width c) (outputs_by copy width X)

abbrev pub left_sides_by : (ℕ → Option ℕ) → ℕ → List Fact → List (List ℕ)
left_sides_by copy width [] = []
left_sides_by copy width (fact ∷ facts) = if_copied (outputs_by copy width (columns_in fact.from)) (left_sides_by copy width facts)

-- ---- the search for what a node keeps

-- facts that can be closed, at a node with `width` columns
pub record Admits (facts : FactList) (width : ℕ) : Type 0 where
  pub split : is_split_within facts.split facts.columns ≡ true
  pub named : are_named facts ≡ true
  pub wide : width ≤ facts.columns

-- what columns determine is added to the claims, if they determine anything
pub record Adds (facts : FactList) (width : ℕ) (X : List ℕ) (old new : List Closing) : Type 0 where
  pub closing : Closing
  pub is : IsClosing facts closing
  pub from : closing.from ≡ X
  pub more : new ≡ old ++ filter (gives_some width) (closing ∷ [])

-- each number is below those after it
abbrev pub rises : List ℕ → Bool
rises [] = true
rises (c ∷ X) = list_all (nat_lt c) X && rises X

abbrev pub lists_in : Tried → List (List ℕ)
lists_in tried = map vec_items tried.lists.keys

-- an index tells for all columns whether they were tried; each of its lists rises
pub record HasTried (Xs : List (List ℕ)) (tried : Tried) : Type 0 where
  pub rising : list_all rises (lists_in tried) ≡ true
  pub same : (X : List ℕ) → is_tried (lists_in tried) X ≡ is_tried Xs X

-- columns are appended to those that were tried, where they are fresh
pub record IsNextTried (Xs : List (List ℕ)) (X : List ℕ) (fresh : Bool) (new : Tried) : Type 0 where
  pub test : fresh ≡ not (is_tried Xs X)
  pub has : HasTried (if fresh then Xs ++ X ∷ [] else Xs) new

-- what was tried and is kept of the sources so far
pub record IsSearch (facts : FactList) (width : ℕ) (sources : List (List ℕ)) (tried : Tried) (claims : List Closing) : Type 0 where
  pub keeps : Keeps facts width sources claims
  pub has : HasTried (starts keeps.tried) tried

-- one more source is tried
abbrev pub Tries : FactList → ℕ → List ℕ → Tried → List Closing → Tried → List Closing → Type 0
Tries facts width X tried claims new_tried new_claims = (before : List (List ℕ)) → IsSearch facts width before tried claims → IsSearch facts width (before ++ X ∷ []) new_tried new_claims

-- ---- what is said at a node

-- neither a Window nor a Limit
abbrev pub is_without_rules : PlanTree → Bool
is_without_rules (Over (Window w) input) = false
is_without_rules (Over (Limit limit) input) = false
is_without_rules plan = true

-- the reasons and marks so far
pub record Told : Type 0 where
  pub reasons : List Reason
  pub marks : List Mark

abbrev pub told_of : Findings → Told
told_of findings = record { reasons = findings.reasons.items; marks = findings.marks.items }

abbrev pub entries_of : Found → List NodeRecord
entries_of found = map node_of found.nodes.items

-- a node's entry, and its reasons and marks after those so far
pub record Says (facts : FactList) (plan : PlanTree) (node : ℕ) (claims : List Closing) (entry : NodeRecord) (old new : Told) : Type 0 where
  pub finding : Finding
  pub said : IsSaid facts plan node finding
  pub claims_are : finding.claims ≡ claims
  pub entry_is : finding.entry ≡ entry
  pub reasons : new.reasons ≡ old.reasons ++ finding.reasons
  pub marks : new.marks ≡ old.marks ++ finding.marks

-- ---- what is found

-- what is found at a plan's top node, whose children keep these, is appended to what was found before; the node keeps these facts
pub record FindsTop (tables : List TableRule) (plan : PlanTree) (kept more : List Fact) (old new : Found) (facts : List Fact) : Type 0 where
  pub finding : Finding
  pub is : IsFinding tables plan kept more (length (entries_of old)) finding
  pub entries : entries_of new ≡ entries_of old ++ finding.entry ∷ []
  pub reasons : new.findings.reasons.items ≡ old.findings.reasons.items ++ finding.reasons
  pub marks : new.findings.marks.items ≡ old.findings.marks.items ++ finding.marks
  pub keeps : facts ≡ facts_kept plan finding
  pub plain : ArePlain (width plan) facts

-- what is found at a plan's nodes is appended to what was found before; the top node keeps these facts
pub record Finds (tables : List TableRule) (plan : PlanTree) (old new : Found) (facts : List Fact) : Type 0 where
  pub found : PlanFindings
  pub are : AreFindings tables plan (length (entries_of old)) found
  pub entries : entries_of new ≡ entries_of old ++ entries_in (in_postorder found)
  pub reasons : new.findings.reasons.items ≡ old.findings.reasons.items ++ reasons_in (in_postorder found)
  pub marks : new.findings.marks.items ≡ old.findings.marks.items ++ marks_in (in_postorder found)
  pub keeps : facts ≡ facts_kept plan found.top
  pub plain : ArePlain (width plan) facts
