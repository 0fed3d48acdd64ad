-- Lists of a Group's columns and facts that grow at their end.
use Rattle.std.proofs.Common.{◌≡◌, ℕ, ◌+◌, List, [], ◌∷◌, ◌++◌, flat_map}
use Rattle.std.proofs.lemmas.List.{append_assoc}
use Rattle.wd_plan.specs.Plans.{GroupCall, Grouping}
use Rattle.wd_step_facts.specs.Facts.{Fact}
use Rattle.wd_step_facts.specs.Steps.{restrict_fact, grouping_columns}

pub grouping_next : (front : List ℕ) (w : ℕ) (arguments : List ℕ) (calls : List GroupCall) → (front ++ (w ∷ [])) ++ grouping_columns (w + 1) calls ≡ front ++ grouping_columns w (Grouping arguments ∷ calls)
grouping_next front w arguments calls = append_assoc front (w ∷ []) (grouping_columns (w + 1) calls)

pub cut_next : (front : List Fact) (columns : ℕ) (fact : Fact) (facts : List Fact) → (front ++ restrict_fact columns fact) ++ flat_map (restrict_fact columns) facts ≡ front ++ flat_map (restrict_fact columns) (fact ∷ facts)
cut_next front columns fact facts = append_assoc front (restrict_fact columns fact) (flat_map (restrict_fact columns) facts)
