-- What the facts of a node ask of a plan that fits.
use Rattle.std.proofs.Common.{◌≡◌, ℕ, ◌+◌, ◌-◌, ◌<◌, ◌≤◌, true, ◌&&◌, List, [], ◌∷◌, length, refl, arith, nat_lt, Option}
use Rattle.std.specs.List.{list_all}
use Rattle.std.proofs.lemmas.Bool.{and_parts}
use Rattle.wd_schema.specs.Tables.{TableRule}
use Rattle.wd_plan.specs.Expressions.{Expression}
use Rattle.wd_plan.specs.Fits.{are_outputs, fits, is_narrow, is_typed, kinds_of, width}
use Rattle.wd_plan.specs.Plans.{Map, PlanTree, Join, Over}
use Rattle.wd_plan.proofs.Ranges.{kinds_below, narrow}
use Rattle.wd_step_facts.specs.Facts.{Fact, is_plain_fact}
use Rattle.wd_step_facts.specs.Steps.{used}
use Rattle.wd_facts.specs.Laws.{ArePlain}
use Rattle.wd_facts.proofs.KeyRanges.{wider}
use Rattle.wd_facts.proofs.Plain.{facts_wider}
use Rattle.wd_facts.proofs.UsedBelow.{used_below}

module _ (tables : List TableRule) where
  pub width_below : (plan : PlanTree) → fits tables plan ≡ true → width plan < 65536
  width_below plan f = let few = narrow tables plan f in omega arith

  module _ (condition : Option Expression) (left right : PlanTree) (f : fits tables (Join condition left right) ≡ true) where
    few : width left + width right ≤ 1024
    few = narrow tables (Join condition left right) f

    pub left_kept : (facts : List Fact) → ArePlain (width left) facts → list_all (is_plain_fact 65536) facts ≡ true
    left_kept facts h = let n = few in facts_wider (width left) 65536 (omega arith) facts h

    pub right_kept : (facts : List Fact) → ArePlain (width right) facts → list_all (is_plain_fact (65536 - width left)) facts ≡ true
    right_kept facts h = let n = few in facts_wider (width right) (65536 - width left) (omega arith) facts h

  module _ (outputs : List Expression) (input : PlanTree) (f : fits tables (Over (Map outputs) input) ≡ true) where
    parts : (fits tables input ≡ true) × (are_outputs (kinds_of tables input) outputs ≡ true)
    parts = and_parts (fits tables input) (are_outputs (kinds_of tables input) outputs) f

    pub input_narrow : width input ≤ 1024
    input_narrow = narrow tables input parts.0

    pub outputs_narrow : length outputs ≤ 1024
    outputs_narrow = narrow tables (Over (Map outputs) input) f

    pub input_kept : (facts : List Fact) → ArePlain (width input) facts → list_all (is_plain_fact (65536 - length outputs)) facts ≡ true
    input_kept facts h = let n = input_narrow in let m = outputs_narrow in facts_wider (width input) (65536 - length outputs) (omega arith) facts h

    all_used : (b : ℕ) → width input ≤ b → (es : List Expression) → list_all (is_typed (kinds_of tables input)) es ≡ true → list_all (λ e. list_all (λ c. nat_lt c b) (used e)) es ≡ true
    all_used b h [] e = refl
    all_used b h (x ∷ es) e =
        let both = and_parts (is_typed (kinds_of tables input) x) (list_all (is_typed (kinds_of tables input)) es) e in
        λ i. wider (width input) b h (used x) (used_below (kinds_of tables input) (width input) (kinds_below tables input parts.0) x both.0) i && all_used b h es both.1 i

    pub outputs_used : list_all (λ e. list_all (λ c. nat_lt c (65536 - length outputs)) (used e)) outputs ≡ true
    outputs_used = let n = input_narrow in let m = outputs_narrow in all_used (65536 - length outputs) (omega arith) outputs (and_parts (is_narrow (length outputs)) (list_all (is_typed (kinds_of tables input)) outputs) parts.1).1
