-- The rules of marks that go into an index from the last to the first.
use Rattle.std.proofs.Common.{◌≡◌, ℕ, List, [], ◌∷◌, ◌++◌, map, reverse, cond, refl, Option, Some, Bool, true, false, Bor}
use Rattle.std.specs.List.{find}
use Rattle.std.specs.Prelude.{if◌then◌else◌, option_map}
use Rattle.std.proofs.lemmas.List.{map-append, reverse-append}
use Rattle.wd_analyse.specs.declared.analysis.Mark.{Mark}
use Rattle.wd_report.specs.Plans.{is_mark_of, rule_marked}

rule_if : (b : Bool) (mark : Mark) (others : Option Mark) → option_map (λ (m : Mark). m.rule) (if b then Some mark else others) ≡ cond b (Some mark.rule) (option_map (λ (m : Mark). m.rule) others)
rule_if true mark others = refl
rule_if false mark others = refl

-- one more mark counts before those after it
pub one_more : (marks : List (Bor Mark)) (mark : Bor Mark) (node : ℕ) (call : Option ℕ) → rule_marked node call (reverse (map (λ m. m.now) (marks ++ mark ∷ []))) ≡ cond (is_mark_of node call mark.now) (Some mark.now.rule) (rule_marked node call (reverse (map (λ m. m.now) marks)))
one_more marks mark node call = rw (map-append {B = Mark} (λ m. m.now) marks (mark ∷ []), reverse-append {A = Mark} (map (λ m. m.now) marks) (mark.now ∷ [])) (rule_if (is_mark_of node call mark.now) mark.now (find (is_mark_of node call) (reverse (map (λ m. m.now) marks))))
