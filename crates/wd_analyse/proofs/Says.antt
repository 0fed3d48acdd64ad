-- What is said at a node.
use Rattle.std.proofs.Common.{◌≡◌, ℕ, true, false, List, length, map, IfOk, Result, Ok, Err, sym, subst}
use Rattle.std.proofs.lemmas.Bool.{false≢true}
use Rattle.std.proofs.lemmas.List.{length-map}
use Rattle.wd_plan.specs.Fits.{width}
use Rattle.wd_plan.specs.Plans.{LimitRule, PlanTree, WindowRule, Scan, Join, Over, Filter, Map, Group, Window, Distinct, Limit}
use Rattle.wd_step_facts.specs.Facts.{FactList}
use Rattle.wd_analyse.specs.declared.closed.Closed.{Closed}
use Rattle.wd_analyse.specs.Evidence.{closing_of}
use Rattle.wd_analyse.specs.Findings.{Finding, IsBare, IsOfLimit, IsOfWindow, IsSaid}
use Rattle.wd_analyse.specs.Steps.{is_without_rules}

pub number : (claims : List Closed) → length (map closing_of claims) ≡ length claims
number claims = length-map claims closing_of

pub bare_said : (facts : FactList) (plan : PlanTree) (node : ℕ) (f : Finding) → is_without_rules plan ≡ true → IsBare (width plan) f → IsSaid facts plan node f
bare_said facts (Scan table columns) node f e b = b
bare_said facts (Join condition left right) node f e b = b
bare_said facts (Over (Filter condition) input) node f e b = b
bare_said facts (Over (Map outputs) input) node f e b = b
bare_said facts (Over (Window w) input) node f e b = absurd (false≢true e)
bare_said facts (Over (Group g) input) node f e b = b
bare_said facts (Over Distinct input) node f e b = b
bare_said facts (Over (Limit limit) input) node f e b = absurd (false≢true e)

module _ (facts : FactList) (plan input : PlanTree) (node : ℕ) (f : Finding) where
  pub window_said : (w : WindowRule) → plan ≡ Over (Window w) input → IsOfWindow facts w input node f → IsSaid facts plan node f
  window_said w is h = subst (λ p. IsSaid facts p node f) (sym is) h

  pub limit_said : (limit : LimitRule) → plan ≡ Over (Limit limit) input → IsOfLimit facts limit input node f → IsSaid facts plan node f
  limit_said limit is h = subst (λ p. IsSaid facts p node f) (sym is) h

-- three facts of a value that is there
pub all_three : {A E : Type 0} (r : Result A E) (P Q R S : A → Type 0) → ((v : A) → P v → Q v → R v → S v) → IfOk r P → IfOk r Q → IfOk r R → IfOk r S
all_three (Ok v) P Q R S f p q r = f v p q r
all_three (Err e) P Q R S f p q r = tt
