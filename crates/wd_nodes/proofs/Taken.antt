-- Tables that are taken for the Scans of both sides of a join.
use Rattle.std.proofs.Common.{◌≡◌, ℕ, ◌<◌, List, drop, nat_eq, Option, None, Some, refl, sym, ap, ◌∙◌, subst, arith}
use Rattle.std.proofs.lemmas.Bool.{eq-eqb}
use Rattle.std.proofs.lemmas.List.{drop-drop}
use Rattle.wd_value.specs.Rows.{Instance, Row, table_at}
use Rattle.wd_plan.specs.Expressions.{Expression}
use Rattle.wd_plan.specs.Plans.{PlanTree, Scan, Join, Over}
use Rattle.wd_nodes.specs.Held.{IsHeld, MovedIn, next_moved, read_at, scan_count}
use Rattle.wd_nodes.specs.Taken.{AreReadOnce, IsTaken, one_if, scans_of}

same_one : (k : ℕ) → one_if (nat_eq k k) ≡ 1
same_one k = ap one_if (eq-eqb k k refl)

-- ---- tables that a plan does not scan may be others

module _ (tables others instance elsewhere : Instance) where
  read_elsewhere : (k : ℕ) (moved : Option (List Row)) → table_at others k ≡ table_at tables k → table_at elsewhere k ≡ table_at instance k → read_at tables moved k ≡ table_at instance k → read_at others moved k ≡ table_at elsewhere k
  read_elsewhere k None here there h = here ∙ h ∙ sym there
  read_elsewhere k (Some rows) here there h = h ∙ sym there

  held_elsewhere : (plan : PlanTree) (moved : MovedIn) → ((k : ℕ) → 0 < scans_of plan k → table_at others k ≡ table_at tables k) → ((k : ℕ) → 0 < scans_of plan k → table_at elsewhere k ≡ table_at instance k) → IsHeld plan tables moved instance → IsHeld plan others moved elsewhere
  held_elsewhere (Scan table columns) moved here there h =
      let own = same_one table in
      read_elsewhere table (next_moved moved) (here table (omega (arith, own))) (there table (omega (arith, own))) h
  held_elsewhere (Join condition left right) moved here there h = (
    held_elsewhere left moved (λ k s. here k (omega (arith, s))) (λ k s. there k (omega (arith, s))) h.0,
    held_elsewhere right (drop (scan_count left) moved) (λ k s. here k (omega (arith, s))) (λ k s. there k (omega (arith, s))) h.1,
  )
  held_elsewhere (Over step input) moved here there h = held_elsewhere input moved here there h

-- ---- both sides

module _ (counts : List ℕ) (old between new : Instance) (before middle after : MovedIn) (condition : Option Expression) (left right : PlanTree) (first : IsTaken counts right old between before middle) (second : IsTaken counts left between new middle after) where
  -- a table that is taken for one side is not read by the other
  both_held : AreReadOnce counts (Join condition left right) → IsHeld (Join condition left right) new after old
  both_held once = (
    held_elsewhere new new between old left after (λ k s. refl) (λ k s. sym (first.others k (λ one. let few = once k one in omega (arith, s, few)))) (second.held (λ k one. let few = once k one in omega (arith, few))),
    subst (λ m. IsHeld right new m old) (sym second.rest) (held_elsewhere between new old old right middle (λ k s. second.others k (λ one. let few = once k one in omega (arith, s, few))) (λ k s. refl) (first.held (λ k one. let few = once k one in omega (arith, few)))),
  )

  pub both_taken : IsTaken counts (Join condition left right) old new before after
  both_taken = record {
    held = both_held;
    rest = sym (drop-drop (scan_count right) (scan_count left) after) ∙ ap (drop (scan_count right)) second.rest ∙ first.rest;
    others = λ k none. second.others k (λ one. let no = none one in omega (arith, no)) ∙ first.others k (λ one. let no = none one in omega (arith, no));
  }
