use Rattle.std.proofs.Common.{ℕ, List, ◌++◌, ◌∙◌, flat_map, option_to_list, ap, sym}
use Rattle.std.proofs.lemmas.Grind.{flat_map-append}
use Rattle.wd_value.specs.Keys.{key_columns}
use Rattle.wd_plan.specs.Plans.{plan_of}
use Rattle.wd_candidates.specs.Origins.{origin}
use Rattle.wd_candidates.specs.declared.origins.TableColumn.{TableColumn}
use Rattle.wd_ties.proofs.Keys.{of_keys}
use Rattle.wd_ties.proofs.ties.copied_columns.Goals as goal

pub returns : goal.returns
returns c =
    let o = c.args.ordered in
    let f : ℕ → List TableColumn = λ k. option_to_list (origin (plan_of o.node.now) k) in
    c.in_ok-add_copied_keys.ensures
    ∙ ap (λ xs. c.add_copied.new.found.items ++ xs) (of_keys f o.keys.now)
    ∙ ap (λ xs. xs ++ flat_map f (key_columns o.keys.now)) (c.in_ok-add_copied.ensures ∙ ap (λ xs. xs ++ flat_map f o.partition.now) c.new-found.ensures.items)
    ∙ sym (flat_map-append f o.partition.now (key_columns o.keys.now))
