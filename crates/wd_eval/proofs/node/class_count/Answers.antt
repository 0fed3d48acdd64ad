use Rattle.std.proofs.Common.{◌≡◌, ◌∙◌, ap, length, sym, rules}
use Rattle.std.proofs.lemmas.List.{length-map}
use Rattle.wd_plan.specs.Plans.{class_of, plan_of}
use Rattle.wd_eval.specs.Walks.{last_count}
use Rattle.wd_eval.proofs.node.class_count.Goals as goal

pub returns-in-Window : goal.returns-in-Window
returns-in-Window c =
    let classes = c.in-Window.window.classes.items in
    let many : c.len.result ≡ length classes = search rules in
    many ∙ sym (length-map classes class_of) ∙ sym (ap (λ p. last_count (plan_of p)) c.in-Window.is)
