use Rattle.std.proofs.Common.{◌≡◌, ◌∙◌, ap, slice_index_or, subst}
use Rattle.wd_plan.specs.Plans.{window_of}
use Rattle.wd_sets.specs.Sets.{has_column}
use Rattle.wd_rules.specs.Rules.{call_refusal}
use Rattle.wd_verify.specs.Shown.{evidence_of}
use Rattle.wd_verify.proofs.Calls.{class_there}
use Rattle.wd_verify.proofs.rules.check_call_of.Goals as goal

pub returns : goal.returns
returns c =
    let set = c.index-sets-from.result in
    let is = subst (λ n. set ≡ slice_index_or c.args.sets.now n set) c.from.ensures c.index-sets-from.is in
    c.check_call.ensures
    ∙ ap (λ among. call_refusal (evidence_of c.args.evidence.now) c.args.columns among c.args.call.now c.args.rule)
    (class_there has_column (window_of c.args.window.now) c.args.sets.now c.args.call.now.class set c.requires.class c.requires.sets is)
