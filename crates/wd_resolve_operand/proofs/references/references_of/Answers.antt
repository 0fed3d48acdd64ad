use Rattle.std.proofs.Common.{◌∙◌, ◌++◌, ap, map, sym}
use Rattle.wd_resolve_operand.specs.Mappings.{reference_or_none, waiting}
use Rattle.wd_resolve_operand.proofs.Walked.{found_push, waiting_push}
use Rattle.wd_resolve_operand.proofs.references.references_of.Goals as goal

pub loop-part-preserved-in-Continue-branch-4 : goal.loop-part-preserved-in-Continue-branch-4
loop-part-preserved-in-Continue-branch-4 g c =
    let shown = g.L.Reference.shown in
    let waits = waiting shown c.open.new.pending.items in
    ap (λ found. map (λ k. shown k.now) found ++ waits) c.in_ok-push-2.ensures.items
    ∙ found_push shown c.loop-part.found.items c.in-Some-2.reference waits
    ∙ ap (λ rest. map (λ k. shown k.now) c.loop-part.found.items ++ rest)
    (ap (λ reference. reference_or_none shown reference ++ waits) (sym c.in-Some-2.is) ∙ c.in_ok-reference.ensures.references ∙ sym (waiting_push shown c.pop.new.self.items c.in-Some.part) ∙ ap (waiting shown) (sym c.in-Some.ensures.items))
    ∙ c.loop-part.invariant
