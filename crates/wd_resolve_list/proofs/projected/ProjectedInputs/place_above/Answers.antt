use Rattle.std.proofs.Common.{◌≡◌, ◌∙◌, sym, ap, ◌+◌, arith, length, map}
use Rattle.std.proofs.lemmas.List.{length-map}
use Rattle.wd_resolve_call.specs.declared.reference.SelectReference.{SelectReference}
use Rattle.wd_resolve_call.specs.Calls.{call_of, same_call}
use Rattle.wd_resolve_call.specs.References.{reference_of}
use Rattle.wd_resolve_call.specs.Rows.{row_expression_of}
use Rattle.wd_resolve_list.specs.SelectLists.{number_in, place_above}
use Rattle.wd_resolve_list.proofs.projected.ProjectedInputs.place_above.Goals as goal

pub returns-in-Call : goal.returns-in-Call
returns-in-Call c =
    let inputs = map row_expression_of c.args.self.now.inputs.items in
    let calls = map call_of c.args.self.now.calls.items in
    let long = length-map c.args.self.now.inputs.items row_expression_of in
    let len = c.len.ensures in
    let ok = c.args.self.now.inputs.ok.0 in
    let same : c.len.result ≡ length inputs = omega (arith, long, len, ok) in
    let number = c.call_number.ensures.number ∙ (λ i. number_in same_call (map call_of (c.deref-in-Call.ensures.value i)) (call_of (c.deref-in-Call-2.ensures i))) in
    (λ i. same i + number i) ∙ ap (λ (l : SelectReference). place_above inputs calls (reference_of l)) (sym c.in-Call.is)
