use Rattle.std.proofs.Common.{map, sym, ap, ap₂, ◌∙◌, subst}
use Rattle.std.specs.Option.{option_zip}
use Rattle.wd_json_tokens.specs.Pairs.{slot_seen}
use Rattle.wd_certificate.specs.Certificates.{kept_of, trace_of}
use Rattle.wd_certificate.specs.Json.{node_json}
use Rattle.wd_certificate.specs.Members.{HoldsNode}
use Rattle.wd_certificate.proofs.Nodes.{all_read, other_no_node}
use Rattle.wd_certificate.proofs.Seen.{same_map}
use Rattle.wd_certificate.proofs.node.node_of_slots.Goals as goal

pub returns-then-slots : goal.returns-then-slots
returns-then-slots c =
    let s = c.args.slots in
    let calls = slot_seen (λ v. map (λ r. r) v.items) s.calls in
    let keep = slot_seen (λ v. map kept_of v.items) s.keep in
    let limit = slot_seen (λ o. o) s.limit in
    let traces = slot_seen (λ v. map trace_of v.items) s.traces in
    λ ms h. other_no_node calls keep limit traces ms (subst (λ other. HoldsNode calls keep limit traces other ms) c.if-slots.true h)

pub returns-in-Some : goal.returns-in-Some
returns-in-Some c =
    let s = c.args.slots in
    let calls = slot_seen (λ v. map (λ r. r) v.items) s.calls in
    let keep = slot_seen (λ v. map kept_of v.items) s.keep in
    let limit = slot_seen (λ o. o) s.limit in
    let traces = slot_seen (λ v. map trace_of v.items) s.traces in
    let is = c.in-Some in
    let all = c.zip-2.ensures ∙ ap₂ option_zip (c.zip-lists.ensures ∙ ap₂ option_zip c.flatten.ensures c.flatten-2.ensures) (c.zip.ensures ∙ ap₂ option_zip c.flatten-3.ensures c.flatten-4.ensures) in
    λ ms h. all_read (λ v. map (λ r. r) v.items) (λ v. map kept_of v.items) (λ o. o) (λ v. map trace_of v.items) s.calls s.keep s.limit s.traces is.lists.0 is.lists.1 is.others.0 is.others.1 ms (sym all ∙ is.is)
    (subst (λ other. HoldsNode calls keep limit traces other ms) c.if-slots.false h)
    ∙ ap (λ xs. node_json (record { calls = xs; keep = map kept_of is.lists.1.items; limit = is.others.0; traces = map trace_of is.others.1.items })) (same_map is.lists.0.items)
