use Rattle.std.proofs.Common.{◌≡◌, ◌≢◌, codes, Some, map, option_map, sym, ◌∙◌, subst}
use Rattle.std.proofs.lemmas.Bool.Decides.{not_from_Decides}
use Rattle.std.proofs.lemmas.Slice.Eq.{bytes_eq-Decides}
use Rattle.serde_json.specs.Data.{put}
use Rattle.wd_json_tokens.specs.Pairs.{slot_seen}
use Rattle.wd_certificate.specs.Certificates.{kept_of, trace_of}
use Rattle.wd_certificate.specs.Members.{HoldsNode}
use Rattle.wd_certificate.proofs.Nodes.{put_calls, put_keep, put_limit, put_traces, put_other}
use Rattle.wd_certificate.proofs.node.NodeSlotsSlots.read_member.Goals as goal

pub returns-in_ok-read-clause-ok : goal.returns-in_ok-read-clause-ok
returns-in_ok-read-clause-ok c =
    let s = c.args.self.now in
    let done = c.in_ok-read.ensures.ok in
    let calls = slot_seen (λ v. map (λ r. r) v.items) s.calls in
    let keep = slot_seen (λ v. map kept_of v.items) s.keep in
    let limit = slot_seen (λ o. o) s.limit in
    let traces = slot_seen (λ v. map trace_of v.items) s.traces in
    let new = option_map (λ v. map (λ r. r) v.items) c.in_ok-read.field-0 in
    let same : c.args.name.now ≡ codes "calls" = (bytes_eq-Decides c.args.name.now (codes "calls")).0 (sym c.eq.ensures ∙ c.if-eq.true) in
    (done.0, done.1, λ ms h. subst (λ name. HoldsNode (Some new) keep limit traces s.has_other (put name done.0 ms)) (sym same) (put_calls calls keep limit traces s.has_other new done.0 ms done.2 h))

pub returns-in_ok-read-2-clause-ok : goal.returns-in_ok-read-2-clause-ok
returns-in_ok-read-2-clause-ok c =
    let s = c.args.self.now in
    let done = c.in_ok-read-2.ensures.ok in
    let calls = slot_seen (λ v. map (λ r. r) v.items) s.calls in
    let keep = slot_seen (λ v. map kept_of v.items) s.keep in
    let limit = slot_seen (λ o. o) s.limit in
    let traces = slot_seen (λ v. map trace_of v.items) s.traces in
    let new = option_map (λ v. map kept_of v.items) c.in_ok-read-2.field-0 in
    let same : c.args.name.now ≡ codes "keep" = (bytes_eq-Decides c.args.name.now (codes "keep")).0 (sym c.eq-else-eq.ensures ∙ c.if-eq-2.true) in
    (done.0, done.1, λ ms h. subst (λ name. HoldsNode calls (Some new) limit traces s.has_other (put name done.0 ms)) (sym same) (put_keep calls keep limit traces s.has_other new done.0 ms done.2 h))

pub returns-in_ok-read-3-clause-ok : goal.returns-in_ok-read-3-clause-ok
returns-in_ok-read-3-clause-ok c =
    let s = c.args.self.now in
    let done = c.in_ok-read-3.ensures.ok in
    let calls = slot_seen (λ v. map (λ r. r) v.items) s.calls in
    let keep = slot_seen (λ v. map kept_of v.items) s.keep in
    let limit = slot_seen (λ o. o) s.limit in
    let traces = slot_seen (λ v. map trace_of v.items) s.traces in
    let new = option_map (λ o. o) c.in_ok-read-3.field-0 in
    let same : c.args.name.now ≡ codes "limit" = (bytes_eq-Decides c.args.name.now (codes "limit")).0 (sym c.eq-else-eq-2.ensures ∙ c.if-eq-3.true) in
    (done.0, done.1, λ ms h. subst (λ name. HoldsNode calls keep (Some new) traces s.has_other (put name done.0 ms)) (sym same) (put_limit calls keep limit traces s.has_other new done.0 ms done.2 h))

pub returns-in_ok-read-4-clause-ok : goal.returns-in_ok-read-4-clause-ok
returns-in_ok-read-4-clause-ok c =
    let s = c.args.self.now in
    let done = c.in_ok-read-4.ensures.ok in
    let calls = slot_seen (λ v. map (λ r. r) v.items) s.calls in
    let keep = slot_seen (λ v. map kept_of v.items) s.keep in
    let limit = slot_seen (λ o. o) s.limit in
    let traces = slot_seen (λ v. map trace_of v.items) s.traces in
    let new = option_map (λ v. map trace_of v.items) c.in_ok-read-4.field-0 in
    let same : c.args.name.now ≡ codes "traces" = (bytes_eq-Decides c.args.name.now (codes "traces")).0 (sym c.eq-else-eq-3.ensures ∙ c.if-eq-4.true) in
    (done.0, done.1, λ ms h. subst (λ name. HoldsNode calls keep limit (Some new) s.has_other (put name done.0 ms)) (sym same) (put_traces calls keep limit traces s.has_other new done.0 ms done.2 h))

pub returns-in_ok-skip_value-clause-ok : goal.returns-in_ok-skip_value-clause-ok
returns-in_ok-skip_value-clause-ok c =
    let s = c.args.self.now in
    let done = c.in_ok-skip_value.ensures.ok in
    let calls = slot_seen (λ v. map (λ r. r) v.items) s.calls in
    let keep = slot_seen (λ v. map kept_of v.items) s.keep in
    let limit = slot_seen (λ o. o) s.limit in
    let traces = slot_seen (λ v. map trace_of v.items) s.traces in
    let not_calls : c.args.name.now ≢ codes "calls" = not_from_Decides _ (bytes_eq-Decides c.args.name.now (codes "calls")) (sym c.eq.ensures ∙ c.if-eq.false) in
    let not_keep : c.args.name.now ≢ codes "keep" = not_from_Decides _ (bytes_eq-Decides c.args.name.now (codes "keep")) (sym c.eq-else-eq.ensures ∙ c.if-eq-2.false) in
    let not_limit : c.args.name.now ≢ codes "limit" = not_from_Decides _ (bytes_eq-Decides c.args.name.now (codes "limit")) (sym c.eq-else-eq-2.ensures ∙ c.if-eq-3.false) in
    let not_traces : c.args.name.now ≢ codes "traces" = not_from_Decides _ (bytes_eq-Decides c.args.name.now (codes "traces")) (sym c.eq-else-eq-3.ensures ∙ c.if-eq-4.false) in
    (done.0, done.1, λ ms h. put_other calls keep limit traces c.args.name.now done.0 ms not_calls not_keep not_limit not_traces)
