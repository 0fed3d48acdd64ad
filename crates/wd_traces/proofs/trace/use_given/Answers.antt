use Rattle.std.proofs.Common.{◌≡◌, ◌∙◌, Some, ap, option_map, refl, slice_get, sym}
use Rattle.std.proofs.lemmas.Option.{IfSome_then, slice_get-map, slice_get_past, slice_get_read}
use Rattle.std.proofs.lemmas.Result.{IfErr-weaker, IfOk-weaker}
use Rattle.wd_step_facts.specs.Facts.{fact_of}
use Rattle.wd_sets.specs.Sets.{has, stands_in}
use Rattle.wd_rules.specs.Traces.{with_use}
use Rattle.wd_node_facts.specs.Seen.{seen_of}
use Rattle.wd_traces.specs.Known.{from_of, set_in, to_of}
use Rattle.wd_traces.proofs.trace.use_given.Goals as goal

pub use_fact-requires-clause-from : goal.use_fact-requires-clause-from
use_fact-requires-clause-from c =
    let h = c.in-Some.ensures.lookup in
    let at : slice_get c.args.list.now c.args.number ≡ Some c.in-Some.fact.now = slice_get_read c.args.list.now _ c.args.number c.in-Some.fact.now refl h.3.0 h.1 in
    IfSome_then c.set_at-from.result c.set_at-from.ensures (λ s e m. c.requires.sets.from c.args.number s.now (ap (λ xs. set_in (slice_get xs c.args.number)) (sym c.deref.ensures.value) ∙ e) m ∙ ap (λ o. stands_in (from_of o) m) at)

pub use_fact-requires-clause-to : goal.use_fact-requires-clause-to
use_fact-requires-clause-to c =
    let h = c.in-Some.ensures.lookup in
    let at : slice_get c.args.list.now c.args.number ≡ Some c.in-Some.fact.now = slice_get_read c.args.list.now _ c.args.number c.in-Some.fact.now refl h.3.0 h.1 in
    IfSome_then c.set_at-to.result c.set_at-to.ensures (λ s e m. c.requires.sets.to c.args.number s.now (ap (λ xs. set_in (slice_get xs c.args.number)) (sym c.deref-in-Some.ensures.value) ∙ e) m ∙ ap (λ o. stands_in (to_of o) m) at)

pub returns-in-Some-clause-used : goal.returns-in-Some-clause-used
returns-in-Some-clause-used c =
    let h = c.in-Some.ensures.lookup in
    let at = slice_get-map fact_of c.args.list.now c.args.number ∙ ap (option_map fact_of) (slice_get_read c.args.list.now _ c.args.number c.in-Some.fact.now refl h.3.0 h.1) in
    IfOk-weaker c.use_fact.result _ _ (λ done e. ap (with_use c.args.node (seen_of c.args.known.now.facts) (has c.args.set.now)) at ∙ e) c.use_fact.ensures.used

pub returns-in-Some-clause-refused : goal.returns-in-Some-clause-refused
returns-in-Some-clause-refused c =
    let h = c.in-Some.ensures.lookup in
    let at = slice_get-map fact_of c.args.list.now c.args.number ∙ ap (option_map fact_of) (slice_get_read c.args.list.now _ c.args.number c.in-Some.fact.now refl h.3.0 h.1) in
    IfErr-weaker c.use_fact.result _ _ (λ refusal e memory. ap (with_use c.args.node (seen_of c.args.known.now.facts) (has c.args.set.now)) at ∙ e memory) c.use_fact.ensures.refused

pub returns-in-None-clause-refused : goal.returns-in-None-clause-refused
returns-in-None-clause-refused c =
    λ memory. ap (with_use c.args.node (seen_of c.args.known.now.facts) (has c.args.set.now)) (slice_get-map fact_of c.args.list.now c.args.number ∙ ap (option_map fact_of) (slice_get_past c.args.list.now c.args.number c.in-None.ensures.lookup.3))
