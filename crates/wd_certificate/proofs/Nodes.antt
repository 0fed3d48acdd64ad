-- A node's members by their slots.
use Rattle.std.proofs.Common.{◌≡◌, ◌≢◌, ℕ, List, codes, Bool, true, false, Option, Some, None, refl, sym, ap, ◌∙◌}
use Rattle.std.specs.Option.{option_flatten, option_zip}
use Rattle.serde_json.specs.Data.{Data, object, Members, no_members, member, put}
use Rattle.serde_json.specs.Find.{get_member}
use Rattle.serde_json.proofs.Views.{get_member-put, get_member-put_other}
use Rattle.wd_json.specs.Json.{list_json, optional_json}
use Rattle.wd_json_tokens.specs.Forms.{IsForm}
use Rattle.wd_json_tokens.specs.Pairs.{with_member, ComesBefore, slot_seen}
use Rattle.wd_json_tokens.proofs.Held.{goes_first, put_here, put_past, not_found, same_members}
use Rattle.wd_certificate.specs.Certificates.{TraceRecord, KeptRecord, NodeRecord}
use Rattle.wd_certificate.specs.Json.{rule_json, kept_json, trace_json, node_json}
use Rattle.wd_certificate.specs.Members.{node_members, HasOther, HoldsNode}
use Rattle.wd_certificate.specs.declared.certificate.Rule.{Rule}

abbrev pick : {A : Type 0} → A → Option A → A
pick d None = d
pick d (Some a) = a

some_same : {A : Type 0} {a b : A} → Some a ≡ Some b → a ≡ b
some_same {a = a} e = ap (pick a) e

some_not_none : (d : Data) → Some d ≡ None → ⊥
some_not_none d e = cc

-- ---- the order of the names

calls_keep : ComesBefore (codes "calls") (codes "keep")
calls_keep = refl

calls_limit : ComesBefore (codes "calls") (codes "limit")
calls_limit = refl

calls_traces : ComesBefore (codes "calls") (codes "traces")
calls_traces = refl

keep_limit : ComesBefore (codes "keep") (codes "limit")
keep_limit = refl

keep_traces : ComesBefore (codes "keep") (codes "traces")
keep_traces = refl

limit_traces : ComesBefore (codes "limit") (codes "traces")
limit_traces = refl

module _ (a b c d : Option Data) (x : Data) where
  at_calls : put (codes "calls") x (node_members a b c d) ≡ node_members (Some x) b c d
  at_calls = put_here (codes "calls") x a _ (goes_first (codes "calls") (codes "keep") x b _ calls_keep (goes_first (codes "calls") (codes "limit") x c _ calls_limit (goes_first (codes "calls") (codes "traces") x d no_members calls_traces refl)))

  at_keep : put (codes "keep") x (node_members a b c d) ≡ node_members a (Some x) c d
  at_keep =
      put_past (codes "calls") (codes "keep") x a _ calls_keep
      ∙ ap (with_member (codes "calls") a) (put_here (codes "keep") x b _ (goes_first (codes "keep") (codes "limit") x c _ keep_limit (goes_first (codes "keep") (codes "traces") x d no_members keep_traces refl)))

  at_limit : put (codes "limit") x (node_members a b c d) ≡ node_members a b (Some x) d
  at_limit =
      put_past (codes "calls") (codes "limit") x a _ calls_limit
      ∙ ap (with_member (codes "calls") a)
      (put_past (codes "keep") (codes "limit") x b _ keep_limit ∙ ap (with_member (codes "keep") b) (put_here (codes "limit") x c _ (goes_first (codes "limit") (codes "traces") x d no_members limit_traces refl)))

  at_traces : put (codes "traces") x (node_members a b c d) ≡ node_members a b c (Some x)
  at_traces =
      put_past (codes "calls") (codes "traces") x a _ calls_traces
      ∙ ap (with_member (codes "calls") a)
      (put_past (codes "keep") (codes "traces") x b _ keep_traces
      ∙ ap (with_member (codes "keep") b) (put_past (codes "limit") (codes "traces") x c _ limit_traces ∙ ap (with_member (codes "limit") c) (put_here (codes "traces") x d no_members refl)))

-- ---- a name that is no node's

kept_other : (name : List ℕ) (d : Data) (ms : Members) → ((k : List ℕ) → k ≢ codes "calls" → k ≢ codes "keep" → k ≢ codes "limit" → k ≢ codes "traces" → k ≢ name) → HasOther ms → HasOther (put name d ms)
kept_other name d ms named h = (h.0, h.1, get_member-put_other h.0 name d ms (named h.0 h.3 h.4 h.5 h.6) ∙ h.2, h.3, h.4, h.5, h.6)

module _ (calls : Option (Option (List Rule))) (keep : Option (Option (List KeptRecord))) (limit : Option (Option (Option ℕ))) (traces : Option (Option (List TraceRecord))) where
  pub put_calls : (other : Bool) (x : Option (List Rule)) (d : Data) (ms : Members) → IsForm (list_json rule_json) x d → HoldsNode calls keep limit traces other ms
      → HoldsNode (Some x) keep limit traces other (put (codes "calls") d ms)
  put_calls true x d ms is h = kept_other (codes "calls") d ms (λ k p q r s. p) h
  put_calls false x d ms is h = (Some d, h.1, h.2, h.3, (d, refl, is), h.5, h.6, h.7, ap (put (codes "calls") d) h.8 ∙ at_calls h.0 h.1 h.2 h.3 d)

  pub put_keep : (other : Bool) (x : Option (List KeptRecord)) (d : Data) (ms : Members) → IsForm (list_json kept_json) x d → HoldsNode calls keep limit traces other ms
      → HoldsNode calls (Some x) limit traces other (put (codes "keep") d ms)
  put_keep true x d ms is h = kept_other (codes "keep") d ms (λ k p q r s. q) h
  put_keep false x d ms is h = (h.0, Some d, h.2, h.3, h.4, (d, refl, is), h.6, h.7, ap (put (codes "keep") d) h.8 ∙ at_keep h.0 h.1 h.2 h.3 d)

  pub put_limit : (other : Bool) (x : Option (Option ℕ)) (d : Data) (ms : Members) → IsForm optional_json x d → HoldsNode calls keep limit traces other ms
      → HoldsNode calls keep (Some x) traces other (put (codes "limit") d ms)
  put_limit true x d ms is h = kept_other (codes "limit") d ms (λ k p q r s. r) h
  put_limit false x d ms is h = (h.0, h.1, Some d, h.3, h.4, h.5, (d, refl, is), h.7, ap (put (codes "limit") d) h.8 ∙ at_limit h.0 h.1 h.2 h.3 d)

  pub put_traces : (other : Bool) (x : Option (List TraceRecord)) (d : Data) (ms : Members) → IsForm (list_json trace_json) x d → HoldsNode calls keep limit traces other ms
      → HoldsNode calls keep limit (Some x) other (put (codes "traces") d ms)
  put_traces true x d ms is h = kept_other (codes "traces") d ms (λ k p q r s. s) h
  put_traces false x d ms is h = (h.0, h.1, h.2, Some d, h.4, h.5, h.6, (d, refl, is), ap (put (codes "traces") d) h.8 ∙ at_traces h.0 h.1 h.2 h.3 d)

  pub put_other : (name : List ℕ) (d : Data) (ms : Members) → name ≢ codes "calls" → name ≢ codes "keep" → name ≢ codes "limit" → name ≢ codes "traces" → HoldsNode calls keep limit traces true (put name d ms)
  put_other name d ms p q r s = (name, d, get_member-put name d ms, p, q, r, s)

  pub other_no_node : (ms : Members) → HoldsNode calls keep limit traces true ms → (n : NodeRecord) → object ms ≢ node_json n
  other_no_node ms h n e =
      let same = same_members ms _ e in
      let traces = member (codes "traces") (list_json trace_json n.traces) no_members in
      let limit = member (codes "limit") (optional_json n.limit) traces in
      let keep = member (codes "keep") (list_json kept_json n.keep) limit in
      let none : get_member h.0 ms ≡ None =
      ap (get_member h.0) same ∙ not_found h.0 (codes "calls") (list_json rule_json n.calls) keep h.3 ∙ not_found h.0 (codes "keep") (list_json kept_json n.keep) limit h.4
      ∙ not_found h.0 (codes "limit") (optional_json n.limit) traces h.5 ∙ not_found h.0 (codes "traces") (list_json trace_json n.traces) no_members h.6 in
      some_not_none h.1 (sym h.2 ∙ none)

pub is_node : (xs : List Rule) (ys : List KeptRecord) (o : Option ℕ) (zs : List TraceRecord) (ms : Members) → HoldsNode (Some (Some xs)) (Some (Some ys)) (Some (Some o)) (Some (Some zs)) false ms
    → object ms ≡ node_json (record { calls = xs; keep = ys; limit = o; traces = zs })
is_node xs ys o zs ms h =
    ap object
    (h.8 ∙ ap (λ a. node_members a h.1 h.2 h.3) (h.4.1 ∙ ap Some h.4.2) ∙ ap (λ b. node_members (Some (list_json rule_json xs)) b h.2 h.3) (h.5.1 ∙ ap Some h.5.2)
    ∙ ap (λ c. node_members (Some (list_json rule_json xs)) (Some (list_json kept_json ys)) c h.3) (h.6.1 ∙ ap Some h.6.2)
    ∙ ap (λ d. node_members (Some (list_json rule_json xs)) (Some (list_json kept_json ys)) (Some (optional_json o)) d) (h.7.1 ∙ ap Some h.7.2))

-- ---- the slots' values, all or not

module _ {X Y L Z : Type 0} (p : X → List Rule) (q : Y → List KeptRecord) (r : L → Option ℕ) (t : Z → List TraceRecord) where
  abbrev pub all_slots : Option (Option X) → Option (Option Y) → Option (Option L) → Option (Option Z) → Option ((X × Y) × (L × Z))
  all_slots a b c d = option_zip (option_zip (option_flatten a) (option_flatten b)) (option_zip (option_flatten c) (option_flatten d))

  pub all_read : (a : Option (Option X)) (b : Option (Option Y)) (c : Option (Option L)) (d : Option (Option Z)) (x : X) (y : Y) (l : L) (z : Z) (ms : Members)
      → all_slots a b c d ≡ Some ((x, y), (l, z)) → HoldsNode (slot_seen p a) (slot_seen q b) (slot_seen r c) (slot_seen t d) false ms → object ms ≡ node_json (record { calls = p x; keep = q y; limit = r l; traces = t z })
  all_read None b c d x y l z ms some h = absurd (cc)
  all_read (Some None) b c d x y l z ms some h = absurd (cc)
  all_read (Some (Some x')) None c d x y l z ms some h = absurd (cc)
  all_read (Some (Some x')) (Some None) c d x y l z ms some h = absurd (cc)
  all_read (Some (Some x')) (Some (Some y')) None d x y l z ms some h = absurd (cc)
  all_read (Some (Some x')) (Some (Some y')) (Some None) d x y l z ms some h = absurd (cc)
  all_read (Some (Some x')) (Some (Some y')) (Some (Some l')) None x y l z ms some h = absurd (cc)
  all_read (Some (Some x')) (Some (Some y')) (Some (Some l')) (Some None) x y l z ms some h = absurd (cc)
  all_read (Some (Some x')) (Some (Some y')) (Some (Some l')) (Some (Some z')) x y l z ms some h =
      let same = some_same some in
      is_node (p x') (q y') (r l') (t z') ms h ∙ ap (λ v. node_json (record { calls = p v.0.0; keep = q v.0.1; limit = r v.1.0; traces = t v.1.1 })) same
