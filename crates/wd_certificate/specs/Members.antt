-- What is held of a node's members while they are read.
use Rattle.std.specs.Prelude.{◌≡◌, ◌≢◌, ℕ, List, map, codes, Bool, true, false, Option, Some}
use Rattle.serde_json.specs.Data.{Data, Members, no_members}
use Rattle.serde_json.specs.Find.{get_member}
use Rattle.wd_json.specs.Json.{list_json, optional_json}
use Rattle.wd_json_tokens.specs.Pairs.{Fills, with_member, slot_seen}
use Rattle.wd_certificate.specs.Certificates.{TraceRecord, KeptRecord, trace_of, kept_of}
use Rattle.wd_certificate.specs.Json.{rule_json, kept_json, trace_json}
use Rattle.wd_certificate.specs.declared.certificate.Rule.{Rule}
use Rattle.wd_certificate.specs.declared.node.NodeSlots.{NodeSlots}

-- a node's members that were found, in the order of their names
abbrev pub node_members : Option Data → Option Data → Option Data → Option Data → Members
node_members calls keep limit traces = with_member (codes "calls") calls (with_member (codes "keep") keep (with_member (codes "limit") limit (with_member (codes "traces") traces no_members)))

-- a member has a name that is none of a node's
abbrev pub HasOther : Members → Type 0
HasOther ms = (k : List ℕ) × (d : Data) × (get_member k ms ≡ Some d) × (k ≢ codes "calls") × (k ≢ codes "keep") × (k ≢ codes "limit") × (k ≢ codes "traces")

-- the members have a node's names at most, with these values, or another name too
abbrev pub HoldsNode : Option (Option (List Rule)) → Option (Option (List KeptRecord)) → Option (Option (Option ℕ)) → Option (Option (List TraceRecord)) → Bool → Members → Type 0
HoldsNode calls keep limit traces true ms = HasOther ms
HoldsNode calls keep limit traces false ms =
    (a : Option Data) × (b : Option Data) × (c : Option Data) × (d : Option Data) × Fills (list_json rule_json) calls a × Fills (list_json kept_json) keep b × Fills optional_json limit c
    × Fills (list_json trace_json) traces d × (ms ≡ node_members a b c d)

-- the same of the slots that a node is read into
abbrev pub HoldsSlots : NodeSlots → Members → Type 0
HoldsSlots s ms =
    HoldsNode (slot_seen (λ v. map (λ r. r) v.items) s.calls) (slot_seen (λ v. map kept_of v.items) s.keep) (slot_seen (λ o. o) s.limit) (slot_seen (λ v. map trace_of v.items) s.traces) s.has_other
    ms
