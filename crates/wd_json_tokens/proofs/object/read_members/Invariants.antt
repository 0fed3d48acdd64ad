use Rattle.std.proofs.Common.{◌≡◌, length}
use Rattle.serde_json.specs.Data.{Members, no_members}
use Rattle.wd_json_tokens.specs.Values.{members_at}
use Rattle.wd_json_tokens.proofs.object.read_members.Given as goal

abbrev pub invariant-members : goal.invariant-members
invariant-members g l =
    (found : Members) × (members_at l.depth no_members l.initial.reader ≡ members_at l.depth found l.reader) × g.S.Slots.Holds l.slots found × (g.S.Slots.names l.slots ≡ g.S.Slots.names l.initial.slots)

abbrev pub decreases-members : goal.decreases-members
decreases-members g l = length l.reader
