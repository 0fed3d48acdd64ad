use Rattle.std.proofs.Common.{◌≡◌, ◌+◌, ◌*◌, length}
use Rattle.json.proofs.Grammar.{left}
use Rattle.serde_json.specs.Data.{Members, no_members}
use Rattle.wd_json_tokens.specs.Values.{items_at, members_at}
use Rattle.wd_json_tokens.proofs.skip.+skip.Given as goal

abbrev pub decreases-skip_value : goal.decreases-skip_value
decreases-skip_value l = 2 * l.depth

abbrev pub decreases-skip_items : goal.decreases-skip_items
decreases-skip_items l = 2 * l.depth + 1

abbrev pub decreases-skip_members : goal.decreases-skip_members
decreases-skip_members l = 2 * l.depth + 1

abbrev pub invariant-skip_items-items : goal.invariant-skip_items-items
invariant-skip_items-items l =
    left (items_at l.depth l.initial.reader) ≡ left (items_at l.depth l.reader)

abbrev pub decreases-skip_items-items : goal.decreases-skip_items-items
decreases-skip_items-items l = length l.reader

abbrev pub invariant-skip_members-members : goal.invariant-skip_members-members
invariant-skip_members-members l =
    (found : Members) × (members_at l.depth no_members l.initial.reader ≡ members_at l.depth found l.reader)

abbrev pub decreases-skip_members-members : goal.decreases-skip_members-members
decreases-skip_members-members l = length l.reader
