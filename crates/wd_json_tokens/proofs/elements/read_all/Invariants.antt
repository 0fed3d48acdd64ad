use Rattle.std.proofs.Common.{◌≡◌, List, length}
use Rattle.json.specs.Json.{parse_map}
use Rattle.serde_json.specs.Data.{Data}
use Rattle.wd_json_tokens.specs.Values.{items_at}
use Rattle.wd_json_tokens.proofs.Lists.{items_before}
use Rattle.wd_json_tokens.proofs.elements.read_all.Given as goal

abbrev pub invariant-items : goal.invariant-items
invariant-items g l =
    (found : List Data) × (items_at l.depth l.initial.reader ≡ parse_map (items_before found) (items_at l.depth l.reader)) × g.E.Elements.Holds l.elements found

abbrev pub decreases-items : goal.decreases-items
decreases-items g l = length l.reader
