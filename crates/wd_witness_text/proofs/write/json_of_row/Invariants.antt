use Rattle.std.proofs.Common.{◌≡◌, map, take, All}
use Rattle.serde_json.specs.View.{view}
use Rattle.wd_witness_text.specs.Json.{value_json}
use Rattle.wd_witness_text.specs.Witnesses.{Fits64}
use Rattle.wd_witness_text.proofs.write.json_of_row.Given as goal

abbrev pub invariant-loop-value : goal.invariant-loop-value
invariant-loop-value l = (map view l.list.items ≡ map value_json (take l.value-index l.row)) × All Fits64 (take l.value-index l.row)
