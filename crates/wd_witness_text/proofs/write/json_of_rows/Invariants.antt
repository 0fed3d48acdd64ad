use Rattle.std.proofs.Common.{◌≡◌, map, take, All}
use Rattle.serde_json.specs.View.{view}
use Rattle.wd_witness_text.specs.Json.{row_json}
use Rattle.wd_witness_text.specs.Witnesses.{Fits64}
use Rattle.wd_witness_text.proofs.write.json_of_rows.Given as goal

abbrev pub invariant-loop-row : goal.invariant-loop-row
invariant-loop-row l = (map view l.list.items ≡ map (λ r. row_json r.items) (take l.row-index l.rows)) × All (λ r. All Fits64 r.items) (take l.row-index l.rows)
