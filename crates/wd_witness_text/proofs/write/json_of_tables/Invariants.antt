use Rattle.std.proofs.Common.{◌≡◌, List, ◌++◌, map, All}
use Rattle.serde_json.specs.View.{members_view}
use Rattle.wd_witness_text.specs.Json.{table_members}
use Rattle.wd_witness_text.specs.Witnesses.{Fits64, table_rows}
use Rattle.wd_witness_text.proofs.Tables.{Entry}
use Rattle.wd_witness_text.proofs.write.json_of_tables.Given as goal

abbrev pub invariant-loop-name : goal.invariant-loop-name
invariant-loop-name l = (done : List Entry) × (l.tables.entries ≡ done ++ l.name-iterator) × (members_view l.members.entries ≡ table_members (map table_rows done)) × All (λ t. All (All Fits64) t.rows) (map table_rows done)
