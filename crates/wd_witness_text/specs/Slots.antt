-- What is held of a witness's members by the slots that they are read into.
use Rattle.std.specs.Prelude.{ℕ, List, map, Vec}
use Rattle.std.specs.declared.alloc.Global.{Global}
use Rattle.serde_json.specs.Data.{Members}
use Rattle.wd_json_tokens.specs.Pairs.{slot_seen}
use Rattle.wd_witness_text.specs.Reading.{HoldsWitness}
use Rattle.wd_witness_text.specs.Witnesses.{table_rows}
use Rattle.wd_witness_text.specs.declared.members.WitnessSlots.{WitnessSlots}

-- lists of numbers as they are seen
abbrev pub lists_seen : Vec (Vec ℕ Global) Global → List (List ℕ)
lists_seen v = map (λ o. map (λ n. n) o.items) v.items

-- the members that these slots hold
abbrev pub HoldsSlots : WitnessSlots → Members → Type 0
HoldsSlots s ms = HoldsWitness (slot_seen lists_seen s.first) (slot_seen lists_seen s.second) (slot_seen (λ m. map table_rows m.entries) s.tables) s.has_other ms
