use Rattle.std.proofs.Common.{map, sym, ap₂, ◌∙◌, subst}
use Rattle.std.specs.Option.{option_zip}
use Rattle.wd_json_tokens.specs.Pairs.{slot_seen}
use Rattle.wd_witness_text.specs.Json.{witness_json}
use Rattle.wd_witness_text.specs.Reading.{HoldsWitness}
use Rattle.wd_witness_text.specs.Slots.{lists_seen}
use Rattle.wd_witness_text.specs.Witnesses.{table_rows}
use Rattle.wd_witness_text.proofs.Found.{same_lists}
use Rattle.wd_witness_text.proofs.Slots.{all_read, other_no_witness}
use Rattle.wd_witness_text.proofs.members.witness_of_slots.Goals as goal

pub returns-then-slots : goal.returns-then-slots
returns-then-slots c =
    let s = c.args.slots in
    let first = slot_seen lists_seen s.first in
    let second = slot_seen lists_seen s.second in
    let tables = slot_seen (λ m. map table_rows m.entries) s.tables in
    λ ms h. other_no_witness first second tables ms (subst (λ other. HoldsWitness first second tables other ms) c.if-slots.true h)

pub returns-in-Some : goal.returns-in-Some
returns-in-Some c =
    let s = c.args.slots in
    let first = slot_seen lists_seen s.first in
    let second = slot_seen lists_seen s.second in
    let tables = slot_seen (λ m. map table_rows m.entries) s.tables in
    let is = c.in-Some in
    let all = c.zip.ensures ∙ ap₂ option_zip (c.zip-choices.ensures ∙ ap₂ option_zip c.flatten.ensures c.flatten-2.ensures) c.flatten-3.ensures in
    λ ms h.
    let read = all_read lists_seen (λ m. map table_rows m.entries) s.first s.second s.tables is.choices.0 is.choices.1 is.tables ms (sym all ∙ is.is) (subst (λ other. HoldsWitness first second tables other ms) c.if-slots.false h) in
    (read.0 ∙ ap₂ (λ xs ys. witness_json (record { tables = map table_rows is.tables.entries; first = xs; second = ys })) (same_lists is.choices.0.items) (same_lists is.choices.1.items), read.1)
