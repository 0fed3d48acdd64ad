use Rattle.std.proofs.Common.{◌≡◌, ◌≢◌, codes, Some, map, option_map, sym, ◌∙◌, subst}
use Rattle.std.proofs.lemmas.Bool.Decides.{not_from_Decides}
use Rattle.std.proofs.lemmas.Slice.Eq.{bytes_eq-Decides}
use Rattle.serde_json.specs.Data.{put}
use Rattle.wd_json_tokens.specs.Pairs.{slot_seen}
use Rattle.wd_witness_text.specs.Reading.{HoldsWitness}
use Rattle.wd_witness_text.specs.Slots.{lists_seen}
use Rattle.wd_witness_text.specs.Witnesses.{table_rows}
use Rattle.wd_witness_text.proofs.Slots.{put_first, put_second, put_tables, put_other}
use Rattle.wd_witness_text.proofs.members.WitnessSlotsSlots.read_member.Goals as goal

pub returns-in_ok-read-clause-ok : goal.returns-in_ok-read-clause-ok
returns-in_ok-read-clause-ok c =
    let s = c.args.self.now in
    let done = c.in_ok-read.ensures.ok in
    let first = slot_seen lists_seen s.first in
    let second = slot_seen lists_seen s.second in
    let tables = slot_seen (λ m. map table_rows m.entries) s.tables in
    let new = option_map lists_seen c.in_ok-read.field-0 in
    let same : c.args.name.now ≡ codes "first" = (bytes_eq-Decides c.args.name.now (codes "first")).0 (sym c.eq.ensures ∙ c.if-eq.true) in
    (done.0, done.1, λ ms h. subst (λ name. HoldsWitness (Some new) second tables s.has_other (put name done.0 ms)) (sym same) (put_first first second tables s.has_other new done.0 ms done.2 h))

pub returns-in_ok-read-2-clause-ok : goal.returns-in_ok-read-2-clause-ok
returns-in_ok-read-2-clause-ok c =
    let s = c.args.self.now in
    let done = c.in_ok-read-2.ensures.ok in
    let first = slot_seen lists_seen s.first in
    let second = slot_seen lists_seen s.second in
    let tables = slot_seen (λ m. map table_rows m.entries) s.tables in
    let new = option_map lists_seen c.in_ok-read-2.field-0 in
    let same : c.args.name.now ≡ codes "second" = (bytes_eq-Decides c.args.name.now (codes "second")).0 (sym c.eq-else-eq.ensures ∙ c.if-eq-2.true) in
    (done.0, done.1, λ ms h. subst (λ name. HoldsWitness first (Some new) tables s.has_other (put name done.0 ms)) (sym same) (put_second first second tables s.has_other new done.0 ms done.2 h))

pub returns-in_ok-read_tables-clause-ok : goal.returns-in_ok-read_tables-clause-ok
returns-in_ok-read_tables-clause-ok c =
    let s = c.args.self.now in
    let done = c.in_ok-read_tables.ensures.ok in
    let first = slot_seen lists_seen s.first in
    let second = slot_seen lists_seen s.second in
    let tables = slot_seen (λ m. map table_rows m.entries) s.tables in
    let new = option_map (λ m. map table_rows m.entries) c.in_ok-read_tables.field-0 in
    let same : c.args.name.now ≡ codes "tables" = (bytes_eq-Decides c.args.name.now (codes "tables")).0 (sym c.eq-else-eq-2.ensures ∙ c.if-eq-3.true) in
    (done.0, done.1, λ ms h. subst (λ name. HoldsWitness first second (Some new) s.has_other (put name done.0 ms)) (sym same) (put_tables first second tables s.has_other new done.0 ms done.2 h))

pub returns-in_ok-skip_value-clause-ok : goal.returns-in_ok-skip_value-clause-ok
returns-in_ok-skip_value-clause-ok c =
    let s = c.args.self.now in
    let done = c.in_ok-skip_value.ensures.ok in
    let first = slot_seen lists_seen s.first in
    let second = slot_seen lists_seen s.second in
    let tables = slot_seen (λ m. map table_rows m.entries) s.tables in
    let not_first : c.args.name.now ≢ codes "first" = not_from_Decides _ (bytes_eq-Decides c.args.name.now (codes "first")) (sym c.eq.ensures ∙ c.if-eq.false) in
    let not_second : c.args.name.now ≢ codes "second" = not_from_Decides _ (bytes_eq-Decides c.args.name.now (codes "second")) (sym c.eq-else-eq.ensures ∙ c.if-eq-2.false) in
    let not_tables : c.args.name.now ≢ codes "tables" = not_from_Decides _ (bytes_eq-Decides c.args.name.now (codes "tables")) (sym c.eq-else-eq-2.ensures ∙ c.if-eq-3.false) in
    (done.0, done.1, λ ms h. put_other first second tables c.args.name.now done.0 ms not_first not_second not_tables)
