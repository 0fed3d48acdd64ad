use Rattle.std.proofs.Common.{string_cmp, sym, subst}
use Rattle.std.specs.BTreeMap.{insert_entry}
use Rattle.serde_json.specs.Data.{put}
use Rattle.wd_witness_text.specs.Reading.{HoldsTables}
use Rattle.wd_witness_text.proofs.Found.{put_table, rows_seen}
use Rattle.wd_witness_text.proofs.named.TableSlotsSlots.read_member.Goals as goal

pub returns-clause-ok : goal.returns-clause-ok
returns-clause-ok c =
    let s = c.args.self.now in
    let name = c.in_ok-name.name in
    let rows = c.in_ok-rows.rows in
    let done = c.in_ok-rows.ensures.ok in
    let all = insert_entry string_cmp s.tables.entries name rows in (
      done.0,
      done.1,
      λ ms h. subst (λ es. HoldsTables es (put c.args.name.now done.0 ms)) (sym c.in_ok-insert.ensures.entries)
          (subst (λ n. HoldsTables all (put n done.0 ms)) c.in_ok-name.ensures.ok (put_table s.tables.entries name rows done.0 ms (rows_seen rows done.0 done.2) h)),
    )
