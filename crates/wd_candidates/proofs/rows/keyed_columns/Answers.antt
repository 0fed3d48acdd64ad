use Rattle.std.proofs.lemmas.Grind.{common_steps}
use Rattle.std.proofs.Common.{◌≡◌, ◌∙◌, arith, ap, get_or, length, map, subst, sym, rules}
use Rattle.std.proofs.lemmas.List.{get_or-map, length-map}
use Rattle.wd_schema.specs.Tables.{key_of}
use Rattle.wd_plan.specs.Plans.{has}
use Rattle.wd_candidates.specs.Marks.{MarksMore}
use Rattle.wd_candidates.proofs.Marked.{keyed_next, written}
use Rattle.wd_candidates.proofs.rows.keyed_columns.Goals as goal

pub loop-key-preserved : goal.loop-key-preserved
loop-key-preserved c =
    let keys = c.args.table.now.keys.items in
    let i = c.loop-key.key-index in
    let key = c.key-item.result in
    let old = c.loop-key.keyed.items in
    let new = c.mark_columns.new.marks in
    let was : c.deref_mut.result.now ≡ old = search rules in
    let named : c.deref.result.now ≡ key.columns.items = search rules in
    let marks = subst (λ l. MarksMore l (λ n. has c.deref.result.now n) new) was c.mark_columns.ensures in
    let of_key = subst (λ l. MarksMore old (λ n. has l n) new) named marks in
    let whole = written c.loop-key.keyed.len old new c.loop-key.keyed.ok.0 of_key.long in
    let at : key ≡ get_or keys i key = search rules in
    rw whole (record {
      long = of_key.long ∙ c.loop-key.invariant.long;
      each = keyed_next (map key_of keys) i (key_of key) (length c.args.table.now.columns.items) old new (simp length-map (omega arith)) (ap key_of at ∙ sym (get_or-map key_of keys i key (key_of key) (omega arith))) c.loop-key.invariant.long of_key c.loop-key.invariant.each;
    })

pub returns : goal.returns
returns c = grind (arith, common_steps)
