use Rattle.std.proofs.Common.{◌≡◌, ◌∙◌, sym, length, rules}
use Rattle.std.proofs.lemmas.Bool.{false≢true}
use Rattle.std.proofs.lemmas.List.{length-map}
use Rattle.wd_schema.proofs.instances.meets.Goals as goal
use Rattle.wd_schema.proofs.instances.meets.Goals.{else-len-via-then-len+else-each_meets, else-len-via-else-len}

pub returns-then-each_meets-clause-met : goal.returns-then-each_meets-clause-met
returns-then-each_meets-clause-met c =
    let same : length c.args.instance.now.items ≡ length c.args.schema.now.tables.entries = search rules in
    record { lists = rw (length-map, length-map) same; tables = rw c.deref.ensures.value at (c.each_meets.ensures.0 c.if-each_meets.true) }

pub returns-else-len-clause-violated : goal.returns-else-len-clause-violated
returns-else-len-clause-violated c = λ h.
    let lists : length c.args.instance.now.items ≡ length c.args.schema.now.tables.entries = rw (length-map, length-map) at h.lists in
    elim c.else-len.branch [
      | else-len-via-then-len+else-each_meets w ↦ false≢true (sym w.if-each_meets.false ∙ w.each_meets.ensures.1 (rw w.deref.ensures.value h.tables))
      | else-len-via-else-len w ↦ w.if-len.false (search (rules, lists))
    ]
