use Rattle.std.proofs.Common.{◌≡◌, ◌∙◌, [], Some, ap, get_or, length, rules, set}
use Rattle.std.proofs.lemmas.List.{get_or_default}
use Rattle.std.specs.Vec.{with_item}
use Rattle.wd_value.specs.Rows.{table_at}
use Rattle.wd_joined.specs.declared.needed.Needed.{Needed}
use Rattle.wd_joined.proofs.Needing.{none_more, one_added}
use Rattle.wd_joined.proofs.needed.Needed.number_of.Goals as goal

pub returns-in-Some-clause-more : goal.returns-in-Some-clause-more
returns-in-Some-clause-more c = none_more c.args.self.now

pub returns-in_ok-push-in-None-2-clause-needed : goal.returns-in_ok-push-in-None-2-clause-needed
returns-in_ok-push-in-None-2-clause-needed c =
    let old = c.args.self.now in
    let t = c.args.table in
    let new : Needed = record { tables = c.push.new.self; positions = c.push-in-None.new.self; numbers = with_item old.numbers t (Some c.len-number.result) } in
    let number : c.len-number.result ≡ length old.tables.items = search rules in
    let table : c.in_ok-share-in-None.field-0 ≡ table_at c.args.tables.now t = c.in_ok-share-in-None.ensures ∙ c.index-tables-table.is ∙ get_or_default c.args.tables.now t c.index-tables-table.result [] c.requires.within in
    let list : c.in_ok-share-in-None-2.field-0 ≡ get_or c.args.positions.now t [] = c.in_ok-share-in-None-2.ensures ∙ c.index-positions-table.is ∙ get_or_default c.args.positions.now t c.index-positions-table.result [] (rw c.requires.lists c.requires.within) in
    (one_added c.args.tables.now c.args.positions.now old new t c.in_ok-share-in-None.field-0 c.in_ok-share-in-None-2.field-0 c.requires.needed c.requires.within table list
    c.in_ok-push-in-None.ensures.items c.in_ok-push-in-None-2.ensures.items (ap (λ n. set old.numbers.items t (Some n)) number)).1
