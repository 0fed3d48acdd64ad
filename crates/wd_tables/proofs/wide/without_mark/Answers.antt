use Rattle.std.proofs.Common.{◌∙◌, ◌-◌, arith, length, drop, sym}
use Rattle.std.proofs.lemmas.List.{length-drop, take_all}
use Rattle.wd_tables.proofs.WideFacts.{no_mark, with_mark}
use Rattle.wd_tables.proofs.wide.without_mark.Goals as goal

pub returns-then-starts_with : goal.returns-then-starts_with
returns-then-starts_with c =
    let text = c.args.text.now in
    take_all (length text - 3) (drop 3 text) (omega (arith, length-drop 3 text)) ∙ with_mark text (sym c.starts_with.ensures.value ∙ c.if-starts_with.true)

pub returns-else-starts_with : goal.returns-else-starts_with
returns-else-starts_with c = no_mark c.args.text.now (sym c.starts_with.ensures.value ∙ c.if-starts_with.false)
