use Rattle.std.proofs.Common.{[], false, string_bytes, sym, ap, ◌∙◌, map-id}
use Rattle.std.proofs.lemmas.List.{append-nil}
use Rattle.std.proofs.lemmas.Iterator.{YieldsList-from_chars}
use Rattle.std.proofs.lemmas.Iterator.Consumers.{YieldsList-end}
use Rattle.wd_lines.specs.Lines.{joined_from}
use Rattle.wd_lines.proofs.lines.join_lines.Goals as goal

pub returns : goal.returns
returns c =
    let end = YieldsList-end (YieldsList-from_chars c.args.text.now c.utf8.text cc) c.loop-c.yielded _ c.loop-c.yielded_by _ _ c.in-None.is c.next.ensures.steps in
    sym (append-nil (string_bytes c.loop-c.line)) ∙ (c.loop-c.invariant [] ∙ ap (joined_from false false) (append-nil c.loop-c.yielded ∙ (sym (map-id c.loop-c.yielded) ∙ end.0)))
