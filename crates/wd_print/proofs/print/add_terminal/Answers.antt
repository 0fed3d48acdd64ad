use Rattle.std.proofs.Common.{◌++◌, [], ◌∷◌, is_ok, ap, ap₂, ◌∙◌, append_assoc, string_bytes}
use Rattle.std.proofs.ResultArms.{chosen}
use Rattle.wd_lex.specs.Pieces.{spelling}
use Rattle.wd_print.specs.Printed.{gap_after, terminal_piece}
use Rattle.wd_print.proofs.print.add_terminal.Goals as goal

pub returns : goal.returns
returns c =
    let terminal = c.args.terminal in
    let front = chosen _ _ _ _ c.push_str.ensures.bytes (ap is_ok c.in_ok-push_str.was) in
    let longer = chosen _ _ _ _ c.push.ensures.bytes (ap is_ok c.in_ok-push.was) in
    longer ∙ ap₂ (λ a b. a ++ b) front (c.push.ensures.ascii c.gap.ensures.ascii)
    ∙ ap₂ (λ a b. (string_bytes c.args.text.now ++ a) ++ b ∷ []) c.letters.ensures c.gap.ensures.value ∙ append_assoc (string_bytes c.args.text.now) (spelling (terminal_piece terminal)) (gap_after terminal ∷ [])
