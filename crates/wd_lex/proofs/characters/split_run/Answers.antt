use Rattle.std.proofs.Common.{ap, ◌∙◌}
use Rattle.std.specs.List.{prefix_len}
use Rattle.wd_lex.specs.Reading.{is_in}
use Rattle.wd_lex.proofs.Boundaries.{boundary_after_run}
use Rattle.wd_lex.proofs.characters.split_run.Goals as goal

pub split_at-requires : goal.split_at-requires
split_at-requires c = boundary_after_run c.args.class c.args.text.now c.utf8.text c.run_len-len.result
    (c.run_len-len.ensures.value ∙ ap (prefix_len (is_in c.args.class)) c.as_bytes.ensures.value)
