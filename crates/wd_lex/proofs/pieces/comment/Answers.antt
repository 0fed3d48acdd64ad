use Rattle.std.proofs.Common.{◌∙◌, sym, ap, drop}
use Rattle.wd_lex.specs.Reading.{comment_end}
use Rattle.wd_lex.proofs.Boundaries.{comment_boundary}
use Rattle.wd_lex.proofs.pieces.comment.Goals as goal

pub split_at-requires : goal.split_at-requires
split_at-requires c = comment_boundary c.args.text.now c.in-Some.end c.utf8.text c.requires (sym (c.in-Some.ensures ∙ ap (λ l. comment_end 0 2 (drop 2 l)) c.as_bytes.ensures.value))
