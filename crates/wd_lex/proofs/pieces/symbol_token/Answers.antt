use Rattle.std.proofs.Common.{◌∙◌, ap, sym, is_some}
use Rattle.wd_lex.specs.Reading.{symbol_front}
use Rattle.wd_lex.proofs.Boundaries.{symbol_boundary}
use Rattle.wd_lex.proofs.pieces.symbol_token.Goals as goal

pub split_at-requires : goal.split_at-requires
split_at-requires c = symbol_boundary c.args.text.now c.symbol_front-front.result.now c.utf8.text (c.symbol_front-front.ensures ∙ ap symbol_front c.as_bytes.ensures.value) (ap is_some (sym c.in-Some.ensures))
