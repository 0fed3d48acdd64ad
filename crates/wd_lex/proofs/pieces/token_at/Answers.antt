use Rattle.std.proofs.Common.{ap, ◌∙◌}
use Rattle.wd_lex.specs.declared.pieces.Kind.TheVariants as kind
use Rattle.wd_lex.specs.Reading.{kind_at}
use Rattle.wd_lex.proofs.KindFacts.{says_at}
use Rattle.wd_lex.proofs.pieces.token_at.Goals as goal

pub comment-requires : goal.comment-requires
comment-requires c = says_at kind.BlockComment c.args.text.now (c.in-BlockComment.ensures ∙ ap kind_at c.as_bytes.ensures.value)

pub number-requires : goal.number-requires
number-requires c = says_at kind.Number c.args.text.now (c.in-Number.ensures ∙ ap kind_at c.as_bytes.ensures.value)

pub quoted_name-requires : goal.quoted_name-requires
quoted_name-requires c = says_at kind.QuotedName c.args.text.now (c.in-QuotedName.ensures ∙ ap kind_at c.as_bytes.ensures.value)

pub quoted_text-requires : goal.quoted_text-requires
quoted_text-requires c = says_at kind.QuotedText c.args.text.now (c.in-QuotedText.ensures ∙ ap kind_at c.as_bytes.ensures.value)
