use Rattle.std.proofs.Common.{sym, arith}
use Rattle.wd_excuse.proofs.Fronts.{blanks_gap, block_found, found_within, line_gap}
use Rattle.wd_excuse.proofs.gap.gap_len.Goals as goal

pub returns-then-starts_with-clause-gap : goal.returns-then-starts_with-clause-gap
returns-then-starts_with-clause-gap c = line_gap c.args.bytes.now c.line_len.result (sym c.if-starts_with.ensures.value) c.line_len.ensures.value c.line_len.ensures.within

pub returns-then-starts_with-2-clause-gap : goal.returns-then-starts_with-2-clause-gap
returns-then-starts_with-2-clause-gap c = block_found c.args.bytes.now c.comment_len.result (sym c.if-starts_with-2.ensures.value) c.comment_len.ensures.value c.comment_len.ensures.within

pub returns-then-starts_with-2-clause-within : goal.returns-then-starts_with-2-clause-within
returns-then-starts_with-2-clause-within c =
    found_within c.args.bytes.now c.comment_len.result (block_found c.args.bytes.now c.comment_len.result (sym c.if-starts_with-2.ensures.value) c.comment_len.ensures.value c.comment_len.ensures.within)
    c.comment_len.ensures.within

pub returns-in_default-clause-gap : goal.returns-in_default-clause-gap
returns-in_default-clause-gap c = blanks_gap c.args.bytes.now c.blanks.result c.blanks.ensures.value (omega arith) c.blanks.ensures.within
