use Rattle.std.proofs.Common.{Ok, Err}
use Rattle.wd_lex.proofs.Progress.{gives_by, order_by}
use Rattle.wd_lex.proofs.lexer.lex.Goals as goal

pub returns-clause-order : goal.returns-clause-order
returns-clause-order c = order_by (λ found. found.items) c.args.text.now c.answer.result c.answer.ensures.tokens

pub returns-clause-refused : goal.returns-clause-refused
returns-clause-refused c = λ refusal cause.
    gives_by (λ found. found.items) c.args.text.now c.answer.result c.answer.ensures.tokens c.answer.ensures.cause (Err refusal) cause

pub returns-clause-lexed : goal.returns-clause-lexed
returns-clause-lexed c = λ tokens lexed.
    gives_by (λ found. found.items) c.args.text.now c.answer.result c.answer.ensures.tokens c.answer.ensures.cause (Ok tokens) lexed
