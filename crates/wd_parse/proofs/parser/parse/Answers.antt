use Rattle.wd_lex.specs.Lexed.{kinds_of}
use Rattle.wd_parse.proofs.Whole.{tree_is, limits_kept, cause_is, tree_given, past_limit}
use Rattle.wd_parse.proofs.parser.parse.Goals as goal

pub returns-clause-tree : goal.returns-clause-tree
returns-clause-tree c = tree_is (kinds_of c.args.tokens.now) c.answer.result c.answer.ensures.whole

pub returns-clause-limits : goal.returns-clause-limits
returns-clause-limits c = limits_kept (kinds_of c.args.tokens.now) c.answer.result c.answer.ensures.whole

pub returns-clause-cause : goal.returns-clause-cause
returns-clause-cause c = cause_is (kinds_of c.args.tokens.now) c.answer.result c.answer.ensures.whole

pub returns-clause-given : goal.returns-clause-given
returns-clause-given c = tree_given (kinds_of c.args.tokens.now) c.answer.result c.answer.ensures.whole

pub returns-clause-past_limit : goal.returns-clause-past_limit
returns-clause-past_limit c = past_limit (kinds_of c.args.tokens.now) c.answer.result c.answer.ensures.whole
