use Rattle.std.proofs.Common.{subst}
use Rattle.wd_lex.specs.Lexed.{kinds_of}
use Rattle.wd_syntax.specs.Laws.{IsTreeOf}
use Rattle.wd_syntax.specs.View.{view_query}
use Rattle.wd_query.proofs.read.read_query.Goals as goal

pub returns-in-Ok-resolve-clause-planned : goal.returns-in-Ok-resolve-clause-planned
returns-in-Ok-resolve-clause-planned c =
    let tree = view_query c.in-Ok-parse.query in
    record {
      tokens = c.in-Ok.tokens.items;
      tree = tree;
      lexed = c.in-Ok.ensures.tokens;
      spelled = subst (λ ts. IsTreeOf (kinds_of ts) tree) c.as_slice.ensures.value c.in-Ok-parse.ensures.tree;
      means = c.in-Ok-resolve.ensures.meant;
      limits = c.in-Ok-parse.ensures.limits;
    }

pub returns-clause-refused : goal.returns-clause-refused
returns-clause-refused c =
    let tree = view_query c.in-Ok-parse.query in
    record {
      tokens = c.in-Ok.tokens.items;
      tree = tree;
      lexed = c.in-Ok.ensures.tokens;
      spelled = subst (λ ts. IsTreeOf (kinds_of ts) tree) c.as_slice.ensures.value c.in-Ok-parse.ensures.tree;
      cause = c.in-Err-resolve.ensures.meant;
    }
