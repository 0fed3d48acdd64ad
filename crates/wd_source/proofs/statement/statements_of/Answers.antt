use Rattle.std.proofs.Common.{◌+◌, drop, rules}
use Rattle.wd_source.proofs.Cutting.{at_token, past_other, past_semicolon}
use Rattle.wd_source.proofs.statement.statements_of.Goals as goal
use Rattle.wd_source.proofs.statement.statements_of.Goals.{then-is_semicolon+in_ok-add_begun, else-is_semicolon}

pub loop-token-preserved : goal.loop-token-preserved
loop-token-preserved c =
    let here = at_token c.args.tokens.now c.loop-token.token-index c.token-item.result c.loop-token-test.true c.token-item.is in
    let before = rw here at c.loop-token.invariant in
    elim c.if-is_semicolon.branch [
      | then-is_semicolon+in_ok-add_begun w ↦
          rw (w.start-is, w.begun-is, w.found-is) (past_semicolon c.args.end c.args.tokens.now (drop (c.loop-token.token-index + 1) c.args.tokens.now) c.loop-token.found.items c.loop-token.start c.loop-token.begun c.token-item.result w.add_begun.new.found.items before (search rules) w.in_ok-add_begun.ensures.added w.in_ok-add_begun.ensures.order)
      | else-is_semicolon w ↦
          rw (w.start-is, w.begun-is, w.found-is) (past_other c.args.end c.args.tokens.now (drop (c.loop-token.token-index + 1) c.args.tokens.now) c.loop-token.found.items c.loop-token.start c.loop-token.begun c.token-item.result before (search rules))
    ]
