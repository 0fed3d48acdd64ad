use Rattle.std.proofs.Common.{None}
use Rattle.std.specs.Option.{option_map}
use Rattle.wd_casts.specs.Decimals.{literals_from, with_literals}
use Rattle.wd_casts.proofs.LiteralFacts.{literals_end, literals_more}
use Rattle.wd_casts.proofs.decimal.with_literals.Goals as goal

pub loop-rest-preserved : goal.loop-rest-preserved
loop-rest-preserved c =
    literals_more c.args.query.now (option_map (λ text. text.now) c.loop-rest.said) (option_map (λ text. text.now) c.decimal_at-begun.result) (option_map (λ text. text.now) c.in_ok-token.next)
    c.loop-rest.rest.now c.loop-rest.found.items c.push.new.self.items (literals_from c.args.query.now None c.args.tokens.now) c.first-item.result c.in_ok-token.token
    c.first-item.is c.in-len1-up.len_at_least c.decimal_at-begun.ensures c.in_ok-push.ensures.items c.in_ok-token.ensures.token c.in_ok-token.ensures.next c.loop-rest.invariant

pub returns : goal.returns
unfolding with_literals
returns c =
    literals_end c.args.query.now (option_map (λ text. text.now) c.loop-rest.said) c.loop-rest.rest.now c.loop-rest.found.items (literals_from c.args.query.now None c.args.tokens.now)
    c.in_default.len_below c.loop-rest.invariant
