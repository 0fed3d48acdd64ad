use Rattle.std.proofs.Common.{◌∙◌, ◌-◌, sym, length, length-drop, arith}
use Rattle.wd_operands.proofs.LinkFacts.{links_end, links_more}
use Rattle.wd_operands.proofs.operand.operand_length.Goals as goal

pub returns-then-link-eq0-clause-value : goal.returns-then-link-eq0-clause-value
returns-then-link-eq0-clause-value c =
    sym (links_end (length c.args.tokens.now - c.loop.counter) c.loop.count c.loop.rest.now (sym c.link_length-link.ensures.value ∙ c.if-link-eq0.true)) ∙ c.loop.invariant.links

pub loop-preserved : goal.loop-preserved
loop-preserved c = record {
  links = rw (c.past-rest-in-loop.ensures, c.link_length-link.ensures.value) (sym (links_more (length c.args.tokens.now) c.loop.counter c.loop.count c.loop.rest.now c.loop-test.true (λ e. c.if-link-eq0.false (c.link_length-link.ensures.value ∙ e))) ∙ c.loop.invariant.links);
  counted = rw c.past-rest-in-loop.ensures (omega (arith, length-drop c.link_length-link.result c.loop.rest.now));
}
