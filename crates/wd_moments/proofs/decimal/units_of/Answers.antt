use Rattle.std.proofs.Common.{◌∙◌, sym}
use Rattle.std.proofs.lemmas.Bool.{le-ltb, lt-ltb}
use Rattle.wd_moments.proofs.DecimalFacts.{places_more, places_none, places_over}
use Rattle.wd_moments.proofs.decimal.units_of.Goals as goal

pub returns-then-units-ge922337203685477581 : goal.returns-then-units-ge922337203685477581
returns-then-units-ge922337203685477581 c =
    sym (places_none c.args.scale c.loop.counter c.loop.units c.loop-test.true (le-ltb c.loop.units 922337203685477581 c.if-units-ge922337203685477581.true)) ∙ c.loop.invariant

pub loop-preserved : goal.loop-preserved
loop-preserved c =
    places_more c.args.scale c.loop.counter c.loop.units c.loop-test.true (lt-ltb c.loop.units 922337203685477581 c.if-units-ge922337203685477581.false) ∙ c.loop.invariant

pub returns : goal.returns
returns c = sym (places_over c.args.scale c.loop.counter c.loop.units c.loop-test.false) ∙ c.loop.invariant
