use Rattle.std.proofs.Common.{◌≡◌, ◌∙◌, ◌++◌, ap, sym, arith}
use Rattle.wd_equations.specs.Equations.{arm}
use Rattle.wd_equations.proofs.EachFacts.{each_more, each_end}
use Rattle.wd_equations.proofs.equation.push_each.Goals as goal

pub loop-index-preserved : goal.loop-index-preserved
loop-index-preserved c =
    let added : c.extend_from_slice.new.self.items ≡ c.loop-index.pieces.items ++ arm c.args.repeated c.loop-index.index = c.in_ok-extend_from_slice.ensures.items ∙ ap (λ more. c.loop-index.pieces.items ++ more) (c.deref.ensures.value ∙ c.in_ok-pieces_of_one.ensures) in
    rw added (sym (each_more c.args.repeated c.loop-index.index c.args.count c.loop-index.pieces.items (omega arith)) ∙ c.loop-index.invariant)

pub returns : goal.returns
returns c = sym (each_end c.args.repeated c.loop-index.index c.args.count c.loop-index.pieces.items (omega arith)) ∙ c.loop-index.invariant
