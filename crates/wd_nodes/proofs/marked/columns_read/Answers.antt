use Rattle.std.proofs.Common.{◌≡◌, ◌∙◌, ◌+◌, ◌++◌, ◌∷◌, [], ap, map, subst, sym, take, true, get_or}
use Rattle.std.proofs.lemmas.List.{map_push, take_all, take_more, with_items_is}
use Rattle.std.specs.Prelude.{All}
use Rattle.wd_nodes.specs.Marked.{HasMore, Reads}
use Rattle.wd_plan.specs.Expressions.{expression_of}
use Rattle.wd_nodes.proofs.Reading.{more_read}
use Rattle.wd_nodes.proofs.marked.columns_read.Goals as goal

pub loop-output-preserved : goal.loop-output-preserved
loop-output-preserved c =
    let outputs = c.args.outputs.now in
    let at = c.loop-output.output-index in
    let old = c.loop-output.marks.items in
    let new = c.mark_read.new.marks in
    let item = c.output-item.result in
    let more : HasMore old new = λ k is. c.mark_read.ensures.more k (subst (λ marks. get_or marks k true ≡ true) (sym c.deref_mut.ensures.value) is) in
    let grown : All (Reads new) (map expression_of (take at outputs) ++ expression_of item ∷ []) =
    more_read old new (map expression_of (take at outputs)) (expression_of item) c.loop-output.invariant more c.mark_read.ensures.reads in
    let next : map expression_of (take (at + 1) outputs) ≡ map expression_of (take at outputs) ++ expression_of item ∷ [] =
    ap (map expression_of) (take_more outputs at item c.loop-output-test.true ∙ ap (λ y. take at outputs ++ y ∷ []) (sym c.output-item.is)) ∙ map_push expression_of (take at outputs) item in
    let written = with_items_is c.loop-output.marks new (c.mark_read.ensures.long ∙ c.deref_mut.ensures.len) in
    subst (λ there. there) (λ i. All (Reads (sym written i)) (sym next i)) grown

pub returns : goal.returns
returns c =
    let outputs = c.args.outputs.now in
    subst (λ es. All (Reads c.loop-output.marks.items) (map expression_of es)) (take_all c.loop-output.output-index outputs c.loop-output-test.false) c.loop-output.invariant
