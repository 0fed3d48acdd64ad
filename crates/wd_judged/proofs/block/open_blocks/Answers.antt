use Rattle.std.proofs.Common.{◌+◌, ◌∷◌, [], slice_get, string_bytes, IfSome, subst, sym, ap, ◌∙◌}
use Rattle.std.proofs.lemmas.List.{length-append}
use Rattle.wd_finding.specs.declared.place.OpenPlace.{OpenPlace}
use Rattle.wd_block.specs.Heads.{BeginsBlock}
use Rattle.wd_block.specs.Kinds.{kind_of}
use Rattle.wd_judged.specs.declared.block.Block.{Block}
use Rattle.wd_judged.proofs.Beginning.{one_more}
use Rattle.wd_judged.proofs.block.open_blocks.Goals as goal

pub loop-number-preserved : goal.loop-number-preserved
loop-number-preserved c =
    let s = c.args.statement in
    let f = c.args.finding.now in
    let kind = kind_of f.verdict f.certain f.further in
    let places = f.places.items in
    let blocks = c.loop-number.blocks.items in
    let block = c.in_ok-open_block.field-0 in
    let begins : OpenPlace → Block → Type 0 = λ (place : OpenPlace) (one : Block). BeginsBlock s.path.now s.text.now s.start kind place (string_bytes one.text) in
    let here = subst (λ n. IfSome (slice_get places n) (λ place. begins place block)) (sym c.loop-number.invariant.0) c.in_ok-open_block.ensures in
    let all = one_more begins places blocks block c.loop-number.invariant.1 here in
    rw c.in_ok-push.ensures.items (length-append blocks (block ∷ []) ∙ ap (λ n. n + 1) c.loop-number.invariant.0, all)
