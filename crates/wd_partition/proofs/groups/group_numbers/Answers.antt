use Rattle.std.proofs.Common.{◌≡◌, ◌∙◌, ◌<◌, ℕ, ap, sym, arith, get_or, length}
use Rattle.std.proofs.lemmas.Grind.{common_steps}
use Rattle.std.proofs.lemmas.List.{map_push, take_more}
use Rattle.wd_partition.specs.Indexed.{class_of}
use Rattle.wd_partition.specs.Members.{own_group}
use Rattle.wd_partition.proofs.Numbering.{group_next}
use Rattle.wd_partition.proofs.groups.group_numbers.Goals as goal

pub loop-i-preserved : goal.loop-i-preserved
loop-i-preserved c =
    let indexed = c.args.indexed.now in
    let rows = indexed.rows.now in
    let class = class_of indexed in
    let list = indexed.positions.now in
    let i = c.loop-i.i in
    let f = λ (p : ℕ). own_group class rows list p in
    let within : i < length list = omega arith in
    let result = c.group_after-group.result in
    let is : result ≡ f (get_or list i 0) = c.group_after-group.ensures.is ∙ group_next class rows list c.requires.indexed.lawful i c.loop-i.group _ within (c.requires.indexed.steps.each i _ within) c.loop-i.invariant.before in
    record {
      items = grind (arith, common_steps, take_more list i 0 within, map_push f);
      before = λ k e. (let at : k ≡ i = omega arith in is ∙ ap (λ j. f (get_or list j 0)) (sym at));
      small = (let small = c.group_after-group.ensures.small in let before = c.loop-i.invariant.small in omega arith);
    }

pub returns : goal.returns
returns c = grind (arith, common_steps)
