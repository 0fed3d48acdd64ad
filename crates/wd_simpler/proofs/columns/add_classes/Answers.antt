use Rattle.std.proofs.lemmas.Grind.{common_steps}
use Rattle.std.proofs.Common.{◌≡◌, List, ℕ, ◌<◌, map, length, get_or, arith, ap, sym, subst, ◌∙◌}
use Rattle.std.proofs.lemmas.List.{get_or-map, length-map}
use Rattle.wd_plan.specs.Plans.{ClassRule, class_of}
use Rattle.wd_plan.specs.Sorting.{class_columns, order_columns}
use Rattle.wd_simpler.proofs.Sets.{also_more, also_then}
use Rattle.wd_simpler.specs.Sets.{HasAlso}
use Rattle.wd_simpler.proofs.columns.add_classes.Goals as goal

pub loop-class-preserved : goal.loop-class-preserved
loop-class-preserved c =
    let classes = c.args.classes.now in
    let i = c.loop-class.class-index in
    let item = c.class-item.result in
    let class : ClassRule = class_of item in
    let within : i < length classes = omega arith in
    let is : class ≡ get_or (map class_of classes) i class = ap class_of c.class-item.is ∙ sym (get_or-map class_of classes i item class within) in
    let partition = subst (λ (l : List ℕ). HasAlso c.loop-class.set l c.add_columns.new.set) c.deref.ensures.value c.in_ok-add_columns.ensures in
    let keys = subst (λ l. HasAlso c.add_columns.new.set (map (λ item. item.column) l) c.add_keys.new.set) c.deref-in-loop-class.ensures.value c.in_ok-add_keys.ensures in
    also_more class_columns c.args.set.now c.loop-class.set c.add_keys.new.set (map class_of classes) i class (simp length-map within) is c.loop-class.invariant
    (also_then c.loop-class.set c.add_columns.new.set c.add_keys.new.set class.partition (order_columns class) partition keys)

pub returns : goal.returns
returns c = grind (arith, common_steps)
