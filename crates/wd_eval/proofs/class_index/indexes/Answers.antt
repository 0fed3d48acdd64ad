use Rattle.std.proofs.Common.{◌≡◌, ◌+◌, ◌<◌, ◌∙◌, Bool, subst, length, get_or, Ok, ap, arith, rules}
use Rattle.wd_plan.specs.Plans.{ClassRule, class_of, window_of}
use Rattle.wd_eval.specs.Windows.{HasOrdering, orderings_of}
use Rattle.wd_eval.specs.ClassIndexes.{IsIndexed, asks_keys}
use Rattle.wd_eval.proofs.Serving.{class_is, class_unserved, indexes_more}
use Rattle.wd_eval.proofs.class_index.indexes.Goals as goal

pub returns-in-None : goal.returns-in-None
returns-in-None c =
    let k = c.loop-number.number in
    let class = c.class-item.result in
    let classes = c.deref-class-items.ensures.value in
    let same = ap length classes in
    let within : k < length c.args.window.now.classes.items = omega arith in
    let rows = c.args.rows.now in
    let h : HasOrdering (class_of class) (Ok rows) (orderings_of c.args.choice.now) (c.args.first + k) → ⊥ = search rules in
    record { ok = tt; refused = class_unserved c.args.window.now class rows (orderings_of c.args.choice.now) c.args.first k c.loop-number.indexes.items within (c.class-item.is ∙ ap (λ xs. get_or xs k class) classes) c.loop-number.invariant h }

pub loop-number-preserved : goal.loop-number-preserved
loop-number-preserved c =
    let k = c.loop-number.number in
    let class = c.class-item.result in
    let classes = c.deref-class-items.ensures.value in
    let same = ap length classes in
    let rows = c.args.rows.now in
    let choice = orderings_of c.args.choice.now in
    let within : k < length c.args.window.now.classes.items = omega arith in
    let w = window_of c.args.window.now in
    let asked : c.asks_keys-asked.result ≡ asks_keys w k = c.asks_keys-asked.ensures in
    let rule = class_is c.args.window.now class k within (c.class-item.is ∙ ap (λ xs. get_or xs k class) classes) in
    let found : IsIndexed (class_of class) c.asks_keys-asked.result rows choice (c.args.first + k) c.in-Some.class_index = search rules in
    let listed = subst (λ (r : ClassRule). IsIndexed r (asks_keys w k) rows choice (c.args.first + k) c.in-Some.class_index) rule
    (subst (λ (a : Bool). IsIndexed (class_of class) a rows choice (c.args.first + k) c.in-Some.class_index) asked found) in
    indexes_more w rows choice c.args.first k c.loop-number.indexes.items _ c.in-Some.class_index c.loop-number.invariant listed c.in_ok-push-in-Some.ensures.items
