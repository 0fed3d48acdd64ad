use Rattle.std.proofs.Common.{◌≡◌, drop, map}
use Rattle.std.specs.List.{list_any}
use Rattle.wd_syntax.specs.declared.expression.Link.{Link}
use Rattle.wd_syntax.specs.Tree.{trees_of, arms_of, keys_of}
use Rattle.wd_syntax.specs.View.{view, view_arm, view_key}
use Rattle.wd_resolve_scope.specs.Grouped.{has_group_call, some_has, arms_have, keys_have}
use Rattle.wd_resolve_scope.proofs.grouped.+has.Given as goal

abbrev pub invariant-some_has-loop-tree : goal.invariant-some_has-loop-tree
invariant-some_has-loop-tree l = some_has (trees_of (map view (drop l.tree-index l.trees))) ≡ some_has (trees_of (map view l.initial.trees))

abbrev pub invariant-links_have-loop-link : goal.invariant-links_have-loop-link
invariant-links_have-loop-link l = list_any (λ (link : Link). has_group_call (view link.operand)) (drop l.link-index l.links) ≡ list_any (λ (link : Link). has_group_call (view link.operand)) l.initial.links

abbrev pub invariant-arms_have-loop-arm : goal.invariant-arms_have-loop-arm
invariant-arms_have-loop-arm l = arms_have (arms_of (map view_arm (drop l.arm-index l.arms))) ≡ arms_have (arms_of (map view_arm l.initial.arms))

abbrev pub invariant-keys_have-loop-key : goal.invariant-keys_have-loop-key
invariant-keys_have-loop-key l = keys_have (keys_of (map view_key (drop l.key-index l.keys))) ≡ keys_have (keys_of (map view_key l.initial.keys))
