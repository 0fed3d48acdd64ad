use Rattle.std.proofs.Common.{◌≡◌, map, drop, Ok}
use Rattle.wd_syntax.specs.View.{view, tested, view_link, view_arm, view_key}
use Rattle.wd_syntax.specs.Tree.{trees_of, arms_of, keys_of}
use Rattle.wd_resolve_call.specs.References.{operand_of, arm_of}
use Rattle.wd_resolve_scope.specs.Resolving.{context_of, resolved, all_resolved, arms_resolved, keys_resolved}
use Rattle.wd_resolve_call.specs.Windows.{key_of}
use Rattle.wd_resolve_scope.specs.Parts.{chain_meant}
use Rattle.wd_resolve_scope.proofs.Chains.{tests_meant}
use Rattle.wd_resolve_call.proofs.Prefixed.{prefixed}
use Rattle.wd_resolve_scope.proofs.expression.+resolve.Given as goal

abbrev pub invariant-resolve_all-loop-tree : goal.invariant-resolve_all-loop-tree
invariant-resolve_all-loop-tree l = prefixed (map operand_of l.operands.items) (all_resolved (context_of l.context) (trees_of (map view (drop l.tree-index l.trees)))) ≡ all_resolved (context_of l.context) (trees_of (map view l.initial.trees))

abbrev pub invariant-resolve_arms-loop-arm : goal.invariant-resolve_arms-loop-arm
invariant-resolve_arms-loop-arm l = prefixed (map arm_of l.parts.items) (arms_resolved (context_of l.context) (arms_of (map view_arm (drop l.arm-index l.arms)))) ≡ arms_resolved (context_of l.context) (arms_of (map view_arm l.initial.arms))

abbrev pub invariant-resolve_chain-loop-link : goal.invariant-resolve_chain-loop-link
invariant-resolve_chain-loop-link l = chain_meant (context_of l.context) (map view_link (drop l.link-index l.links)) (operand_of l.left) ≡ chain_meant (context_of l.context) (map view_link l.initial.links) (operand_of l.initial.left)

abbrev pub invariant-resolve_tests-loop-not : goal.invariant-resolve_tests-loop-not
invariant-resolve_tests-loop-not l = Ok (tests_meant (drop l.not-index l.tests) (operand_of l.operand)) ≡ resolved (context_of l.context) (tested (view l.fn.inner) l.fn.tests)

abbrev pub invariant-resolve_keys-loop-key : goal.invariant-resolve_keys-loop-key
invariant-resolve_keys-loop-key l = prefixed (map key_of l.order.items) (keys_resolved (context_of l.context) (keys_of (map view_key (drop l.key-index l.keys)))) ≡ keys_resolved (context_of l.context) (keys_of (map view_key l.initial.keys))
