use Rattle.std.proofs.Common.{◌≡◌, ◌++◌, Ok, drop, filter, length, map, option_map, zip}
use Rattle.std.specs.List.{range_with_len}
use Rattle.wd_resolve_operand.specs.Causes.{◌>>=◌}
use Rattle.wd_resolve_scope.specs.Resolving.{context_of}
use Rattle.wd_resolve_list.specs.Outputs.{columns_of, columns_shown, is_of, output_of}
use Rattle.wd_resolve_list.proofs.outputs.columns_of.Given as goal

abbrev pub invariant-loop-number : goal.invariant-loop-number
invariant-loop-number l =
    (columns_shown (context_of l.context).groups (filter (λ x. is_of (option_map (λ t. t.now) l.table) x.1) (zip (range_with_len l.number (length (drop l.number (context_of l.context).scope.columns))) (drop l.number (context_of l.context).scope.columns))) >>= λ os. Ok (map output_of l.outputs.items ++ os))
    ≡ columns_of (context_of l.context).groups (context_of l.context).scope (option_map (λ t. t.now) l.table)
