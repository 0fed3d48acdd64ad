use Rattle.std.proofs.Common.{◌≡◌, drop, map}
use Rattle.wd_resolve_call.specs.Functions.{columns_only}
use Rattle.wd_resolve_call.specs.References.{operand_of}
use Rattle.wd_resolve_call.proofs.Prefixed.{prefixed}
use Rattle.wd_resolve_call.proofs.function.columns_only.Given as goal

abbrev pub invariant-loop-operand : goal.invariant-loop-operand
invariant-loop-operand l = prefixed l.columns.items (columns_only (map operand_of (drop l.operand-index l.operands))) ≡ columns_only (map operand_of l.operands)
