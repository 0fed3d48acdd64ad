use Rattle.std.proofs.Common.{◌≡◌, drop, map}
use Rattle.wd_resolve_scope.specs.Resolving.{is_known}
use Rattle.wd_resolve_call.specs.Windows.{known_of}
use Rattle.wd_resolve_scope.proofs.expression.is_known.Given as goal

abbrev pub invariant-loop-known : goal.invariant-loop-known
invariant-loop-known l = is_known (map known_of (drop l.known-index l.windows)) l.name.text ≡ is_known (map known_of l.windows) l.name.text
