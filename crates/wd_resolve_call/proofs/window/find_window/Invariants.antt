use Rattle.std.proofs.Common.{◌≡◌, drop, map}
use Rattle.wd_resolve_call.specs.Windows.{window_named, known_of}
use Rattle.wd_resolve_call.proofs.window.find_window.Given as goal

abbrev pub invariant-loop-known : goal.invariant-loop-known
invariant-loop-known l = window_named (map known_of (drop l.known-index l.windows)) l.name ≡ window_named (map known_of l.windows) l.name
