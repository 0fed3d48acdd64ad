-- Laws of meanings, over the definitions alone.
use Rattle.std.specs.Prelude.{◌≡◌, Ok}
use Rattle.wd_syntax.specs.Tree.{Tree, WindowTree}
use Rattle.wd_resolve_operand.specs.Operands.{Operand}
use Rattle.wd_resolve_call.specs.References.{SelectReference}
use Rattle.wd_resolve_scope.specs.Resolving.{ContextRule, resolved, window_resolved}
use Rattle.wd_resolve_call.specs.Windows.{BoundWindow}
use Rattle.wd_resolve_scope.specs.Typed.{AreKnown, IsOperand, IsWindow, readable}

-- The meaning of an expression is typed, over the columns that may appear and calls over those in scope.
abbrev pub MeaningsAreTyped : Type 0
MeaningsAreTyped = (c : ContextRule) (a : Tree) (x : Operand SelectReference) → AreKnown (readable c.scope c.groups) c.windows → resolved c a ≡ Ok x → IsOperand (readable c.scope c.groups) x

-- The meaning of a window is a window over the columns in scope.
abbrev pub WindowsAreTyped : Type 0
WindowsAreTyped = (c : ContextRule) (v : WindowTree) (w : BoundWindow) → AreKnown (readable c.scope c.groups) c.windows → window_resolved c v ≡ Ok w → IsWindow (readable c.scope c.groups) w
