-- A call with OVER means its function over its arguments and what stands in OVER, where window calls may stand.
use Rattle.std.proofs.Common.{◌≡◌, refl, List, Option}
use Rattle.wd_read_cursor.specs.declared.name.Name.{Name}
use Rattle.wd_syntax.specs.declared.expression.Over.{Over}
use Rattle.wd_syntax.specs.declared.expression.Over.TheVariants as v
use Rattle.wd_syntax.specs.declared.expression.Window.{Window, Window'}
use Rattle.wd_syntax.specs.View.{view_over}
use Rattle.wd_resolve_operand.specs.Causes.{◌>>=◌}
use Rattle.wd_resolve_operand.specs.Operands.{Operand}
use Rattle.wd_resolve_call.specs.References.{SelectReference}
use Rattle.wd_resolve_scope.specs.Parts.{over_meant}
use Rattle.wd_resolve_scope.specs.Resolving.{ContextRule, arguments_in, call_over, called, moved_to, where_allowed}
use Rattle.wd_resolve_scope.specs.Places.{within_call}

pub over_called : (c : ContextRule) (f : Name) (xs : Option (List (Operand SelectReference))) (over : Over) → call_over c f xs (view_over over) ≡ (where_allowed c (over_meant c (view_over over)) >>= λ w. called f xs w)
over_called c f xs (v.Name n) = refl
over_called c f xs (v.Window (Window' base shape partition shape' order frame)) = refl

pub moved_within : (c : ContextRule) (f : Name) (over : Over) → arguments_in c f (view_over over) ≡ moved_to (within_call c.place) c
moved_within c f (v.Name n) = refl
moved_within c f (v.Window (Window' base shape partition shape' order frame)) = refl
