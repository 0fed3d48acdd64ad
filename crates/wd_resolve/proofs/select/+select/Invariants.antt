use Rattle.std.proofs.Common.{◌≡◌, drop, map}
use Rattle.wd_schema.specs.Schemas.{schema_of}
use Rattle.wd_syntax.specs.Tree.{joins_of}
use Rattle.wd_syntax.specs.View.{view_joined}
use Rattle.wd_resolve.specs.Selected.{from_of}
use Rattle.wd_resolve.specs.Lowering.{joins_meant}
use Rattle.wd_resolve.proofs.select.+select.Given as goal

abbrev pub invariant-resolve_joins-loop-join : goal.invariant-resolve_joins-loop-join
invariant-resolve_joins-loop-join l = joins_meant (schema_of l.schema) (joins_of (map view_joined (drop l.join-index l.joins))) (from_of l.from) ≡ joins_meant (schema_of l.schema) (joins_of (map view_joined l.initial.joins)) (from_of l.initial.from)
