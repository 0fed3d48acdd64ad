-- How the code finds the kind of an expression or a call: it is that of a column of the input, or a kind of its own.
use Rattle.std.specs.Prelude.{Option, Some}
use Rattle.wd_plan.specs.declared.expression.ValueKind.{ValueKind}
use Rattle.wd_plan.specs.declared.fits.KindSource.{KindSource}
use Rattle.wd_plan.specs.declared.fits.KindSource.TheVariants.{OfColumn, Always}
use Rattle.wd_plan.specs.Fits.{Kinds}

abbrev pub kind_from : Kinds → KindSource → Option ValueKind
kind_from kinds (OfColumn c) = kinds c
kind_from kinds (Always kind) = Some kind
