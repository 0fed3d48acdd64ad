-- How contracts see the functions that are called without OVER.
use Rattle.wd_resolve_call.specs.declared.function.GroupFunction.{GroupFunction as Code}
use Rattle.wd_resolve_call.specs.declared.function.GroupFunction.TheVariants as code
use Rattle.wd_resolve_call.specs.Functions.{GroupFunction, aggregates, grouped}

abbrev pub group_function_of : Code → GroupFunction
group_function_of (code.Aggregate name) = aggregates name
group_function_of code.Grouping = grouped
