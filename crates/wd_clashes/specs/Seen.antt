-- What the code keeps, seen as in the definitions.
use Rattle.wd_clashes.specs.declared.comparison.Comparison.{Comparison as FoundComparison}
use Rattle.wd_clashes.specs.Comparisons.{Comparison}

abbrev pub comparison_seen : FoundComparison → Comparison
comparison_seen c = record { left = c.left.now; sign = c.sign.now; right = c.right.now; first = c.first; second = c.second; rest = c.rest.now }
