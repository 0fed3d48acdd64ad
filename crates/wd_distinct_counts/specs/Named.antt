-- Parts of a select as they are read, as pure data.
use Rattle.wd_distinct_counts.specs.declared.select.Grouping.{Grouping}
use Rattle.wd_distinct_counts.specs.Pieces as pieces

abbrev pub grouping_pieces : Grouping → pieces.Grouping
grouping_pieces grouping = record { words = grouping.words.now; keys = grouping.keys.now; later = grouping.later.now }
