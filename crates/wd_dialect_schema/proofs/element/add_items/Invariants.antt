use Rattle.std.proofs.Common.{◌≡◌, ◌++◌, drop, map}
use Rattle.std.specs.List.{flat_map}
use Rattle.wd_declaration.specs.Spelled.{element_of}
use Rattle.wd_dialect_read.specs.Said.{item_said}
use Rattle.wd_dialect_schema.specs.Meaning.{elements_of}
use Rattle.wd_dialect_schema.proofs.element.add_items.Given as goal

abbrev pub invariant-loop-item : goal.invariant-loop-item
invariant-loop-item l = map element_of l.elements.items ++ flat_map elements_of (map item_said (drop l.item-index l.items)) ≡ map element_of l.fn.elements.items ++ flat_map elements_of (map item_said l.items)
