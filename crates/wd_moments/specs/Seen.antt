-- What the code keeps, seen as in the definitions.
use Rattle.wd_moments.specs.declared.item.Item.{Item as FoundItem}
use Rattle.wd_moments.specs.Items.{Item}

abbrev pub item_seen : FoundItem → Item
item_seen i = record { operand = i.operand.now; unit = i.unit; rest = i.rest.now }
