-- Parts of a select as they are read, as pure data.
use Rattle.wd_distinct_on.specs.declared.item.Item.{Item}
use Rattle.wd_distinct_on.specs.declared.key.Key.{Key}
use Rattle.wd_distinct_on.specs.declared.select.Order.{Order}
use Rattle.wd_distinct_on.specs.declared.select.Select.{Select}
use Rattle.wd_distinct_on.specs.Items.{NamedItem}
use Rattle.wd_distinct_on.specs.Keys.{SortKey}
use Rattle.wd_distinct_on.specs.Pieces.{OrderPieces, Pieces}

abbrev pub named_item : Item → NamedItem
named_item item = record { name = item.name.now; value = item.value.now }

abbrev pub sort_key : Key → SortKey
sort_key key = record { value = key.value.now; rest = key.rest.now }

abbrev pub order_pieces : Order → OrderPieces
order_pieces order = record { words = order.words.now; keys = order.keys.now; after = order.after.now }

abbrev pub pieces : Select → Pieces
pieces select = record {
  select = select.select.now;
  distinct = select.distinct.now;
  keys = select.keys.now;
  items = select.items.now;
  from = select.from.now;
  order = order_pieces select.order;
}
