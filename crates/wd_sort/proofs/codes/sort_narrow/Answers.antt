use Rattle.std.proofs.Common.{◌≡◌, map, rules, sym, subst}
use Rattle.wd_sort.specs.Codes.{ArePacked, position_in}
use Rattle.wd_sort.specs.Sorting.{IsStableSortOf}
use Rattle.wd_sort.proofs.Packing.{IsStableSortOf-from_codes}
use Rattle.wd_sort.proofs.codes.sort_narrow.Goals as goal

pub returns : goal.returns
returns c columns rows coding =
    let given = c.args.positions.now in
    let are : ArePacked c.args.codes.items c.pack-numbers.result.items = search rules in
    let order : c.unpack.result.items ≡ map (position_in given) c.sort_unstable.new.self.items = search rules in
    subst (IsStableSortOf columns rows given) (sym order) (IsStableSortOf-from_codes columns rows given c.args.codes.items c.requires.long coding c.pack-numbers.result.items are c.sort_unstable.new.self.items c.sort_unstable.ensures.permutation c.sort_unstable.ensures.sorted)
