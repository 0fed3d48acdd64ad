use Rattle.wd_group.specs.Groups.{lists_of}
use Rattle.wd_group.proofs.Listing.{AreBefore}
use Rattle.wd_group.proofs.groups.lists_by.Given as goal

abbrev pub invariant-loop-position : goal.invariant-loop-position
invariant-loop-position l = AreBefore l.numbers l.fn.bound l.position (lists_of l.lists.items)
