use Rattle.std.proofs.Common.{◌≡◌, ◌-◌, ◌≤◌, length, take}
use Rattle.wd_witness_text.specs.Witnesses.{positions_of}
use Rattle.wd_ties.proofs.ties.first_difference.Given as goal

abbrev pub invariant-loop-number : goal.invariant-loop-number
invariant-loop-number l =
    (take l.number (positions_of l.first) ≡ take l.number (positions_of l.second)) × (l.number ≤ length l.first) × (l.number ≤ length l.second)

abbrev pub decreases-loop-number : goal.decreases-loop-number
decreases-loop-number l = length l.first - l.number
