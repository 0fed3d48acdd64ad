use Rattle.std.proofs.Common.{◌≡◌, length}
use Rattle.wd_block.specs.Kinds.{kind_of}
use Rattle.wd_judged.specs.Heads.{HaveHeads}
use Rattle.wd_judged.proofs.block.open_blocks.Given as goal

-- a block for each place so far, which begins with its line
abbrev pub invariant-loop-number : goal.invariant-loop-number
invariant-loop-number l =
    (length l.blocks.items ≡ l.number)
    × HaveHeads l.statement.path.now l.statement.text.now l.statement.start (kind_of l.finding.verdict l.finding.certain l.finding.further) l.finding.places.items l.blocks.items
