-- The lines with which the blocks of a statement begin.
use Rattle.std.specs.Prelude.{ℕ, List, slice_get, string_bytes, IfSome, ⊤}
use Rattle.wd_finding.specs.declared.place.OpenPlace.{OpenPlace}
use Rattle.wd_lines.specs.declared.count.Kind.{Kind}
use Rattle.wd_block.specs.Heads.{BeginsBlock}
use Rattle.wd_judged.specs.declared.block.Block.{Block}
use Rattle.wd_judged.specs.declared.judged.Judged.{Judged}
use Rattle.wd_judged.specs.declared.judged.Judgement.{Judgement}
use Rattle.wd_judged.specs.declared.judged.Judgement.TheVariants.{Found, Refused}

-- the block of the open place with a number begins with the head line of that place, by what the query counts as
abbrev pub HaveHeads : (path text : List ℕ) (start : ℕ) → Kind → List OpenPlace → List Block → Type 0
HaveHeads path text start kind places blocks =
    (n : ℕ) → IfSome (slice_get places n) (λ place. IfSome (slice_get blocks n) (λ (block : Block). BeginsBlock path text start kind place (string_bytes block.text)))

-- for a finding the blocks begin with the head lines, where the statement is in a file of this path and text
abbrev pub BeginBlocks : (path text : List ℕ) → Judged → Type 0
BeginBlocks path text judged = of_judgement judged.judgement
  where
    of_judgement : Judgement → Type 0
    of_judgement (Found finding) = HaveHeads path text judged.span.start judged.kind finding.places.items judged.blocks.items
    of_judgement (Refused error) = ⊤
