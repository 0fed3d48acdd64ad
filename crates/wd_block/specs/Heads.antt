-- The line with which the block of a place that is open begins.
use Rattle.std.specs.Prelude.{◌≡◌, ℕ, ◌+◌, ◌-◌, ◌^◌, min, codes, List, [], ◌∷◌, ◌++◌, Option, Some, None}
use Rattle.wd_sites.specs.declared.site.Site.{Site}
use Rattle.wd_finding.specs.declared.place.OpenPlace.{OpenPlace}
use Rattle.wd_lines.specs.declared.count.Kind.{Kind}
use Rattle.wd_lines.specs.declared.count.Kind.TheVariants.{Deterministic, Depends, MayTie, NotRead}
use Rattle.wd_lines.specs.Lines.{HasPlace, plain}

-- what is said of a call, or of a limit (no call), on which the answer depends
abbrev pub depends_words : Option ℕ → List ℕ
depends_words (Some call) = codes "depends: rows that tie may stand in any order here, and the answer goes by it"
depends_words None = codes "depends: rows that tie are cut in any order here, and the answer goes by it"

abbrev pub may_tie_words : Option ℕ → List ℕ
may_tie_words (Some call) = codes "may tie: rows that tie may stand in any order here; no example found"
may_tie_words None = codes "may tie: rows that tie are cut in any order here; no example found"

-- what is said of a place, by what its query counts as
abbrev pub place_words : Kind → Option ℕ → List ℕ
place_words Deterministic call = may_tie_words call
place_words Depends call = depends_words call
place_words MayTie call = may_tie_words call
place_words NotRead call = may_tie_words call

-- where a place is in its file, in which the statement begins at `start`: the path, the line and the column; the path alone where the
-- place is not known
abbrev pub HasSite : (path text : List ℕ) (start : ℕ) → Option Site → List ℕ → Type 0
HasSite path text start None words = words ≡ plain path ++ codes ": "
HasSite path text start (Some site) words = HasPlace path text (min (site.span.start + start) (2 ^ 64 - 1)) [] words

-- the line: where the place is, and what is said of it
abbrev pub IsHead : (path text : List ℕ) (start : ℕ) → Kind → OpenPlace → List ℕ → Type 0
IsHead path text start kind place line = (site : List ℕ) × HasSite path text start place.site site × (line ≡ site ++ place_words kind place.reason.call ++ 10 ∷ [])

abbrev pub BeginsBlock : (path text : List ℕ) (start : ℕ) → Kind → OpenPlace → List ℕ → Type 0
BeginsBlock path text start kind place block = (line : List ℕ) × (rest : List ℕ) × IsHead path text start kind place line × (block ≡ line ++ rest)
