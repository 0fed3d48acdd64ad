-- When changes of a query's text help.
use Rattle.std.specs.Prelude.{◌≡◌, ℕ, ◌/◌, min, max, List, length, slice_range, Option, Some, None, String, ⊤}
use Rattle.std.specs.declared.alloc.Global.{Global}
use Rattle.wd_certificate.specs.declared.certificate.Certificate.{Certificate}
use Rattle.wd_decide.specs.Verdicts.{IsVerdict}
use Rattle.wd_decide.specs.declared.verdict.Verdict.TheVariants.{Deterministic}
use Rattle.wd_keys.specs.Changes.{ArePut}
use Rattle.wd_sites.specs.declared.site.PlanSite.{PlanSite}
use Rattle.wd_least.specs.First.{IsMendedFirst}
use Rattle.wd_least.specs.declared.least.Mended.{Mended}
use Rattle.wd_help.specs.declared.help.Help.{Help}

-- The text of a help is that of the query with the changes put in, and the verdict on it is DETERMINISTIC.
pub record IsHelp (schema query : List ℕ) (help : Help) : Type 0 where
  pub put : ArePut query help.changes.items help.text.items
  pub certificate : Certificate
  pub decided : IsVerdict schema help.text.items (Deterministic certificate)

-- how many lists are tried on a query with the given number of bytes (this project's choice)
abbrev pub most_lists : ℕ → ℕ
most_lists bytes = min 1000 (2000000 / max bytes 1)

-- the lists that are tried
abbrev pub lists_tried : List ℕ → List (String Global) → List (String Global)
lists_tried query lists = slice_range lists 0 (min (most_lists (length query)) (length lists))

abbrev pub help_of : Mended → Help
help_of mended = record { changes = mended.changes; text = mended.text }

-- a query mended by one list is the help
abbrev pub Gives : Option Mended → Option Help → Type 0
Gives None help = ⊤
Gives (Some mended) help = help ≡ Some (help_of mended)

-- if one of the lists mends the query, put at the places of what is open first, the help is the first such list
pub record IsFirstHelp (schema query : List ℕ) (sites : List PlanSite) (lists : List (String Global)) (help : Option Help) : Type 0 where
  pub mended : Option Mended
  pub first : IsMendedFirst schema query sites (lists_tried query lists) mended
  pub gives : Gives mended help
