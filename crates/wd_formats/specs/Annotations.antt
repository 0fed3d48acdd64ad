-- Annotations as a GitHub workflow reads them (GitHub Docs, workflow commands).
use Rattle.std.specs.Prelude.{◌≢◌, ℕ, All, List, [], ◌∷◌, ◌++◌, flat_map, codes, nat_eq, if◌then◌else◌}
use Rattle.std.specs.Fmt.{decimal}
use Rattle.wd_source.specs.declared.place.Position.{Position}
use Rattle.wd_formats.specs.declared.github.Level.{Level}
use Rattle.wd_formats.specs.declared.github.Level.TheVariants.{Error, Warning}
use Rattle.wd_formats.specs.declared.github.Part.{Part}
use Rattle.wd_formats.specs.declared.github.Part.TheVariants.{Property, Message}

-- in a message % and what ends a line are written as their numbers
abbrev pub message_byte : ℕ → List ℕ
message_byte b = if nat_eq b 37 then codes "%25" else if nat_eq b 13 then codes "%0D" else if nat_eq b 10 then codes "%0A" else b ∷ []

-- in the value of a property what ends a value is written so too
abbrev pub property_byte : ℕ → List ℕ
property_byte b = if nat_eq b 58 then codes "%3A" else if nat_eq b 44 then codes "%2C" else message_byte b

abbrev pub part_byte : Part → ℕ → List ℕ
part_byte Property b = property_byte b
part_byte Message b = message_byte b

abbrev pub level_word : Level → List ℕ
level_word Error = codes "error"
level_word Warning = codes "warning"

abbrev pub place_text : Position → List ℕ
place_text position = codes ",line=" ++ decimal position.line ++ codes ",col=" ++ decimal position.column ++ codes "::"

-- the command, and the end of its line
abbrev pub annotation : Level → List ℕ → Position → List ℕ → List ℕ
annotation level path position message =
    codes "::" ++ level_word level ++ codes " file=" ++ flat_map property_byte path ++ place_text position ++ flat_map message_byte message ++ 10 ∷ []

-- a byte that ends no line
pub record StaysOnLine (b : ℕ) : Type 0 where
  pub no_feed : b ≢ 10
  pub no_return : b ≢ 13

-- what is put into a part ends no line, whatever the text
abbrev pub PartsStayOnTheirLine : Type 0
PartsStayOnTheirLine = (part : Part) (text : List ℕ) → All StaysOnLine (flat_map (part_byte part) text)
