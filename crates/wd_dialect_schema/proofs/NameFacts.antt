-- Names of declarations and their bytes.
use Rattle.std.proofs.Common.{◌≡◌, List, [], ◌∷◌, map, refl, ap}
use Rattle.wd_declaration.specs.declared.identifier.Identifier.{Identifier}
use Rattle.wd_declaration.specs.Spelled as spelled
use Rattle.wd_dialect_read.specs.Said.{identifier_text}
use Rattle.wd_dialect_schema.specs.Meaning.{name_of}

pub names_are : (names : List Identifier) → map spelled.name_of names ≡ map name_of (map identifier_text names)
names_are [] = refl
names_are (name ∷ names) = ap (λ others. name_of (identifier_text name) ∷ others) (names_are names)
