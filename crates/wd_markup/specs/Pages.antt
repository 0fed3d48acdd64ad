-- The pieces of a page.
use Rattle.std.specs.Prelude.{◌≡◌, ℕ, List, [], ◌∷◌, ◌++◌, flat_map, codes}
use Rattle.std.specs.Fmt.{decimal}
use Rattle.wd_markup.specs.Escapes.{escaped}
use Rattle.wd_markup.specs.Vocabulary.{tag_name, class_words}
use Rattle.wd_markup.specs.declared.style.TheConstants.{BEGIN, END}
use Rattle.wd_markup.specs.declared.vocabulary.Class.{Class}
use Rattle.wd_markup.specs.declared.vocabulary.Tag.{Tag}

-- a tag of fixed words and a number, or any text
pub data Piece : Type 0 where
  Begin : Piece
  End : Piece
  Opening : Tag → Class → Piece
  Closing : Tag → Piece
  Anchor : Tag → Class → ℕ → Piece
  LinkTo : ℕ → Piece
  Share : Class → ℕ → Piece
  Text : List ℕ → Piece

-- the attribute by which links lead to an element, and the end of its tag
abbrev pub id_words : ℕ → List ℕ
id_words n = codes " id='q" ++ decimal n ++ codes "'>"

-- the attribute for the length of a span of a bar, and the end of its tag
abbrev pub share_words : ℕ → List ℕ
share_words n = codes " style='flex-grow:" ++ decimal n ++ codes "'>"

-- A piece as it appears in a page. The head of the file and its style are two constants.
abbrev pub shown_piece : Piece → List ℕ
shown_piece Begin = BEGIN.now
shown_piece End = END.now
shown_piece (Opening tag class) = codes "<" ++ tag_name tag ++ class_words class ++ codes ">"
shown_piece (Closing tag) = codes "</" ++ tag_name tag ++ codes ">"
shown_piece (Anchor tag class n) = codes "<" ++ tag_name tag ++ class_words class ++ id_words n
shown_piece (LinkTo n) = codes "<a href='#q" ++ decimal n ++ codes "'>"
shown_piece (Share class n) = codes "<span" ++ class_words class ++ share_words n
shown_piece (Text text) = escaped text

abbrev pub shown : List Piece → List ℕ
shown pieces = flat_map shown_piece pieces

-- The bytes of a page: all of them are tags of fixed words, or escaped texts. So a text from an input appears only escaped.
abbrev pub IsPage : List ℕ → Type 0
IsPage bytes = ∥ ((pieces : List Piece) × (bytes ≡ shown pieces)) ∥₁
