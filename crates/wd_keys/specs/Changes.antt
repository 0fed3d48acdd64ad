-- A text with some of its ranges replaced.
use Rattle.std.specs.Prelude.{◌≡◌, ◌⊎◌, ℕ, ◌≤◌, List, [], ◌∷◌, ◌++◌, length, drop, Option, Some, None, codes, slice_range, string_bytes}
use Rattle.wd_sites.specs.declared.site.KeyPlace.{KeyPlace}
use Rattle.wd_keys.specs.declared.change.Change.{Change}

-- the text from a byte on, with each change put in place of its range
abbrev pub changed_from : List ℕ → ℕ → List Change → List ℕ
changed_from text start [] = drop start text
changed_from text start (change ∷ changes) = slice_range text start change.at ++ string_bytes change.text ++ changed_from text change.end changes

-- the ranges of the changes come in order without overlapping, from a byte on, within the text
abbrev pub ComeInOrder : List ℕ → ℕ → List Change → Type 0
ComeInOrder text start [] = start ≤ length text
ComeInOrder text start (change ∷ changes) = (start ≤ change.at) × (change.at ≤ change.end) × ComeInOrder text change.end changes

-- this is the text with the changes put in
pub record ArePut (text : List ℕ) (changes : List Change) (after : List ℕ) : Type 0 where
  pub ordered : ComeInOrder text 0 changes
  pub is : after ≡ changed_from text 0 changes

-- an equal change, wherever it lies in memory
pub record IsCopy (change copy : Change) : Type 0 where
  pub at : copy.at ≡ change.at
  pub end : copy.end ≡ change.end
  pub text : string_bytes copy.text ≡ string_bytes change.text
  pub keys : string_bytes copy.keys ≡ string_bytes change.keys

-- a blank, or nothing
abbrev pub IsBlank : List ℕ → Type 0
IsBlank text = (text ≡ []) ⊎ (text ≡ codes " ")

-- ORDER BY and the keys, with blanks around them or none
pub record IsOrderBy (keys text : List ℕ) : Type 0 where
  pub before : List ℕ
  pub after : List ℕ
  pub blank_before : IsBlank before
  pub blank_after : IsBlank after
  pub is : text ≡ before ++ codes "ORDER BY " ++ keys ++ after

-- what is put in for keys: a comma first where there is an ORDER BY before them
abbrev pub IsKeyText : Option ℕ → List ℕ → List ℕ → Type 0
IsKeyText (Some order) keys text = text ≡ codes ", " ++ keys
IsKeyText None keys text = IsOrderBy keys text

-- the change that puts keys in at a place
pub record IsKeyChange (place : KeyPlace) (keys : List ℕ) (change : Change) : Type 0 where
  pub at : change.at ≡ place.at
  pub end : change.end ≡ place.at
  pub text : IsKeyText place.order keys (string_bytes change.text)
  pub alone : string_bytes change.keys ≡ keys
