-- How single tokens are spelled: terminals, words that are key words in their place, and names.
use Rattle.std.specs.Prelude.{ℕ, codes, Bool, true, false, List, ◌∷◌}
use Rattle.wd_lex.specs.declared.token.Terminal.{Terminal}
use Rattle.wd_lex.specs.declared.token.TokenKind.{TokenKind}
use Rattle.wd_lex.specs.declared.token.TokenKind.TheVariants as t
use Rattle.wd_read_cursor.specs.declared.name.Name.{Name}
use Rattle.wd_read_cursor.specs.declared.words.KeyWord.{KeyWord}
use Rattle.wd_read_cursor.specs.declared.words.KeyWord.TheVariants as k

abbrev pub Kinds : Type 0
Kinds = List TokenKind

-- a terminal, and the tokens after it
infixr 20 ◌▸◌
abbrev pub ◌▸◌ : Terminal → Kinds → Kinds
x ▸ ts = t.Terminal x ∷ ts

-- how a word that is a key word in its place is spelled
abbrev pub letters : KeyWord → List ℕ
letters k.Between = codes "between"
letters k.Cube = codes "cube"
letters k.Current = codes "current"
letters k.Exclude = codes "exclude"
letters k.First = codes "first"
letters k.Following = codes "following"
letters k.Grouping = codes "grouping"
letters k.Key = codes "key"
letters k.Last = codes "last"
letters k.Next = codes "next"
letters k.No = codes "no"
letters k.Nulls = codes "nulls"
letters k.Only = codes "only"
letters k.Others = codes "others"
letters k.Preceding = codes "preceding"
letters k.Rollup = codes "rollup"
letters k.Row = codes "row"
letters k.Sets = codes "sets"
letters k.Ties = codes "ties"
letters k.Unbounded = codes "unbounded"

-- a word that is a key word in its place, and the tokens after it
infixr 20 ◌▹◌
abbrev pub ◌▹◌ : KeyWord → Kinds → Kinds
x ▹ ts = t.Word (letters x) ∷ ts

-- a name is a word, or it is in quotes
abbrev pub written : Bool → List ℕ → TokenKind
written true text = t.Quoted text
written false text = t.Word text

abbrev pub name_kind : Name → TokenKind
name_kind n = written n.quoted n.text
