-- How contracts see the keys that a declaration says.
use Rattle.wd_schema.specs.declared.declare.KeyAt.{KeyAt}
use Rattle.wd_schema.specs.Declares.{SaidKey}

-- a key without its place
abbrev pub said : KeyAt → SaidKey
said key = record { words = key.words; columns = key.columns.items }
