-- The words of what is passed over, since each table, key, NOT NULL, name and type that was read still holds after it.
use Rattle.std.specs.Prelude.{ℕ, codes, List, [], ◌∷◌}

-- the statements after which everything that was read holds, by their first words
abbrev pub statement_words : List (List ℕ)
statement_words = codes "set" ∷ codes "reset" ∷ codes "comment" ∷ codes "grant" ∷ codes "revoke" ∷ codes "begin" ∷ codes "start" ∷ codes "commit" ∷ codes "insert" ∷ codes "update" ∷ codes "delete" ∷ codes "truncate" ∷ codes "analyze" ∷ codes "vacuum" ∷ codes "refresh" ∷ codes "security" ∷ codes "lock" ∷ codes "show" ∷ []

-- what CREATE makes besides tables
abbrev pub create_words : List (List ℕ)
create_words = codes "index" ∷ codes "sequence" ∷ codes "type" ∷ codes "domain" ∷ codes "schema" ∷ codes "extension" ∷ codes "view" ∷ codes "recursive" ∷ codes "materialized" ∷ codes "trigger" ∷ codes "event" ∷ codes "function" ∷ codes "procedure" ∷ codes "aggregate" ∷ codes "operator" ∷ codes "cast" ∷ codes "collation" ∷ codes "conversion" ∷ codes "statistics" ∷ codes "policy" ∷ codes "publication" ∷ codes "subscription" ∷ codes "role" ∷ codes "user" ∷ codes "group" ∷ codes "database" ∷ codes "server" ∷ codes "language" ∷ codes "transform" ∷ codes "text" ∷ codes "access" ∷ []

-- what ALTER changes besides tables; an index is not among these, since ALTER INDEX renames tables too
abbrev pub alter_words : List (List ℕ)
alter_words = codes "sequence" ∷ codes "type" ∷ codes "domain" ∷ codes "schema" ∷ codes "extension" ∷ codes "view" ∷ codes "materialized" ∷ codes "trigger" ∷ codes "event" ∷ codes "function" ∷ codes "procedure" ∷ codes "routine" ∷ codes "aggregate" ∷ codes "operator" ∷ codes "collation" ∷ codes "conversion" ∷ codes "statistics" ∷ codes "policy" ∷ codes "publication" ∷ codes "subscription" ∷ codes "role" ∷ codes "user" ∷ codes "group" ∷ codes "database" ∷ codes "server" ∷ codes "language" ∷ codes "text" ∷ codes "default" ∷ codes "large" ∷ codes "system" ∷ []

-- changes of a table after which everything that was read of it holds
abbrev pub change_words : List (List ℕ)
change_words = codes "owner" ∷ codes "enable" ∷ codes "disable" ∷ codes "force" ∷ codes "reset" ∷ codes "cluster" ∷ codes "replica" ∷ codes "validate" ∷ []

-- changes of a column after which everything that was read of it holds
abbrev pub column_words : List (List ℕ)
column_words = codes "add" ∷ codes "reset" ∷ codes "restart" ∷ []

-- what a column may lose while everything that was read of it holds
abbrev pub drop_words : List (List ℕ)
drop_words = codes "default" ∷ codes "identity" ∷ codes "expression" ∷ []

-- what is set after which something that was read no longer holds
abbrev pub set_words : List (List ℕ)
set_words = codes "schema" ∷ codes "data" ∷ []
