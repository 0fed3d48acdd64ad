-- Tokens in which each expression of a key that is a separate operand is replaced by its column. The tokens of an expression that occur
-- in another way, as a + b in a + b * 2, stay: their columns are not grouped by, so the profile refuses them.
use Rattle.std.specs.Prelude.{ℕ, ◌-◌, ◌==◌, ◌&&◌, ◌||◌, if◌then◌else◌, codes, Bool, true, false, List, [], ◌∷◌, ◌++◌, length, Option, Some, None}
use Rattle.wd_lex.specs.declared.token.Terminal.TheVariants as m
use Rattle.wd_lex.specs.declared.token.TokenKind.{TokenKind}
use Rattle.wd_lex.specs.declared.token.Token.{Token}
use Rattle.wd_clauses.specs.Added.{added}
use Rattle.wd_clauses.specs.Names.{is_name}
use Rattle.wd_distinct_on.specs.Keys.{strip}
use Rattle.wd_distinct_on.specs.Kinds.{begins, is_dot}
use Rattle.wd_distinct_on.specs.Written.{added_name, comma_before, placed}
use Rattle.wd_using.specs.Kinds.{is_star}
use Rattle.wd_grouping.specs.Keys.{GroupKey, begins_set, is_expression}
use Rattle.wd_grouping.specs.Kinds.{begins_operand, ends_operand}

-- the column that replaces an expression, and how many tokens the expression is
pub record Operand : Type 0 where
  pub name : List ℕ
  pub count : ℕ

-- whether an operand ends before these tokens: at the end, before a token that ends one, or before a single name, which is that of an item
abbrev pub ends : Option (List Token) → Bool
ends None = false
ends (Some []) = true
ends (Some (token ∷ [])) = ends_operand token.kind || is_name token.kind
ends (Some (token ∷ next ∷ tokens)) = ends_operand token.kind

abbrev pub operand_by : Option (List ℕ) → List Token → List Token → Option Operand
operand_by None value tokens = None
operand_by (Some name) value tokens = if ends (strip value tokens) then Some (record { name = name; count = length value }) else None

abbrev pub or_else : {A : Type 0} → Option A → Option A → Option A
or_else None other = other
or_else (Some found) other = Some found

-- the expression of the first key that is an operand at the start of the tokens
abbrev pub operand_of : List GroupKey → List Token → Option Operand
operand_of [] tokens = None
operand_of (key ∷ keys) tokens = or_else (operand_by key.name key.value tokens) (operand_of keys tokens)

-- the separate operand after this token, if there is one
abbrev pub operand_at : List GroupKey → TokenKind → List Token → Option Operand
operand_at keys before tokens = if begins_operand before then operand_of keys tokens else None

-- the token before these; if it is a table's name before a column and one table replaces several, that table's name
abbrev pub its_table : Option Token → Token → List Token → Token
its_table None token after = token
its_table (Some table) token after = if begins is_dot after then placed table token else token

abbrev pub qualified : Option Token → List Token → List Token
qualified table [] = []
qualified table (token ∷ tokens) = its_table table token tokens ∷ qualified table tokens

-- what is written for a token, and how many further tokens it replaces
abbrev pub written_at : Option Token → Token → List Token → Option Operand → List Token
written_at table token after None = its_table table token after ∷ []
written_at table token after (Some operand) = added_name operand.name token ∷ []

abbrev pub further_tokens : Option Operand → ℕ
further_tokens None = 0
further_tokens (Some operand) = operand.count - 1

-- what is written for the tokens after this one, of which the given number are passed over
unfoldable pub replaced : List GroupKey → Option Token → ℕ → TokenKind → List Token → List Token
replaced keys table passed before [] = []
replaced keys table passed before (token ∷ tokens) =
    if passed == 0
    then written_at table token tokens (operand_at keys before (token ∷ tokens)) ++ replaced keys table (further_tokens (operand_at keys before (token ∷ tokens))) token.kind tokens
    else replaced keys table (passed - 1) token.kind tokens

-- the column that replaces an item, if the item is nothing but an expression
abbrev pub if_whole : List Token → Option Operand → Option (List ℕ)
if_whole item None = None
if_whole item (Some operand) = if operand.count == length item then Some operand.name else None

abbrev pub whole : List GroupKey → List Token → Option (List ℕ)
whole keys item = if_whole item (operand_of keys item)

-- an item without a name keeps the name that the profile gives it
abbrev pub unnamed : List ℕ → Token → List Token
unnamed name select = added_name name select ∷ added m.As select ∷ added_name (codes "?column?") select ∷ []

abbrev pub item_by : List GroupKey → Option Token → Token → List Token → Option (List ℕ) → List Token
item_by keys table select item None = replaced keys table 0 select.kind item
item_by keys table select item (Some name) = unnamed name select

abbrev pub replaced_items : List GroupKey → Option Token → Token → List (List Token) → List Token
replaced_items keys table select [] = []
replaced_items keys table select (item ∷ items) = item_by keys table select item (whole keys item) ++ comma_before items select ++ replaced_items keys table select items

abbrev pub ends_with_star : List Token → Bool
ends_with_star [] = false
ends_with_star (token ∷ []) = is_star token.kind
ends_with_star (token ∷ next ∷ tokens) = ends_with_star (next ∷ tokens)

-- whether an item stands for all columns
abbrev pub have_star : List (List Token) → Bool
have_star [] = false
have_star (item ∷ items) = if ends_with_star item then true else have_star items

-- whether an item is nothing but an expression, and may get its name from a column
abbrev pub is_unclear : List GroupKey → List Token → Bool
is_unclear keys item = is_expression (whole keys item) && begins_set item

-- whether no item is unclear
abbrev pub are_clear : List GroupKey → List (List Token) → Bool
are_clear keys [] = true
are_clear keys (item ∷ items) = if is_unclear keys item then false else are_clear keys items
