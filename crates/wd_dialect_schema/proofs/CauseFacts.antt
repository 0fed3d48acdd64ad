-- Why a text is refused, and what its text in the profile spells.
use Rattle.std.proofs.Common.{◌≡◌, ◌≢◌, ℕ, ◌-◌, List, length, MatchOption, sym, subst, refl}
use Rattle.wd_lex.specs.declared.token.Token.{Token}
use Rattle.wd_lex.specs.Lexed.{IsLexed, kinds_of}
use Rattle.wd_read_cursor.specs.Cursor.{Unexpected, Limit}
use Rattle.wd_read_cursor.specs.Given.{Fails, left_of}
use Rattle.wd_read_cursor.specs.declared.refusal.Refusal.{Refusal}
use Rattle.wd_read_cursor.specs.declared.refusal.Refusal.TheVariants as r
use Rattle.wd_read_statements.specs.Written.{TableTree}
use Rattle.wd_declaration.specs.declared.declaration.Declaration.{Declaration}
use Rattle.wd_declaration.specs.Spelled as spelled
use Rattle.wd_dialect_text.specs.Masked.{masked}
use Rattle.wd_dialect_read.specs.Reading.{statements_at}
use Rattle.wd_dialect_schema.specs.declared.error.DialectError.{DialectError}
use Rattle.wd_dialect_schema.specs.declared.error.DialectError.TheVariants as e
use Rattle.wd_dialect_schema.specs.Texts.{HasCause, Spells}

pub stops_there : (text : List ℕ) (tokens : List Token) (refusal : Refusal) (answer : DialectError) → IsLexed (masked text) tokens → Fails refusal (statements_at (kinds_of tokens))
    → MatchOption (left_of refusal) (answer ≡ e.OutOfMemory) (λ left. answer ≡ e.Unexpected (length (kinds_of tokens) - left)) → answer ≢ e.OutOfMemory → HasCause text answer
stops_there text tokens r.OutOfMemory answer lexed fails is other = absurd (other is)
stops_there text tokens (r.Unexpected left) answer lexed fails is other =
    subst (HasCause text) (sym is) (record { tokens = tokens; lexed = lexed; fault = Unexpected left; read = fails; there = refl })
stops_there text tokens (r.PastLimit left) answer lexed fails is other =
    subst (HasCause text) (sym is) (record { tokens = tokens; lexed = lexed; fault = Limit left; read = fails; there = refl })

-- what spells declarations spells their trees
pub spells_trees : (text : List ℕ) (tables : List Declaration) (trees : List TableTree) → spelled.Spells text tables → spelled.tables_of tables ≡ trees → Spells text trees
spells_trees text tables trees spells same = subst (Spells text) same (record { whole = spells.whole; spelled = spells.spelled; declares = spells.declares })
