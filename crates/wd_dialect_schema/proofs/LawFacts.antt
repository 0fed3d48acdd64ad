-- The laws of the dialect's schema texts.
use Rattle.std.proofs.Common.{◌≡◌, ◌∙◌, ℕ, List, [], Ok, Err, is_ok, sym, ap, refl}
use Rattle.std.proofs.lemmas.Bool.{true≢false}
use Rattle.wd_lex.specs.declared.token.Token.{Token}
use Rattle.wd_lex.specs.Lexed.{IsLexed, kinds_of}
use Rattle.wd_lex.proofs.TextLaws.{no_cause, one_list_of_tokens}
use Rattle.wd_read_cursor.specs.Cursor.{Reads}
use Rattle.wd_dialect_text.specs.Masked.{masked}
use Rattle.wd_dialect_read.specs.Said.{StatementSaid}
use Rattle.wd_dialect_read.specs.Reading.{statements_at}
use Rattle.wd_dialect_schema.specs.declared.error.DialectError.TheVariants as e
use Rattle.wd_dialect_schema.specs.Laws.{HasMeaningOrCause, HasOneMeaning}
use Rattle.wd_dialect_schema.specs.Texts.{Says, Stops}

abbrev statements_in : Reads (List StatementSaid) → List StatementSaid
statements_in (Ok found) = found.0
statements_in (Err fault) = []

-- both are read from the same tokens
same_read : (text : List ℕ) (tokens others : List Token) → IsLexed (masked text) tokens → IsLexed (masked text) others → statements_at (kinds_of tokens) ≡ statements_at (kinds_of others)
same_read text tokens others lexed relexed = ap (λ ts. statements_at (kinds_of ts)) (one_list_of_tokens (masked text) tokens others lexed relexed)

pub one_meaning : HasOneMeaning
one_meaning text first second says other = ap statements_in (sym says.read ∙ same_read text says.tokens other.tokens says.lexed other.lexed ∙ other.read)

no_stop : (text : List ℕ) (statements : List StatementSaid) (place : ℕ) → Says text statements → Stops text place → ⊥
no_stop text statements place says stops =
    let same : Ok (statements, says.rest) ≡ Err stops.fault = sym says.read ∙ same_read text says.tokens stops.tokens says.lexed stops.lexed ∙ stops.read in
    true≢false (ap is_ok same)

pub meaning_or_cause : HasMeaningOrCause
meaning_or_cause text statements (e.Tokens error) says short cause = no_cause (masked text) says.tokens error says.lexed cause
meaning_or_cause text statements (e.Unexpected place) says short cause = no_stop text statements place says cause
meaning_or_cause text statements e.TooLong says short cause = short refl
meaning_or_cause text statements e.OutOfMemory says short cause = cause
