-- What a text is read as that neither the profile nor PostgreSQL's way of writing reads.
use Rattle.std.proofs.Common.{◌⊎◌, inr, ℕ, List}
use Rattle.wd_schema.specs.declared.error.SchemaError.{SchemaError}
use Rattle.wd_schema.specs.declared.error.SchemaError.TheVariants.{NullForbidden}
use Rattle.wd_schema.specs.Texts as profile
use Rattle.wd_dialect_read.specs.Said.{StatementSaid}
use Rattle.wd_front.specs.Fronts.{IsLost, IsSpelledBy, IsUnread}

pub lost_in_both : (text : List ℕ) (error : SchemaError) (statements : List StatementSaid) (other : List ℕ) (refusal : SchemaError) → profile.HasCause text error → IsSpelledBy text statements other
    → profile.HasCause other refusal → profile.HasCause text NullForbidden ⊎ (IsUnread text × IsLost text)
lost_in_both text error statements other refusal unread spelled cause = inr ((error, unread), inr (statements, other, spelled, (refusal, cause)))
