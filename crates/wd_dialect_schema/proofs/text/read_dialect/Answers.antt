use Rattle.std.proofs.Common.{map, string_bytes, subst}
use Rattle.wd_dialect_read.specs.Said.{statement_said}
use Rattle.wd_dialect_schema.specs.Meaning.{tables_of}
use Rattle.wd_dialect_schema.specs.Texts.{Spells}
use Rattle.wd_dialect_schema.proofs.LawFacts.{meaning_or_cause}
use Rattle.wd_dialect_schema.proofs.text.read_dialect.Goals as goal

pub returns-clause-spells : goal.returns-clause-spells
returns-clause-spells c = subst (λ statements. Spells (string_bytes c.in_ok-text.text) (tables_of (map statement_said statements))) c.deref.ensures.value c.in_ok-text.ensures.spells

pub returns-clause-refused : goal.returns-clause-refused
returns-clause-refused c = λ refusal short cause. meaning_or_cause c.args.text.now (map statement_said c.in_ok-statements.statements.items) refusal c.in_ok-statements.ensures.says short cause
