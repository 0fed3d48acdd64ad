-- What the code keeps, seen as in the definitions.
use Rattle.std.specs.Prelude.{List}
use Rattle.std.specs.Borrow.{Bor}
use Rattle.wd_lex.specs.declared.token.Token.{Token}
use Rattle.wd_amounts.specs.declared.known.KnownNames.{KnownNames}
use Rattle.wd_amounts.specs.Seen.{known_seen}
use Rattle.wd_casts.specs.declared.kind.Kind.{Kind}
use Rattle.wd_casts.specs.declared.term.Term.{Term as FoundTerm}
use Rattle.wd_casts.specs.Terms.{Term}
use Rattle.wd_casts.specs.Names.{Kinds}

-- what was found, and the tokens after it
abbrev pub found_rest : {A : Type 0} → A × Bor (List Token) → A × List Token
found_rest found = (found.0, found.1.now)

abbrev pub term_seen : FoundTerm → Term
term_seen x = record { operand = x.operand.now; casts = x.casts.items; rest = x.rest.now }

-- the kind of a name, by what the code keeps of its uses
abbrev pub kinds_seen : KnownNames Kind → Kinds
kinds_seen kinds = known_seen kinds
