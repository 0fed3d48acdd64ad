use Rattle.std.proofs.Common.{◌<◌, length, map, arith}
use Rattle.std.proofs.lemmas.List.{length-map}
use Rattle.wd_lex.specs.declared.token.Terminal.TheVariants as m
use Rattle.wd_lex.specs.Lexed.{kinds_of}
use Rattle.wd_dialect_read.specs.Said.{identifier_text}
use Rattle.wd_dialect_read.specs.Reading.{identifier_at}
use Rattle.wd_dialect_read.proofs.ListFacts.{list_some}
use Rattle.wd_dialect_read.proofs.item.read_names.Goals as goal

pub returns-clause-some : goal.returns-clause-some
returns-clause-some c =
    let some : 0 < length (map identifier_text c.in_ok-names.names.items) = list_some m.Comma identifier_at (kinds_of c.in_ok-rest.rest.now) (map identifier_text c.in_ok-names.names.items) (kinds_of c.in_ok-names.rest.now) c.in_ok-names.ensures in
    omega (arith, length-map c.in_ok-names.names.items identifier_text)
