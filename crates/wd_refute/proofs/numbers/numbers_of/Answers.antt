use Rattle.std.proofs.Common.{◌≡◌, ◌∙◌, ◌<◌, None, [], length, rules, sym}
use Rattle.std.specs.Prelude.{IsSome}
use Rattle.std.proofs.lemmas.Bool.{false≢true}
use Rattle.std.proofs.lemmas.List.Elements.{All-get_or}
use Rattle.wd_value.specs.Rows.{row_at}
use Rattle.wd_refute.specs.Numbers.{number_of}
use Rattle.wd_refute.proofs.numbers.numbers_of.Goals as goal

pub returns-in-None-clause-none : goal.returns-in-None-clause-none
returns-in-None-clause-none c have =
    let rows = c.args.rows.now in
    let i = c.loop-i.i in
    let low : i < length rows = search rules in
    let one : IsSome (number_of c.args.places.now (row_at rows i)) = All-get_or (λ row. IsSome (number_of c.args.places.now row)) rows i [] low have in
    let none : number_of c.args.places.now (row_at rows i) ≡ None = sym c.number_of.ensures ∙ c.in-None.is in
    absurd (false≢true (rw none at one))
