use Rattle.std.proofs.Common.{◌≡◌, [], ◌∷◌, length, rules, sym, subst}
use Rattle.wd_sort.specs.Known.{AreKnown, AreNumbers}
use Rattle.wd_sort.specs.Numbers.{AreNumbersBy}
use Rattle.wd_sort.proofs.Telling.{AreNumbersBy-known}
use Rattle.wd_sort.proofs.apart.known_numbers.Goals as goal

pub returns : goal.returns
returns c =
    let rows = c.args.rows.now in
    let column = c.args.column in
    let known = c.numbers_of.new.known in
    let numbers = c.in_ok-codes.codes.items in
    let all : AreKnown known = c.in_ok-codes.ensures.known in
    let are : AreNumbers known column rows c.args.all.now numbers = c.in_ok-codes.ensures.numbers in
    let bound : c.len-bound.result ≡ length known.values.items = search rules in
    subst (λ n. AreNumbersBy (column ∷ []) rows n numbers) (sym bound)
    (AreNumbersBy-known column rows known all numbers (subst (λ ps. AreNumbers known column rows ps numbers) c.requires.all are))
