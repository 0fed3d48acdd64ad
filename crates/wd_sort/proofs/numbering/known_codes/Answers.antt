use Rattle.std.proofs.Common.{◌≡◌, ◌∙◌, map, get_or, length, rules, arith}
use Rattle.wd_value.specs.Rows.{column_of, row_at}
use Rattle.wd_sort.specs.Known.{AreKnown, AreNumbers}
use Rattle.wd_sort.specs.Ranks.{AreRanks}
use Rattle.wd_sort.proofs.Codings.{coding_of_ranks}
use Rattle.wd_sort.proofs.numbering.known_codes.Goals as goal

pub returns : goal.returns
returns c =
    let rows = c.args.rows.now in
    let given = c.args.positions.now in
    let known = c.numbers_of.new.known in
    let ranks = c.in_ok-ranks.ranks.items in
    let numbers = c.in_ok-numbers.numbers.items in
    let are : AreNumbers known c.args.column.column rows given numbers = search rules in
    let all : AreKnown known = search rules in
    let ranked : AreRanks c.args.column.key known.values.items ranks = search rules in
    let codes : c.replace_numbers-codes.result.items ≡ map (λ n. get_or ranks n 0) numbers = c.replace_numbers-codes.ensures ∙ (λ t. map (λ n. get_or (c.deref-2.ensures.value t) n 0) numbers) in
    let bound : c.len-bound.result ≡ length ranks = search rules in
    coding_of_ranks rows given c.args.column known numbers ranks c.replace_numbers-codes.result.items c.len-bound.result all are ranked codes bound

pub replace_numbers-codes-requires : goal.replace_numbers-codes-requires
replace_numbers-codes-requires c = λ k low.
    (let known = c.numbers_of.new.known in
    let numbers = c.in_ok-numbers.numbers.items in
    let are : AreNumbers known c.args.column.column c.args.rows.now c.args.positions.now numbers = c.in_ok-numbers.ensures.numbers in
    let ranked : AreRanks c.args.column.key known.values.items c.in_ok-ranks.ranks.items = search rules in
    let there : c.deref-2.result.now ≡ c.in_ok-ranks.ranks.items = search rules in
    let long = are.long in
    let at = c.in_ok-numbers.ensures.known (column_of (row_at c.args.rows.now (get_or c.args.positions.now k 0)) c.args.column.column) (get_or numbers k 0) (are.each k (omega arith)) in
    let low' = at.0 in
    let long' = ranked.long in
    rw there (omega arith))
