use Rattle.std.proofs.Common.{◌≡◌, ◌<◌, length, sym, subst, rules}
use Rattle.std.specs.Prelude.{All}
use Rattle.std.proofs.lemmas.List.Sorted.{All-permutation}
use Rattle.wd_sort.specs.AllCodes.{AreCodesOfAll}
use Rattle.wd_sort.specs.Sorting.{IsStableSortOf, compare_rows_at}
use Rattle.wd_sort.proofs.TwoSorts.{two_sorts_are_one}
use Rattle.wd_partition.specs.Columns.{given_positions}
use Rattle.wd_partition.specs.Steps.{AreSteps, compare_codes}
use Rattle.wd_partition.proofs.Coding.{AreSteps-alike, within_given}
use Rattle.wd_partition.proofs.ordering.coded_index.Goals as goal

pub sort_by_coding-requires-clause-within : goal.sort_by_coding-requires-clause-within
sort_by_coding-requires-clause-within c =
    let rows = c.args.rows.now in
    let codes : AreCodesOfAll c.args.keys.now rows c.in-Some-2.within.bound c.in-Some-2.within.codes.items = search rules in
    let given : c.deref.result.now ≡ given_positions c.args.turn (length rows) = search rules in
    let long : length rows ≡ length c.in-Some-2.within.codes.items = sym codes.long in
    subst (λ l. All (λ p. p < length c.in-Some-2.within.codes.items) l) (sym given) (subst (λ n. All (λ p. p < n) (given_positions c.args.turn (length rows))) long (within_given c.args.turn (length rows)))

pub sort_by_coding-requires-2-clause-within : goal.sort_by_coding-requires-2-clause-within
sort_by_coding-requires-2-clause-within c =
    let rows = c.args.rows.now in
    let keys : AreCodesOfAll c.args.keys.now rows c.in-Some-2.within.bound c.in-Some-2.within.codes.items = search rules in
    let codes : AreCodesOfAll c.args.by_partition.now rows c.in-Some.partitions.bound c.in-Some.partitions.codes.items = search rules in
    let given : c.deref.result.now ≡ given_positions c.args.turn (length rows) = search rules in
    let sorted : c.deref-2.result.now ≡ c.in_ok-sorted.sorted.items = search rules in
    let long : length rows ≡ length c.in-Some.partitions.codes.items = sym codes.long in
    let sort : IsStableSortOf c.args.keys.now rows c.deref.result.now c.in_ok-sorted.sorted.items = c.in_ok-sorted.ensures c.args.keys.now rows keys in
    let start = subst (λ n. All (λ p. p < n) (given_positions c.args.turn (length rows))) long (within_given c.args.turn (length rows)) in
    subst (λ l. All (λ p. p < length c.in-Some.partitions.codes.items) l) (sym sorted)
    (All-permutation (λ p. p < length c.in-Some.partitions.codes.items) c.deref.result.now c.in_ok-sorted.sorted.items sort.rearranged
    (subst (λ l. All (λ p. p < length c.in-Some.partitions.codes.items) l) (sym given) start))

pub returns-in-Some-3-clause-stable : goal.returns-in-Some-3-clause-stable
returns-in-Some-3-clause-stable c =
    let rows = c.args.rows.now in
    let keys : AreCodesOfAll c.args.keys.now rows c.in-Some-2.within.bound c.in-Some-2.within.codes.items = search rules in
    let codes : AreCodesOfAll c.args.by_partition.now rows c.in-Some.partitions.bound c.in-Some.partitions.codes.items = search rules in
    let given : c.deref.result.now ≡ given_positions c.args.turn (length rows) = search rules in
    let sorted : c.deref-2.result.now ≡ c.in_ok-sorted.sorted.items = search rules in
    let first : IsStableSortOf c.args.keys.now rows c.deref.result.now c.in_ok-sorted.sorted.items = c.in_ok-sorted.ensures c.args.keys.now rows keys in
    let second : IsStableSortOf c.args.by_partition.now rows c.deref-2.result.now c.in_ok-positions.positions.items = c.in_ok-positions.ensures c.args.by_partition.now rows codes in
    two_sorts_are_one c.args.by_partition.now c.args.keys.now rows (given_positions c.args.turn (length rows)) c.in_ok-sorted.sorted.items c.in_ok-positions.positions.items
    (subst (λ l. IsStableSortOf c.args.keys.now rows l c.in_ok-sorted.sorted.items) given first)
    (subst (λ l. IsStableSortOf c.args.by_partition.now rows l c.in_ok-positions.positions.items) sorted second)

pub returns-in-Some-3-clause-steps : goal.returns-in-Some-3-clause-steps
returns-in-Some-3-clause-steps c =
    let rows = c.args.rows.now in
    let n = length rows in
    let order = c.in_ok-positions.positions.items in
    let keys : AreCodesOfAll c.args.keys.now rows c.in-Some-2.within.bound c.in-Some-2.within.codes.items = search rules in
    let codes : AreCodesOfAll c.args.by_partition.now rows c.in-Some.partitions.bound c.in-Some.partitions.codes.items = search rules in
    let given : c.deref.result.now ≡ given_positions c.args.turn (length rows) = search rules in
    let sorted : c.deref-2.result.now ≡ c.in_ok-sorted.sorted.items = search rules in
    let first : IsStableSortOf c.args.keys.now rows c.deref.result.now c.in_ok-sorted.sorted.items = c.in_ok-sorted.ensures c.args.keys.now rows keys in
    let second : IsStableSortOf c.args.by_partition.now rows c.deref-2.result.now order = c.in_ok-positions.ensures c.args.by_partition.now rows codes in
    let start : All (λ p. p < n) (given_positions c.args.turn (length rows)) = within_given c.args.turn (length rows) in
    let mid : All (λ p. p < n) c.in_ok-sorted.sorted.items = All-permutation (λ p. p < n) c.deref.result.now c.in_ok-sorted.sorted.items first.rearranged (subst (λ l. All (λ p. p < n) l) (sym given) start) in
    let end : All (λ p. p < n) order = All-permutation (λ p. p < n) c.deref-2.result.now order second.rearranged (subst (λ l. All (λ p. p < n) l) (sym sorted) mid) in
    let found : AreSteps (compare_codes c.deref-3.result.now) (compare_codes c.deref-4.result.now) c.deref-5.result.now c.in-Some-3.steps.items = search rules in
    let by_partition : c.deref-3.result.now ≡ c.in-Some.partitions.codes.items = search rules in
    let by_keys : c.deref-4.result.now ≡ c.in-Some-2.within.codes.items = search rules in
    let list : c.deref-5.result.now ≡ order = search rules in
    AreSteps-alike (compare_codes c.in-Some.partitions.codes.items) (compare_codes c.in-Some-2.within.codes.items) (compare_rows_at c.args.by_partition.now rows) (compare_rows_at c.args.keys.now rows) n order codes.alike keys.alike end c.in-Some-3.steps.items
    (subst (λ l. AreSteps (compare_codes c.in-Some.partitions.codes.items) (compare_codes c.in-Some-2.within.codes.items) l c.in-Some-3.steps.items) list
    (subst (λ l. AreSteps (compare_codes c.in-Some.partitions.codes.items) (compare_codes l) c.deref-5.result.now c.in-Some-3.steps.items) by_keys
    (subst (λ l. AreSteps (compare_codes l) (compare_codes c.deref-4.result.now) c.deref-5.result.now c.in-Some-3.steps.items) by_partition found)))
