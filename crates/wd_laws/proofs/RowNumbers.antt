-- ROW_NUMBER over a partition counts its members.
use Rattle.std.proofs.Common.{◌≡◌, ℕ, pos, ◌+◌, ◌<◌, true, List, length, get_or, sym, ◌∙◌, ap, arith, Ok}
use Rattle.std.proofs.lemmas.List.FromFn.{get_or-range_with_len, length-range_with_len}
use Rattle.wd_value.specs.Bags.{positions, EachOnce}
use Rattle.wd_value.specs.Rows.{Row, row_at}
use Rattle.wd_value.specs.declared.value.Value.TheVariants.{Int}
use Rattle.wd_plan.specs.declared.function.Function.TheVariants.{Ranking as Ranked}
use Rattle.wd_plan.specs.declared.function.Ranking.TheVariants.{RowNumber}
use Rattle.wd_plan.specs.Calls.{value_at}
use Rattle.wd_laws.specs.Laws.{RowNumbersCount}
use Rattle.wd_plan.specs.Partitions.{members, place_in}
use Rattle.wd_plan.specs.Plans.{ClassRule}
use Rattle.wd_plan.specs.Sorting.{same_partition}
use Rattle.wd_plan.proofs.Places.{place_member, same_members, filter_passes_at, same_shows}
use Rattle.wd_plan.proofs.Parts.{same_partition_is}

-- the place of each member is where it stands
own_place : (class : ClassRule) (rows : List Row) (ordering : List ℕ) (p i : ℕ) → EachOnce (length rows) ordering → i < length (members class rows ordering p) → let q = get_or (members class rows ordering p) i 0 in place_in (members class rows ordering q) q ≡ i
own_place class rows ordering p i once within =
    let part = members class rows ordering p in
    let q = get_or part i 0 in
    let passes : same_partition class (row_at rows p) (row_at rows q) ≡ true = filter_passes_at (λ q. same_partition class (row_at rows p) (row_at rows q)) ordering i 0 within in
    let same : members class rows ordering q ≡ part = same_members class rows ordering (row_at rows p) q (same_partition_is class (row_at rows p) (row_at rows q) passes) in
    ap (λ ps. place_in ps q) same ∙ place_member class rows ordering p i once within

pub row_numbers_count : RowNumbersCount
row_numbers_count class frame rows ordering p lawful =
    let part = members class rows ordering p in
    same_shows (value_at class frame (Ranked RowNumber) rows ordering) (λ i. Ok (Int (pos (i + 1)))) part (positions (length part)) 0 0 (sym (length-range_with_len 0 (length part)))
    (λ i within. ap (λ k. Ok (Int (pos (k + 1)))) (own_place class rows ordering p i lawful.once within ∙ sym (get_or-range_with_len 0 (length part) i 0 within ∙ omega arith)))
