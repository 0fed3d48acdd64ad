-- Positions at which rows are taken out of a list.
use Rattle.std.proofs.Common.{◌≡◌, ℕ, ◌+◌, ◌<◌, List, get_or, sym, ap, ◌∙◌, arith}
use Rattle.std.proofs.lemmas.List.{get_or_default}
use Rattle.wd_value.specs.Bags.{EachOnce}
use Rattle.wd_plan.specs.Partitions.{place_in}
use Rattle.wd_partition.proofs.Marks.{below_once, own_place}
use Rattle.wd_steps.specs.Cuts.{IsSliceOf}
use Rattle.wd_column_store.specs.Moves.{AreDifferent, AreWithin}

-- in a list that has each position once, also in a part of it
pub different : (n : ℕ) (ordering part : List ℕ) → EachOnce n ordering → IsSliceOf ordering part → AreDifferent part
different n ordering part once p = λ i j before within same. (
    let fits = p.within in
    let here = own_place n ordering (p.start + i) once (omega arith) in
    let there = own_place n ordering (p.start + j) once (omega arith) in
    let equal : get_or ordering (p.start + i) 0 ≡ get_or ordering (p.start + j) 0 = sym (p.each i (omega arith)) ∙ same ∙ p.each j within in
    let no : p.start + i ≡ p.start + j = sym here ∙ ap (place_in ordering) equal ∙ there in
    omega arith)

-- and each position in such a part is one of a row
pub within : (n : ℕ) (ordering part : List ℕ) → EachOnce n ordering → IsSliceOf ordering part → AreWithin n part
within n ordering part once p = λ k d low. (
    let fits = p.within in
    let below : get_or ordering (p.start + k) 0 < n = below_once n ordering (p.start + k) once (omega arith) in
    rw (get_or_default part k d 0 low, p.each k low) below)
