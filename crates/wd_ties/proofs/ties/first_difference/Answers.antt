use Rattle.std.proofs.Common.{◌≡◌, ◌<◌, ◌∙◌, ℕ, List, Vec, [], arith, ap, get_or, length, sym}
use Rattle.std.proofs.lemmas.List.{get_or-map, length-map, take_more_same}
use Rattle.std.proofs.lemmas.Option.{slice_get_past}
use Rattle.std.specs.declared.alloc.Global.{Global}
use Rattle.wd_witness_text.specs.Witnesses.{positions_of}
use Rattle.wd_ties.proofs.ties.first_difference.Goals as goal

items_at : (choice : List (Vec ℕ Global)) (n : ℕ) (o : Vec ℕ Global) → n < length choice → o ≡ get_or choice n o → get_or (positions_of choice) n [] ≡ o.items
items_at choice n o h is = get_or-map (λ (x : Vec ℕ Global). x.items) choice n o [] h ∙ ap (λ (x : Vec ℕ Global). x.items) (sym is)

count : (choice : List (Vec ℕ Global)) → length (positions_of choice) ≡ length choice
count choice = length-map choice (λ (x : Vec ℕ Global). x.items)

pub loop-number-preserved : goal.loop-number-preserved
loop-number-preserved c =
    let n = c.loop-number.number in
    let first = c.args.first.now in
    let second = c.args.second.now in
    let kept = c.loop-number.invariant in
    let e = count first in
    let d = count second in
    let same = c.is_same.ensures.0 c.if-not-is_same.false in (
      take_more_same (positions_of first) (positions_of second) n [] (omega arith) (omega arith) kept.0
          (items_at first n c.index-first-number.result (omega arith) c.index-first-number.is ∙ sym c.deref.ensures.value ∙ same ∙ c.deref-in-loop-number.ensures.value ∙ sym (items_at second n c.index-second-number.result (omega arith) c.index-second-number.is)),
      omega arith,
      omega arith,
    )

pub returns-else-number-second : goal.returns-else-number-second
returns-else-number-second c =
    let d = count c.args.second.now in
    record { alike = c.loop-number.invariant.0; differ = λ e. e ∙ slice_get_past (positions_of c.args.second.now) c.loop-number.number (omega arith) }

pub returns-after-loop-number : goal.returns-after-loop-number
returns-after-loop-number c =
    let d = count c.args.first.now in
    record { alike = c.loop-number.invariant.0; differ = λ e. slice_get_past (positions_of c.args.first.now) c.loop-number.number (omega arith) }
