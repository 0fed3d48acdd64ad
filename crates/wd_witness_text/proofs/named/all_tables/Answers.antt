use Rattle.std.proofs.Common.{◌≡◌, ◌∷◌, ◌++◌, None, map, sym, ap, ◌∙◌, subst, append-nil}
use Rattle.std.specs.List.Sorted.{IsStrictlySortedBy}
use Rattle.std.specs.Map.{keys_of}
use Rattle.std.specs.String.{string_cmp}
use Rattle.serde_json.specs.Data.{object}
use Rattle.wd_witness_text.specs.Reading.{FoundTable, HoldsTables}
use Rattle.wd_witness_text.proofs.Found.{given, given_more, insert_last, are_tables, are_no_tables}
use Rattle.wd_witness_text.proofs.Tables.{Entry}
use Rattle.wd_witness_text.proofs.named.all_tables.Goals as goal

pub loop-name-init : goal.loop-name-init
loop-name-init c = sym (ap (λ es. map given es ++ c.into_iter-name-iterator.result) c.new-tables.ensures.empty ∙ c.into_iter-name-iterator.ensures.into_iter_gives.0)

pub loop-name-preserved : goal.loop-name-preserved
loop-name-preserved c =
    let l = c.loop-name in
    let done = l.tables.entries in
    let e : Entry = (c.in-Some.name, c.in-Some-rows.rows) in
    let left = c.next.new.self in
    let first : FoundTable = (c.in-Some.name, c.in-Some.rows) in
    let is : first ≡ given e = ap (λ rows. (c.in-Some.name, rows)) c.in-Some-rows.is in
    let all : c.args.found.tables.entries ≡ map given done ++ given e ∷ left = l.invariant ∙ ap (λ es. map given done ++ es) c.in-Some.ensures.steps ∙ ap (λ f. map given done ++ f ∷ left) is in
    let sorted = subst (λ es. IsStrictlySortedBy string_cmp (keys_of es)) all c.into_iter-name-iterator.ensures.into_iter_gives.5 in
    let inserted = c.in_ok-insert-in-Some-rows.ensures.entries ∙ insert_last done e left sorted in
    all ∙ given_more done e left ∙ ap (λ es. map given es ++ left) (sym inserted)

pub returns-in-None-rows-clause-ok : goal.returns-in-None-rows-clause-ok
returns-in-None-rows-clause-ok c =
    let l = c.loop-name in
    let done = l.tables.entries in
    let left = c.next.new.self in
    let none : FoundTable = (c.in-Some.name, None) in
    let first : FoundTable = (c.in-Some.name, c.in-Some.rows) in
    let is : first ≡ none = ap (λ rows. (c.in-Some.name, rows)) c.in-None-rows.is in
    let all : c.args.found.tables.entries ≡ map given done ++ none ∷ left = l.invariant ∙ ap (λ es. map given done ++ es) c.in-Some.ensures.steps ∙ ap (λ f. map given done ++ f ∷ left) is in
    λ ms h. are_no_tables done c.in-Some.name left ms (subst (λ es. HoldsTables es ms) all h)

pub returns-clause-ok : goal.returns-clause-ok
returns-clause-ok c =
    let l = c.loop-name in
    let all : c.args.found.tables.entries ≡ map given l.tables.entries = l.invariant ∙ ap (λ es. map given l.tables.entries ++ es) c.in-None.ensures.steps.0 ∙ append-nil (map given l.tables.entries) in
    λ ms h. let read = are_tables l.tables.entries ms (subst (λ es. HoldsTables es ms) all h) in (ap object read.0, read.1)
