use Rattle.std.proofs.Common.{◌≡◌, All, [], ◌∷◌, ◌++◌, sym, ap, ◌∙◌, subst, append_assoc}
use Rattle.std.specs.List.Sorted.{IsStrictlySortedBy}
use Rattle.std.specs.Map.{keys_of}
use Rattle.std.specs.String.{string_cmp}
use Rattle.wd_value.specs.Rows.{rows_of}
use Rattle.wd_witness_text.specs.Witnesses.{Fits64}
use Rattle.wd_witness_text.proofs.Entries.{all_and_last}
use Rattle.wd_witness_text.proofs.Tables.{Entry, put_last_table}
use Rattle.wd_witness_text.proofs.write.json_of_tables.Goals as goal

pub loop-name-preserved : goal.loop-name-preserved
loop-name-preserved c =
    let l = c.loop-name in
    let done = l.invariant.0 in
    let e : Entry = (c.in-Some.name.now, c.in-Some.rows.now) in
    let left = c.next.new.self in
    let all : c.args.tables.now.entries ≡ done ++ e ∷ left = l.invariant.1 ∙ ap (λ es. done ++ es) c.in-Some.ensures.steps in
    let last = put_last_table done e left (subst (λ es. IsStrictlySortedBy string_cmp (keys_of es)) all c.iter-name-items.ensures.ordered) in (
      done ++ e ∷ [],
      all ∙ sym (append_assoc done (e ∷ []) left),
      c.in_ok-put.ensures.ok ∙ rw (c.as_str.ensures.value, c.in_ok-item.ensures.json, c.deref.ensures.value, l.invariant.2) last,
      all_and_last (λ t. All (All Fits64) t.rows) done e l.invariant.3 (subst (λ rows. All (All Fits64) (rows_of rows)) c.deref.ensures.value c.in_ok-item.ensures.fits),
    )
