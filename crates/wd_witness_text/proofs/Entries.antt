-- What holds of the tables of a map's entries, one after another.
use Rattle.std.proofs.Common.{◌≡◌, suc, ◌<◌, List, [], ◌∷◌, ◌++◌, map, length, All, Any, refl, sym, subst, arith}
use Rattle.std.proofs.lemmas.List.Elements.{All-nil, All-cons, All-head, All-tail}
use Rattle.wd_witness_text.proofs.Tables.{Entry}
use Rattle.wd_witness_text.specs.Witnesses.{TableRows, table_rows}

pub all_and_last : (P : TableRows → Type 0) (done : List Entry) (e : Entry) → All P (map table_rows done) → P (table_rows e) → All P (map table_rows (done ++ e ∷ []))
all_and_last P [] e all last = All-cons P (table_rows e) [] last (All-nil P)
all_and_last P (d ∷ done) e all last =
    All-cons P (table_rows d) (map table_rows (done ++ e ∷ [])) (All-head P (table_rows d) (map table_rows done) all) (all_and_last P done e (All-tail P (table_rows d) (map table_rows done) all) last)

any_middle : (P : TableRows → Type 0) (done : List Entry) (e : Entry) (left : List Entry) → P (table_rows e) → Any P (map table_rows (done ++ e ∷ left))
any_middle P [] e left h = (0, table_rows e, omega arith, refl, h)
any_middle P (d ∷ done) e left h =
    let r = any_middle P done e left h in
    let within : suc r.0 < length (map table_rows (d ∷ done ++ e ∷ left)) = let h = r.2 in omega arith in
    (suc r.0, r.1, within, r.3, r.4)

pub any_at : (P : TableRows → Type 0) (es done : List Entry) (e : Entry) (left : List Entry) → es ≡ done ++ e ∷ left → P (table_rows e) → Any P (map table_rows es)
any_at P es done e left parts h = subst (λ xs. Any P (map table_rows xs)) (sym parts) (any_middle P done e left h)
