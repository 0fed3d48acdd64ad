-- Tables put into a map by their names, one after another.
use Rattle.std.proofs.Common.{◌≡◌, ◌≢◌, ℕ, zero, suc, ◌+◌, ◌<◌, ◌≤◌, Bool, true, false, cond, All, List, [], ◌∷◌, ◌++◌, map, take, length, get_or, String, Vec, Global, Ordering, Less, Equal, Greater, string_bytes, string_cmp, find, Option, Some, refl, sym, ◌∙◌, ap, subst, arith, inl, inr, ◌⊎◌}
use Rattle.std.proofs.lemmas.Bool.{false≢true}
use Rattle.std.proofs.lemmas.List.{get_or-take, get_or_default, get_or_push, length-append, length-map, length-take, take-take}
use Rattle.std.proofs.Math.ListN.{get_or-map}
use Rattle.std.proofs.Math.Seq.{take-append_seam}
use Rattle.std.proofs.lemmas.List.Elements.{All-cons, All-head, All-tail, All-nil}
use Rattle.std.proofs.lemmas.Map.Text.{is_eq-slice_cmp}
use Rattle.std.proofs.lemmas.Option.{slice_get-get_or}
use Rattle.std.proofs.lemmas.Slice.Eq.{bytes_eq-Decides}
use Rattle.std.specs.BTreeMap.{insert_entry}
use Rattle.std.specs.FinMap.{nat_cmp-IsAntisymmetric, slice_cmp-IsAntisymmetric}
use Rattle.std.specs.Ordering.{is_eq}
use Rattle.std.specs.Str.{bytes_eq}
use Rattle.wd_value.specs.Rows.{Instance, instance_of, rows_of, table_at}
use Rattle.wd_value.specs.declared.value.Value.{Value}
use Rattle.wd_schema.specs.Tables.{TableRule}
use Rattle.wd_facts.specs.Given.{table_rule}
use Rattle.wd_witness_text.specs.Witnesses.{TableRows, table_rows}
use Rattle.wd_candidates.specs.Outlines.{scanned_in}
use Rattle.wd_candidates.specs.declared.outline.Outline.{Outline}
use Rattle.wd_seek.specs.Witnesses.{HasScannedRows, IsScannedName, IsScannedTable, NamesDiffer}

abbrev pub Rows : Type 0
Rows = Vec (Vec Value Global) Global

abbrev Entry : Type 0
Entry = String Global × Rows

abbrev pub found_in : List ℕ → List TableRows → Option TableRows
found_in name named = find (λ t. bytes_eq name t.name) named

same_key : (k q : String Global) → string_cmp k q ≡ Equal → string_bytes k ≡ string_bytes q
same_key k q e = slice_cmp-IsAntisymmetric nat_cmp-IsAntisymmetric (string_bytes k) (string_bytes q) e

self_key : (k q : String Global) → string_bytes k ≡ string_bytes q → bytes_eq (string_bytes k) (string_bytes q) ≡ true
self_key k q e = (bytes_eq-Decides (string_bytes k) (string_bytes q)).1 e

-- a map in which a key was put, searched by a name
module _ (name : List ℕ) (k : String Global) (v : Rows) where
  abbrev after : Option TableRows → Option TableRows
  after o = cond (bytes_eq name (string_bytes k)) (Some (table_rows (k, v))) o

  replaced : (q : String Global) (o : Option TableRows) (w : TableRows) → string_bytes k ≡ string_bytes q → (b : Bool) → bytes_eq name (string_bytes q) ≡ b
      → cond b (Some (record { name = string_bytes q; rows = rows_of v.items })) o ≡ cond (bytes_eq name (string_bytes k)) (Some (table_rows (k, v))) (cond b (Some w) o)
  replaced q o w e true h = rw (ap (bytes_eq name) e ∙ h) (ap (λ n. Some (record { name = n; rows = rows_of v.items })) (sym e))
  replaced q o w e false h = rw (ap (bytes_eq name) e ∙ h) refl

  kept : (q : String Global) (o : Option TableRows) (w : TableRows) → (string_bytes k ≡ string_bytes q → ⊥) → (b d : Bool) → bytes_eq name (string_bytes q) ≡ b → bytes_eq name (string_bytes k) ≡ d
      → cond b (Some w) (cond d (Some (table_rows (k, v))) o) ≡ cond d (Some (table_rows (k, v))) (cond b (Some w) o)
  kept q o w apart true true h g = absurd (apart (sym ((bytes_eq-Decides name (string_bytes k)).0 g) ∙ (bytes_eq-Decides name (string_bytes q)).0 h))
  kept q o w apart true false h g = refl
  kept q o w apart false true h g = refl
  kept q o w apart false false h g = refl

  apart_of : (q : String Global) → string_cmp k q ≡ Greater → string_bytes k ≡ string_bytes q → ⊥
  apart_of q e same = false≢true (sym (ap is_eq e) ∙ is_eq-slice_cmp (string_bytes k) (string_bytes q) ∙ self_key k q same)

  pub found_after : (es : List Entry) → found_in name (map table_rows (insert_entry string_cmp es k v)) ≡ after (found_in name (map table_rows es))
  found_after [] = refl
  found_after (e ∷ es) = by (found_after es) (string_cmp k e.0) refl
    where
      by : found_in name (map table_rows (insert_entry string_cmp es k v)) ≡ after (found_in name (map table_rows es)) → (o : Ordering) → string_cmp k e.0 ≡ o → found_in name (map table_rows (insert_entry string_cmp (e ∷ es) k v)) ≡ after (found_in name (map table_rows (e ∷ es)))
      by later Less h = rw h refl
      by later Equal h = rw h (replaced e.0 (found_in name (map table_rows es)) (table_rows e) (same_key k e.0 h) (bytes_eq name (string_bytes e.0)) refl)
      by later Greater h = rw h (ap (λ o. cond (bytes_eq name (string_bytes e.0)) (Some (table_rows e)) o) later ∙ kept e.0 (found_in name (map table_rows es)) (table_rows e) (apart_of e.0 h) (bytes_eq name (string_bytes e.0)) (bytes_eq name (string_bytes k)) refl refl)

-- what holds of all tables and of the one that was put
module _ (P : TableRows → Type 0) (k : String Global) (v : Rows) (last : P (table_rows (k, v))) where
  pub all_after : (es : List Entry) → All P (map table_rows es) → All P (map table_rows (insert_entry string_cmp es k v))
  all_after [] h = All-cons P (table_rows (k, v)) [] last h
  all_after (e ∷ es) h = by (all_after es (All-tail P (table_rows e) (map table_rows es) h)) (string_cmp k e.0) refl
    where
      rest : All P (map table_rows es)
      rest = All-tail P (table_rows e) (map table_rows es) h

      by : All P (map table_rows (insert_entry string_cmp es k v)) → (o : Ordering) → string_cmp k e.0 ≡ o → All P (map table_rows (insert_entry string_cmp (e ∷ es) k v))
      by later Less g = rw g (All-cons P (table_rows (k, v)) (map table_rows (e ∷ es)) last h)
      by later Equal g = rw g (All-cons P (table_rows (e.0, v)) (map table_rows es) (subst (λ n. P (record { name = n; rows = rows_of v.items })) (same_key k e.0 g) last) rest)
      by later Greater g = rw g (All-cons P (table_rows e) (map table_rows (insert_entry string_cmp es k v)) (All-head P (table_rows e) (map table_rows es) h) later)

-- ---- the tables from a number on

pub record HasScannedFrom (tables : List TableRule) (outline : Outline) (instance : Instance) (from : ℕ) (named : List TableRows) : Type 0 where
  pub each : All (IsScannedTable tables outline instance) named
  pub found : (table : ℕ) → from ≤ table → table < length tables → scanned_in outline table ≡ true
      → found_in (table_rule tables table).name named ≡ Some (record { name = (table_rule tables table).name; rows = table_at instance table })

at_or_above : (n t : ℕ) → n ≤ t → (t ≡ n) ⊎ (n + 1 ≤ t)
at_or_above zero zero h = inl refl
at_or_above zero (suc t) h = inr (omega arith)
at_or_above (suc n) zero h = absurd (omega arith)
at_or_above (suc n) (suc t) h = by (at_or_above n t (omega (arith, h)))
  where
    by : (t ≡ n) ⊎ (n + 1 ≤ t) → (suc t ≡ suc n) ⊎ (suc n + 1 ≤ suc t)
    by (inl e) = inl (λ i. suc (e i))
    by (inr l) = inr (omega arith)

pub rule_at : (tables : List TableRule) (t : ℕ) (d : TableRule) → t < length tables → get_or tables t d ≡ table_rule tables t
rule_at tables t d w = rw (slice_get-get_or tables t d w) refl

pub other_name : (a b : List ℕ) → a ≢ b → bytes_eq b a ≡ false
other_name a b apart = by (bytes_eq b a) refl
  where
    by : (t : Bool) → bytes_eq b a ≡ t → bytes_eq b a ≡ false
    by true h = absurd (apart (sym ((bytes_eq-Decides b a).0 h)))
    by false h = h

module _ (tables : List TableRule) (outline : Outline) (instance : Instance) where
  pub none_yet : (from : ℕ) → length tables ≤ from → HasScannedFrom tables outline instance from []
  none_yet from h = record { each = All-nil (IsScannedTable tables outline instance); found = λ t l w. absurd (omega (arith, l, w, h)) }

  pub one_more : NamesDiffer tables → (n : ℕ) (es : List Entry) (k : String Global) (v : Rows) → HasScannedFrom tables outline instance (n + 1) (map table_rows es) → IsScannedName tables outline n (string_bytes k)
      → rows_of v.items ≡ table_at instance n → HasScannedFrom tables outline instance n (map table_rows (insert_entry string_cmp es k v))
  one_more differ n es k v before name rows = record {
    each = all_after (IsScannedTable tables outline instance) k v (record { table = n; name = name; rows = rows }) es before.each;
    found = λ t l w s. found_after (table_rule tables t).name k v es ∙ by t w s (at_or_above n t l);
  }
    where
      by : (t : ℕ) → t < length tables → scanned_in outline t ≡ true → (t ≡ n) ⊎ (n + 1 ≤ t)
          → after (table_rule tables t).name k v (found_in (table_rule tables t).name (map table_rows es)) ≡ Some (record { name = (table_rule tables t).name; rows = table_at instance t })
      by t w s (inl e) =
          let same : (table_rule tables t).name ≡ string_bytes k = ap (λ t. (table_rule tables t).name) e ∙ name.is in
          rw ((bytes_eq-Decides (table_rule tables t).name (string_bytes k)).1 same)
          (λ i. Some (record { name = sym same i; rows = (rows ∙ ap (table_at instance) (sym e)) i }))
      by t w s (inr above) =
          let d = table_rule tables t in
          let apart = λ (e : string_bytes k ≡ d.name). differ n t d (omega (arith, above)) w (ap (λ (r : TableRule). r.name) (rule_at tables n d name.within) ∙ name.is ∙ e ∙ sym (ap (λ (r : TableRule). r.name) (rule_at tables t d w))) in
          rw (other_name (string_bytes k) (table_rule tables t).name apart) (before.found t above w s)

  pub none_more : (n : ℕ) (named : List TableRows) → (n < length tables → scanned_in outline n ≡ false) → HasScannedFrom tables outline instance (n + 1) named → HasScannedFrom tables outline instance n named
  none_more n named other before = record {
    each = before.each;
    found = λ t l w s. by t w s (at_or_above n t l);
  }
    where
      by : (t : ℕ) → t < length tables → scanned_in outline t ≡ true → (t ≡ n) ⊎ (n + 1 ≤ t) → found_in (table_rule tables t).name named ≡ Some (record { name = (table_rule tables t).name; rows = table_at instance t })
      by t w s (inl e) = absurd (false≢true (sym (other (subst (λ m. m < length tables) e w)) ∙ ap (scanned_in outline) (sym e) ∙ s))
      by t w s (inr above) = before.found t above w s

  pub all_there : (named : List TableRows) → HasScannedFrom tables outline instance 0 named → HasScannedRows tables outline instance named
  all_there named h = record { each = h.each; found = λ t w s. h.found t (omega arith) w s }

-- ---- the last element taken off

pub popped_length : {X : Type 0} (old new : List X) (x : X) → old ≡ new ++ x ∷ [] → length old ≡ length new + 1
popped_length old new x e = ap length e ∙ length-append new (x ∷ [])

pub popped : {X : Type 0} (all old new : List X) (x : X) → old ≡ new ++ x ∷ [] → old ≡ take (length old) all → new ≡ take (length new) all
popped all old new x e is =
    let longer = popped_length old new x e in
    sym (take-append_seam new (x ∷ [])) ∙ ap (take (length new)) (sym e ∙ is) ∙ take-take (length new) (length old) all (omega (arith, longer))

pub popped_rows : (all old new : List Rows) (v : Rows) → old ≡ new ++ v ∷ [] → old ≡ take (length old) all → rows_of v.items ≡ table_at (instance_of all) (length new)
popped_rows all old new v e is =
    let longer = popped_length old new v e in
    let last : get_or all (length new) v ≡ v = sym (get_or-take (length old) all (length new) v (omega (arith, longer))) ∙ ap (λ l. get_or l (length new) v) (sym is ∙ e) ∙ get_or_push new v v (length new) refl in
    let cut = ap length is ∙ length-take (length old) all in
    let within : length new < length all = omega (arith, longer, cut) in
    sym (ap (λ r. rows_of r.items) last) ∙ sym (get_or-map (λ r. rows_of r.items) all (length new) v) ∙ get_or_default (instance_of all) (length new) (rows_of v.items) [] (subst (λ n. length new < n) (sym (length-map all (λ r. rows_of r.items))) within)
