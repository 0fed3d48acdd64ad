-- A witness's members by their slots.
use Rattle.std.proofs.Common.{◌≡◌, ◌≢◌, ℕ, List, codes, Bool, true, false, Option, Some, None, refl, sym, ap, subst, ◌∙◌}
use Rattle.std.specs.Option.{option_flatten, option_zip}
use Rattle.serde_json.specs.Data.{Data, object, Members, no_members, member, put}
use Rattle.serde_json.specs.Find.{get_member}
use Rattle.serde_json.proofs.Views.{get_member-put, get_member-put_other}
use Rattle.wd_json_tokens.specs.Forms.{IsForm}
use Rattle.wd_json_tokens.specs.Pairs.{with_member, ComesBefore, slot_seen}
use Rattle.wd_json_tokens.proofs.Held.{goes_first, put_here, put_past, not_found, same_members}
use Rattle.wd_witness_text.specs.Json.{choice_json, tables_json, witness_json}
use Rattle.wd_witness_text.specs.Reading.{IsFitting, TablesFit, members_found, HasOther, HoldsWitness}
use Rattle.wd_witness_text.specs.Witnesses.{TableRows, WitnessRecord, AllFit64}

some_not_none : (d : Data) → Some d ≡ None → ⊥
some_not_none d e = cc

abbrev pick : {A : Type 0} → A → Option A → A
pick d None = d
pick d (Some a) = a

some_same : {A : Type 0} {a b : A} → Some a ≡ Some b → a ≡ b
some_same {a = a} e = ap (pick a) e

-- ---- the order of the names

first_second : ComesBefore (codes "first") (codes "second")
first_second = refl

first_tables : ComesBefore (codes "first") (codes "tables")
first_tables = refl

second_tables : ComesBefore (codes "second") (codes "tables")
second_tables = refl

module _ (a b c : Option Data) (x : Data) where
  at_first : put (codes "first") x (members_found a b c) ≡ members_found (Some x) b c
  at_first = put_here (codes "first") x a _ (goes_first (codes "first") (codes "second") x b _ first_second (goes_first (codes "first") (codes "tables") x c no_members first_tables refl))

  at_second : put (codes "second") x (members_found a b c) ≡ members_found a (Some x) c
  at_second =
      put_past (codes "first") (codes "second") x a _ first_second
      ∙ ap (with_member (codes "first") a) (put_here (codes "second") x b _ (goes_first (codes "second") (codes "tables") x c no_members second_tables refl))

  at_tables : put (codes "tables") x (members_found a b c) ≡ members_found a b (Some x)
  at_tables =
      put_past (codes "first") (codes "tables") x a _ first_tables
      ∙ ap (with_member (codes "first") a) (put_past (codes "second") (codes "tables") x b _ second_tables ∙ ap (with_member (codes "second") b) (put_here (codes "tables") x c no_members refl))

-- ---- a name that is no witness's

kept_other : (name : List ℕ) (d : Data) (ms : Members) → ((k : List ℕ) → k ≢ codes "first" → k ≢ codes "second" → k ≢ codes "tables" → k ≢ name) → HasOther ms → HasOther (put name d ms)
kept_other name d ms named h = (h.0, h.1, get_member-put_other h.0 name d ms (named h.0 h.3 h.4 h.5) ∙ h.2, h.3, h.4, h.5)

module _ (first second : Option (Option (List (List ℕ)))) (tables : Option (Option (List TableRows))) where
  pub put_first : (other : Bool) (x : Option (List (List ℕ))) (d : Data) (ms : Members) → IsForm choice_json x d → HoldsWitness first second tables other ms → HoldsWitness (Some x) second tables other (put (codes "first") d ms)
  put_first true x d ms is h = kept_other (codes "first") d ms (λ k p q r. p) h
  put_first false x d ms is h = (Some d, h.1, h.2, (d, refl, is), h.4, h.5, ap (put (codes "first") d) h.6 ∙ at_first h.0 h.1 h.2 d)

  pub put_second : (other : Bool) (x : Option (List (List ℕ))) (d : Data) (ms : Members) → IsForm choice_json x d → HoldsWitness first second tables other ms → HoldsWitness first (Some x) tables other (put (codes "second") d ms)
  put_second true x d ms is h = kept_other (codes "second") d ms (λ k p q r. q) h
  put_second false x d ms is h = (h.0, Some d, h.2, h.3, (d, refl, is), h.5, ap (put (codes "second") d) h.6 ∙ at_second h.0 h.1 h.2 d)

  pub put_tables : (other : Bool) (x : Option (List TableRows)) (d : Data) (ms : Members) → IsFitting tables_json TablesFit x d → HoldsWitness first second tables other ms → HoldsWitness first second (Some x) other (put (codes "tables") d ms)
  put_tables true x d ms is h = kept_other (codes "tables") d ms (λ k p q r. r) h
  put_tables false x d ms is h = (h.0, h.1, Some d, h.3, h.4, (d, refl, is), ap (put (codes "tables") d) h.6 ∙ at_tables h.0 h.1 h.2 d)

  pub put_other : (name : List ℕ) (d : Data) (ms : Members) → name ≢ codes "first" → name ≢ codes "second" → name ≢ codes "tables" → HoldsWitness first second tables true (put name d ms)
  put_other name d ms p q r = (name, d, get_member-put name d ms, p, q, r)

  pub other_no_witness : (ms : Members) → HoldsWitness first second tables true ms → (w : WitnessRecord) → AllFit64 w → object ms ≢ witness_json w
  other_no_witness ms h w fit e =
      let same = same_members ms _ e in
      let last = member (codes "tables") (tables_json w.tables) no_members in
      let none : get_member h.0 ms ≡ None =
      ap (get_member h.0) same ∙ not_found h.0 (codes "first") (choice_json w.first) (member (codes "second") (choice_json w.second) last) h.3 ∙ not_found h.0 (codes "second") (choice_json w.second) last h.4
      ∙ not_found h.0 (codes "tables") (tables_json w.tables) no_members h.5 in
      some_not_none h.1 (sym h.2 ∙ none)

pub is_witness : (xs ys : List (List ℕ)) (ts : List TableRows) (ms : Members) → HoldsWitness (Some (Some xs)) (Some (Some ys)) (Some (Some ts)) false ms
    → (object ms ≡ witness_json (record { tables = ts; first = xs; second = ys })) × TablesFit ts
is_witness xs ys ts ms h = (
  ap object
      (h.6 ∙ ap (λ a. members_found a h.1 h.2) (h.3.1 ∙ ap Some h.3.2) ∙ ap (λ b. members_found (Some (choice_json xs)) b h.2) (h.4.1 ∙ ap Some h.4.2)
      ∙ ap (λ c. members_found (Some (choice_json xs)) (Some (choice_json ys)) c) (h.5.1 ∙ ap Some h.5.2.0)),
  h.5.2.1,
)

-- ---- the slots' values, all or not

module _ {X Z : Type 0} (p : X → List (List ℕ)) (t : Z → List TableRows) where
  abbrev pub all_slots : Option (Option X) → Option (Option X) → Option (Option Z) → Option ((X × X) × Z)
  all_slots a b c = option_zip (option_zip (option_flatten a) (option_flatten b)) (option_flatten c)

  pub all_read : (a b : Option (Option X)) (c : Option (Option Z)) (x y : X) (z : Z) (ms : Members) → all_slots a b c ≡ Some ((x, y), z) → HoldsWitness (slot_seen p a) (slot_seen p b) (slot_seen t c) false ms
      → (object ms ≡ witness_json (record { tables = t z; first = p x; second = p y })) × TablesFit (t z)
  all_read None b c x y z ms some h = absurd (cc)
  all_read (Some None) b c x y z ms some h = absurd (cc)
  all_read (Some (Some x')) None c x y z ms some h = absurd (cc)
  all_read (Some (Some x')) (Some None) c x y z ms some h = absurd (cc)
  all_read (Some (Some x')) (Some (Some y')) None x y z ms some h = absurd (cc)
  all_read (Some (Some x')) (Some (Some y')) (Some None) x y z ms some h = absurd (cc)
  all_read (Some (Some x')) (Some (Some y')) (Some (Some z')) x y z ms some h =
      let same = some_same some in
      let read = is_witness (p x') (p y') (t z') ms h in
      (read.0 ∙ ap (λ v. witness_json (record { tables = t v.1; first = p v.0.0; second = p v.0.1 })) same, subst (λ v. TablesFit (t v.1)) same read.1)
