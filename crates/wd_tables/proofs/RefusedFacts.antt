-- The first refused field of a record, column by column.
use Rattle.std.proofs.Common.{◌≡◌, ◌∙◌, ℕ, ◌+◌, ◌<◌, Bool, true, false, List, get_or, length, Option, Some, None, refl, ap, arith, inl, inr}
use Rattle.std.specs.Prelude.{All, Any, nat_le, if◌then◌else◌, ⊤}
use Rattle.std.proofs.lemmas.Bool.{cases_lt, leb-false, leb-true}
use Rattle.std.proofs.lemmas.List.{get_or_default}
use Rattle.wd_schema.specs.declared.table.Column.{Column}
use Rattle.wd_tables.specs.Data.{field_under, field_place}
use Rattle.wd_tables.specs.Refusals.{HasNull, IsRefusedIn, LacksValue, RefusesField, RefusesRecord}
use Rattle.wd_tables.specs.Refused.{leftmost}
use Rattle.wd_tables.specs.declared.error.DataError.{DataError}
use Rattle.wd_tables.specs.declared.error.DataError.TheVariants.{Header, Value as NoValue, Null as NullValue, Key, Malformed, TooManyRecords, OutOfMemory}
use Rattle.wd_tables.specs.declared.row.Refused.{Refused}

module _ (columns : List Column) (header fields : List (List ℕ)) (number : ℕ) where
  -- a column at this place of the header is refused so
  abbrev pub RefusesPlace : ℕ → DataError → Type 0
  RefusesPlace place (NoValue m) = (m ≡ number) × Any (λ column. (field_place header column.name ≡ place) × LacksValue header fields column) columns
  RefusesPlace place (NullValue m) = (m ≡ number) × Any (λ column. (field_place header column.name ≡ place) × HasNull header fields column) columns
  RefusesPlace place OutOfMemory = ⊤
  RefusesPlace place Header = ⊥
  RefusesPlace place (Key m) = ⊥
  RefusesPlace place Malformed = ⊥
  RefusesPlace place TooManyRecords = ⊥

  -- none of the first n columns is refused that has such a place
  abbrev pub NoneOf : (ℕ → Type 0) → ℕ → Type 0
  NoneOf P n = (k : ℕ) (d : Column) → k < n → P (field_place header (get_or columns k d).name) → ¬ (IsRefusedIn header fields (get_or columns k d))

  -- what is known of the first refused field of the first n columns
  abbrev pub IsFirstOf : ℕ → Option Refused → Type 0
  IsFirstOf n None = NoneOf (λ place. ⊤) n
  IsFirstOf n (Some first) = RefusesPlace first.place first.refusal × NoneOf (λ place. place < first.place) n

  -- one column more that has no such place, or is not refused
  more : (P : ℕ → Type 0) (n : ℕ) (column : Column) → n < length columns → get_or columns n column ≡ column → NoneOf P n → (P (field_place header column.name) → ¬ (IsRefusedIn header fields column)) → NoneOf P (n + 1)
  more P n column within is none here k d lt =
      elim (cases_lt k n) [
        | inl before ↦ none k d before
        | inr after ↦
            let last : k ≡ n = omega arith in
            let same : get_or columns k d ≡ column = ap (λ i. get_or columns i d) last ∙ get_or_default columns n d column within ∙ is in
            rw same here
      ]

  -- a column that is not refused
  pub passed_more : (n : ℕ) (column : Column) (first : Option Refused) → n < length columns → get_or columns n column ≡ column → ¬ (IsRefusedIn header fields column) → IsFirstOf n first → IsFirstOf (n + 1) first
  passed_more n column None within is passes h = more (λ place. ⊤) n column within is h (λ t. passes)
  passed_more n column (Some first) within is passes h = (h.0, more (λ place. place < first.place) n column within is h.1 (λ lt. passes))

  refuses_here : (n : ℕ) (column : Column) (e : DataError) → n < length columns → get_or columns n column ≡ column → RefusesField column (field_under header fields column.name) number e → RefusesPlace (field_place header column.name) e
  refuses_here n column (NoValue m) within is h = (h.0, (n, column, within, is, (refl, h.1)))
  refuses_here n column (NullValue m) within is h = (h.0, (n, column, within, is, (refl, (h.1, h.2))))
  refuses_here n column OutOfMemory within is h = tt
  refuses_here n column Header within is h = absurd h
  refuses_here n column (Key m) within is h = absurd h
  refuses_here n column Malformed within is h = absurd h
  refuses_here n column TooManyRecords within is h = absurd h

  -- a column that is refused
  pub refused_more : (n : ℕ) (column : Column) (first : Option Refused) (other : Refused) → n < length columns → get_or columns n column ≡ column → other.place ≡ field_place header column.name
      → RefusesField column (field_under header fields column.name) number other.refusal → IsFirstOf n first → IsFirstOf (n + 1) (Some (leftmost first other))
  refused_more n column None other within is at why h =
      (rw at (refuses_here n column other.refusal within is why), more (λ place. place < other.place) n column within is (λ k d lt below. h k d lt tt) (λ below. absurd (omega arith)))
  refused_more n column (Some first) other within is at why h = by (nat_le first.place other.place) refl
    where
      by : (b : Bool) → nat_le first.place other.place ≡ b → IsFirstOf (n + 1) (Some (if b then first else other))
      by true e = let before = leb-true first.place other.place e in (h.0, more (λ place. place < first.place) n column within is h.1 (λ below. absurd (omega arith)))
      by false e =
          let after = leb-false first.place other.place e in
          (rw at (refuses_here n column other.refusal within is why), more (λ place. place < other.place) n column within is (λ k d lt below. h.1 k d lt (omega arith)) (λ below. absurd (omega arith)))

  -- all columns: the record is refused for that field
  pub refuses_record : (first : Refused) → IsFirstOf (length columns) (Some first) → RefusesRecord columns header fields number first.refusal
  refuses_record first h = by first.refusal h.0
    where
      by : (e : DataError) → RefusesPlace first.place e → RefusesRecord columns header fields number e
      by (NoValue m) (same, (k, column, within, is, (at, lacks))) = (same, (k, column, within, is, (lacks, λ i d lt below. h.1 i d lt (rw at at below))))
      by (NullValue m) (same, (k, column, within, is, (at, null))) = (same, (k, column, within, is, (null, λ i d lt below. h.1 i d lt (rw at at below))))
      by OutOfMemory w = tt
      by Header w = absurd w
      by (Key m) w = absurd w
      by Malformed w = absurd w
      by TooManyRecords w = absurd w

  -- a refused field is of a column that is refused, out of memory aside
  pub refuses_some : (column : Column) (n : ℕ) (e : DataError) → n < length columns → get_or columns n column ≡ column → All (λ column. ¬ (IsRefusedIn header fields column)) columns → RefusesField column (field_under header fields column.name) number e → RefusesRecord columns header fields number e
  refuses_some column n (NoValue m) within is none h = absurd (none n column within (rw is (inl h.1)))
  refuses_some column n (NullValue m) within is none h = absurd (none n column within (rw is (inr (h.1, h.2))))
  refuses_some column n OutOfMemory within is none h = tt
  refuses_some column n Header within is none h = absurd h
  refuses_some column n (Key m) within is none h = absurd h
  refuses_some column n Malformed within is none h = absurd h
  refuses_some column n TooManyRecords within is none h = absurd h
