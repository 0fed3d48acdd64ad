-- The records that a reader has taken are the first of the text.
use Rattle.std.proofs.Common.{Bor, ◌≡◌, ◌≢◌, ◌∙◌, ℕ, zero, suc, ◌+◌, ◌-◌, ◌<◌, ◌≤◌, ◌==◌, ◌⊎◌, Bool, true, false, List, [], ◌∷◌, ◌++◌, get_or, length, length-append, Option, Some, None, refl, sym, ap, arith, inl, inr, IfSome}
use Rattle.std.specs.Prelude.{if◌then◌else◌}
use Rattle.std.specs.Bool.{MatchBool}
use Rattle.std.proofs.lemmas.Bool.{false≢true}
use Rattle.std.proofs.lemmas.List.{append-nil, get_or_at}
use Rattle.csv.specs.declared.parser.Config.{Config}
use Rattle.csv.specs.Machine.{Read, after_end, carriage_return, line_feed, ends_at_end, ends_with, is_end, next_record, step, start_record, start_field, in_field, fields_after, field_after}
use Rattle.csv.specs.Reading.{ExplainsRead, Reached, ReadRecord, ReadsNext, Ready, NextIs, TookRecord, default_config, is_flexible, pending_of, records, records_from, source_of, strip_bom}
use Rattle.csv.specs.Records.{AllText}
use Rattle.csv.specs.declared.error.ErrorKind.{ErrorKind}
use Rattle.csv.specs.declared.error.ErrorKind.TheVariants as kind
use Rattle.csv.specs.declared.reader.Reader.{Reader}
use Rattle.csv.specs.declared.reader.Trim.TheVariants as trim
use Rattle.wd_tables.specs.Data.{header_of, record_at, records_of}
use Rattle.wd_tables.specs.Reading.{HasRead, IsRecord, RefusesRead, length_after, refusal_of}
use Rattle.wd_tables.specs.declared.error.DataError.TheVariants.{Malformed}
use Rattle.csv.specs.declared.parser.Action.{Action}
use Rattle.csv.specs.declared.parser.Action.TheVariants as act
use Rattle.csv.specs.declared.parser.Terminator.TheVariants as term
use Rattle.csv.specs.declared.parser.State.{State}
use Rattle.csv.specs.declared.parser.State.TheVariants as st
use Rattle.csv.proofs.ReadFacts.{rows-end, rows-more}

-- ---- a record ends between two records

abbrev EndsBetween : State × Action → Type 0
EndsBetween r = is_end r.1 ≡ true → ends_at_end r.0 ≡ false

either : (b : Bool) (x y : State × Action) → EndsBetween x → EndsBetween y → EndsBetween (if b then x else y)
either true x y p q = p
either false x y p q = q

goes_on : (s : State) → EndsBetween (s, act.Copy)
goes_on s h = absurd (false≢true h)

skips : (s : State) → EndsBetween (s, act.Skip)
skips s h = absurd (false≢true h)

ends_field : (s : State) → EndsBetween (s, act.EndField)
ends_field s h = absurd (false≢true h)

after_line : (b : Bool) → ends_at_end (if b then st.AfterCr else st.StartRecord) ≡ false
after_line true = refl
after_line false = refl

in_field-between : (c : ℕ) → EndsBetween (in_field default_config c)
in_field-between c =
    either (c == 44) _ _ (ends_field st.StartField)
    (either (ends_with term.CRLF c) (after_end term.CRLF c, act.EndRecord) (st.InField, act.Copy) (λ h. after_line (c == carriage_return)) (goes_on st.InField))

start_field-between : (c : ℕ) → EndsBetween (start_field default_config c)
start_field-between c = either (c == 34) (st.InQuoted, act.Skip) (in_field default_config c) (skips st.InQuoted) (in_field-between c)

start_record-between : (c : ℕ) → EndsBetween (start_record default_config c)
start_record-between c = either (ends_with term.CRLF c) (st.StartRecord, act.Skip) (start_field default_config c) (skips st.StartRecord) (start_field-between c)

step-between : (s : State) (c : ℕ) → EndsBetween (step default_config s c)
step-between st.StartRecord c = start_record-between c
step-between st.StartField c = start_field-between c
step-between st.InField c = in_field-between c
step-between st.InQuoted c = either (c == 34) (st.AfterQuote, act.Skip) (st.InQuoted, act.Copy) (skips st.AfterQuote) (goes_on st.InQuoted)
step-between st.InEscape c = goes_on st.InQuoted
step-between st.AfterQuote c = either (c == 34) (st.InQuoted, act.Copy) (in_field default_config c) (goes_on st.InQuoted) (in_field-between c)
step-between st.InComment c = either (c == line_feed) (st.StartRecord, act.Skip) (st.InComment, act.Skip) (skips st.StartRecord) (skips st.InComment)
step-between st.AfterCr c = either (c == line_feed) (st.StartRecord, act.Skip) (start_record default_config c) (skips st.StartRecord) (start_record-between c)

-- ---- a record takes bytes

-- a choice that gave a record gave the first, or the second gave it
chosen : (b : Bool) (v : Read) (o : Option Read) (p : Read) → (if b then Some v else o) ≡ Some p → ((b ≡ true) × (v ≡ p)) ⊎ (o ≡ Some p)
chosen true v o p e = inl (refl, cc e)
chosen false v o p e = inr e

-- a record read leaves no more bytes than there were, and ends between two records
no_longer : (s : State) (fields : List (List ℕ)) (field xs : List ℕ) (p : Read) → next_record default_config s fields field xs ≡ Some p → (length p.2 ≤ length xs) × (ends_at_end p.1 ≡ false)
unfolding next_record
no_longer s fields field [] p e =
    elim (chosen (ends_at_end s) (fields ++ (field ∷ []), st.StartRecord, []) None p e) [
      | inl (b, same) ↦ rw (← same) (omega arith, refl)
      | inr none ↦ absurd (cc none)
    ]
no_longer s fields field (c ∷ rest) p e =
    elim (chosen (is_end (step default_config s c).1) (fields_after (step default_config s c).1 fields field, (step default_config s c).0, rest) (next_record default_config (step default_config s c).0 (fields_after (step default_config s c).1 fields field) (field_after (step default_config s c).1 c field) rest) p e) [
      | inl (b, same) ↦ rw (← same) (omega arith, step-between s c b)
      | inr later ↦ let (fewer, ended) = no_longer (step default_config s c).0 (fields_after (step default_config s c).1 fields field) (field_after (step default_config s c).1 c field) rest p later in (omega arith, ended)
    ]

-- from between two records it takes a byte at least
shorter : (s : State) (xs : List ℕ) (p : Read) → ends_at_end s ≡ false → next_record default_config s [] [] xs ≡ Some p → length p.2 < length xs
unfolding next_record
shorter s [] p h e = absurd (cc (rw h at e))
shorter s (c ∷ rest) p h e =
    elim (chosen (is_end (step default_config s c).1) (fields_after (step default_config s c).1 [] [], (step default_config s c).0, rest) (next_record default_config (step default_config s c).0 (fields_after (step default_config s c).1 [] []) (field_after (step default_config s c).1 c []) rest) p e) [
      | inl (b, same) ↦ rw (← same) (omega arith)
      | inr later ↦ let (fewer, ended) = no_longer _ _ _ rest p later in omega arith
    ]

-- as many records as bytes at most
no_more : (s s2 : State) (xs ys : List ℕ) (rows : List (List (List ℕ))) → ends_at_end s ≡ false → Reached default_config s xs rows s2 ys → length rows + length ys ≤ length xs
unfolding Reached
no_more s s2 xs ys [] h r = rw r.1 (omega arith)
no_more s s2 xs ys (row ∷ rows) h (p, e, same, later) =
    let fewer = shorter s xs p h e in
    let rest = no_more p.1 s2 p.2 ys rows (no_longer s [] [] xs p e).1 later in
    omega arith

-- ---- the records of the text

records_reached : (n : ℕ) (s s2 : State) (xs ys : List ℕ) (rows : List (List (List ℕ))) → Reached default_config s xs rows s2 ys → records_from default_config (length rows + n) s xs ≡ rows ++ records_from default_config n s2 ys
unfolding Reached records_from
records_reached n s s2 xs ys [] r = rw (r.0, r.1) (ap (λ k. records_from default_config k s2 ys) (omega arith))
records_reached n s s2 xs ys (row ∷ rows) (p, e, same, later) =
    let count : length (row ∷ rows) + n ≡ suc (length rows + n) = omega arith in
    ap (λ k. records_from default_config k s xs) count ∙ rw (e, same, records_reached n p.1 s2 p.2 ys rows later) refl

-- what was reached is the first of the records
pub reached_first : (s2 : State) (xs ys : List ℕ) (rows : List (List (List ℕ))) → Reached default_config st.StartRecord xs rows s2 ys → (m : ℕ) × (records default_config xs ≡ rows ++ records_from default_config (suc m) s2 ys)
reached_first s2 xs ys rows r =
    let few = no_more st.StartRecord s2 xs ys rows refl r in
    let count : length xs + 1 ≡ length rows + suc (length xs - length rows) = omega arith in
    (length xs - length rows, ap (λ k. records_from default_config k st.StartRecord xs) count ∙ records_reached (suc (length xs - length rows)) st.StartRecord s2 xs ys rows r)

-- the record that comes next stands in the text after those that were reached
pub next_of : (s2 : State) (xs ys : List ℕ) (rows : List (List (List ℕ))) (p : Read) → Reached default_config st.StartRecord xs rows s2 ys → next_record default_config s2 [] [] ys ≡ Some p
    → (length rows < length (records default_config xs)) × (get_or (records default_config xs) (length rows) [] ≡ p.0)
unfolding records_from
next_of s2 xs ys rows p r e =
    let (m, all) = reached_first s2 xs ys rows r in
    let parted : records default_config xs ≡ rows ++ (p.0 ∷ records_from default_config m p.1 p.2) = rw e at all in
    rw parted (omega (arith, length-append rows (p.0 ∷ records_from default_config m p.1 p.2)), get_or_at rows p.0 (records_from default_config m p.1 p.2) [] (length rows) refl)

-- where none comes next, those are all
pub no_next : (s2 : State) (xs ys : List ℕ) (rows : List (List (List ℕ))) → Reached default_config st.StartRecord xs rows s2 ys → next_record default_config s2 [] [] ys ≡ None → length (records default_config xs) ≡ length rows
unfolding records_from
no_next s2 xs ys rows r e =
    let (m, all) = reached_first s2 xs ys rows r in
    let parted : records default_config xs ≡ rows ++ [] = rw e at all in
    rw (parted, append-nil rows) refl

-- a read that found a record took the next one
pub taken : (cfg : Config) (a b : State) (y : List ℕ) (f : List (List ℕ)) (k : Option (List ℕ)) → ReadsNext cfg a (Some y) k true f b → (p : Read) × (next_record cfg a [] [] y ≡ Some p) × (f ≡ p.0)
taken cfg a b y f None r = absurd r
taken cfg a b y f (Some z) r = found (next_record cfg a [] [] y) r
  where
    found : (o : Option Read) → NextIs o true f b z → (p : Read) × (o ≡ Some p) × (f ≡ p.0)
    found None n = cc n
    found (Some p) n = (p, refl, n.1)

-- ---- one read

abbrev bytes_left : Bor (List ℕ) → Option (List ℕ)
bytes_left s = Some s.now

lengths_agree : (text : List ℕ) (n : ℕ) (fields : List (List ℕ)) (old new : Option ℕ) → old ≡ length_after text n → record_at text n ≡ fields → IfSome old (λ e. new ≡ Some e) → new ≡ Some (length fields)
    → (length fields ≡ length (header_of text)) × (new ≡ length_after text (suc n))
lengths_agree text zero fields old new before same kept noted = (ap length (sym same), noted ∙ ap (λ f. Some (length f)) (sym same))
lengths_agree text (suc m) fields old new before same kept noted = agree (length fields) (length (header_of text)) noted (rw before at kept)
  where
    agree : (a b : ℕ) → new ≡ Some a → new ≡ Some b → (a ≡ b) × (new ≡ Some b)
    agree a b p q = (cc, q)

-- a read that found a record
pub found_next : (text : List ℕ) (n : ℕ) (old new : Reader (Bor (List ℕ))) (fields : List (List ℕ)) → HasRead text n old → ReadRecord bytes_left old new true fields → Ready new → is_flexible new ≡ is_flexible old → AllText fields
    → HasRead text (n + 1) new × IsRecord text n fields
found_next text n old new fields h r ready flexible encoded =
    let (z, source, reached) = rows-more bytes_left old new fields default_config st.StartRecord (strip_bom text) h.rest h.before h.config h.source h.reached r in
    let (p, next, is) = taken default_config old.state new.state h.rest fields (pending_of (bytes_left new.rdr) new) (rw (h.config, h.source) at r.0) in
    let (within, at) = next_of old.state (strip_bom text) h.rest h.before p h.reached next in
    let same : record_at text n ≡ fields = rw (← h.count) (at ∙ sym is) in
    let lengths = r.5 refl h.strict in
    let (even, expected) = lengths_agree text n fields old.expected new.expected h.expected same lengths.0 lengths.1 in
    let one : suc n ≡ n + 1 = omega arith in (
      record {
        config = r.2 ∙ h.config;
        trim = r.3 ∙ h.trim;
        strict = flexible ∙ h.strict;
        ready = ready;
        expected = expected ∙ ap (length_after text) one;
        before = h.before ++ (fields ∷ []);
        count = length-append h.before (fields ∷ []) ∙ rw h.count refl;
        rest = z;
        source = source;
        reached = reached;
      },
      record { within = rw (← h.count) within; same = same; encoded = encoded; even = even },
    )

-- a read that found none
pub found_none : (text : List ℕ) (n : ℕ) (old new : Reader (Bor (List ℕ))) (fields : List (List ℕ)) → HasRead text n old → ReadRecord bytes_left old new false fields → length (records_of text) ≡ n
found_none text n old new fields h r =
    let none = rows-end bytes_left old new fields default_config h.rest h.config h.source r in
    no_next old.state (strip_bom text) h.rest h.before h.reached none ∙ h.count

pub read_ended : (found : Bool) (text : List ℕ) (n : ℕ) (old new : Reader (Bor (List ℕ))) (fields : List (List ℕ)) → HasRead text n old → ReadRecord bytes_left old new found fields → Ready new → is_flexible new ≡ is_flexible old → AllText fields
    → MatchBool found (HasRead text (n + 1) new × IsRecord text n fields) (length (records_of text) ≡ n)
read_ended true text n old new fields h r ready flexible encoded = found_next text n old new fields h r ready flexible encoded
read_ended false text n old new fields h r ready flexible encoded = found_none text n old new fields h r

-- a record that the reader refused
refused_record : (text : List ℕ) (n : ℕ) (old new : Reader (Bor (List ℕ))) (fields : List (List ℕ)) → HasRead text n old → TookRecord bytes_left old new fields
    → ((length fields ≢ length (header_of text)) ⊎ ¬ (AllText fields)) → RefusesRead text n Malformed
refused_record text n old new fields h r wrong =
    let (p, next, is) = taken default_config old.state new.state h.rest fields (pending_of (bytes_left new.rdr) new) (rw (h.config, h.source) at r) in
    let (within, at) = next_of old.state (strip_bom text) h.rest h.before p h.reached next in
    let same : record_at text n ≡ fields = rw (← h.count) (at ∙ sym is) in
    (rw (← h.count) within, λ formed. elim wrong [ inl differ ↦ differ (ap length (sym same) ∙ formed.1) | inr bad ↦ bad (rw (← same) formed.0) ])

header_length : (text : List ℕ) (n expected : ℕ) → Some expected ≡ length_after text n → expected ≡ length (header_of text)
header_length text zero expected e = absurd (cc e)
header_length text (suc m) expected e = inside expected (length (header_of text)) e
  where
    inside : (a b : ℕ) → Some a ≡ Some b → a ≡ b
    inside a b e = cc

-- a read that failed
pub failed_read : (text : List ℕ) (n : ℕ) (old new : Reader (Bor (List ℕ))) (why : ErrorKind) → HasRead text n old → ExplainsRead bytes_left old new true why → RefusesRead text n (refusal_of why)
failed_read text n old new (kind.UnequalLengths pos expected len) h (strict, expects, differ, fields, took, has) =
    refused_record text n old new fields h took (inl (λ even. differ (header_length text n expected (sym expects ∙ h.expected) ∙ sym even ∙ has)))
failed_read text n old new (kind.Utf8 pos err) h (t, fields, took, bad) = refused_record text n old new fields h took (inr bad)
failed_read text n old new (kind.Io err) h e = tt
failed_read text n old new kind.OutOfMemory h e = tt
failed_read text n old new (kind.Serialize s) h e = absurd e
failed_read text n old new (kind.Deserialize pos err) h e = absurd e

-- a reader that was just made has read no record
pub fresh : (text : List ℕ) (reader : Reader (Bor (List ℕ))) → reader.config ≡ default_config → reader.trim ≡ trim.None → reader.flexible ≡ false → reader.has_headers ≡ false → reader.headers ≡ None → reader.expected ≡ None → reader.state ≡ st.StartRecord
    → source_of bytes_left reader ≡ Some (strip_bom text) → HasRead text 0 reader
unfolding Reached
fresh text reader config trim strict headers none expected state source = record {
  config = config;
  trim = trim;
  strict = strict;
  ready = inr (inr (headers, none));
  expected = expected;
  before = [];
  count = refl;
  rest = strip_bom text;
  source = source;
  reached = (sym state, refl);
}
