-- A scan of a text for wide records follows the records of the text.
use Rattle.std.proofs.Common.{◌≡◌, ◌∙◌, ◌↔◌, ℕ, suc, ◌+◌, ◌<◌, ◌≤◌, ◌==◌, Bool, true, false, List, [], ◌∷◌, ◌++◌, length, length-append, append_assoc, Option, Some, None, refl, sym, ap, arith, IfSome, IsUtf8}
use Rattle.std.specs.Prelude.{◌&&◌, drop, if◌then◌else◌, nat_eq}
use Rattle.std.specs.List.{starts_with}
use Rattle.std.proofs.lemmas.Bool.Decides.{Decides-eqb}
use Rattle.std.proofs.lemmas.Slice.Eq.{starts_is}
use Rattle.std.proofs.lemmas.Bool.{and_parts, false≢true}
use Rattle.csv.specs.Machine.{Read, after_end, ends_at_end, ends_with, field_after, fields_after, in_field, is_end, next_record, start_field, step}
use Rattle.csv.specs.Reading.{Reached, default_config, is_bom, strip_bom}
use Rattle.csv.specs.Records.{AllText}
use Rattle.csv.specs.declared.parser.Action.{Action}
use Rattle.csv.specs.declared.parser.Action.TheVariants as act
use Rattle.csv.specs.declared.parser.State.{State}
use Rattle.csv.specs.declared.parser.State.TheVariants as st
use Rattle.csv.specs.declared.parser.Terminator.TheVariants as term
use Rattle.csv.proofs.ReadFacts.{reached-more}
use Rattle.wd_schema.specs.declared.table.Column.{Column}
use Rattle.wd_tables.specs.Data.{NamesEachOnce, header_of, records_of}
use Rattle.wd_tables.specs.Reading.{IsMalformedAt}
use Rattle.wd_tables.specs.Wide.{IsStep, IsWide, state_at}
use Rattle.wd_tables.specs.declared.wide.Effect.TheVariants.{Passes, JoinsField, EndsField, EndsRecord}
use Rattle.wd_tables.specs.declared.wide.Place.{Place}
use Rattle.wd_tables.specs.declared.wide.Place.TheVariants.{RecordStart, FieldStart}
use Rattle.wd_tables.proofs.ReadingFacts.{next_of, no_next}

-- ---- a byte order mark

abbrev mark : List ℕ
mark = 0xEF ∷ 0xBB ∷ 0xBF ∷ []

pub with_mark : (text : List ℕ) → starts_with nat_eq text mark ≡ true → drop 3 text ≡ strip_bom text
unfolding strip_bom
with_mark text e =
    let is = (starts_is Decides-eqb text mark (starts_with nat_eq text mark) refl).0 e in
    sym (ap strip_bom is)

pub no_mark : (text : List ℕ) → starts_with nat_eq text mark ≡ false → text ≡ strip_bom text
unfolding strip_bom
no_mark [] e = refl
no_mark (a ∷ []) e = refl
no_mark (a ∷ b ∷ []) e = refl
no_mark (a ∷ b ∷ c ∷ rest) e = by (is_bom a b c) refl
  where
    by : (m : Bool) → is_bom a b c ≡ m → a ∷ b ∷ c ∷ rest ≡ strip_bom (a ∷ b ∷ c ∷ rest)
    by true m =
        let (both, third) = and_parts ((a == 0xEF) && (b == 0xBB)) (c == 0xBF) m in
        let (first, second) = and_parts (a == 0xEF) (b == 0xBB) both in
        let same : a ∷ b ∷ c ∷ rest ≡ mark ++ rest = rw (eq_of first, eq_of second, eq_of third) refl in
        absurd (false≢true (sym e ∙ (starts_is Decides-eqb (a ∷ b ∷ c ∷ rest) mark (starts_with nat_eq (a ∷ b ∷ c ∷ rest) mark) refl).1 rest same))
      where
        eq_of : {x y : ℕ} → (x == y) ≡ true → x ≡ y
        eq_of {x} {y} e = grind arith
    by false m = rw m refl

-- ---- one byte

-- a byte that does not end the record
more : (s next : State) (a : Action) (fields : List (List ℕ)) (field : List ℕ) (c : ℕ) (rest : List ℕ) → next ≡ (step default_config s c).0 → a ≡ (step default_config s c).1 → is_end a ≡ false
    → next_record default_config s fields field (c ∷ rest) ≡ next_record default_config next (fields_after a fields field) (field_after a c field) rest
unfolding next_record
more s next a fields field c rest p q n = rw (p, q, rw q at n) refl

-- a byte that ends it
ended : (s next : State) (a : Action) (fields : List (List ℕ)) (field : List ℕ) (c : ℕ) (rest : List ℕ) → next ≡ (step default_config s c).0 → a ≡ (step default_config s c).1 → is_end a ≡ true
    → next_record default_config s fields field (c ∷ rest) ≡ Some (fields_after a fields field, next, rest)
unfolding next_record
ended s next a fields field c rest p q n = rw (p, q, rw q at n) refl

-- ---- within a record

-- a state in which some field of a record is open, whatever comes
abbrev is_within : State → Bool
is_within st.StartRecord = false
is_within st.StartField = true
is_within st.InField = true
is_within st.InQuoted = true
is_within st.AfterQuote = true
is_within st.InEscape = true
is_within st.InComment = false
is_within st.AfterCr = false

abbrev StaysWithin : State × Action → Type 0
StaysWithin r = is_end r.1 ≡ false → is_within r.0 ≡ true

either : (b : Bool) (x y : State × Action) → StaysWithin x → StaysWithin y → StaysWithin (if b then x else y)
either true x y p q = p
either false x y p q = q

in_field-within : (c : ℕ) → StaysWithin (in_field default_config c)
in_field-within c =
    either (c == 44) _ _ (λ h. refl) (either (ends_with term.CRLF c) (after_end term.CRLF c, act.EndRecord) (st.InField, act.Copy) (λ h. absurd (false≢true (sym h))) (λ h. refl))

start_field-within : (c : ℕ) → StaysWithin (start_field default_config c)
start_field-within c = either (c == 34) (st.InQuoted, act.Skip) (in_field default_config c) (λ h. refl) (in_field-within c)

step-within : (s : State) (c : ℕ) → is_within s ≡ true → StaysWithin (step default_config s c)
step-within st.StartRecord c w = absurd (false≢true w)
step-within st.StartField c w = start_field-within c
step-within st.InField c w = in_field-within c
step-within st.InQuoted c w = either (c == 34) (st.AfterQuote, act.Skip) (st.InQuoted, act.Copy) (λ h. refl) (λ h. refl)
step-within st.InEscape c w = λ h. refl
step-within st.AfterQuote c w = either (c == 34) (st.InQuoted, act.Copy) (in_field default_config c) (λ h. refl) (in_field-within c)
step-within st.InComment c w = absurd (false≢true w)
step-within st.AfterCr c w = absurd (false≢true w)

ends_within : (s : State) → is_within s ≡ true → ends_at_end s ≡ true
ends_within st.StartRecord w = absurd (false≢true w)
ends_within st.StartField w = refl
ends_within st.InField w = refl
ends_within st.InQuoted w = refl
ends_within st.AfterQuote w = refl
ends_within st.InEscape w = refl
ends_within st.InComment w = absurd (false≢true w)
ends_within st.AfterCr w = absurd (false≢true w)

-- a record that begins with these fields, and has more
abbrev BeginsWith : List (List ℕ) → Option Read → Type 0
BeginsWith fields o = (p : Read) × (o ≡ Some p) × (first : List ℕ) × (others : List (List ℕ)) × (p.0 ≡ fields ++ (first ∷ others))

after_action : (a : Action) (fields : List (List ℕ)) (field : List ℕ) (o : Option Read) → BeginsWith (fields_after a fields field) o → BeginsWith fields o
after_action act.Skip fields field o h = h
after_action act.Copy fields field o h = h
after_action act.EndField fields field o (p, is, first, others, same) = (p, is, field, first ∷ others, same ∙ append_assoc fields (field ∷ []) (first ∷ others))
after_action act.EndRecord fields field o (p, is, first, others, same) = (p, is, field, first ∷ others, same ∙ append_assoc fields (field ∷ []) (first ∷ others))

last_action : (a : Action) (fields : List (List ℕ)) (field : List ℕ) (s : State) (rest : List ℕ) → is_end a ≡ true → BeginsWith fields (Some (fields_after a fields field, s, rest))
last_action act.Skip fields field s rest e = absurd (false≢true e)
last_action act.Copy fields field s rest e = absurd (false≢true e)
last_action act.EndField fields field s rest e = absurd (false≢true e)
last_action act.EndRecord fields field s rest e = (_, refl, field, [], refl)

-- within a record there is one, which begins with the fields so far
pub begins : (s : State) (fields : List (List ℕ)) (field xs : List ℕ) → is_within s ≡ true → BeginsWith fields (next_record default_config s fields field xs)
unfolding next_record
begins s fields field [] w = rw (ends_within s w) (_, refl, field, [], refl)
begins s fields field (c ∷ rest) w = by (is_end (step default_config s c).1) refl (λ within. begins (step default_config s c).0 _ _ rest within)
  where
    by : (b : Bool) → is_end (step default_config s c).1 ≡ b
        → (is_within (step default_config s c).0 ≡ true → BeginsWith (fields_after (step default_config s c).1 fields field) (next_record default_config (step default_config s c).0 (fields_after (step default_config s c).1 fields field) (field_after (step default_config s c).1 c field) rest))
        → BeginsWith fields (next_record default_config s fields field (c ∷ rest))
    by true e later = rw e (last_action (step default_config s c).1 fields field (step default_config s c).0 rest e)
    by false e later = rw e (after_action (step default_config s c).1 fields field _ (later (step-within s c w e)))

-- ---- the scan for a wide record

-- so many records are passed, and so many fields of the next have ended
pub record IsAt (text : List ℕ) (number ended : ℕ) (place : Place) (left : List ℕ) : Type 0 where
  pub before : List (List (List ℕ))
  pub state : State
  pub rest : List ℕ
  pub reached : Reached default_config st.StartRecord (strip_bom text) before state rest
  pub count : length before ≡ number
  pub fields : List (List ℕ)
  pub field : List ℕ
  pub many : length fields ≡ ended
  pub same : next_record default_config state [] [] rest ≡ next_record default_config (state_at place) fields field left

pub starts : (text : List ℕ) → IsAt text 0 0 RecordStart (strip_bom text)
unfolding Reached
starts text = record { before = []; state = st.StartRecord; rest = strip_bom text; reached = (refl, refl); count = refl; fields = []; field = []; many = refl; same = refl }

pub passes : (text : List ℕ) (n e : ℕ) (place next : Place) (c : ℕ) (left : List ℕ) → IsAt text n e place (c ∷ left) → IsStep place c next Passes → IsAt text n e next left
passes text n e place next c left h step = record {
  before = h.before;
  state = h.state;
  rest = h.rest;
  reached = h.reached;
  count = h.count;
  fields = h.fields;
  field = h.field;
  many = h.many;
  same = h.same ∙ more (state_at place) (state_at next) act.Skip h.fields h.field c left step.0 step.1 refl;
}

pub joins : (text : List ℕ) (n e : ℕ) (place next : Place) (c : ℕ) (left : List ℕ) → IsAt text n e place (c ∷ left) → IsStep place c next JoinsField → IsAt text n e next left
joins text n e place next c left h step = record {
  before = h.before;
  state = h.state;
  rest = h.rest;
  reached = h.reached;
  count = h.count;
  fields = h.fields;
  field = h.field ++ (c ∷ []);
  many = h.many;
  same = h.same ∙ more (state_at place) (state_at next) act.Copy h.fields h.field c left step.0 step.1 refl;
}

pub ends_field : (text : List ℕ) (n e : ℕ) (place next : Place) (c : ℕ) (left : List ℕ) → IsAt text n e place (c ∷ left) → IsStep place c next EndsField → IsAt text n (e + 1) next left
ends_field text n e place next c left h step = record {
  before = h.before;
  state = h.state;
  rest = h.rest;
  reached = h.reached;
  count = h.count;
  fields = h.fields ++ (h.field ∷ []);
  field = [];
  many = length-append h.fields (h.field ∷ []) ∙ rw h.many refl;
  same = h.same ∙ more (state_at place) (state_at next) act.EndField h.fields h.field c left step.0 step.1 refl;
}

pub ends_record : (text : List ℕ) (n e : ℕ) (place next : Place) (c : ℕ) (left : List ℕ) → IsAt text n e place (c ∷ left) → IsStep place c next EndsRecord → IsAt text (n + 1) 0 next left
ends_record text n e place next c left h step =
    let is = h.same ∙ ended (state_at place) (state_at next) act.EndRecord h.fields h.field c left step.0 step.1 refl in
    record {
      before = h.before ++ ((h.fields ++ (h.field ∷ [])) ∷ []);
      state = state_at next;
      rest = left;
      reached = reached-more default_config st.StartRecord h.state (strip_bom text) h.rest h.before (h.fields ++ (h.field ∷ []), state_at next, left) h.reached is;
      count = length-append h.before _ ∙ rw h.count refl;
      fields = [];
      field = [];
      many = refl;
      same = refl;
    }

-- a field that is open makes one more
pub wide : (text : List ℕ) (n e most : ℕ) (left : List ℕ) → IsAt text n e FieldStart left → most ≤ e → IsWide text most n
wide text n e most left h enough =
    let (p, is, first, others, fields) = begins st.StartField h.fields h.field left refl in
    let (within, at) = next_of h.state (strip_bom text) h.rest h.before p h.reached (h.same ∙ is) in
    let long : length p.0 ≡ length h.fields + suc (length others) = ap length fields ∙ length-append h.fields (first ∷ others) in
    (rw (← h.count) within, rw (← h.count, at) (omega (arith, h.many)))

-- ---- the fields of the first record

-- the fields that have ended are text
pub record IsIn (text : List ℕ) (place : Place) (field left : List ℕ) : Type 0 where
  pub fields : List (List ℕ)
  pub encoded : AllText fields
  pub same : next_record default_config st.StartRecord [] [] (strip_bom text) ≡ next_record default_config (state_at place) fields field left

pub header_starts : (text : List ℕ) → IsIn text RecordStart [] (strip_bom text)
unfolding AllText
header_starts text = record { fields = []; encoded = tt; same = refl }

pub header_passes : (text : List ℕ) (place next : Place) (field : List ℕ) (c : ℕ) (left : List ℕ) → IsIn text place field (c ∷ left) → IsStep place c next Passes → IsIn text next field left
header_passes text place next field c left h step = record { fields = h.fields; encoded = h.encoded; same = h.same ∙ more (state_at place) (state_at next) act.Skip h.fields field c left step.0 step.1 refl }

pub header_joins : (text : List ℕ) (place next : Place) (field : List ℕ) (c : ℕ) (left : List ℕ) → IsIn text place field (c ∷ left) → IsStep place c next JoinsField → IsIn text next (field ++ (c ∷ [])) left
header_joins text place next field c left h step = record { fields = h.fields; encoded = h.encoded; same = h.same ∙ more (state_at place) (state_at next) act.Copy h.fields field c left step.0 step.1 refl }

all_text : (a : List (List ℕ)) (f : List ℕ) (b : List (List ℕ)) → AllText (a ++ (f ∷ b)) → IsUtf8 f
unfolding AllText
all_text [] f b h = h.0
all_text (x ∷ a) f b h = all_text a f b h.1

one_more : (a : List (List ℕ)) (f : List ℕ) → AllText a → IsUtf8 f → AllText (a ++ (f ∷ []))
unfolding AllText
one_more [] f h t = (t, tt)
one_more (x ∷ a) f h t = (h.0, one_more a f h.1 t)

pub header_ends_field : (text : List ℕ) (place next : Place) (field : List ℕ) (c : ℕ) (left : List ℕ) → IsIn text place field (c ∷ left) → IsStep place c next EndsField → IsUtf8 field → IsIn text next [] left
header_ends_field text place next field c left h step encoded = record {
  fields = h.fields ++ (field ∷ []);
  encoded = one_more h.fields field h.encoded encoded;
  same = h.same ∙ more (state_at place) (state_at next) act.EndField h.fields field c left step.0 step.1 refl;
}

-- the first record of the text
is_header : (text : List ℕ) (p : Read) → next_record default_config st.StartRecord [] [] (strip_bom text) ≡ Some p → header_of text ≡ p.0
unfolding Reached
is_header text p e = (next_of st.StartRecord (strip_bom text) (strip_bom text) [] p (refl, refl) e).1

-- a field of it that is no text
pub header_spoilt : (text : List ℕ) (place : Place) (field : List ℕ) (c : ℕ) (left : List ℕ) → IsIn text place field (c ∷ left) → IsStep place c FieldStart EndsField → ¬ (IsUtf8 field) → ¬ (AllText (header_of text))
header_spoilt text place field c left h step bad all =
    let here = h.same ∙ more (state_at place) st.StartField act.EndField h.fields field c left step.0 step.1 refl in
    let (p, is, first, others, fields) = begins st.StartField (h.fields ++ (field ∷ [])) [] left refl in
    let header : header_of text ≡ h.fields ++ (field ∷ first ∷ others) = is_header text p (here ∙ is) ∙ fields ∙ append_assoc h.fields (field ∷ []) (first ∷ others) in
    bad (all_text h.fields field (first ∷ others) (rw header at all))

last_field : (text : List ℕ) (fields : List (List ℕ)) (field : List ℕ) (s : State) (left : List ℕ) → AllText fields → next_record default_config st.StartRecord [] [] (strip_bom text) ≡ Some (fields ++ (field ∷ []), s, left)
    → IsUtf8 field ↔ AllText (header_of text)
last_field text fields field s left encoded e =
    let header : header_of text ≡ fields ++ (field ∷ []) = is_header text _ e in
    (λ t. rw header (one_more fields field encoded t), λ all. all_text fields field [] (rw header at all))

-- its last field, where its record ends
pub header_ends : (text : List ℕ) (place next : Place) (field : List ℕ) (c : ℕ) (left : List ℕ) → IsIn text place field (c ∷ left) → IsStep place c next EndsRecord → IsUtf8 field ↔ AllText (header_of text)
header_ends text place next field c left h step =
    last_field text h.fields field (state_at next) left h.encoded (h.same ∙ ended (state_at place) (state_at next) act.EndRecord h.fields field c left step.0 step.1 refl)

-- and where the text ends
pub header_ends_text : (text : List ℕ) (place : Place) (field : List ℕ) → IsIn text place field [] → 0 < length (records_of text) → IsUtf8 field ↔ AllText (header_of text)
unfolding next_record Reached
header_ends_text text place field h some = by (ends_at_end (state_at place)) refl
  where
    by : (b : Bool) → ends_at_end (state_at place) ≡ b → IsUtf8 field ↔ AllText (header_of text)
    by true e = last_field text h.fields field st.StartRecord [] h.encoded (h.same ∙ rw e refl)
    by false e =
        let none = no_next st.StartRecord (strip_bom text) (strip_bom text) [] (refl, refl) (h.same ∙ rw e refl) in
        absurd (omega arith)

-- ---- why a wide record is refused

-- a record that is wider than the columns, which the header names
pub wide_malformed : (columns : List Column) (text : List ℕ) (found : Option ℕ) → NamesEachOnce columns (header_of text) → IfSome found (λ n. IsWide text (length columns) n) → IsMalformedAt text found
wide_malformed columns text None names h = tt
wide_malformed columns text (Some n) names h = (h.0, λ formed. (let others = names.others in let even = formed.1 in absurd (omega (arith, h.1))))
