-- Marks that are added one after the other.
use Rattle.std.proofs.Common.{◌≡◌, ℕ, ◌+◌, ◌<◌, ◌≤◌, Bool, true, false, ◌||◌, ◌&&◌, List, [], ◌∷◌, ◌++◌, length, take, drop, map, get_or, set, get_or-set_same, get_or-set_other, nat_eq, refl, sym, ◌∙◌, ap, subst, arith, ⊎_elim, None, slice_get}
use Rattle.std.proofs.Math.Bool.{or_assoc, or-false}
use Rattle.std.proofs.Math.ListN.{length-set}
use Rattle.std.proofs.lemmas.Bool.{eqb-true, eqb-false}
use Rattle.std.proofs.lemmas.List.{get_or_past, append-nil, drop_all, take_all, get_or-map, length-map, map-set}
use Rattle.std.proofs.lemmas.List.Folds.{list_any-append, list_any_more}
use Rattle.std.specs.declared.alloc.Global.{Global}
use Rattle.std.specs.declared.vec.Vec.{Vec}
use Rattle.std.proofs.lemmas.Bool.{cases_lt}
use Rattle.std.proofs.lemmas.Option.{slice_get_past}
use Rattle.wd_schema.specs.Tables.{KeyRule, TableRule}
use Rattle.wd_facts.specs.Given.{table_rule}
use Rattle.wd_plan.specs.Plans.{has}
use Rattle.wd_candidates.specs.Candidates.{is_keyed}
use Rattle.wd_candidates.specs.Marks.{MarksMore, is_marked, marks_of}

-- no mark more
pub marks_none : (old : List Bool) (more : ℕ → Bool) → ((c : ℕ) → more c ≡ false) → MarksMore old more old
marks_none old more none = record { long = refl; each = λ c h. sym (or-false (is_marked old c)) ∙ ap (λ b. is_marked old c || b) (sym (none c)) }

-- the same marks by another test
pub marks_same : (old new : List Bool) (f g : ℕ → Bool) → ((c : ℕ) → c < length old → f c ≡ g c) → MarksMore old f new → MarksMore old g new
marks_same old new f g same m = record { long = m.long; each = λ c h. m.each c h ∙ ap (λ b. is_marked old c || b) (same c h) }

-- marks, and then others
pub marks_then : (a b d : List Bool) (f g : ℕ → Bool) → MarksMore a f b → MarksMore b g d → MarksMore a (λ c. f c || g c) d
marks_then a b d f g m n = record {
  long = n.long ∙ m.long;
  each = λ c h. n.each c (subst (λ k. c < k) (sym m.long) h) ∙ ap (λ x. x || g c) (m.each c h) ∙ or_assoc (is_marked a c) (f c) (g c);
}

-- marks, and then others, where a third test says both
pub marks_both : (a b d : List Bool) (f g e : ℕ → Bool) → ((c : ℕ) → (f c || g c) ≡ e c) → MarksMore a f b → MarksMore b g d → MarksMore a e d
marks_both a b d f g e both m n = marks_same a d (λ c. f c || g c) e (λ c h. both c) (marks_then a b d f g m n)

-- one column
mark_at : (old : List Bool) (column c : ℕ) (e : Bool) → nat_eq c column ≡ e → column < length old → is_marked (set old column true) c ≡ (is_marked old c || e)
mark_at old column c true e h =
    let same : column ≡ c = sym (eqb-true c column e) in
    subst (λ k. is_marked (set old column true) k ≡ (is_marked old k || true)) same (rw get_or-set_same (or_true (is_marked old column)))
  where
    or_true : (b : Bool) → true ≡ (b || true)
    or_true true = refl
    or_true false = refl
mark_at old column c false e h =
    let other : (c ≡ column → ⊥) = eqb-false c column e in
    rw get_or-set_other (sym (or-false (is_marked old c)))

pub marks_set : (old : List Bool) (column : ℕ) → column < length old → MarksMore old (λ c. nat_eq c column) (set old column true)
marks_set old column h = record { long = length-set old column true; each = λ c k. mark_at old column c (nat_eq c column) refl h }

-- a column past the last is not there
pub marks_past : (old : List Bool) (column : ℕ) → length old ≤ column → MarksMore old (λ c. nat_eq c column) old
marks_past old column h = record { long = refl; each = λ c k. by c (nat_eq c column) refl k }
  where
    by : (c : ℕ) (e : Bool) → nat_eq c column ≡ e → c < length old → is_marked old c ≡ (is_marked old c || e)
    by c true e k = absurd (let s = eqb-true c column e in omega arith)
    by c false e k = sym (or-false (is_marked old c))

-- ---- lists of columns

pub in_append : (xs ys : List ℕ) (c : ℕ) → (has xs c || has ys c) ≡ has (xs ++ ys) c
in_append xs ys c = sym (list_any-append (nat_eq c) xs ys)

pub in_one : (x c : ℕ) → nat_eq c x ≡ has (x ∷ []) c
in_one x c = sym (or-false (nat_eq c x))

-- marks of two lists are those of the two together
pub marks_append : (a b d : List Bool) (xs ys : List ℕ) → MarksMore a (λ c. has xs c) b → MarksMore b (λ c. has ys c) d → MarksMore a (λ c. has (xs ++ ys) c) d
marks_append a b d xs ys m n = marks_both a b d (λ c. has xs c) (λ c. has ys c) (λ c. has (xs ++ ys) c) (in_append xs ys) m n

pub marks_one : (a b : List Bool) (x : ℕ) → MarksMore a (λ c. nat_eq c x) b → MarksMore a (λ c. has (x ∷ []) c) b
marks_one a b x m = marks_same a b (λ c. nat_eq c x) (λ c. has (x ∷ []) c) (λ c h. in_one x c) m

-- one column more of a list
pub marks_next : (a b d : List Bool) (xs : List ℕ) (i x : ℕ) → i < length xs → x ≡ get_or xs i 0 → MarksMore a (λ c. has (take i xs) c) b → MarksMore b (λ c. nat_eq c x) d → MarksMore a (λ c. has (take (i + 1) xs) c) d
marks_next a b d xs i x h is m n =
    marks_both a b d (λ c. has (take i xs) c) (λ c. nat_eq c x) (λ c. has (take (i + 1) xs) c)
    (λ c. ap (λ y. has (take i xs) c || nat_eq c y) is ∙ sym (list_any_more (nat_eq c) xs i 0 h)) m n

-- none yet
pub marks_start : (a : List Bool) (xs : List ℕ) → MarksMore a (λ c. has (take 0 xs) c) a
marks_start a xs = marks_none a (λ c. has (take 0 xs) c) (λ c. refl)

-- ---- marks that were written back to the list

pub written : (len : ℕ) (items new : List Bool) → len ≡ length items → length new ≡ length items → take len (new ++ drop (length new) items) ≡ new
written len items new e long =
    let all : length items ≤ length new = omega arith in
    let most : len ≡ length new = e ∙ sym long in
    ap (λ l. take len (new ++ l)) (drop_all (length new) items all) ∙ ap (λ l. take len l) (append-nil new) ∙ take_all len new (omega arith)

pub marks_back : (len : ℕ) (items was new : List Bool) (more : ℕ → Bool) → len ≡ length items → was ≡ items → MarksMore was more new → MarksMore items more (take len (new ++ drop (length new) items))
marks_back len items was new more e same m =
    let own = subst (λ l. MarksMore l more new) same m in
    subst (λ l. MarksMore items more l) (sym (written len items new e own.long)) own

-- marks of columns of which none was marked
pub marks_fresh : (items new : List Bool) (more : ℕ → Bool) (c : ℕ) → ((n : ℕ) → is_marked items n ≡ false) → MarksMore items more new → c < length items → is_marked new c ≡ more c
marks_fresh items new more c none m h = m.each c h ∙ (λ j. none c j || more c)

-- ---- tables

marks_at : {X : Type 0} (f : X → List Bool) (tables : List X) (i : ℕ) (x : X) → i < length tables → x ≡ get_or tables i x → get_or (map f tables) i [] ≡ f x
marks_at f tables i x h is = get_or-map f tables i x [] h ∙ ap f (sym is)

-- one table's marks
pub marks_table : {X : Type 0} (f : X → List Bool) (tables : List X) (i : ℕ) (x y : X) (more : ℕ → Bool) → i < length tables → x ≡ get_or tables i x → MarksMore (f x) more (f y) → (table : ℕ) → MarksMore (get_or (map f tables) table []) (λ c. nat_eq i table && more c) (get_or (map f (set tables i y)) table [])
marks_table f tables i x y more h is m table = subst (λ l. MarksMore (get_or (map f tables) table []) (λ c. nat_eq i table && more c) (get_or l table [])) (sym (map-set f tables i y)) (by (nat_eq i table) refl)
  where
    by : (e : Bool) → nat_eq i table ≡ e → MarksMore (get_or (map f tables) table []) (λ c. e && more c) (get_or (set (map f tables) i (f y)) table [])
    by true e =
        let same : i ≡ table = eqb-true i table e in
        let inside : i < length (map f tables) = subst (λ n. i < n) (sym (length-map tables f)) h in
        subst (λ k. MarksMore (get_or (map f tables) k []) more (get_or (set (map f tables) i (f y)) k [])) same
        (subst (λ l. MarksMore l more (get_or (set (map f tables) i (f y)) i [])) (sym (marks_at f tables i x h is))
        (subst (λ l. MarksMore (f x) more l) (sym (get_or-set_same (map f tables) i (f y) [] inside)) m))
    by false e =
        let other : (table ≡ i → ⊥) = λ k. eqb-false i table e (sym k) in
        subst (λ l. MarksMore (get_or (map f tables) table []) (λ c. false) l) (sym (get_or-set_other (map f tables) i table (f y) [] other))
        (marks_none (get_or (map f tables) table []) (λ c. false) (λ c. refl))

-- ---- keys

-- one key more
pub keyed_next : (keys : List KeyRule) (i : ℕ) (key : KeyRule) (columns : ℕ) (a b : List Bool) → i < length keys → key ≡ get_or keys i key → length a ≡ columns → MarksMore a (λ c. has key.columns c) b → ((c : ℕ) → c < columns → is_marked a c ≡ is_keyed (take i keys) c) → (c : ℕ) → c < columns → is_marked b c ≡ is_keyed (take (i + 1) keys) c
keyed_next keys i key columns a b h is long m before c k =
    m.each c (subst (λ n. c < n) (sym long) k)
    ∙ (λ j. before c k j || has (is j).columns c)
    ∙ sym (list_any_more (λ (x : KeyRule). has x.columns c) keys i key h)

-- ---- tables of a schema

rule_past : (tables : List TableRule) (table : ℕ) → length tables ≤ table → length (table_rule tables table).columns ≡ 0
rule_past tables table h = let past : slice_get tables table ≡ None = slice_get_past tables table h in rw past refl

-- the widths of the tables that the schema has are all widths
pub long_past : (marks : List (Vec Bool Global)) (tables : List TableRule) (n : ℕ) → length marks ≡ n → length tables ≤ n → ((table : ℕ) → table < n → length (marks_of marks table) ≡ length (table_rule tables table).columns) → (table : ℕ) → length (marks_of marks table) ≡ length (table_rule tables table).columns
long_past marks tables n many all long table = ⊎_elim (λ h. long table h) (λ h. ap length (past_all h) ∙ sym (rule_past tables table (omega arith))) (cases_lt table n)
  where
    past_all : n ≤ table → marks_of marks table ≡ []
    past_all h = get_or_past (map (λ (columns : Vec Bool Global). columns.items) marks) table [] (let e = length-map marks (λ (columns : Vec Bool Global). columns.items) in omega arith)
