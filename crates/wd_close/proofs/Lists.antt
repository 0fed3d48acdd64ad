-- Different members, and how many of a list are not in another.
use Rattle.std.proofs.Common.{◌≡◌, ℕ, zero, suc, ◌+◌, ◌-◌, ◌<◌, ◌≤◌, Bool, true, false, cond, ◌&&◌, ◌||◌, List, [], ◌∷◌, ◌++◌, length, refl, sym, ◌∙◌, ap, arith, subst, eq-eqb, ⊎_elim, ◌⊎◌, inl, inr, nat_eq, if◌then◌else◌}
use Rattle.std.specs.List.{list_all, AllByRecursion, range_with_len}
use Rattle.std.proofs.lemmas.Bool.{cases_eq, and_parts, or_cases, false≢true, eqb-true}
use Rattle.std.proofs.lemmas.List.Folds.{list_any-append}
use Rattle.std.proofs.lemmas.List.{append_assoc, append-nil}
use Rattle.wd_step_facts.specs.declared.facts.Member.{Member}
use Rattle.wd_step_facts.specs.declared.facts.Member.TheVariants.{Column, Left, Right, Row}
use Rattle.wd_step_facts.specs.Facts.{columns_named}
use Rattle.wd_sets.specs.Sets.{same_member, stands_in}
use Rattle.wd_close.specs.Closure.{all_members, columns_between}
use Rattle.wd_close.specs.Reached.{added, all_added}

pub same_member-is : (a b : Member) → same_member a b ≡ true → a ≡ b
same_member-is (Column c) (Column d) e = ap Column (eqb-true c d e)
same_member-is Left Left e = refl
same_member-is Right Right e = refl
same_member-is Row Row e = refl
same_member-is a b e = absurd (false≢true e)

pub same_self : (m : Member) → same_member m m ≡ true
same_self (Column c) = eq-eqb c c refl
same_self Left = refl
same_self Right = refl
same_self Row = refl

pub or_left : (a b : Bool) → a ≡ true → (a || b) ≡ true
or_left a b e = ap (λ x. x || b) e

pub or_right : (a b : Bool) → b ≡ true → (a || b) ≡ true
or_right true b e = refl
or_right false b e = e

pub bool_cases : (b : Bool) → (b ≡ true) ⊎ (b ≡ false)
bool_cases true = inl refl
bool_cases false = inr refl

abbrev pub Within : List Member → List Member → Type 0
Within q r = (x : Member) → stands_in q x ≡ true → stands_in r x ≡ true

pub stands_append : (q r : List Member) (x : Member) → stands_in (q ++ r) x ≡ (stands_in q x || stands_in r x)
stands_append q r x = list_any-append (same_member x) q r

pub stands_last : (q : List Member) (m : Member) → stands_in (q ++ m ∷ []) m ≡ true
stands_last q m = stands_append q (m ∷ []) m ∙ or_right (stands_in q m) (same_member m m || false) (or_left (same_member m m) false (same_self m))

pub stands_front : (q r : List Member) (x : Member) → stands_in q x ≡ true → stands_in (q ++ r) x ≡ true
stands_front q r x e = stands_append q r x ∙ or_left (stands_in q x) (stands_in r x) e

pub stands_one : (m x : Member) → stands_in (m ∷ []) x ≡ true → x ≡ m
stands_one m x e = by (or_cases (same_member x m) false e)
  where
    by : (same_member x m ≡ true) ⊎ (false ≡ true) → x ≡ m
    by (inl f) = same_member-is x m f
    by (inr f) = absurd (false≢true f)

pub stands_push : (q : List Member) (m x : Member) → stands_in (q ++ m ∷ []) x ≡ true → (stands_in q x ≡ true) ⊎ (x ≡ m)
stands_push q m x e = by (or_cases (stands_in q x) (stands_in (m ∷ []) x) (sym (stands_append q (m ∷ []) x) ∙ e))
  where
    by : (stands_in q x ≡ true) ⊎ (stands_in (m ∷ []) x ≡ true) → (stands_in q x ≡ true) ⊎ (x ≡ m)
    by (inl f) = inl f
    by (inr f) = inr (stands_one m x f)

pub all_at : (t : Member → Bool) (X : List Member) (x : Member) → list_all t X ≡ true → stands_in X x ≡ true → t x ≡ true
all_at t [] x e f = absurd (false≢true f)
all_at t (y ∷ X) x e f = ⊎_elim (λ g. ap t (same_member-is x y g) ∙ (and_parts (t y) (list_all t X) e).0) (λ g. all_at t X x (and_parts (t y) (list_all t X) e).1 g) (or_cases (same_member x y) (stands_in X x) f)

pub all_from : (t : Member → Bool) (X : List Member) → ((x : Member) → stands_in X x ≡ true → t x ≡ true) → list_all t X ≡ true
all_from t [] h = refl
all_from t (y ∷ X) h = λ i. h y (or_left (same_member y y) (stands_in X y) (same_self y)) i && all_from t X (λ x e. h x (or_right (same_member x y) (stands_in X x) e)) i

pub every_from : (S : Member → Type 0) (X : List Member) → ((x : Member) → stands_in X x ≡ true → S x) → AllByRecursion S X
every_from S [] h = tt
every_from S (y ∷ X) h = (h y (or_left (same_member y y) (stands_in X y) (same_self y)), every_from S X (λ x e. h x (or_right (same_member x y) (stands_in X x) e)))

pub every_at : (S : Member → Type 0) (X : List Member) → AllByRecursion S X → (x : Member) → stands_in X x ≡ true → S x
every_at S [] a x e = absurd (false≢true e)
every_at S (y ∷ X) a x e = ⊎_elim (λ f. subst S (sym (same_member-is x y f)) a.0) (every_at S X a.1 x) (or_cases (same_member x y) (stands_in X x) e)

-- ---- each once

abbrev pub Apart : List Member → Type 0
Apart [] = Unit {0}
Apart (m ∷ ms) = (stands_in ms m ≡ false) × Apart ms

abbrev pub lacking : List Member → List Member → ℕ
lacking [] q = 0
lacking (x ∷ d) q = cond (stands_in q x) 0 1 + lacking d q

pub not_same : (m x : Member) → same_member x m ≡ false → same_member m x ≡ false
not_same m x e = by (bool_cases (same_member m x))
  where
    by : (same_member m x ≡ true) ⊎ (same_member m x ≡ false) → same_member m x ≡ false
    by (inl f) = absurd (false≢true (sym e ∙ ap (λ y. same_member x y) (same_member-is m x f) ∙ same_self x))
    by (inr f) = f

pub apart_push : (q : List Member) (m : Member) → Apart q → stands_in q m ≡ false → Apart (q ++ m ∷ [])
apart_push [] m a e = (refl, tt)
apart_push (x ∷ q) m a e = by (apart_push q m a.1) (bool_cases (same_member m x))
  where
    by : (stands_in q m ≡ false → Apart (q ++ m ∷ [])) → (same_member m x ≡ true) ⊎ (same_member m x ≡ false) → Apart (x ∷ (q ++ m ∷ []))
    by later (inl f) = absurd (false≢true (sym e ∙ or_left (same_member m x) (stands_in q m) f))
    by later (inr f) =
        let g : stands_in q m ≡ false = sym (ap (λ b. b || stands_in q m) f) ∙ e in
        let k : same_member x m ≡ false = not_same x m f in
        (stands_append q (m ∷ []) x ∙ (λ i. a.0 i || (k i || false)), later g)

or_none : (b : Bool) → (b || false) ≡ b
or_none true = refl
or_none false = refl

pub lacking_falls : (d q : List Member) (m : Member) → Apart d → stands_in q m ≡ false → lacking d q ≡ cond (stands_in d m) 1 0 + lacking d (q ++ m ∷ [])
lacking_falls [] q m a e = refl
lacking_falls (x ∷ d) q m a e = by (lacking_falls d q m a.1 e) (bool_cases (same_member x m))
  where
    by : lacking d q ≡ cond (stands_in d m) 1 0 + lacking d (q ++ m ∷ []) → (same_member x m ≡ true) ⊎ (same_member x m ≡ false) → lacking (x ∷ d) q ≡ cond (stands_in (x ∷ d) m) 1 0 + lacking (x ∷ d) (q ++ m ∷ [])
    by later (inl f) =
        let is : x ≡ m = same_member-is x m f in
        let u : ◌≡◌ {A = ℕ} (cond (stands_in q x) 0 1) 1 = ap (λ y. cond (stands_in q y) 0 1) is ∙ ap (λ b. cond b 0 1) e in
        let v : ◌≡◌ {A = ℕ} (cond (stands_in (q ++ m ∷ []) x) 0 1) 0 = ap (λ y. cond (stands_in (q ++ m ∷ []) y) 0 1) is ∙ ap (λ b. cond b 0 1) (stands_last q m) in
        let w : ◌≡◌ {A = ℕ} (cond (stands_in (x ∷ d) m) 1 0) 1 = ap (λ b. cond b 1 0) (or_left (same_member m x) (stands_in d m) (ap (λ y. same_member m y) is ∙ same_self m)) in
        let z : ◌≡◌ {A = ℕ} (cond (stands_in d m) 1 0) 0 = ap (λ b. cond b 1 0) (sym (ap (λ y. stands_in d y) is) ∙ a.0) in
        omega (arith, u, v, w, z, later)
    by later (inr f) =
        let v : ◌≡◌ {A = ℕ} (cond (stands_in (q ++ m ∷ []) x) 0 1) (cond (stands_in q x) 0 1) = ap (λ b. cond b 0 1) (stands_append q (m ∷ []) x ∙ ap (λ b. stands_in q x || (b || false)) f ∙ or_none (stands_in q x)) in
        let w : ◌≡◌ {A = ℕ} (cond (stands_in (x ∷ d) m) 1 0) (cond (stands_in d m) 1 0) = ap (λ b. cond (b || stands_in d m) 1 0) (not_same m x f) in
        omega (arith, v, w, later)

pub lacking_none : (d q : List Member) → lacking d q ≡ 0 → (x : Member) → stands_in d x ≡ true → stands_in q x ≡ true
lacking_none [] q e x f = absurd (false≢true f)
lacking_none (y ∷ d) q e x f = by (λ g. lacking_none d q g x) (bool_cases (stands_in q y)) (or_cases (same_member x y) (stands_in d x) f)
  where
    by : (lacking d q ≡ 0 → stands_in d x ≡ true → stands_in q x ≡ true) → (stands_in q y ≡ true) ⊎ (stands_in q y ≡ false) → (same_member x y ≡ true) ⊎ (stands_in d x ≡ true) → stands_in q x ≡ true
    by later (inr g) h = let u : ◌≡◌ {A = ℕ} (cond (stands_in q y) 0 1) 1 = ap (λ (b : Bool). cond b 0 1) g in absurd (omega (arith, u, e))
    by later (inl g) (inl h) = ap (λ z. stands_in q z) (same_member-is x y h) ∙ g
    by later (inl g) (inr h) = let u : ◌≡◌ {A = ℕ} (cond (stands_in q y) 0 1) 0 = ap (λ b. cond b 0 1) g in later (omega (arith, u, e)) h

pub none_lacking : (d q : List Member) → ((x : Member) → stands_in d x ≡ true → stands_in q x ≡ true) → lacking d q ≡ 0
none_lacking [] q h = refl
none_lacking (y ∷ d) q h =
    let u : ◌≡◌ {A = ℕ} (cond (stands_in q y) 0 1) 0 = ap (λ b. cond b 0 1) (h y (or_left (same_member y y) (stands_in d y) (same_self y))) in
    omega (arith, u, none_lacking d q (λ x e. h x (or_right (same_member x y) (stands_in d x) e)))

-- ---- added

pub added_cases : (P : List Member → Type 0) (q : List Member) (m : Member) → (stands_in q m ≡ true → P q) → (stands_in q m ≡ false → P (q ++ m ∷ [])) → P (added q m)
added_cases P q m h k = by (bool_cases (stands_in q m))
  where
    by : (stands_in q m ≡ true) ⊎ (stands_in q m ≡ false) → P (added q m)
    by (inl e) = subst P (sym (ap (λ (b : Bool). if b then q else q ++ m ∷ []) e)) (h e)
    by (inr e) = subst P (sym (ap (λ (b : Bool). if b then q else q ++ m ∷ []) e)) (k e)

pub added_keeps : (q : List Member) (m x : Member) → stands_in q x ≡ true → stands_in (added q m) x ≡ true
added_keeps q m x e = added_cases (λ r. stands_in r x ≡ true) q m (λ f. e) (λ f. stands_front q (m ∷ []) x e)

pub added_has : (q : List Member) (m : Member) → stands_in (added q m) m ≡ true
added_has q m = added_cases (λ r. stands_in r m ≡ true) q m (λ f. f) (λ f. stands_last q m)

pub added_from : (q : List Member) (m x : Member) → stands_in (added q m) x ≡ true → (stands_in q x ≡ true) ⊎ (x ≡ m)
added_from q m x = added_cases (λ r. stands_in r x ≡ true → (stands_in q x ≡ true) ⊎ (x ≡ m)) q m (λ f e. inl e) (λ f e. stands_push q m x e)

pub all_added_keeps : (q ms : List Member) (x : Member) → stands_in q x ≡ true → stands_in (all_added q ms) x ≡ true
all_added_keeps q [] x e = e
all_added_keeps q (m ∷ ms) x e = all_added_keeps (added q m) ms x (added_keeps q m x e)

pub all_added_has : (q ms : List Member) (x : Member) → stands_in ms x ≡ true → stands_in (all_added q ms) x ≡ true
all_added_has q [] x e = absurd (false≢true e)
all_added_has q (m ∷ ms) x e = by (all_added_has (added q m) ms x) (or_cases (same_member x m) (stands_in ms x) e)
  where
    by : (stands_in ms x ≡ true → stands_in (all_added (added q m) ms) x ≡ true) → (same_member x m ≡ true) ⊎ (stands_in ms x ≡ true) → stands_in (all_added (added q m) ms) x ≡ true
    by later (inl f) = all_added_keeps (added q m) ms x (ap (λ y. stands_in (added q m) y) (same_member-is x m f) ∙ added_has q m)
    by later (inr f) = later f

pub all_added_from : (q ms : List Member) (x : Member) → stands_in (all_added q ms) x ≡ true → (stands_in q x ≡ true) ⊎ (stands_in ms x ≡ true)
all_added_from q [] x e = inl e
all_added_from q (m ∷ ms) x e = by (all_added_from (added q m) ms x e)
  where
    one : (stands_in q x ≡ true) ⊎ (x ≡ m) → (stands_in q x ≡ true) ⊎ (stands_in (m ∷ ms) x ≡ true)
    one (inl f) = inl f
    one (inr f) = inr (or_left (same_member x m) (stands_in ms x) (ap (λ y. same_member x y) (sym f) ∙ same_self x))

    by : (stands_in (added q m) x ≡ true) ⊎ (stands_in ms x ≡ true) → (stands_in q x ≡ true) ⊎ (stands_in (m ∷ ms) x ≡ true)
    by (inl f) = one (added_from q m x f)
    by (inr f) = inr (or_right (same_member x m) (stands_in ms x) f)

pub apart_added : (q : List Member) (m : Member) → Apart q → Apart (added q m)
apart_added q m a = added_cases Apart q m (λ f. a) (λ f. apart_push q m a f)

pub apart_all : (q ms : List Member) → Apart q → Apart (all_added q ms)
apart_all q [] a = a
apart_all q (m ∷ ms) a = apart_all (added q m) ms (apart_added q m a)

-- the different members of a list
abbrev pub different : List Member → List Member
different ms = all_added [] ms

abbrev pub Front : List Member → List Member → Type 0
Front q r = (e : List Member) × (r ≡ q ++ e)

pub front_self : (q : List Member) → Front q q
front_self q = ([], sym (append-nil q))

pub front_trans : (q r s : List Member) → Front q r → Front r s → Front q s
front_trans q r s a b = (a.0 ++ b.0, b.1 ∙ ap (λ x. x ++ b.0) a.1 ∙ append_assoc q a.0 b.0)

pub front_added : (q : List Member) (m : Member) → Front q (added q m)
front_added q m = added_cases (Front q) q m (λ f. front_self q) (λ f. (m ∷ [], refl))

pub front_all : (q ms : List Member) → Front q (all_added q ms)
front_all q [] = front_self q
front_all q (m ∷ ms) = front_trans q (added q m) (all_added (added q m) ms) (front_added q m) (front_all (added q m) ms)

pub front_within : (q r : List Member) → Front q r → Within q r
front_within q r a x e = ap (λ s. stands_in s x) a.1 ∙ stands_front q a.0 x e

-- ---- all members

columns_at : (a n c : ℕ) → a ≤ c → c < a + n → stands_in (columns_named (range_with_len a n)) (Column c) ≡ true
columns_at a zero c h k = absurd (omega (arith, h, k))
columns_at a (suc n) c h k = by (λ (e : c ≡ a → ⊥). columns_at (a + 1) n c (omega (arith, h, e)) (omega (arith, k))) (cases_eq c a)
  where
    by : ((c ≡ a → ⊥) → stands_in (columns_named (range_with_len (a + 1) n)) (Column c) ≡ true) → (c ≡ a) ⊎ (c ≡ a → ⊥) → stands_in (columns_named (range_with_len a (suc n))) (Column c) ≡ true
    by later (inl e) = or_left (nat_eq c a) (stands_in (columns_named (range_with_len (a + 1) n)) (Column c)) (eq-eqb c a e)
    by later (inr e) = or_right (nat_eq c a) (stands_in (columns_named (range_with_len (a + 1) n)) (Column c)) (later e)

pub record IsColumn (x : Member) (a b : ℕ) : Type 0 where
  pub number : ℕ
  pub is : x ≡ Column number
  pub low : a ≤ number
  pub high : number < b

columns_from : (a n : ℕ) (x : Member) → stands_in (columns_named (range_with_len a n)) x ≡ true → IsColumn x a (a + n)
columns_from a zero x e = absurd (false≢true e)
columns_from a (suc n) x e = by (columns_from (a + 1) n x) (or_cases (same_member x (Column a)) (stands_in (columns_named (range_with_len (a + 1) n)) x) e)
  where
    by : (stands_in (columns_named (range_with_len (a + 1) n)) x ≡ true → IsColumn x (a + 1) (a + 1 + n)) → (same_member x (Column a) ≡ true) ⊎ (stands_in (columns_named (range_with_len (a + 1) n)) x ≡ true) → IsColumn x a (a + suc n)
    by later (inl f) = record { number = a; is = same_member-is x (Column a) f; low = omega arith; high = omega arith }
    by later (inr f) = let r = later f in record { number = r.number; is = r.is; low = omega (arith, r.low); high = omega (arith, r.high) }

pub between_has : (a b c : ℕ) → a ≤ c → c < b → stands_in (columns_between a b) (Column c) ≡ true
between_has a b c h k = columns_at a (b - a) c h (omega (arith, h, k))

pub between_from : (a b : ℕ) (x : Member) → stands_in (columns_between a b) x ≡ true → IsColumn x a b
between_from a b x e = let r = columns_from a (b - a) x e in record { number = r.number; is = r.is; low = r.low; high = omega (arith, r.low, r.high) }

columns_apart : (a n : ℕ) → Apart (columns_named (range_with_len a n))
columns_apart a zero = tt
columns_apart a (suc n) = (by (bool_cases (stands_in (columns_named (range_with_len (a + 1) n)) (Column a))), columns_apart (a + 1) n)
  where
    number : Member → ℕ
    number (Column c) = c
    number Left = 0
    number Right = 0
    number Row = 0

    by : (stands_in (columns_named (range_with_len (a + 1) n)) (Column a) ≡ true) ⊎ (stands_in (columns_named (range_with_len (a + 1) n)) (Column a) ≡ false) → stands_in (columns_named (range_with_len (a + 1) n)) (Column a) ≡ false
    by (inl e) = let r = columns_from (a + 1) n (Column a) e in let f : a ≡ r.number = ap number r.is in absurd (omega (arith, f, r.low))
    by (inr e) = e

no_column : (x : Member) → ((c : ℕ) → x ≡ Column c → ⊥) → (a n : ℕ) → stands_in (columns_named (range_with_len a n)) x ≡ false
no_column x h a n = by (bool_cases (stands_in (columns_named (range_with_len a n)) x))
  where
    by : (stands_in (columns_named (range_with_len a n)) x ≡ true) ⊎ (stands_in (columns_named (range_with_len a n)) x ≡ false) → stands_in (columns_named (range_with_len a n)) x ≡ false
    by (inl e) = let r = columns_from a n x e in absurd (h r.number r.is)
    by (inr e) = e

pub all_apart : (n : ℕ) → Apart (all_members n)
all_apart n = (no_column Row (λ c e. cc) 0 (n - 0), (no_column Left (λ c e. cc) 0 (n - 0), (no_column Right (λ c e. cc) 0 (n - 0), columns_apart 0 (n - 0))))

pub lacking_nil : (d : List Member) → lacking d [] ≡ length d
lacking_nil [] = refl
lacking_nil (x ∷ d) = omega (arith, lacking_nil d)
