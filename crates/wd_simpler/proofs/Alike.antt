-- Outcomes that are the same in the columns that are read.
use Rattle.std.proofs.Common.{◌≡◌, ℕ, Bool, true, false, List, [], ◌∷◌, ◌++◌, map, flat_map, refl, sym, ◌∙◌, ap, eq-eqb, ◌||◌, nat_eq, Ok, Err}
use Rattle.std.specs.List.{AllByRecursion}
use Rattle.wd_value.specs.Rows.{Row}
use Rattle.wd_plan.specs.Choices.{AtRows}
use Rattle.wd_plan.specs.Faults.{and_then}
use Rattle.wd_plan.specs.Outcomes.{RowsOrFault}
use Rattle.wd_plan.specs.Plans.{has}
use Rattle.wd_simpler.proofs.Masks.{mask, mask_every}
use Rattle.wd_simpler.proofs.Results.{over}
use Rattle.wd_simpler.specs.Simpler.{Read, and_also, every}

-- rows that are so, one by one
abbrev pub AreSameOn : Read → List Row → List Row → Type 0
AreSameOn read rows others = map (mask read) rows ≡ map (mask read) others

-- the same fault, or such rows
abbrev pub AreAlikeOn : Read → RowsOrFault → RowsOrFault → Type 0
AreAlikeOn read a b = over (map (mask read)) a ≡ over (map (mask read)) b

pub same_rows : (read : Read) (rows others : List Row) → AreAlikeOn read (Ok rows) (Ok others) → AreSameOn read rows others
same_rows read rows others e = cc

-- a step over outcomes that are alike, of which this is known
pub step_alike : (Q : List Row → Type 0) (more read : Read) (f g : List Row → RowsOrFault) → ((rows others : List Row) → Q rows → AreSameOn more rows others → AreAlikeOn read (f rows) (g others)) → (a b : RowsOrFault) → AtRows a Q (Unit {0}) → AreAlikeOn more a b → AreAlikeOn read (and_then a f) (and_then b g)
step_alike Q more read f g h (Ok rows) (Ok others) q e = h rows others q (same_rows more rows others e)
step_alike Q more read f g h (Ok rows) (Err fault) q e = absurd cc
step_alike Q more read f g h (Err fault) (Ok others) q e = absurd cc
step_alike Q more read f g h (Err fault) (Err other) q e = cc

-- what is so of the rows of one is so of those of the other
pub at_alike : (P P' : List Row → Type 0) (Q : Type 0) (read : Read) → ((rows others : List Row) → AreSameOn read rows others → P rows → P' others) → (a b : RowsOrFault) → AreAlikeOn read a b → AtRows a P Q → AtRows b P' Q
at_alike P P' Q read h (Ok rows) (Ok others) e p = h rows others (same_rows read rows others e) p
at_alike P P' Q read h (Ok rows) (Err fault) e p = absurd cc
at_alike P P' Q read h (Err fault) (Ok others) e p = absurd cc
at_alike P P' Q read h (Err fault) (Err other) e p = p

pub always : (a : RowsOrFault) → AtRows a (λ rows. Unit {0}) (Unit {0})
always (Ok rows) = tt
always (Err fault) = tt

-- ---- where every column is read, rows are the same

all_masked : (rows : List Row) → map (mask every) rows ≡ rows
all_masked [] = refl
all_masked (r ∷ rows) = λ i. mask_every r i ∷ all_masked rows i

pub same_every : (rows others : List Row) → AreSameOn every rows others → rows ≡ others
same_every rows others e = sym (all_masked rows) ∙ e ∙ all_masked others

over_masked : (a : RowsOrFault) → over (map (mask every)) a ≡ a
over_masked (Ok rows) = ap (λ r. Ok r) (all_masked rows)
over_masked (Err fault) = refl

pub alike_every : (a b : RowsOrFault) → AreAlikeOn every a b → a ≡ b
alike_every a b e = sym (over_masked a) ∙ e ∙ over_masked b

pub every_step : (read : Read) (f : List Row → RowsOrFault) (a b : RowsOrFault) → AreAlikeOn every a b → AreAlikeOn read (and_then a f) (and_then b f)
every_step read f a b e = ap (λ x. over (map (mask read)) (and_then x f)) (alike_every a b e)

-- ---- what a step reads, and what is read above it

pub also_read : (read : Read) (columns : List ℕ) (c : ℕ) → read c ≡ true → and_also read columns c ≡ true
also_read read columns c h = ap (λ b. b || has columns c) h

or_true : (b : Bool) → (b || true) ≡ true
or_true true = refl
or_true false = refl

pub has_also : (read : Read) (columns : List ℕ) (c : ℕ) → has columns c ≡ true → and_also read columns c ≡ true
has_also read columns c h = ap (λ b. read c || b) h ∙ or_true (read c)

pub all_weaken : {X : Type 0} (P Q : X → Type 0) → ((x : X) → P x → Q x) → (xs : List X) → AllByRecursion P xs → AllByRecursion Q xs
all_weaken P Q h [] a = tt
all_weaken P Q h (x ∷ xs) a = (h x a.0, all_weaken P Q h xs a.1)

same_number : (c : ℕ) → nat_eq c c ≡ true
same_number c = eq-eqb c c refl

has_more : (c d : ℕ) (columns : List ℕ) → has columns c ≡ true → has (d ∷ columns) c ≡ true
has_more c d columns h = ap (λ b. nat_eq c d || b) h ∙ or_true (nat_eq c d)

-- a list has its own members
pub has_own : (columns : List ℕ) → AllByRecursion (λ c. has columns c ≡ true) columns
has_own [] = tt
has_own (c ∷ columns) = (ap (λ b. b || has columns c) (same_number c), all_weaken (λ d. has columns d ≡ true) (λ d. has (c ∷ columns) d ≡ true) (λ d h. has_more d c columns h) columns (has_own columns))

or_left : (b x y : Bool) → (x ≡ true → y ≡ true) → (b || x) ≡ true → (b || y) ≡ true
or_left true x y h e = refl
or_left false x y h e = h e

pub has_left : (xs ys : List ℕ) (c : ℕ) → has xs c ≡ true → has (xs ++ ys) c ≡ true
has_left [] ys c h = absurd cc
has_left (x ∷ xs) ys c h = or_left (nat_eq c x) (has xs c) (has (xs ++ ys) c) (has_left xs ys c) h

pub has_right : (xs ys : List ℕ) (c : ℕ) → has ys c ≡ true → has (xs ++ ys) c ≡ true
has_right [] ys c h = h
has_right (x ∷ xs) ys c h = ap (λ b. nat_eq c x || b) (has_right xs ys c h) ∙ or_true (nat_eq c x)

-- the columns of each are among those of all
pub has_each : {X : Type 0} (f : X → List ℕ) (xs : List X) → AllByRecursion (λ x. AllByRecursion (λ c. has (flat_map f xs) c ≡ true) (f x)) xs
has_each f [] = tt
has_each f (x ∷ xs) = (
  all_weaken (λ c. has (f x) c ≡ true) (λ c. has (f x ++ flat_map f xs) c ≡ true) (has_left (f x) (flat_map f xs)) (f x) (has_own (f x)),
  all_weaken (λ y. AllByRecursion (λ c. has (flat_map f xs) c ≡ true) (f y)) (λ y. AllByRecursion (λ c. has (f x ++ flat_map f xs) c ≡ true) (f y)) (λ y a. all_weaken (λ c. has (flat_map f xs) c ≡ true) (λ c. has (f x ++ flat_map f xs) c ≡ true) (has_right (f x) (flat_map f xs)) (f y) a) xs (has_each f xs),
)
