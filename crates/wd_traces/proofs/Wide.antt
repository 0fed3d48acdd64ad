-- Sets of the members on the long sides of facts.
use Rattle.std.proofs.Common.{◌≡◌, ◌⊎◌, inl, inr, ℕ, zero, suc, ◌+◌, ◌-◌, ◌<◌, ◌≤◌, arith, Bool, true, false, ◌&&◌, ◌||◌, List, [], ◌∷◌, ◌++◌, get_or, length, set, slice_get, Option, Some, None, refl, ap, ◌∙◌, sym, eq-eqb, nat_le, nat_lt}
use Rattle.std.specs.Global.{Box}
use Rattle.std.specs.List.{list_all}
use Rattle.std.proofs.lemmas.Bool.{and_parts, eqb-true, false≢true, or_cases}
use Rattle.std.proofs.lemmas.Option.{same_Some, slice_get_read}
use Rattle.wd_step_facts.specs.declared.facts.Given.{Given}
use Rattle.wd_step_facts.specs.declared.facts.Member.{Member}
use Rattle.wd_step_facts.specs.declared.facts.Member.TheVariants as member
use Rattle.wd_step_facts.specs.Facts.{FactList, columns_named, is_plain}
use Rattle.wd_sets.specs.Reaches.{also, reaches, reaches_each}
use Rattle.wd_sets.specs.Sets.{has, same_member, stands_in}
use Rattle.wd_sets.specs.declared.set.Set.{Set}
use Rattle.wd_node_facts.specs.declared.facts.KeptFact.{KeptFact}
use Rattle.wd_node_facts.specs.declared.facts.Side.{Side}
use Rattle.wd_node_facts.specs.Seen.{IsNarrow, columns_or_none, each_columns}
use Rattle.wd_traces.specs.Known.{AreSets, IsBetween, IsHalf, IsPut, IsSetOf, from_of, kept_to, set_in, to_of}
use Rattle.wd_traces.proofs.Members.{plain_at}

-- ---- slots

-- an empty slot more
pub padded : (slots : List (Option (Box Set))) (n : ℕ) (other : Set) → set_in (slice_get (slots ++ None ∷ []) n) ≡ Some other → set_in (slice_get slots n) ≡ Some other
padded [] zero other e = e
padded [] (suc n) other e = e
padded (slot ∷ slots) zero other e = e
padded (slot ∷ slots) (suc n) other e = padded slots n other e

-- a slot that is filled
pub filled : (slots : List (Option (Box Set))) (k : ℕ) (own : Box Set) (n : ℕ) (other : Set) → set_in (slice_get (set slots k (Some own)) n) ≡ Some other → ((n ≡ k) × (other ≡ own.value)) ⊎ (set_in (slice_get slots n) ≡ Some other)
filled [] zero own n other e = inr e
filled [] (suc k) own n other e = inr e
filled (slot ∷ slots) zero own zero other e = inl (refl, sym (same_Some own.value other e))
filled (slot ∷ slots) zero own (suc n) other e = inr e
filled (slot ∷ slots) (suc k) own zero other e = inr e
filled (slot ∷ slots) (suc k) own (suc n) other e = by (filled slots k own n other e)
  where
    by : ((n ≡ k) × (other ≡ own.value)) ⊎ (set_in (slice_get slots n) ≡ Some other) → ((suc n ≡ suc k) × (other ≡ own.value)) ⊎ (set_in (slice_get slots n) ≡ Some other)
    by (inl found) = inl (ap (λ i. suc i) found.0, found.1)
    by (inr found) = inr found

-- a set of members is put at a number
pub put_sets : (sides : ℕ → List Member) (number : ℕ) (own : Set) (old new : List (Option (Box Set))) (members : List Member) → IsSetOf own members → IsPut number own old new → sides number ≡ members → AreSets sides old → AreSets sides new
put_sets sides number own old new members is put at before n other e = by (put n other e)
  where
    by : ((n ≡ number) × (other ≡ own)) ⊎ (set_in (slice_get old n) ≡ Some other) → IsSetOf other (sides n)
    by (inl found) = λ m. ap (λ s. has s m) found.1 ∙ is m ∙ ap (λ xs. stands_in xs m) (sym at ∙ ap sides (sym found.0))
    by (inr found) = before n other found

-- what is added to an empty set
pub set_made : (own : Set) (empty : Member → Bool) (members : List Member) → ((m : Member) → empty m ≡ false) → ((m : Member) → has own m ≡ also empty members m) → IsSetOf own members
set_made own empty members none is m = is m ∙ ap (λ b. b || stands_in members m) (none m)

-- ---- sides by their numbers

pub from_at : (list : List Given) (i : ℕ) (fact : Given) → i < length list → fact ≡ get_or list i fact → from_of (slice_get list i) ≡ fact.from.items
from_at list i fact h is = ap from_of (slice_get_read list (length list) i fact refl h is)

pub to_at : (list : List Given) (i : ℕ) (fact : Given) → i < length list → fact ≡ get_or list i fact → to_of (slice_get list i) ≡ fact.to.items
to_at list i fact h is = ap to_of (slice_get_read list (length list) i fact refl h is)

pub kept_at : (list : List KeptFact) (i : ℕ) (kept : KeptFact) → i < length list → kept ≡ get_or list i kept → kept_to (slice_get list i) ≡ kept.to.items
kept_at list i kept h is = ap kept_to (slice_get_read list (length list) i kept refl h is)

-- a kept fact names columns that can be renumbered
pub kept_plain : (side : Side) (i : ℕ) (kept : KeptFact) → IsNarrow side → i < length side.keeps.list.items → kept ≡ get_or side.keeps.list.items i kept
    → (list_all (is_plain (65536 - side.by)) (columns_named (columns_or_none (slice_get (each_columns side.keeps.traces.items) kept.trace))) ≡ true) × (list_all (is_plain (65536 - side.by)) kept.to.items ≡ true)
kept_plain side i kept narrow h is = and_parts _ _ (plain_at side i kept narrow (slice_get_read side.keeps.list.items (length side.keeps.list.items) i kept refl h is))

-- ---- columns between two numbers

pub one_column : (from at : ℕ) (old new : Set) → from ≤ at → ((m : Member) → has new m ≡ (same_member m (member.Column at) || has old m)) → IsBetween from at old → IsBetween from (at + 1) new
one_column from at old new h is before m e = by (or_cases (same_member m (member.Column at)) (has old m) (sym (is m) ∙ e))
  where
    column : (m : Member) → same_member m (member.Column at) ≡ true → m ≡ member.Column at
    column (member.Column c) f = ap (λ n. member.Column n) (eqb-true c at f)
    column member.Left f = absurd (false≢true f)
    column member.Right f = absurd (false≢true f)
    column member.Row f = absurd (false≢true f)

    by : (same_member m (member.Column at) ≡ true) ⊎ (has old m ≡ true) → (c : ℕ) × (m ≡ member.Column c) × (from ≤ c) × (c < at + 1)
    by (inl f) = (at, column m f, h, omega arith)
    by (inr f) = let found = before m f in (found.0, found.1, found.2, omega (arith, found.3))

-- ---- sides that are reached

same_self : (m : Member) → same_member m m ≡ true
same_self (member.Column c) = eq-eqb c c refl
same_self member.Left = refl
same_self member.Right = refl
same_self member.Row = refl

or_first : (a b : Bool) → a ≡ true → (a || b) ≡ true
or_first a b e = ap (λ x. x || b) e

or_last : (a b : Bool) → b ≡ true → (a || b) ≡ true
or_last true b e = refl
or_last false b e = e

each_stands : (test : Member → Bool) (members : List Member) → ((m : Member) → stands_in members m ≡ true → test m ≡ true) → list_all test members ≡ true
each_stands test [] h = refl
each_stands test (x ∷ members) h =
    let own = h x (or_first (same_member x x) (stands_in members x) (same_self x)) in
    ap (λ b. b && list_all test members) own ∙ each_stands test members (λ m e. h m (or_last (same_member m x) (stands_in members m) e))

pub all_covered : (facts : FactList) (h : Member → Bool) (wide : Set) (members : List Member) → IsSetOf wide members → ((m : Member) → has wide m ≡ true → reaches facts h m ≡ true) → true ≡ reaches_each facts h members
all_covered facts h wide members is covered = sym (each_stands (reaches facts h) members (λ m e. covered m (is m ∙ e)))

-- ---- the columns on the sides of a Join

and_true : (a b : Bool) → a ≡ true → b ≡ true → (a && b) ≡ true
and_true a b e f = (λ i. e i && f i)

below : (c n : ℕ) → c < n → nat_lt c n ≡ true
below c n h = grind (arith, h)

not_above : (n c : ℕ) → n ≤ c → nat_le n c ≡ true
not_above n c h = grind (arith, h)

pub no_half : (side : Member) (split : Option ℕ) (columns : ℕ) (own : Set) → ((m : Member) → has own m ≡ false) → IsHalf side split columns own
no_half side split columns own none m e = absurd (false≢true (sym (none m) ∙ e))

pub left_half : (split columns : ℕ) (own : Set) → IsBetween 0 split own → IsHalf member.Left (Some split) columns own
left_half split columns own is m e =
    let found = is m e in
    (found.0, found.1, λ h l. or_first (h member.Left && nat_lt found.0 split) (h member.Right && (nat_le split found.0 && nat_lt found.0 columns)) (and_true (h member.Left) (nat_lt found.0 split) l (below found.0 split found.3)))

pub right_half : (split columns : ℕ) (own : Set) → IsBetween split columns own → IsHalf member.Right (Some split) columns own
right_half split columns own is m e =
    let found = is m e in (
      found.0,
      found.1,
      λ h r. or_last (h member.Left && nat_lt found.0 split) (h member.Right && (nat_le split found.0 && nat_lt found.0 columns))
          (and_true (h member.Right) (nat_le split found.0 && nat_lt found.0 columns) r (and_true (nat_le split found.0) (nat_lt found.0 columns) (not_above split found.0 found.2) (below found.0 columns found.3))),
    )
