-- Members reached by traces.
use Rattle.std.proofs.Common.{◌≡◌, ℕ, Bool, true, false, ◌||◌, refl, sym, ◌∙◌, ap, cond, Ok, Err, Some, None, ◌+◌, ◌-◌, ◌<◌, ◌≤◌, zero, suc, List, [], ◌∷◌, ◌++◌, map, length, option_map, slice_get, slice_index_or, nat_lt, arith}
use Rattle.std.specs.List.{list_all}
use Rattle.std.proofs.lemmas.Bool.{and_parts, ltb-false, ltb-true}
use Rattle.std.proofs.lemmas.List.{length-map}
use Rattle.std.proofs.lemmas.Option.{slice_get-map, slice_get_past, slice_get_read}
use Rattle.wd_certificate.specs.Certificates.{TraceRecord}
use Rattle.wd_certificate.specs.declared.error.CertError.TheVariants.{OutOfRange, UnreachedUse}
use Rattle.wd_step_facts.specs.declared.facts.Member.{Member}
use Rattle.wd_step_facts.specs.Facts.{Fact, FactList, columns_named, fact_of, is_plain_fact, moved_fact}
use Rattle.wd_step_facts.specs.declared.facts.Given.{Given}
use Rattle.wd_sets.specs.Sets.{stands_in}
use Rattle.wd_sets.specs.Reaches.{also, reaches_each}
use Rattle.wd_rules.specs.Traces.{traced, with_use, with_uses}
use Rattle.wd_node_facts.specs.declared.facts.KeptFact.{KeptFact}
use Rattle.wd_node_facts.specs.declared.facts.Side.{Side}
use Rattle.wd_node_facts.specs.Seen.{IsNarrow, each_columns, fact_by, facts_kept, side_facts}
use Rattle.wd_node_facts.proofs.Sides.{get_left, get_right}

-- one more of some members, before others
pub one_more : (same has rest : Bool) → ((same || has) || rest) ≡ (has || (same || rest))
one_more true true rest = refl
one_more true false rest = refl
one_more false has rest = refl

-- a fact whose left side is reached, used
pub used_is : (node : ℕ) (facts : FactList) (has more : Member → Bool) (fact : Fact) → reaches_each facts has fact.from ≡ true → ((m : Member) → more m ≡ also has fact.to m) → with_use node facts has (Some fact) ≡ Ok more
used_is node facts has more fact e h = ap (λ b. cond b (Ok (also has fact.to)) (Err (UnreachedUse node))) e ∙ (λ i. Ok (λ m. sym (h m) i))

-- a trace from columns of the facts
pub started : (node : ℕ) (facts : FactList) (has : Member → Bool) (trace : TraceRecord) → list_all (λ c. nat_lt c facts.columns) trace.from ≡ true → ((m : Member) → has m ≡ stands_in (columns_named trace.from) m) → with_uses node facts has trace.uses ≡ traced node facts trace
started node facts has trace e h =
    (λ i. with_uses node facts (λ m. h m i) trace.uses)
    ∙ ap (λ b. cond b (with_uses node facts (stands_in (columns_named trace.from)) trace.uses) (Err (OutOfRange node))) (sym e)

-- one from another column
pub not_started : (node : ℕ) (facts : FactList) (trace : TraceRecord) → list_all (λ c. nat_lt c facts.columns) trace.from ≡ false → traced node facts trace ≡ Err (OutOfRange node)
not_started node facts trace e = ap (λ b. cond b (with_uses node facts (stands_in (columns_named trace.from)) trace.uses) (Err (OutOfRange node))) e

-- the uses of a trace, after its start
pub after_start : (node : ℕ) (facts : FactList) (has : Member → Bool) (trace : TraceRecord) (uses : List ℕ) → list_all (λ c. nat_lt c facts.columns) trace.from ≡ true → ((m : Member) → has m ≡ stands_in (columns_named trace.from) m) → uses ≡ trace.uses
    → traced node facts trace ≡ with_uses node facts has uses
after_start node facts has trace uses e h u = sym (started node facts has trace e h) ∙ ap (with_uses node facts has) (sym u)

-- ---- a fact by its number

at_number : {X Y : Type 0} (t : Y → Bool) (f : X → Y) (xs : List X) (n : ℕ) (x : X) → list_all t (map f xs) ≡ true → slice_get xs n ≡ Some x → t (f x) ≡ true
at_number t f [] n x e at = cc
at_number t f (y ∷ xs) zero x e at = let same : y ≡ x = cc in ap (λ z. t (f z)) (sym same) ∙ (and_parts (t (f y)) (list_all t (map f xs)) e).0
at_number t f (y ∷ xs) (suc n) x e at = at_number t f xs n x (and_parts (t (f y)) (list_all t (map f xs)) e).1 at

module _ (side : Side) where
  -- a kept fact of a side names columns that can be renumbered
  pub plain_at : (n : ℕ) (kept : KeptFact) → IsNarrow side → slice_get side.keeps.list.items n ≡ Some kept → is_plain_fact (65536 - side.by) (fact_by (each_columns side.keeps.traces.items) kept) ≡ true
  plain_at n kept e at = at_number (is_plain_fact (65536 - side.by)) (fact_by (each_columns side.keeps.traces.items)) side.keeps.list.items n kept e at

  got : (n : ℕ) → slice_get (side_facts side) n ≡ option_map (moved_fact (λ c. side.by + c) side.row) (option_map (fact_by (each_columns side.keeps.traces.items)) (slice_get side.keeps.list.items n))
  got n = slice_get-map (moved_fact (λ c. side.by + c) side.row) (facts_kept side.keeps) n ∙ ap (option_map (moved_fact (λ c. side.by + c) side.row)) (slice_get-map (fact_by (each_columns side.keeps.traces.items)) side.keeps.list.items n)

  pub side_at : (n : ℕ) (kept : KeptFact) → slice_get side.keeps.list.items n ≡ Some kept → slice_get (side_facts side) n ≡ Some (moved_fact (λ c. side.by + c) side.row (fact_by (each_columns side.keeps.traces.items) kept))
  side_at n kept e = got n ∙ ap (λ o. option_map (moved_fact (λ c. side.by + c) side.row) (option_map (fact_by (each_columns side.keeps.traces.items)) o)) e

  pub side_past : (n : ℕ) → slice_get side.keeps.list.items n ≡ None → slice_get (side_facts side) n ≡ None
  side_past n e = got n ∙ ap (λ o. option_map (moved_fact (λ c. side.by + c) side.row) (option_map (fact_by (each_columns side.keeps.traces.items)) o)) e

  many : length (side_facts side) ≡ length side.keeps.list.items
  many = length-map (facts_kept side.keeps) (moved_fact (λ c. side.by + c) side.row) ∙ length-map side.keeps.list.items (fact_by (each_columns side.keeps.traces.items))

  pub in_side : (others : List Fact) (n : ℕ) → n < length side.keeps.list.items → slice_get (side_facts side ++ others) n ≡ slice_get (side_facts side) n
  in_side others n h = let e = many in get_left (side_facts side) others n (omega arith)

  pub after_side : (others : List Fact) (n : ℕ) → length side.keeps.list.items ≤ n → slice_get (side_facts side ++ others) n ≡ slice_get others (n - length side.keeps.list.items)
  after_side others n h = let e = many in get_right (side_facts side) others n (omega arith) ∙ ap (λ k. slice_get others (n - k)) many

pub in_first : (list : List Given) (others : List Fact) (n : ℕ) → n < length list → slice_get (map fact_of list ++ others) n ≡ slice_get (map fact_of list) n
in_first list others n h = let e = length-map list fact_of in get_left (map fact_of list) others n (omega arith)

pub after_first : (list : List Given) (others : List Fact) (n : ℕ) → length list ≤ n → slice_get (map fact_of list ++ others) n ≡ slice_get others (n - length list)
after_first list others n h = let e = length-map list fact_of in get_right (map fact_of list) others n (omega arith) ∙ ap (λ k. slice_get others (n - k)) (length-map list fact_of)

-- ---- a fact that was read from a list

pub read_at : {X : Type 0} (xs ys : List X) (n : ℕ) (x : X) → xs ≡ ys → true ≡ nat_lt n (length xs) → x ≡ slice_index_or xs n x → slice_get ys n ≡ Some x
read_at xs ys n x e h is = ap (λ zs. slice_get zs n) (sym e) ∙ slice_get_read xs (length xs) n x refl (ltb-true n (length xs) (sym h)) is

pub read_past : {X : Type 0} (xs ys : List X) (n : ℕ) → xs ≡ ys → false ≡ nat_lt n (length xs) → slice_get ys n ≡ None
read_past xs ys n e h = ap (λ zs. slice_get zs n) (sym e) ∙ slice_get_past xs n (ltb-false n (length xs) (sym h))
