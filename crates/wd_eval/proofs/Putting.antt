-- Sorted orderings appended to those that are there serve a step over its input.
use Rattle.std.proofs.Common.{◌≡◌, ℕ, zero, suc, ◌+◌, ◌<◌, List, [], ◌∷◌, ◌++◌, take, drop, length, get_or, Option, None, Ok, Err, refl, sym, ap, ◌∙◌, subst, arith, append_assoc, below_more, length-append}
use Rattle.std.proofs.Math.Seq.{drop-append_seam, get_or-append_seam}
use Rattle.std.proofs.lemmas.List.{append-nil, get_or-append-add, get_or_append_left, take_all}
use Rattle.wd_value.specs.declared.value.Fault.{Fault}
use Rattle.wd_value.specs.Rows.{Row}
use Rattle.wd_plan.specs.Choices.{AreOrderingsOver}
use Rattle.wd_plan.specs.Outcomes.{RowsOrFault, class_among, ordering_at}
use Rattle.wd_plan.specs.Plans.{ClassRule, Step, Limit, LimitRule, WindowRule, step_classes}
use Rattle.wd_plan.specs.Sorting.{limit_class}
use Rattle.wd_partition.proofs.Grouping.{IsOrdering-from_given}
use Rattle.wd_eval.specs.Nodes.{cut_over}
use Rattle.wd_eval.specs.Windows.{AreServed, step_over}
use Rattle.wd_eval.specs.ClassIndexes.{AreClassIndexes, IsClassIndexIn}
use Rattle.wd_eval.specs.declared.class_index.ClassIndex.{ClassIndex}
use Rattle.wd_eval.specs.Tied.{IsSortedOver, turn_of}
use Rattle.wd_eval.specs.Ties.{AreAllPut, ArePut, AreSortedOver, IsPutEmpty, IsStableStep}
use Rattle.wd_partition.specs.declared.turn.Turn.{Turn}
use Rattle.wd_eval.specs.declared.turned.Turned.{Turned}
use Rattle.wd_eval.proofs.Serving.{all_from_each, bare_stepped, indexes_more}

-- ---- the classes of a step

pub lawful_all : (classes : List ClassRule) (input : RowsOrFault) (turned : Option Turned) (first : ℕ) (own : List (List ℕ)) → AreSortedOver classes input turned first (length classes) own → AreOrderingsOver classes input own
lawful_all classes (Ok rows) turned first own s = record {
  number = s.long;
  each = λ k h. IsOrdering-from_given (class_among classes k) rows (turn_of turned (first + k)) (ordering_at own k) (s.each k h);
}
lawful_all classes (Err fault) turned first own s = all_from_each own (λ k h. (let long = s.long in s.each k (omega arith)))

taken_back : (old own new : List (List ℕ)) → new ≡ old ++ own → take (length own) (drop (length old) new) ≡ own
taken_back old own new e = ap (λ ch. take (length own) (drop (length old) ch)) e ∙ ap (take (length own)) (drop-append_seam old own) ∙ take_all (length own) own (omega arith)

pub all_put : (classes : List ClassRule) (input : RowsOrFault) (turned : Option Turned) (old new : List (List ℕ)) → AreAllPut classes input turned old new → AreServed classes input new (length old)
all_put classes input turned old new p =
    let own = p.own in
    let size = p.sorted.long in
    let long = ap length p.grown ∙ length-append old own in
    let taken : take (length classes) (drop (length old) new) ≡ own = ap (λ n. take n (drop (length old) new)) (sym size) ∙ taken_back old own new p.grown in
    record { present = omega arith; lawful = subst (AreOrderingsOver classes input) (sym taken) (lawful_all classes input turned (length old) own p.sorted) }

-- ---- a step over a fault

empty_put : (classes : List ClassRule) (fault : Fault) (turned : Option Turned) (count : ℕ) (old new : List (List ℕ)) → count ≡ length classes → IsPutEmpty count old new → AreAllPut classes (Err fault) turned old new
empty_put classes fault turned count old new e p = record {
  own = p.own;
  grown = p.grown;
  sorted = record { long = p.long ∙ e; each = λ k h. p.empty k (omega arith) };
}

pub fault_tied : (step : Step) (fault : Fault) (turned : Option Turned) (count : ℕ) (old new : List (List ℕ)) → count ≡ length (step_classes step) → IsPutEmpty count old new → IsStableStep step (Err fault) turned old new (Err fault)
fault_tied step fault turned count old new e p =
    let put = empty_put (step_classes step) fault turned count old new e p in
    record { put = put; stepped = record { served = all_put (step_classes step) (Err fault) turned old new put; is = refl } }

pub none_empty : (old : List (List ℕ)) → IsPutEmpty 0 old old
none_empty old = record { own = []; grown = sym (append-nil old); long = refl; empty = λ k h. absurd (omega arith) }

pub one_empty : (count : ℕ) (old mid new : List (List ℕ)) → IsPutEmpty count old mid → new ≡ mid ++ [] ∷ [] → IsPutEmpty (count + 1) old new
one_empty count old mid new p e =
    let own = p.own in
    let all = own ++ [] ∷ [] in
    let size = p.long in
    let long = length-append own ([] ∷ []) in
    let here : ordering_at all count ≡ [] = ap (ordering_at all) (sym size) ∙ get_or-append_seam own [] [] [] in
    let earlier : (k : ℕ) → k < count → ordering_at all k ≡ [] = λ k h. get_or_append_left own ([] ∷ []) [] k (omega arith) ∙ p.empty k h in
    record {
      own = all;
      grown = e ∙ ap (λ ch. ch ++ [] ∷ []) p.grown ∙ append_assoc old own ([] ∷ []);
      long = long ∙ ap (λ k. k + 1) size;
      empty = λ k h. below_more (λ i. ordering_at all i ≡ []) count earlier here k h;
    }

-- ---- one class after another

pub none_put : (classes : List ClassRule) (input : RowsOrFault) (turned : Option Turned) (old : List (List ℕ)) → ArePut classes input turned 0 old old
none_put classes input turned old = record {
  own = [];
  grown = sym (append-nil old);
  sorted = record { long = refl; each = λ k h. absurd (omega arith) };
}

pub one_put : (classes : List ClassRule) (input : RowsOrFault) (turned : Option Turned) (n number : ℕ) (old mid new : List (List ℕ)) (turn : Turn) (ordering : List ℕ)
    → ArePut classes input turned n old mid → number ≡ length mid → turn ≡ turn_of turned number → IsSortedOver (class_among classes n) turn input ordering → new ≡ mid ++ ordering ∷ [] → ArePut classes input turned (n + 1) old new
one_put classes input turned n number old mid new turn ordering p at taken sorted e =
    let own = p.own in
    let size = p.sorted.long in
    let all = own ++ ordering ∷ [] in
    let long = length-append own (ordering ∷ []) in
    let here_number : number ≡ length old + n = at ∙ ap length p.grown ∙ length-append old own ∙ ap (λ k. length old + k) size in
    let last : ordering_at all n ≡ ordering = ap (ordering_at all) (sym size) ∙ get_or-append_seam own ordering [] [] in
    let earlier : (k : ℕ) → k < n → IsSortedOver (class_among classes k) (turn_of turned (length old + k)) input (ordering_at all k) =
    λ k h. subst (IsSortedOver (class_among classes k) (turn_of turned (length old + k)) input) (sym (get_or_append_left own (ordering ∷ []) [] k (omega arith))) (p.sorted.each k h) in
    let here : IsSortedOver (class_among classes n) (turn_of turned (length old + n)) input (ordering_at all n) =
    subst (IsSortedOver (class_among classes n) (turn_of turned (length old + n)) input) (sym last)
    (subst (λ (t : Turn). IsSortedOver (class_among classes n) t input ordering) (taken ∙ ap (turn_of turned) here_number) sorted) in
    record {
      own = all;
      grown = e ∙ ap (λ ch. ch ++ ordering ∷ []) p.grown ∙ append_assoc old own (ordering ∷ []);
      sorted = record {
        long = long ∙ ap (λ k. k + 1) size;
        each = λ k h. below_more (λ i. IsSortedOver (class_among classes i) (turn_of turned (length old + i)) input (ordering_at all i)) n earlier here k h;
      };
    }

-- ---- a step without classes

pub bare_stable : (step : Step) (input : RowsOrFault) (turned : Option Turned) (old : List (List ℕ)) (found : RowsOrFault) → step_classes step ≡ [] → found ≡ step_over step [] input → IsStableStep step input turned old old found
bare_stable step input turned old found bare is = record {
  put = subst (λ (classes : List ClassRule). AreAllPut classes input turned old old) (sym bare) (none_put [] input turned old);
  stepped = bare_stepped step input old (length old) found bare (omega arith) is;
}

-- ---- a Limit

pub limit_tied_from : (limit : LimitRule) (input : RowsOrFault) (turned : Option Turned) (old new : List (List ℕ)) (own : List ℕ) (number : ℕ) (turn : Turn) (found : RowsOrFault)
    → number ≡ length old → turn ≡ turn_of turned number → IsSortedOver (limit_class limit) turn input own → new ≡ old ++ own ∷ [] → found ≡ cut_over limit own input → IsStableStep (Limit limit) input turned old new found
limit_tied_from limit input turned old new own number turn found at taken sorted grown is =
    let classes = limit_class limit ∷ [] in
    let put = one_put classes input turned 0 number old old new turn own (none_put classes input turned old) at taken sorted grown in
    record {
      put = put;
      stepped = record { served = all_put classes input turned old new put; is = is ∙ ap (λ os. step_over (Limit limit) os input) (sym (taken_back old (own ∷ []) new grown)) };
    }

-- ---- the partitions under them

indexes_grown : (w : WindowRule) (rows : List Row) (choice more : List (List ℕ)) (first n : ℕ) (ls : List ClassIndex) → AreClassIndexes w rows choice first n ls → AreClassIndexes w rows (choice ++ more) first n ls
indexes_grown w rows choice more first n ls a =
    let there = a.present in
    let long = length-append choice more in
    record {
      long = a.long;
      present = omega arith;
      each = λ k l h. subst (λ (o : List ℕ). IsClassIndexIn w k rows o (get_or ls k l)) (sym (get_or_append_left choice more [] (first + k) (omega arith))) (a.each k l h);
    }

pub none_listed : (w : WindowRule) (rows : List Row) (old : List (List ℕ)) → AreClassIndexes w rows old (length old) 0 []
none_listed w rows old = record { long = refl; present = omega arith; each = λ k l h. absurd (omega arith) }

-- those of one class more
pub one_listed : (w : WindowRule) (rows : List Row) (first n : ℕ) (mid new : List (List ℕ)) (ordering : List ℕ) (ls more : List ClassIndex) (l : ClassIndex)
    → first + n ≡ length mid → new ≡ mid ++ ordering ∷ [] → AreClassIndexes w rows mid first n ls → IsClassIndexIn w n rows ordering l → more ≡ ls ++ l ∷ [] → AreClassIndexes w rows new first (n + 1) more
one_listed w rows first n mid new ordering ls more l at e a b f =
    let grown : AreClassIndexes w rows new first n ls = subst (λ (ch : List (List ℕ)). AreClassIndexes w rows ch first n ls) (sym e) (indexes_grown w rows mid (ordering ∷ []) first n ls a) in
    let long = ap length e ∙ length-append mid (ordering ∷ []) in
    let here : ordering_at new (first + n) ≡ ordering = ap (ordering_at new) at ∙ ap (λ ch. ordering_at ch (length mid)) e ∙ get_or-append_seam mid ordering [] [] in
    indexes_more w rows new first n ls more l grown (record { present = omega arith; is = subst (λ (o : List ℕ). IsClassIndexIn w n rows o l) (sym here) b }) f

-- ---- where rows that tie are taken as they are, the orderings made before make no difference

module _ (classes : List ClassRule) (input : RowsOrFault) (old new : List (List ℕ)) (p : AreAllPut classes input None old new) (made : List (List ℕ)) where
  pub put_again : AreAllPut classes input None made (made ++ p.own)
  put_again = record { own = p.own; grown = refl; sorted = record { long = p.sorted.long; each = λ k h. p.sorted.each k h } }

  -- as many of them stand after those made before
  same_own : take (length classes) (drop (length old) new) ≡ take (length classes) (drop (length made) (made ++ p.own))
  same_own = ap (λ ch. take (length classes) (drop (length old) ch)) p.grown ∙ ap (take (length classes)) (drop-append_seam old p.own ∙ sym (drop-append_seam made p.own))

  pub indexes_again : (w : WindowRule) (rows : List Row) (n : ℕ) (ls : List ClassIndex) → AreClassIndexes w rows new (length old) n ls → AreClassIndexes w rows (made ++ p.own) (length made) n ls
  indexes_again w rows n ls a =
      let there = a.present in
      let before = ap length p.grown ∙ length-append old p.own in
      let after = length-append made p.own in
      record {
        long = a.long;
        present = omega arith;
        each = λ k l h. (
            let at : ordering_at new (length old + k) ≡ ordering_at (made ++ p.own) (length made + k) =
            ap (λ ch. ordering_at ch (length old + k)) p.grown ∙ get_or-append-add old p.own k [] ∙ sym (get_or-append-add made p.own k []) in
            subst (λ (o : List ℕ). IsClassIndexIn w k rows o (get_or ls k l)) at (a.each k l h));
      }

pub step_again : (step : Step) (input : RowsOrFault) (old new : List (List ℕ)) (found : RowsOrFault) (made : List (List ℕ)) → IsStableStep step input None old new found → (more : List (List ℕ)) × IsStableStep step input None made more found
step_again step input old new found made x =
    let classes = step_classes step in
    let put = put_again classes input old new x.put made in (
      made ++ x.put.own,
      record {
        put = put;
        stepped = record { served = all_put classes input None made (made ++ x.put.own) put; is = x.stepped.is ∙ ap (λ own. step_over step own input) (same_own classes input old new x.put made) };
      },
    )

pub some_empty : (count : ℕ) (old : List (List ℕ)) → (more : List (List ℕ)) × IsPutEmpty count old more
some_empty zero old = (old, none_empty old)
some_empty (suc count) old =
    let mid = some_empty count old in
    (mid.0 ++ [] ∷ [], subst (λ n. IsPutEmpty n old (mid.0 ++ [] ∷ [])) (omega arith) (one_empty count old mid.0 (mid.0 ++ [] ∷ []) mid.1 refl))
