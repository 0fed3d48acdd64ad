-- Which choices are valid: lawful orderings by rearrangement and in order, and what each other one breaks.
use Rattle.std.proofs.Common.{◌≡◌, ℕ, zero, suc, ◌<◌, true, false, List, [], ◌∷◌, nat_eq, refl, arith}
use Rattle.wd_value.specs.Rows.{Row}
use Rattle.wd_value.proofs.Perms.{keep, flip, both, Perm-append_comm, Perm-count_by}
use Rattle.wd_plan.specs.Choices.{AreOrderings}
use Rattle.wd_plan.specs.Outcomes.{class_among, ordering_at}
use Rattle.wd_plan.specs.Plans.{ClassRule}
use Rattle.wd_plan.specs.Sorting.{IsOrdering}
use Rattle.wd_laws.proofs.examples.choices_come_out.Goals as goal

-- a fact of each number below 1
first_alone : (P : ℕ → Type 0) → P 0 → (k : ℕ) → k < 1 → P k
first_alone P p zero h = p
first_alone P p (suc k) h = absurd (omega arith)

-- the orderings of a step with one class
one_class : (class : ClassRule) (rows : List Row) (o : List ℕ) → IsOrdering class rows o → AreOrderings (class ∷ []) rows (o ∷ [])
one_class class rows o v = record { number = refl; each = first_alone (λ k. IsOrdering (class_among (class ∷ []) k) rows (ordering_at (o ∷ []) k)) v }

-- and of one with none
no_class : (rows : List Row) → AreOrderings [] rows []
no_class rows = record { number = refl; each = λ n h. absurd (omega arith) }

-- rows that stand out of order would make the test both true and false
differ : true ≡ false → ⊥
differ e = cc

-- rows of different partitions ask for no order
apart : {P : Type 0} → false ≡ true → P
apart e = absurd (cc)

pub returns : goal.returns
returns c = record {
  check_choice_identity = record {
    number = refl;
    lawful = (
      (
        (tt, no_class _),
        one_class _ _
            (0 ∷ 1 ∷ 2 ∷ 3 ∷ [])
            (record {
              once = λ x. refl;
              in_order = ((λ h. refl, (λ h. refl, (λ h. refl, tt))), ((λ h. refl, (λ h. refl, tt)), ((λ h. refl, tt), (tt, tt))));
            }),
      ),
      no_class _,
    );
  };
  check_choice_ties_exchanged = record {
    number = refl;
    lawful = (
      (
        (tt, no_class _),
        one_class _ _
            (1 ∷ 0 ∷ 2 ∷ 3 ∷ [])
            (record {
              once = λ x. Perm-count_by (nat_eq x) (flip 0 1 (2 ∷ 3 ∷ []));
              in_order = ((λ h. refl, (λ h. refl, (λ h. refl, tt))), ((λ h. refl, (λ h. refl, tt)), ((λ h. refl, tt), (tt, tt))));
            }),
      ),
      no_class _,
    );
  };
  check_choice_unsorted_ordering = λ v. differ ((v.lawful.0.1.each 0 (omega arith)).in_order.0.0 refl);
  null_before_a_value = λ v. differ ((v.lawful.0.1.each 0 (omega arith)).in_order.0.0 refl);
  check_choice_short_ordering = λ v. (let e : 1 ≡ 0 = (v.lawful.0.1.each 0 (omega arith)).once 3 in omega arith);
  ordering_that_repeats_a_position = λ v. (let e : 1 ≡ 0 = (v.lawful.0.1.each 0 (omega arith)).once 1 in omega arith);
  check_choice_missing_ordering = λ v. (let e : 0 ≡ 1 = v.number in omega arith);
  check_choice_surplus_ordering = λ v. (let e : 2 ≡ 1 = v.number in omega arith);
  partitions_in_any_order = record {
    number = refl;
    lawful = (
      (
        (tt, no_class _),
        one_class _ _
            (1 ∷ 0 ∷ 2 ∷ 4 ∷ 3 ∷ [])
            (record {
              once = λ x. Perm-count_by (nat_eq x) (both (flip 0 1 (2 ∷ 3 ∷ 4 ∷ [])) (keep 1 (keep 0 (keep 2 (flip 3 4 [])))));
              in_order = ((λ h. apart h, (λ h. refl, (λ h. refl, (λ h. refl, tt)))), ((λ h. refl, (λ h. refl, (λ h. refl, tt))), ((λ h. refl, (λ h. refl, tt)), ((λ h. apart h, tt), (tt, tt)))));
            }),
      ),
      no_class _,
    );
  };
  partition_out_of_order = λ v. differ ((v.lawful.0.1.each 0 (omega arith)).in_order.1.0.0 refl);
  limit_in_order = record {
    number = refl;
    lawful = (
      (
        (tt, no_class _),
        one_class _ _
            (3 ∷ 2 ∷ 0 ∷ 1 ∷ [])
            (record {
              once = λ x. Perm-count_by (nat_eq x) (both (Perm-append_comm (0 ∷ 1 ∷ []) (2 ∷ 3 ∷ [])) (flip 2 3 (0 ∷ 1 ∷ [])));
              in_order = ((λ h. refl, (λ h. refl, (λ h. refl, tt))), ((λ h. refl, (λ h. refl, tt)), ((λ h. refl, tt), (tt, tt))));
            }),
      ),
      no_class _,
    );
  };
  limit_out_of_order = λ v. differ ((v.lawful.0.1.each 0 (omega arith)).in_order.0.1.1.0 refl);
  second_key_out_of_order = λ v. differ ((v.lawful.0.1.each 0 (omega arith)).in_order.1.0.0 refl);
  ordering_of_another_input = λ v. (let e : 0 ≡ 1 = (v.lawful.0.1.each 0 (omega arith)).once 3 in omega arith);
  empty_ordering_of_a_limit_over_a_fault = record { number = refl; lawful = ((tt, no_class _), (refl, tt)) };
  ordering_of_a_limit_over_a_fault = λ v. (let e : 0 ∷ 1 ∷ [] ≡ [] = v.lawful.1.0 in cc);
  empty_ordering_over_a_fault = record { number = refl; lawful = (((tt, no_class _), (refl, tt)), tt) };
  ordering_over_a_fault = λ v. (let e : 0 ∷ 1 ∷ [] ≡ [] = v.lawful.0.1.0 in cc);
}
