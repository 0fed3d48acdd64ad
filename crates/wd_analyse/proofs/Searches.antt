-- What was tried and is kept, with one source more.
use Rattle.std.proofs.Common.{◌≡◌, ℕ, ◌<◌, ◌≤◌, Bool, true, false, cond, not, List, [], ◌∷◌, ◌++◌, append_assoc, filter, length, refl, sym, ◌∙◌, ap, arith, subst}
use Rattle.std.proofs.lemmas.Bool.{false≢true}
use Rattle.std.proofs.lemmas.List.{append-nil, length-append, map-append}
use Rattle.std.proofs.lemmas.List.Elements.{filter-append}
use Rattle.wd_step_facts.specs.Facts.{FactList}
use Rattle.wd_facts.proofs.Lists.{all_append}
use Rattle.wd_analyse.specs.Evidence.{Closing, IsClosing}
use Rattle.wd_analyse.specs.Sources.{distinct, gives_some, is_tried, starts}
use Rattle.wd_analyse.specs.Steps.{Adds, HasTried, IsNextTried, IsSearch}
use Rattle.wd_analyse.specs.declared.tried.Tried.{Tried}

filter_one : {X : Type 0} (t : X → Bool) (x : X) → length (filter t (x ∷ [])) ≤ 1
filter_one t x = by (t x) refl
  where
    by : (b : Bool) → t x ≡ b → length (filter t (x ∷ [])) ≤ 1
    by true e = rw e (omega arith)
    by false e = rw e (omega arith)

distinct_append : (tried A B : List (List ℕ)) → distinct tried (A ++ B) ≡ distinct tried A ++ distinct (tried ++ distinct tried A) B
distinct_append tried [] B = ap (λ t. distinct t B) (sym (append-nil tried))
distinct_append tried (X ∷ A) B = by (is_tried tried X) refl (distinct_append tried A B) (distinct_append (tried ++ X ∷ []) A B)
  where
    by : (b : Bool) → is_tried tried X ≡ b → distinct tried (A ++ B) ≡ distinct tried A ++ distinct (tried ++ distinct tried A) B
        → distinct (tried ++ X ∷ []) (A ++ B) ≡ distinct (tried ++ X ∷ []) A ++ distinct ((tried ++ X ∷ []) ++ distinct (tried ++ X ∷ []) A) B
        → distinct tried (X ∷ (A ++ B)) ≡ distinct tried (X ∷ A) ++ distinct (tried ++ distinct tried (X ∷ A)) B
    by true e old new = rw e old
    by false e old new = rw e (ap (λ l. X ∷ l) (new ∙ ap (λ t. distinct (tried ++ X ∷ []) A ++ distinct t B) (append_assoc tried (X ∷ []) (distinct (tried ++ X ∷ []) A))))

-- one source more
one_more : (before : List (List ℕ)) (X : List ℕ) → distinct [] (before ++ X ∷ []) ≡ distinct [] before ++ distinct (distinct [] before) (X ∷ [])
one_more before X = distinct_append [] before (X ∷ [])

old_by : (b : Bool) → false ≡ not b → b ≡ true
old_by true e = refl
old_by false e = absurd (false≢true e)

new_by : (b : Bool) → true ≡ not b → b ≡ false
new_by true e = absurd (false≢true (sym e))
new_by false e = refl

module _ (facts : FactList) (width : ℕ) (before : List (List ℕ)) (tried : Tried) (claims : List Closing) (s : IsSearch facts width before tried claims) (X : List ℕ) where
  -- where fewer than 64 are kept, all sources were tried
  all_tried : length claims < 64 → distinct [] before ≡ starts s.keeps.tried
  all_tried h = sym s.keeps.order ∙ ap (λ u. starts s.keeps.tried ++ u) (s.keeps.all h) ∙ append-nil (starts s.keeps.tried)

  pub when_full : 64 ≤ length claims → IsSearch facts width (before ++ X ∷ []) tried claims
  when_full h = record {
    keeps = record {
      tried = s.keeps.tried;
      untried = s.keeps.untried ++ distinct (distinct [] before) (X ∷ []);
      closings = s.keeps.closings;
      order = sym (append_assoc (starts s.keeps.tried) s.keeps.untried (distinct (distinct [] before) (X ∷ []))) ∙ ap (λ l. l ++ distinct (distinct [] before) (X ∷ [])) s.keeps.order ∙ sym (one_more before X);
      kept = s.keeps.kept;
      few = s.keeps.few;
      all = λ l. absurd (omega (arith, l, h));
    };
    has = s.has;
  }

  next_tried : length claims < 64 → (b : Bool) → is_tried (starts s.keeps.tried) X ≡ b → distinct (distinct [] before) (X ∷ []) ≡ cond b [] (X ∷ [])
  next_tried h b e = ap (λ t. distinct t (X ∷ [])) (all_tried h) ∙ ap (λ b. cond b [] (X ∷ [])) e

  pub when_tried : (new : Tried) → length claims < 64 → IsNextTried (starts s.keeps.tried) X false new → IsSearch facts width (before ++ X ∷ []) new claims
  when_tried new h n = record {
    keeps = record {
      tried = s.keeps.tried;
      untried = s.keeps.untried;
      closings = s.keeps.closings;
      order = s.keeps.order ∙ sym (append-nil (distinct [] before)) ∙ ap (λ l. distinct [] before ++ l) (sym (next_tried h true (old_by (is_tried (starts s.keeps.tried) X) n.test))) ∙ sym (one_more before X);
      kept = s.keeps.kept;
      few = s.keeps.few;
      all = s.keeps.all;
    };
    has = n.has;
  }

  pub when_new : (new : Tried) (more : List Closing) → length claims < 64 → IsNextTried (starts s.keeps.tried) X true new → Adds facts width X claims more → IsSearch facts width (before ++ X ∷ []) new more
  when_new new more h n a =
      let c = a.closing in
      let begun : starts (s.keeps.tried ++ c ∷ []) ≡ starts s.keeps.tried ++ X ∷ [] = map-append (λ (c : Closing). c.from) s.keeps.tried (c ∷ []) ∙ (λ i. starts s.keeps.tried ++ a.from i ∷ []) in
      let next : distinct (distinct [] before) (X ∷ []) ≡ X ∷ [] = next_tried h false (new_by (is_tried (starts s.keeps.tried) X) n.test) in
      record {
        keeps = record {
          tried = s.keeps.tried ++ c ∷ [];
          untried = [];
          closings = all_append (IsClosing facts) s.keeps.tried (c ∷ []) s.keeps.closings (a.is, tt);
          order = append-nil (starts (s.keeps.tried ++ c ∷ [])) ∙ begun ∙ (λ i. sym (all_tried h) i ++ sym next i) ∙ sym (one_more before X);
          kept = a.more ∙ ap (λ l. l ++ filter (gives_some width) (c ∷ [])) s.keeps.kept ∙ sym (filter-append (gives_some width) s.keeps.tried (c ∷ []));
          few = omega (arith, h, filter_one (gives_some width) c, ap length a.more, length-append claims (filter (gives_some width) (c ∷ [])));
          all = λ l. refl;
        };
        has = subst (λ Xs. HasTried Xs new) (sym begun) n.has;
      }

-- nothing is tried of no sources
pub at_first : (facts : FactList) (width : ℕ) (tried : Tried) → HasTried [] tried → IsSearch facts width [] tried []
at_first facts width tried h = record {
  keeps = record { tried = []; untried = []; closings = tt; order = refl; kept = refl; few = omega arith; all = λ l. refl };
  has = h;
}
