-- Rows at positions, place by place.
use Rattle.std.proofs.Common.{◌≡◌, ◌∙◌, ℕ, ◌<◌, ◌↔◌, List, [], length, get_or, ap, sym, subst}
use Rattle.std.proofs.lemmas.List.{ext_get_or, get_or-map, length-map}
use Rattle.wd_value.specs.Rows.{Row, row_at, rows_at}

at : (rows : List Row) (ps : List ℕ) (k : ℕ) → k < length ps → get_or (rows_at rows ps) k [] ≡ row_at rows (get_or ps k 0)
at rows ps k l = get_or-map (row_at rows) ps k 0 [] l

pub rows_at-places : (rows others : List Row) (ps qs : List ℕ) → length ps ≡ length qs → (rows_at rows ps ≡ rows_at others qs) ↔ ((k : ℕ) → k < length ps → row_at rows (get_or ps k 0) ≡ row_at others (get_or qs k 0))
rows_at-places rows others ps qs e = (
  λ same k l. sym (at rows ps k l) ∙ ap (λ rs. get_or rs k []) same ∙ at others qs k (subst (λ n. k < n) e l),
  λ each. ext_get_or [] (rows_at rows ps) (rows_at others qs) (length-map ps (row_at rows) ∙ e ∙ sym (length-map qs (row_at others))) (λ k m.
      let l : k < length ps = subst (λ n. k < n) (length-map ps (row_at rows)) m in
      at rows ps k l ∙ each k l ∙ sym (at others qs k (subst (λ n. k < n) e l))),
)
