-- What waits last is written first.
use Rattle.std.proofs.Common.{◌≡◌, ◌∙◌, ℕ, List, [], ◌∷◌, ◌++◌, sym, ap, append_assoc}
use Rattle.std.proofs.lemmas.List.{append-nil}
use Rattle.wd_spelling.specs.declared.spell.Item.{Item}
use Rattle.wd_spelling.specs.Spelling.{item_words, waiting_words}

pub waiting_push : (names : List (List ℕ)) (items : List Item) (last : Item) → waiting_words names (items ++ last ∷ []) ≡ item_words names last ++ waiting_words names items
waiting_push names [] last = sym (append-nil (item_words names last))
waiting_push names (first ∷ items) last =
    ap (λ (words : List (List ℕ)). words ++ item_words names first) (waiting_push names items last)
    ∙ append_assoc (item_words names last) (waiting_words names items) (item_words names first)
