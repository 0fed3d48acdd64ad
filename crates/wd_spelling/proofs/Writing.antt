-- Words that are written one after the other.
use Rattle.std.proofs.Common.{◌≡◌, ◌∙◌, ℕ, Bool, true, false, List, [], ◌∷◌, ◌++◌, Bor, refl, sym, ap, if◌then◌else◌}
use Rattle.std.proofs.lemmas.List.{append-nil}
use Rattle.wd_plan.specs.declared.expression.Expr.{Expr}
use Rattle.wd_spelling.specs.declared.spell.Item.{Item}
use Rattle.wd_spelling.specs.declared.spell.Item.TheVariants as item
use Rattle.wd_spelling.specs.Spelling.{IsWordOf, fitting, item_words, waiting_words}
use Rattle.wd_spelling.proofs.Waiting.{waiting_push}

-- what is no operand is one word
pub single_word : (names : List (List ℕ)) (it : Item) (word : List ℕ) → IsWordOf names it word → ((asked : ℕ) (e : Bor Expr) → it ≡ item.Operand asked e → ⊥) → item_words names it ≡ word ∷ []
single_word names (item.Word text) word is other = ap (λ (w : List ℕ). w ∷ []) (sym is)
single_word names (item.Name c) word is other = ap (λ (w : List ℕ). w ∷ []) (sym is)
single_word names (item.Literal v) word is other = ap (λ (w : List ℕ). w ∷ []) (sym is)
single_word names (item.Operand asked e) word is other = absurd (other asked e refl)

-- it stands before all that waits
pub word_first : (names : List (List ℕ)) (whole text : List ℕ) (room : ℕ) (items rest : List Item) (it : Item) (word : List ℕ)
    → whole ≡ text ++ fitting room (waiting_words names items) → items ≡ rest ++ it ∷ [] → item_words names it ≡ word ∷ []
    → whole ≡ text ++ fitting room (word ∷ waiting_words names rest)
word_first names whole text room items rest it word before last single =
    before ∙ ap (λ (words : List (List ℕ)). text ++ fitting room words)
    (ap (waiting_words names) last ∙ (waiting_push names rest it ∙ ap (λ (words : List (List ℕ)). words ++ waiting_words names rest) single))

-- nothing follows a word that did not fit
pub word_last : (fits : Bool) (whole new more : List ℕ) → fits ≡ false → whole ≡ new ++ (if fits then more else []) → new ≡ whole
word_last fits whole new more e h = sym (h ∙ (ap (λ (b : Bool). new ++ (if b then more else [])) e ∙ append-nil new))

-- the rest follows one that did
pub word_between : (fits : Bool) (whole new more : List ℕ) → fits ≡ true → whole ≡ new ++ (if fits then more else []) → whole ≡ new ++ more
word_between fits whole new more e h = h ∙ ap (λ (b : Bool). new ++ (if b then more else [])) e
