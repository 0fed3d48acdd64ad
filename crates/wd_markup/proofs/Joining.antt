-- Pages that are joined.
use Rattle.std.proofs.Common.{◌≡◌, ◌∙◌, ℕ, Bool, true, false, cond, List, [], ◌∷◌, ◌++◌, ap, refl, sym, subst}
use Rattle.std.proofs.Math.Logic.{∥∥₁_map, ∥∥₁_elim, ∥∥₁_prop}
use Rattle.std.proofs.lemmas.Grind.{flat_map-append}
use Rattle.std.proofs.lemmas.List.{append-nil}
use Rattle.wd_markup.specs.Escapes.{escaped}
use Rattle.wd_markup.specs.Pages.{IsPage, Piece, Text, Opening, Closing, shown, shown_piece}
use Rattle.wd_markup.specs.declared.vocabulary.Class.{Class}
use Rattle.wd_markup.specs.declared.vocabulary.Tag.{Tag}

-- a page of which nothing is written
pub IsPage-nil : IsPage []
IsPage-nil = ∣ ([], refl) ∣₁

both : (a b : List ℕ) (xs ys : List Piece) → a ≡ shown xs → b ≡ shown ys → a ++ b ≡ shown (xs ++ ys)
both a b xs ys e f = ap (λ t. t ++ b) e ∙ ap (λ t. shown xs ++ t) f ∙ sym (flat_map-append shown_piece xs ys)

-- what one page holds after what another holds
pub IsPage-append : (a b : List ℕ) → IsPage a → IsPage b → IsPage (a ++ b)
IsPage-append a b left right =
    ∥∥₁_elim left ∥∥₁_prop (λ x. ∥∥₁_map right (λ y. (x.0 ++ y.0, both a b x.0 y.0 x.1 y.1)))

-- a single piece
pub IsPage-piece : (piece : Piece) → IsPage (shown_piece piece)
IsPage-piece piece = ∣ (piece ∷ [], sym (append-nil (shown_piece piece))) ∣₁

pub IsPage-text : (text : List ℕ) → IsPage (escaped text)
IsPage-text text = IsPage-piece (Text text)

-- an element with a text
pub IsPage-element : (tag : Tag) (class : Class) (text : List ℕ) → IsPage (shown_piece (Opening tag class) ++ escaped text ++ shown_piece (Closing tag))
IsPage-element tag class text =
    IsPage-append _ _ (IsPage-append _ _ (IsPage-piece (Opening tag class)) (IsPage-text text)) (IsPage-piece (Closing tag))

-- what a page holds after an attempt to add to it
pub IsPage-pushed : (ok : Bool) (old more new : List ℕ) → IsPage old → IsPage more → new ≡ cond ok (old ++ more) old → IsPage new
IsPage-pushed true old more new before added e = subst IsPage (sym e) (IsPage-append old more before added)
IsPage-pushed false old more new before added e = subst IsPage (sym e) before
