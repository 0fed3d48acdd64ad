-- Lists that are tried, one after the other.
use Rattle.std.proofs.Common.{◌≡◌, ◌∙◌, ℕ, ◌+◌, ◌<◌, List, [], ◌∷◌, ◌++◌, length, drop, get_or, suc, add-one, drop-cons, append_assoc, append-nil, Option, Some, None, String, string_bytes, sym, ap, subst, inr}
use Rattle.std.specs.declared.alloc.Global.{Global}
use Rattle.wd_sites.specs.declared.site.KeyPlace.{KeyPlace}
use Rattle.wd_keys.specs.Changes.{IsKeyChange}
use Rattle.wd_keys.specs.declared.change.Change.{Change}
use Rattle.wd_least.specs.declared.least.Mended.{Mended}
use Rattle.wd_least.specs.First.{AreKeyChanges, Fails, IsFirst}

-- what is answered for the lists that are left is answered for all
pub record Continues (schema query : List ℕ) (places : List KeyPlace) (lists rest : List (String Global)) : Type 0 where
  pub on : (found : Option Mended) → IsFirst schema query places rest found → IsFirst schema query places lists found

-- a list that fails stands before others
pub after_failed : (schema query : List ℕ) (places : List KeyPlace) (keys : String Global) (rest : List (String Global)) (found : Option Mended)
    → Fails schema query places (string_bytes keys) → IsFirst schema query places rest found → IsFirst schema query places (keys ∷ rest) found
after_failed schema query places keys rest None fails is = (fails, is)
after_failed schema query places keys rest (Some mended) fails is = inr (fails, is)

-- past a list that fails
pub past_failed : (schema query : List ℕ) (places : List KeyPlace) (lists rest : List (String Global)) (keys : String Global)
    → Continues schema query places lists (keys ∷ rest) → Fails schema query places (string_bytes keys) → Continues schema query places lists rest
past_failed schema query places lists rest keys is fails = record { on = λ found first. is.on found (after_failed schema query places keys rest found fails first) }

-- the list at a place, and those after it
pub at_list : (lists : List (String Global)) (i : ℕ) (keys : String Global) → i < length lists → keys ≡ get_or lists i keys → drop i lists ≡ keys ∷ drop (i + 1) lists
at_list lists i keys h is = rw add-one (drop-cons lists i keys h ∙ ap (λ (k : String Global). k ∷ drop (suc i) lists) (sym is))

-- changes at the places so far, and others at those that are left
pub record Adds (keys : List ℕ) (places rest : List KeyPlace) (changes : List Change) : Type 0 where
  pub on : (more : List Change) → AreKeyChanges keys rest more → AreKeyChanges keys places (changes ++ more)

-- past a place
pub past_place : (keys : List ℕ) (places rest : List KeyPlace) (changes : List Change) (place : KeyPlace) (change : Change)
    → Adds keys places (place ∷ rest) changes → IsKeyChange place keys change → Adds keys places rest (changes ++ change ∷ [])
past_place keys places rest changes place change is here = record {
  on = λ more are. subst (AreKeyChanges keys places) (sym (append_assoc changes (change ∷ []) more)) (is.on (change ∷ more) (here, are));
}

-- the place of a number, and those after it
pub at_place : (places : List KeyPlace) (i : ℕ) (place : KeyPlace) → i < length places → place ≡ get_or places i place → drop i places ≡ place ∷ drop (i + 1) places
at_place places i place h is = rw add-one (drop-cons places i place h ∙ ap (λ (p : KeyPlace). p ∷ drop (suc i) places) (sym is))

-- past all places
pub all_places : (keys : List ℕ) (places rest : List KeyPlace) (changes : List Change) → Adds keys places rest changes → rest ≡ [] → AreKeyChanges keys places changes
all_places keys places rest changes is e = subst (AreKeyChanges keys places) (append-nil changes) (is.on [] (subst (λ r. AreKeyChanges keys r []) (sym e) tt))

-- past all lists
pub all_lists : (schema query : List ℕ) (places : List KeyPlace) (lists rest : List (String Global)) → Continues schema query places lists rest → rest ≡ []
    → IsFirst schema query places lists None
all_lists schema query places lists rest is e = is.on None (subst (λ r. IsFirst schema query places r None) (sym e) tt)
