use Rattle.std.proofs.Common.{◌≡◌, ◌∙◌, ℕ, Bool, true, false, List, codes, Option, Some, None, ap, sym, refl}
use Rattle.std.specs.Option.{option_map_or, unwrap_or}
use Rattle.std.specs.Str.{bytes_eq}
use Rattle.std.specs.Str.Parse.{ParsesBool}
use lib.Pointwise.{bytes_decides}
use Rattle.clap.specs.Matches.{ReadsOne}
use Rattle.clap.specs.Words.{found_of}
use Rattle.clap.proofs.WalkLemmas.{one_text-rows}
use Rattle.wd_command.proofs.words.is_listed.Goals as goal

abbrev is_true : List ℕ → Bool
is_true text = bytes_eq text (codes "true")

other_text : (text : List ℕ) → (text ≡ codes "true" → ⊥) → is_true text ≡ false
other_text text other = go (is_true text) refl
  where
    go : (is : Bool) → is_true text ≡ is → is_true text ≡ false
    go true is = absurd (other ((bytes_decides text (codes "true")).0 is))
    go false is = is

-- a text is read as a flag that was given exactly where it is `true`
text_read : (E : Type 0) (text : List ℕ) (given : Option Bool) → ReadsOne (ParsesBool {E = E}) text given → unwrap_or given false ≡ is_true text
text_read E text (Some true) reads = rw reads refl
text_read E text (Some false) reads = rw reads refl
text_read E text None reads = sym (other_text text reads.1.0)

flag_read : (E : Type 0) (text : Option (List ℕ)) (given : Option Bool) → (text ≡ None → given ≡ None) → ((t : List ℕ) → text ≡ Some t → ReadsOne (ParsesBool {E = E}) t given)
    → unwrap_or given false ≡ option_map_or is_true text false
flag_read E None given none reads = ap (λ (o : Option Bool). unwrap_or o false) (none refl)
flag_read E (Some t) given none reads = text_read E t given (reads t refl)

pub returns : goal.returns
returns c =
    c.unwrap_or.ensures ∙ flag_read _ _ c.get_one.result c.get_one.ensures.none c.get_one.ensures.value
    ∙ ap (λ (text : Option (List ℕ)). option_map_or is_true text false) (one_text-rows (found_of c.args.given.now) (codes "list"))
