-- A whole text, by the value at the front of its tokens.
use Rattle.std.proofs.Common.{◌≡◌, ℕ, List, [], ◌∷◌, true, Option, Some, None, MatchOption, is_some, option_and_then, refl, ap, ◌∙◌}
use Rattle.json.specs.Token.{Token}
use Rattle.json.specs.Lex.{tokens}
use Rattle.json.specs.Json as json
use Rattle.json.specs.Json.{if_last}
use Rattle.serde_json.specs.Data.{Data}
use Rattle.serde_json.specs.Read.{of_json, converted, read}
use Rattle.wd_json_tokens.specs.Values.{value_at}
use Rattle.wd_json_tokens.proofs.Turns.{converted_some, refused}

abbrev whole : Option (json.Json × List Token) → Option Data
whole o = option_and_then of_json (option_and_then (λ p. if_last p.0 p.1) o)

whole-read : (o : Option (json.Json × List Token)) (d : Data) → converted of_json o ≡ Some (d, []) → whole o ≡ Some d
whole-read o d e = let j = converted_some of_json o d [] e in ap whole j.1 ∙ j.2

whole-more : (o : Option (json.Json × List Token)) (d : Data) (t : Token) (r : List Token) → converted of_json o ≡ Some (d, t ∷ r) → whole o ≡ None
whole-more o d t r e = ap whole (converted_some of_json o d (t ∷ r) e).1

whole-refused : (o : Option (json.Json × List Token)) → converted of_json o ≡ None → whole o ≡ None
whole-refused None e = refl
whole-refused (Some (j, [])) e = refused [] (of_json j) e
whole-refused (Some (j, t ∷ r)) e = refl

pub text_read : (text : List ℕ) (d : Data) → value_at 127 (tokens text) ≡ Some (d, []) → read text ≡ Some d
unfolding value_at
text_read text d e = whole-read (json.value 127 (tokens text)) d e

pub text_and_more : (text : List ℕ) (d : Data) (t : Token) (r : List Token) → value_at 127 (tokens text) ≡ Some (d, t ∷ r) → read text ≡ None
unfolding value_at
text_and_more text d t r e = whole-more (json.value 127 (tokens text)) d t r e

pub text_refused : (text : List ℕ) → value_at 127 (tokens text) ≡ None → read text ≡ None
unfolding value_at
text_refused text e = whole-refused (json.value 127 (tokens text)) e

pub some_none : (d : Data) → Some d ≡ None → ⊥
some_none d e = cc

pub at_some : {A : Type 0} (r : Option A) (P : Type 0) (Q : A → Type 0) → is_some r ≡ true → MatchOption r P Q → (a : A) × Q a
at_some None P Q e h = absurd (cc)
at_some (Some a) P Q e h = (a, h)
