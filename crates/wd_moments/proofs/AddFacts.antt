-- Tokens that are added one list after the other.
use Rattle.std.proofs.Common.{◌≡◌, ◌∙◌, ◌<◌, ◌++◌, List, [], length, ap, sym, append_assoc, length-append, arith}
use Rattle.std.proofs.lemmas.List.{append-nil}
use Rattle.wd_lex.specs.declared.token.Token.{Token}
use Rattle.wd_moments.specs.declared.error.MomentError.{MomentError}
use Rattle.wd_moments.specs.declared.error.MomentError.TheVariants as e
use Rattle.wd_moments.specs.Given.{Fails, most_tokens}

longer : (mid part rest old total : List Token) → mid ++ (part ++ rest) ≡ old ++ total → most_tokens < length (mid ++ part) → most_tokens < length (old ++ total)
longer mid part rest old total so_far lt =
    let same : length (mid ++ (part ++ rest)) ≡ length (old ++ total) = ap length so_far in
    omega (arith, lt, same, length-append mid (part ++ rest), length-append part rest, length-append mid part)

-- where a part is too much, so is the whole
pub adds_fail : (refusal : MomentError) (mid part rest old total : List Token) → Fails refusal mid part → mid ++ (part ++ rest) ≡ old ++ total → Fails refusal old total
adds_fail e.TooLong mid part rest old total h so_far = longer mid part rest old total so_far h
adds_fail e.OutOfMemory mid part rest old total h so_far = tt

-- a part was added, and others are to come
pub adds_more : (mid new part rest old total : List Token) → new ≡ mid ++ part → mid ++ (part ++ rest) ≡ old ++ total → new ++ rest ≡ old ++ total
adds_more mid new part rest old total e so_far = rw (e, append_assoc mid part rest) so_far

-- nothing is to come any more
pub adds_end : (new old total : List Token) → new ++ [] ≡ old ++ total → new ≡ old ++ total
adds_end new old total so_far = sym (append-nil new) ∙ so_far
