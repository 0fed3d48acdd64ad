-- No query grows shorter where members are taken out.
use Rattle.std.proofs.Common.{◌≤◌, List, [], ◌∷◌, length, Bool, true, false, if◌then◌else◌, arith, length-append, Err}
use Rattle.wd_clauses.specs.declared.error.RespellError.{RespellError}
use Rattle.wd_clauses.specs.declared.error.RespellError.TheVariants.{TooLong, OutOfMemory}
use Rattle.wd_lex.specs.declared.token.Token.{Token}
use Rattle.wd_with.specs.declared.place.Place.{Place}
use Rattle.wd_with.specs.declared.place.Place.TheVariants.{Elsewhere}
use Rattle.wd_with.specs.Places.{levels_after}
use Rattle.wd_with.specs.Members.{NamedQuery}
use Rattle.wd_with.specs.Derived.{derived, is_read, replaced, written}
use Rattle.wd_with.specs.Expanded.{Said, said, without}
use Rattle.wd_clauses.specs.Given.{Makes}

written_length : (is : Bool) (query : List Token) (token : Token) (after : List Token) → 1 ≤ length (if is then derived query token after else token ∷ [])
written_length true query token after = omega (arith, length-append {A = Token})
written_length false query token after = omega arith

pub replaced_length : (member : NamedQuery) (levels : List Place) (tokens : List Token) → length tokens ≤ length (replaced member levels tokens)
unfolding replaced
replaced_length member levels [] = omega arith
replaced_length member levels (token ∷ after) =
    let one = written_length (is_read member levels token after) member.query token after in
    let more = replaced_length member (levels_after levels token.kind) after in
    omega (arith, length-append (written member levels token after) (replaced member (levels_after levels token.kind) after))

pub without_length : (members : List NamedQuery) (query : Said) → length query.tokens ≤ length (without members query).tokens
without_length [] query = omega arith
without_length (member ∷ members) query =
    let more = without_length members query in
    omega (arith, replaced_length member (Elsewhere ∷ []) (without members query).tokens)

-- what is too long stays so where more is written
pub makes_longer : (e : RespellError) (small big : Said) → length small.tokens ≤ length big.tokens → Makes said (λ s. s.tokens) (Err e) small → Makes said (λ s. s.tokens) (Err e) big
makes_longer TooLong small big le h = omega arith
makes_longer OutOfMemory small big le h = tt
