-- Refusals of a part, which are refusals of the whole.
use Rattle.std.proofs.Common.{◌≡◌, ◌<◌, ◌≤◌, ◌++◌, List, [], length, Result, Err, ap, length-append, arith}
use Rattle.wd_lex.specs.declared.token.Token.{Token}
use Rattle.wd_clauses.specs.declared.error.RespellError.{RespellError}
use Rattle.wd_clauses.specs.declared.error.RespellError.TheVariants as e
use Rattle.wd_clauses.specs.Given.{Writes, most_tokens}

-- a refusal to write so much
abbrev pub Refused : RespellError → List Token → Type 0
Refused e.TooLong tokens = most_tokens < length tokens
Refused e.OutOfMemory tokens = Unit {0}

-- nothing was written
abbrev pub failed : RespellError → Result (Unit {0}) RespellError
failed refusal = Err refusal

pub from_writes : (refusal : RespellError) (old new piece : List Token) → Writes old new (failed refusal) piece → Refused refusal (old ++ piece)
from_writes e.TooLong old new piece h = h
from_writes e.OutOfMemory old new piece h = tt

pub to_writes : (refusal : RespellError) (old new piece : List Token) → Refused refusal (old ++ piece) → Writes old new (failed refusal) piece
to_writes e.TooLong old new piece h = h
to_writes e.OutOfMemory old new piece h = tt

longer : (mid part rest total : List Token) → mid ++ (part ++ rest) ≡ total → most_tokens < length (mid ++ part) → most_tokens < length total
longer mid part rest total so_far lt =
    let same : length (mid ++ (part ++ rest)) ≡ length total = ap length so_far in
    omega (arith, lt, same, length-append mid (part ++ rest), length-append part rest, length-append mid part)

-- where a part is too much after what was written, so is the whole
pub part_refused : (refusal : RespellError) (mid part rest total : List Token) → Refused refusal (mid ++ part) → mid ++ (part ++ rest) ≡ total → Refused refusal total
part_refused e.TooLong mid part rest total h so_far = longer mid part rest total so_far h
part_refused e.OutOfMemory mid part rest total h so_far = tt

-- where fewer tokens are too many, so are more
pub more_refused : (refusal : RespellError) (few many : List Token) → length few ≤ length many → Refused refusal few → Refused refusal many
more_refused e.TooLong few many le h = omega (arith, le, h)
more_refused e.OutOfMemory few many le h = tt

after_start : (old start few many : List Token) → start ≡ [] → length few ≤ length many → length (start ++ few) ≤ length (old ++ many)
after_start old start few many none le =
    let e : length start ≡ 0 = ap length none in
    omega (arith, e, le, length-append start few, length-append old many)

-- also after others
pub operand_refused : (refusal : RespellError) (old start few many : List Token) → start ≡ [] → length few ≤ length many → Refused refusal (start ++ few) → Refused refusal (old ++ many)
operand_refused refusal old start few many none le h = more_refused refusal (start ++ few) (old ++ many) (after_start old start few many none le) h
