use Rattle.std.proofs.Common.{◌≡◌, [], ◌∷◌, Some, sym, ap, ◌∙◌, arith}
use Rattle.json.specs.Lex.{tokens}
use Rattle.json.specs.Reads.{token_of}
use Rattle.serde_json.specs.Data.{Data}
use Rattle.wd_json.specs.Json.{IsJsonOf}
use Rattle.wd_json_tokens.specs.Values.{value_at}
use Rattle.wd_json_tokens.specs.declared.unread.Unread.TheVariants as unread
use Rattle.wd_json_tokens.proofs.Lists.{IfErr-from_same}
use Rattle.wd_json_tokens.proofs.Whole.{text_read, text_and_more, text_refused, some_none, at_some}
use Rattle.wd_json_tokens.proofs.text.read_text.Goals as goal

pub returns-in_err-value-clause-refused : goal.returns-in_err-value-clause-refused
returns-in_err-value-clause-refused g c =
    let bytes = c.args.bytes.now in
    let ahead : c.in_ok-reader.reader ≡ tokens bytes = c.in_ok-reader.ensures.ok ∙ ap tokens c.in-Ok.ensures.cases.0 in
    IfErr-from_same _ _ (λ e. e ≡ unread.NotJson → (d : Data) → ¬ IsJsonOf d bytes) c.from_residual-in_err-value.ensures.1
    (λ is d h. some_none d (sym h.1 ∙ text_refused bytes (ap (value_at 127) (sym ahead) ∙ c.in_err-value.ensures.refused is)))

pub returns-then-is_some-clause-refused : goal.returns-then-is_some-clause-refused
returns-then-is_some-clause-refused g c =
    let bytes = c.args.bytes.now in
    let ahead : c.in_ok-reader.reader ≡ tokens bytes = c.in_ok-reader.ensures.ok ∙ ap tokens c.in-Ok.ensures.cases.0 in
    let done = c.in_ok-value.ensures.ok in
    let more = at_some c.next.result _ (λ t. c.read.new.reader ≡ token_of t ∷ c.next.new.self) (sym c.is_some.ensures ∙ c.if-is_some.true) c.next.ensures.value in
    λ is d h. some_none d (sym h.1 ∙ text_and_more bytes done.0 (token_of more.0) c.next.new.self (ap (value_at 127) (sym ahead) ∙ done.1 ∙ ap (λ r. Some (done.0, r)) more.1))

pub returns-clause-ok : goal.returns-clause-ok
returns-clause-ok g c =
    let bytes = c.args.bytes.now in
    let ahead : c.in_ok-reader.reader ≡ tokens bytes = c.in_ok-reader.ensures.ok ∙ ap tokens c.in-Ok.ensures.cases.0 in
    let done = c.in_ok-value.ensures.ok in
    let over : c.read.new.reader ≡ [] = grind arith in
    (done.0, (c.in-Ok.ensures.cases.1, text_read bytes done.0 (ap (value_at 127) (sym ahead) ∙ done.1 ∙ ap (λ r. Some (done.0, r)) over)), done.2)
