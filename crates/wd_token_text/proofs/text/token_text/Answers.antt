use Rattle.std.proofs.Common.{◌∙◌, ap, sym}
use Rattle.wd_lex.specs.Lexed.{kinds_of}
use Rattle.wd_token_text.specs.Texts.{AreWritable}
use Rattle.wd_token_text.proofs.WrittenFacts.{no_tokens, read_are_writable, some_where_same, writable_are_same, writable_is_read}
use Rattle.wd_token_text.proofs.text.token_text.Goals as goal

pub returns-in-Ok-clause-some : goal.returns-in-Ok-clause-some
returns-in-Ok-clause-some c =
    let tokens = c.args.tokens.now in
    let is = c.as_bytes.ensures.value ∙ c.as_str.ensures.value ∙ c.in_ok-text.ensures in
    let own = c.in-Ok.own.items in
    let seen = ap kinds_of c.deref.ensures.value in
    some_where_same c.say_the_same.result c.in_ok-text.text c.then_some.result (AreWritable tokens) c.then_some.ensures
    (λ same. read_are_writable c.as_bytes.result.now tokens own is c.in-Ok.ensures.tokens (sym seen ∙ c.say_the_same.ensures.same same))
    (λ writable. c.say_the_same.ensures.other (seen ∙ writable_are_same c.as_bytes.result.now tokens own is c.as_bytes.ensures.utf8 c.in-Ok.ensures.lexed writable))

pub returns : goal.returns
returns c =
    let tokens = c.args.tokens.now in
    let is = c.as_bytes.ensures.value ∙ c.as_str.ensures.value ∙ c.in_ok-text.ensures in record {
      read = tt;
      text = tt;
      some = (
        (λ h. absurd (let no : ⊥ = cc in no)),
        (λ writable.
            let read = writable_is_read c.as_bytes.result.now tokens is c.as_bytes.ensures.utf8 writable in
            absurd (no_tokens c.in-Err.error read.tokens c.in_default.not-OutOfMemory (c.in-Err.ensures.lexed read.tokens read.lexed))),
      );
    }
