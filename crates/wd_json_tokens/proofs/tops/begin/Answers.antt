use Rattle.std.proofs.Common.{◌≡◌, [], ◌∷◌, Some, None, option_map, refl, sym, ap, ap₂, ◌∙◌, arith}
use Rattle.json.specs.Token as token
use Rattle.json.specs.Json.{value}
use Rattle.json.proofs.Grammar.{value_is}
use Rattle.json.specs.Reads.{token_of}
use Rattle.serde_json.specs.Read.{of_json, converted}
use Rattle.serde_json.specs.View.{number_view}
use Rattle.wd_json_tokens.specs.Values.{value_at}
use Rattle.wd_json_tokens.proofs.Turns.{at_end, at_null, at_boolean, at_string, at_number, at_no_number, at_list, at_object, too_deep, OnErr-of}
use Rattle.wd_json_tokens.proofs.tops.begin.Goals as goal

pub returns-in_err-token-clause-refused : goal.returns-in_err-token-clause-refused
returns-in_err-token-clause-refused c =
    let empty : c.args.reader.now ≡ [] = grind arith in
    OnErr-of _ _ (ap (value_at c.args.depth) empty ∙ at_end c.args.depth)

pub returns-in-Null-clause-ok : goal.returns-in-Null-clause-ok
returns-in-Null-clause-ok c =
    let first : c.args.reader.now ≡ token_of c.in_ok-token.token ∷ c.next.new.self = grind arith in
    let is : c.args.reader.now ≡ token.null ∷ c.next.new.self = first ∙ ap (λ k. token_of k ∷ c.next.new.self) c.in-Null.is in
    (_, ap (value_at c.args.depth) is ∙ at_null c.args.depth _, refl)

pub returns-in-Bool-clause-ok : goal.returns-in-Bool-clause-ok
returns-in-Bool-clause-ok c =
    let first : c.args.reader.now ≡ token_of c.in_ok-token.token ∷ c.next.new.self = grind arith in
    let is : c.args.reader.now ≡ token.boolean c.in-Bool.b ∷ c.next.new.self = grind (arith, first) in
    (_, ap (value_at c.args.depth) is ∙ at_boolean c.args.depth _ _, refl)

pub returns-in-String-clause-ok : goal.returns-in-String-clause-ok
returns-in-String-clause-ok c =
    let first : c.args.reader.now ≡ token_of c.in_ok-token.token ∷ c.next.new.self = grind arith in
    let is : c.args.reader.now ≡ token.string c.in-String.text.now ∷ c.next.new.self = grind (arith, first) in
    (_, ap (value_at c.args.depth) is ∙ at_string c.args.depth _ _, refl)

pub returns-then-depth-gt0-clause-ok : goal.returns-then-depth-gt0-clause-ok
returns-then-depth-gt0-clause-ok c =
    let first : c.args.reader.now ≡ token_of c.in_ok-token.token ∷ c.next.new.self = grind arith in
    let is : c.args.reader.now ≡ token.begin_array ∷ c.next.new.self = first ∙ ap (λ k. token_of k ∷ c.next.new.self) c.in-BeginArray.is in
    (omega arith, ap (value_at c.args.depth) is ∙ at_list c.args.depth _ (omega arith))

pub returns-then-depth-gt0-2-clause-ok : goal.returns-then-depth-gt0-2-clause-ok
returns-then-depth-gt0-2-clause-ok c =
    let first : c.args.reader.now ≡ token_of c.in_ok-token.token ∷ c.next.new.self = grind arith in
    let is : c.args.reader.now ≡ token.begin_object ∷ c.next.new.self = first ∙ ap (λ k. token_of k ∷ c.next.new.self) c.in-BeginObject.is in
    (omega arith, ap (value_at c.args.depth) is ∙ at_object c.args.depth _ (omega arith))

pub returns-in_err-ok_or-in-Number-clause-refused : goal.returns-in_err-ok_or-in-Number-clause-refused
returns-in_err-ok_or-in-Number-clause-refused c =
    let first : c.args.reader.now ≡ token_of c.in_ok-token.token ∷ c.next.new.self = grind arith in
    let is : c.args.reader.now ≡ token.number c.in-Number.text.now ∷ c.next.new.self = grind (arith, first) in
    let nothing : c.number.result ≡ None = grind arith in
    OnErr-of _ _ (ap (value_at c.args.depth) is ∙ at_no_number c.args.depth _ _ (sym c.number.ensures ∙ ap (option_map number_view) nothing))

pub returns-in_ok-ok_or-in-Number-clause-ok : goal.returns-in_ok-ok_or-in-Number-clause-ok
returns-in_ok-ok_or-in-Number-clause-ok c =
    let first : c.args.reader.now ≡ token_of c.in_ok-token.token ∷ c.next.new.self = grind arith in
    let is : c.args.reader.now ≡ token.number c.in-Number.text.now ∷ c.next.new.self = grind (arith, first) in
    let some : c.number.result ≡ Some c.in_ok-ok_or-in-Number.field-0 = grind arith in
    (_, ap (value_at c.args.depth) is ∙ at_number c.args.depth _ _ _ (sym c.number.ensures ∙ ap (option_map number_view) some), refl)

pub returns-else-depth-gt0-clause-refused : goal.returns-else-depth-gt0-clause-refused
returns-else-depth-gt0-clause-refused c =
    let first : c.args.reader.now ≡ token_of c.in_ok-token.token ∷ c.next.new.self = grind arith in
    let is : c.args.reader.now ≡ token.begin_array ∷ c.next.new.self = first ∙ ap (λ k. token_of k ∷ c.next.new.self) c.in-BeginArray.is in
    let none : c.args.depth ≡ 0 = omega arith in
    ap₂ value_at none is ∙ (too_deep _).0

pub returns-else-depth-gt0-2-clause-refused : goal.returns-else-depth-gt0-2-clause-refused
returns-else-depth-gt0-2-clause-refused c =
    let first : c.args.reader.now ≡ token_of c.in_ok-token.token ∷ c.next.new.self = grind arith in
    let is : c.args.reader.now ≡ token.begin_object ∷ c.next.new.self = first ∙ ap (λ k. token_of k ∷ c.next.new.self) c.in-BeginObject.is in
    let none : c.args.depth ≡ 0 = omega arith in
    ap₂ value_at none is ∙ (too_deep _).1

pub returns-in-EndObject-clause-refused : goal.returns-in-EndObject-clause-refused
unfolding value_at
returns-in-EndObject-clause-refused c =
    let first : c.args.reader.now ≡ token_of c.in_ok-token.token ∷ c.next.new.self = grind arith in
    let none : value c.args.depth c.args.reader.now ≡ None = rw (value_is c.args.depth c.args.reader.now, first) (grind arith) in
    ap (converted of_json) none
