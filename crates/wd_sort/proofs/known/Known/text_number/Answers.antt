use Rattle.std.proofs.Common.{◌≡◌, ◌∙◌, ℕ, List, Some, None, cond, rules, refl, sym, length}
use Rattle.std.specs.Str.{bytes_eq}
use Rattle.std.proofs.lemmas.Map.Text.{hash_map_updates_str}
use Rattle.wd_value.specs.declared.value.Value.TheVariants.{Text}
use Rattle.wd_sort.specs.declared.known.Known.{Known}
use Rattle.wd_sort.specs.Known.{place_in}
use Rattle.wd_sort.proofs.Knowing.{AreKnown-text, Keeps-text}
use Rattle.wd_sort.proofs.known.Known.text_number.Goals as goal

-- the places after the insertion
abbrev placed : Known → Known → List ℕ → ℕ → Type 0
placed old new text number = (t : List ℕ) → place_in new (Text t) ≡ cond (bytes_eq text t) (Some number) (place_in old (Text t))

pub returns-in_ok-insert-in-None-clause-known : goal.returns-in_ok-insert-in-None-clause-known
returns-in_ok-insert-in-None-clause-known c =
    let old = c.args.self.now in
    let new : Known = record { values = c.push.new.self; texts = c.insert.new.self; wholes = c.args.self.now.wholes } in
    let texts : placed old new c.args.text.now (length old.values.items) = λ t.
    (hash_map_updates_str c.args.text.now old.texts c.insert.new.self (Some c.len-number.result) c.in_ok-insert-in-None.ensures.updates t
    ∙ (let is : c.len-number.result ≡ length old.values.items = search rules in λ j. cond (bytes_eq c.args.text.now t) (Some (is j)) (place_in old (Text t)))) in
    AreKnown-text old new c.args.value c.in_ok-push-in-None.ensures.items c.requires.known c.args.text.now c.requires.text texts (λ n. refl)

pub returns-in_ok-insert-in-None-clause-kept : goal.returns-in_ok-insert-in-None-clause-kept
returns-in_ok-insert-in-None-clause-kept c =
    let old = c.args.self.now in
    let new : Known = record { values = c.push.new.self; texts = c.insert.new.self; wholes = c.args.self.now.wholes } in
    let texts : placed old new c.args.text.now (length old.values.items) = λ t.
    (hash_map_updates_str c.args.text.now old.texts c.insert.new.self (Some c.len-number.result) c.in_ok-insert-in-None.ensures.updates t
    ∙ (let is : c.len-number.result ≡ length old.values.items = search rules in λ j. cond (bytes_eq c.args.text.now t) (Some (is j)) (place_in old (Text t)))) in
    let absent : place_in old (Text c.args.text.now) ≡ None = sym c.get.ensures.value ∙ sym c.copied.ensures ∙ c.in-None.is in
    Keeps-text old new c.args.value c.in_ok-push-in-None.ensures.items c.requires.known c.args.text.now c.requires.text texts (λ n. refl) absent
