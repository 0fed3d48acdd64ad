use Rattle.std.proofs.Common.{◌<◌, ◌≤◌, ◌∙◌, ap, length, map, subst, sym, rules}
use Rattle.std.proofs.lemmas.List.{get_or-map, length-map}
use Rattle.wd_candidates.specs.Candidates.{cell}
use Rattle.wd_varied.specs.Patterns.{filled, filling_of}
use Rattle.wd_varied.proofs.Places.{place_end, place_next}
use Rattle.wd_varied.proofs.tables.filled_row.Goals as goal

pub loop-c-preserved : goal.loop-c-preserved
loop-c-preserved c =
    let fillings = c.args.fillings.now in
    let at = c.loop-c.c in
    let f = c.index-fillings-c.result in
    let within : at < length fillings = search rules in
    let named = ap (filling_of c.args.suggested.now.all.items) c.index-fillings-c.is ∙ sym (get_or-map (filling_of c.args.suggested.now.all.items) fillings at f (filling_of c.args.suggested.now.all.items f) within) in
    let value = c.in_ok-value.ensures ∙ (λ j. cell (c.value_if_fixed.ensures j) (filled (filling_of c.args.suggested.now.all.items f) c.args.rows c.args.row)) in
    let next = place_next _ c.loop-c.made.items _ (map (filling_of c.args.suggested.now.all.items) fillings) at (filling_of c.args.suggested.now.all.items f) c.in_ok-value.value (subst (λ n. at < n) (sym (length-map fillings (filling_of c.args.suggested.now.all.items))) within) named value c.loop-c.invariant in
    rw c.in_ok-push.ensures.items next

pub returns : goal.returns
returns c =
    let fillings = c.args.fillings.now in
    let all : length fillings ≤ c.loop-c.c = search rules in
    place_end _ c.loop-c.made.items _ (map (filling_of c.args.suggested.now.all.items) fillings) c.loop-c.c (subst (λ n. n ≤ c.loop-c.c) (sym (length-map fillings (filling_of c.args.suggested.now.all.items))) all) c.loop-c.invariant
