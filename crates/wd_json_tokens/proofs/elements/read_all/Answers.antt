use Rattle.std.proofs.Common.{◌≡◌, [], ◌∷◌, ◌++◌, Some, None, ap, ◌∙◌, arith}
use Rattle.json.specs.Json.{after_end_array, parse_map}
use Rattle.wd_json_tokens.specs.Values.{value_at, items_at}
use Rattle.wd_json_tokens.specs.declared.unread.Unread.TheVariants as unread
use Rattle.wd_json_tokens.proofs.Turns.{value_at-shorter, item_read, item_refused, items_over}
use Rattle.wd_json_tokens.proofs.Lists.{items_before, items_before-no_items, one_more_item, none_before, IfErr-from_same}
use Rattle.wd_json_tokens.proofs.elements.read_all.Goals as goal

pub items-init : goal.items-init
items-init g c = ([], none_before _, c.requires)

pub items-smaller : goal.items-smaller
items-smaller g c =
    let l = c.items in
    let going : (after_end_array l.reader ≡ None) × (c.take_end_array.new.self ≡ l.reader) = grind arith in
    let done = c.in_ok-read_element.ensures.ok in
    let read : value_at c.args.depth l.reader ≡ Some (done.0, c.read_element.new.reader) = rw (← going.1) done.1 in
    value_at-shorter c.args.depth l.reader c.read_element.new.reader done.0 read

pub items-preserved : goal.items-preserved
items-preserved g c =
    let l = c.items in
    let r = c.read_element.new.reader in
    let found = l.invariant.0 in
    let going : (after_end_array l.reader ≡ None) × (c.take_end_array.new.self ≡ l.reader) = grind arith in
    let done = c.in_ok-read_element.ensures.ok in
    let read : value_at c.args.depth l.reader ≡ Some (done.0, r) = rw (← going.1) done.1 in
    (found ++ done.0 ∷ [], l.invariant.1 ∙ ap (parse_map (items_before found)) (item_read c.args.depth l.reader r done.0 going.0 read) ∙ one_more_item found done.0 _, done.2 found l.invariant.2)

pub returns-in_err-read_element-clause-refused : goal.returns-in_err-read_element-clause-refused
returns-in_err-read_element-clause-refused g c =
    let l = c.items in
    let going : (after_end_array l.reader ≡ None) × (c.take_end_array.new.self ≡ l.reader) = grind arith in
    IfErr-from_same _ _ (λ e. e ≡ unread.NotJson → items_at c.args.depth c.args.reader.now ≡ None) c.from_residual.ensures.1
    (λ is. l.invariant.1 ∙ ap (parse_map (items_before l.invariant.0)) (item_refused c.args.depth l.reader going.0 (rw (← going.1) (c.in_err-read_element.ensures.refused is))))

pub returns-clause-ok : goal.returns-clause-ok
returns-clause-ok g c =
    let l = c.items in
    let r = c.take_end_array.new.self in
    (l.invariant.0, l.invariant.1 ∙ ap (parse_map (items_before l.invariant.0)) (items_over c.args.depth l.reader r (grind arith)) ∙ ap (λ ds. Some (ds, r)) (items_before-no_items l.invariant.0), l.invariant.2)
