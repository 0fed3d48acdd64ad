use Rattle.std.proofs.Common.{◌≡◌, Some, None, refl, ap, ◌∙◌, arith}
use Rattle.json.specs.Json.{after_end_array, read_key}
use Rattle.json.proofs.Grammar.{left, read_key-shorter}
use Rattle.serde_json.specs.Data.{no_members, put}
use Rattle.wd_json_tokens.specs.Values.{value_at}
use Rattle.wd_json_tokens.proofs.Turns.{value_at-shorter, item_read, item_refused, items_over, member_read, member_refused, key_refused, members_over, left_item, items_left, items_none, OnErr-of}
use Rattle.wd_json_tokens.proofs.skip.+skip.Goals as goal

pub skip_items-items-preserved : goal.skip_items-items-preserved
skip_items-items-preserved t c =
    let l = c.items in
    let going : (after_end_array l.reader ≡ None) × (c.take_end_array.new.self ≡ l.reader) = grind arith in
    let done = c.in_ok-skip_value.ensures.ok in
    let r = c.skip_value.new.reader in
    let read : value_at c.args.depth l.reader ≡ Some (done.0, r) = rw (← going.1) done.1 in
    l.invariant ∙ ap left (item_read c.args.depth l.reader r done.0 going.0 read) ∙ left_item done.0 _

pub skip_items-items-smaller : goal.skip_items-items-smaller
skip_items-items-smaller t c =
    let l = c.items in
    let going : (after_end_array l.reader ≡ None) × (c.take_end_array.new.self ≡ l.reader) = grind arith in
    let done = c.in_ok-skip_value.ensures.ok in
    let read : value_at c.args.depth l.reader ≡ Some (done.0, c.skip_value.new.reader) = rw (← going.1) done.1 in
    value_at-shorter c.args.depth l.reader c.skip_value.new.reader done.0 read

pub skip_items-returns-in_err-skip_value-clause-refused : goal.skip_items-returns-in_err-skip_value-clause-refused
skip_items-returns-in_err-skip_value-clause-refused t c =
    let l = c.items in
    let going : (after_end_array l.reader ≡ None) × (c.take_end_array.new.self ≡ l.reader) = grind arith in
    OnErr-of _ _ (items_none c.args.depth _ l.reader l.invariant (item_refused c.args.depth l.reader going.0 (rw (← going.1) c.in_err-skip_value.ensures.refused)))

pub skip_items-returns-clause-ok : goal.skip_items-returns-clause-ok
skip_items-returns-clause-ok t c =
    let l = c.items in
    let r = c.take_end_array.new.self in
    items_left c.args.depth _ l.reader r l.invariant (items_over c.args.depth l.reader r (grind arith))

pub skip_members-members-init : goal.skip_members-members-init
skip_members-members-init t c = (no_members, refl)

pub skip_members-returns-in_err-next_key-clause-refused : goal.skip_members-returns-in_err-next_key-clause-refused
skip_members-returns-in_err-next_key-clause-refused t c =
    let l = c.members in
    OnErr-of _ _ (l.invariant.1 ∙ key_refused c.args.depth l.invariant.0 l.reader c.in_err-next_key.ensures.value)

pub skip_members-returns-in_err-skip_value-clause-refused : goal.skip_members-returns-in_err-skip_value-clause-refused
skip_members-returns-in_err-skip_value-clause-refused t c =
    let l = c.members in
    let k = c.in-Some.field-0.now in
    let s = c.next_key.new.self in
    let named : read_key l.reader ≡ Some (Some k, s) = grind arith in
    OnErr-of _ _ (l.invariant.1 ∙ member_refused c.args.depth l.invariant.0 k l.reader s named c.in_err-skip_value.ensures.refused)

pub skip_members-members-preserved : goal.skip_members-members-preserved
skip_members-members-preserved t c =
    let l = c.members in
    let k = c.in-Some.field-0.now in
    let s = c.next_key.new.self in
    let r = c.skip_value.new.reader in
    let named : read_key l.reader ≡ Some (Some k, s) = grind arith in
    let done = c.in_ok-skip_value.ensures.ok in
    (put k done.0 l.invariant.0, l.invariant.1 ∙ member_read c.args.depth l.invariant.0 k l.reader s r done.0 named done.1)

pub skip_members-members-smaller : goal.skip_members-members-smaller
skip_members-members-smaller t c =
    let l = c.members in
    let k = c.in-Some.field-0.now in
    let s = c.next_key.new.self in
    let named : read_key l.reader ≡ Some (Some k, s) = grind arith in
    let done = c.in_ok-skip_value.ensures.ok in
    let less = read_key-shorter l.reader (Some k) s named in
    let lesser = value_at-shorter c.args.depth s c.skip_value.new.reader done.0 done.1 in
    omega arith

pub skip_members-returns-clause-ok : goal.skip_members-returns-clause-ok
skip_members-returns-clause-ok t c =
    let l = c.members in
    (l.invariant.0, l.invariant.1 ∙ members_over c.args.depth l.invariant.0 l.reader c.next_key.new.self (grind arith))
