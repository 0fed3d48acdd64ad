use Rattle.std.proofs.Common.{◌≡◌, Some, None, ◌∙◌, arith}
use Rattle.json.specs.Json.{read_key}
use Rattle.json.proofs.Grammar.{read_key-shorter}
use Rattle.serde_json.specs.Data.{no_members, put}
use Rattle.wd_json_tokens.specs.Values.{members_at}
use Rattle.wd_json_tokens.specs.declared.unread.Unread.TheVariants as unread
use Rattle.wd_json_tokens.proofs.Turns.{value_at-shorter, member_read, member_refused, key_refused, members_over}
use Rattle.wd_json_tokens.proofs.Lists.{IfErr-of, IfErr-from_same}
use Rattle.wd_json_tokens.proofs.object.read_members.Goals as goal

pub members-smaller : goal.members-smaller
members-smaller g c =
    let l = c.members in
    let k = c.in-Some.name.now in
    let s = c.next_key.new.self in
    let named : read_key l.reader ≡ Some (Some k, s) = grind arith in
    let done = c.in_ok-read_member.ensures.ok in
    let less = read_key-shorter l.reader (Some k) s named in
    let lesser = value_at-shorter c.args.depth s c.read_member.new.reader done.0 done.1 in
    omega arith

pub members-preserved : goal.members-preserved
members-preserved g c =
    let l = c.members in
    let k = c.in-Some.name.now in
    let s = c.next_key.new.self in
    let r = c.read_member.new.reader in
    let named : read_key l.reader ≡ Some (Some k, s) = grind arith in
    let done = c.in_ok-read_member.ensures.ok in
    (put k done.0 l.invariant.0, l.invariant.1 ∙ member_read c.args.depth l.invariant.0 k l.reader s r done.0 named done.1, done.2 l.invariant.0 l.invariant.2, c.in_ok-read_member.ensures.kept ∙ l.invariant.3)

pub returns-in_err-name-clause-refused : goal.returns-in_err-name-clause-refused
returns-in_err-name-clause-refused g c =
    let l = c.members in
    IfErr-of _ (λ e. e ≡ unread.NotJson → members_at c.args.depth no_members c.args.reader.now ≡ None) (λ e is. l.invariant.1 ∙ key_refused c.args.depth l.invariant.0 l.reader c.in_err-name.ensures.value)

pub returns-in_err-read_member-clause-refused : goal.returns-in_err-read_member-clause-refused
returns-in_err-read_member-clause-refused g c =
    let l = c.members in
    let k = c.in-Some.name.now in
    let s = c.next_key.new.self in
    let named : read_key l.reader ≡ Some (Some k, s) = grind arith in
    IfErr-from_same _ _ (λ e. e ≡ unread.NotJson → members_at c.args.depth no_members c.args.reader.now ≡ None) c.from_residual-in_err-read_member.ensures.1
    (λ is. l.invariant.1 ∙ member_refused c.args.depth l.invariant.0 k l.reader s named (c.in_err-read_member.ensures.refused is))

pub returns-clause-ok : goal.returns-clause-ok
returns-clause-ok g c =
    let l = c.members in
    (l.invariant.0, l.invariant.1 ∙ members_over c.args.depth l.invariant.0 l.reader c.next_key.new.self (grind arith), l.invariant.2)
