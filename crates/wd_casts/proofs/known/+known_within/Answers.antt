use Rattle.std.proofs.Common.{◌-◌, Some, None}
use Rattle.wd_casts.specs.Known.{known_within, whole_known}
use Rattle.wd_casts.specs.Seen.{kinds_seen, term_seen}
use Rattle.wd_casts.specs.Terms.{term_at}
use Rattle.wd_casts.proofs.KnownFacts.{found_is, seen_none, seen_some, within_found, within_none}
use Rattle.wd_casts.proofs.known.+known_within.Goals as goal

pub known_within-returns-then-depth-eq0 : goal.known_within-returns-then-depth-eq0
known_within-returns-then-depth-eq0 t c = within_none (kinds_seen c.args.kinds.now) c.args.depth c.args.tokens.now c.if-depth-eq0.true

pub known_within-returns-in-Some : goal.known_within-returns-in-Some
known_within-returns-in-Some t c =
    let kinds = kinds_seen c.args.kinds.now in
    found_is c.whole_known.result (whole_known (known_within kinds (c.args.depth - 1)) kinds (Some (term_seen c.in-Some.term))) (known_within kinds c.args.depth c.args.tokens.now)
    (within_found kinds c.args.depth c.args.tokens.now (Some (term_seen c.in-Some.term)) c.if-depth-eq0.false (seen_some c.in_ok-term.field-0 (term_at c.args.tokens.now) c.in-Some.term c.in_ok-term.ensures c.in-Some.is)) c.whole_known.ensures

pub known_within-returns-in-None : goal.known_within-returns-in-None
known_within-returns-in-None t c = within_found (kinds_seen c.args.kinds.now) c.args.depth c.args.tokens.now None c.if-depth-eq0.false (seen_none c.in_ok-term.field-0 (term_at c.args.tokens.now) c.in_ok-term.ensures c.in-None.is)
