use Rattle.std.proofs.Common.{◌<◌, ◌++◌, [], ◌∷◌, map, sym, subst, arith, length}
use Rattle.std.proofs.lemmas.List.{length-map}
use Rattle.wd_analyse.specs.declared.search.Search.{Search}
use Rattle.wd_analyse.specs.Evidence.{closing_of}
use Rattle.wd_analyse.specs.Sources.{starts}
use Rattle.wd_analyse.specs.Steps.{IsNextTried, IsSearch}
use Rattle.wd_analyse.proofs.Searches.{when_full, when_new, when_tried}
use Rattle.wd_analyse.proofs.search.try_columns.Goals as goal
use Rattle.wd_analyse.proofs.search.try_columns.Goals.{else-len-lt-MOST_KEPT-via-then-len-lt-MOST_KEPT+in_ok-insert+else-branch, else-len-lt-MOST_KEPT-via-else-len-lt-MOST_KEPT}

pub returns-in_ok-add_claim : goal.returns-in_ok-add_claim
returns-in_ok-add_claim c = λ before s.
    let few : length (map closing_of c.args.search.now.claims.items) < 64 = omega (arith, length-map c.args.search.now.claims.items closing_of) in
    when_new c.args.facts.now c.args.width before _ _ s c.args.from.now c.insert.new.self (map closing_of c.add_claim.new.claims.items) few
    (subst (λ b. IsNextTried (starts s.keeps.tried) c.args.from.now b c.insert.new.self) c.if-branch.true (c.in_ok-insert.ensures (starts s.keeps.tried) s.has)) c.in_ok-add_claim.ensures

pub returns-else-len-lt-MOST_KEPT : goal.returns-else-len-lt-MOST_KEPT
returns-else-len-lt-MOST_KEPT c =
    elim c.else-len-lt-MOST_KEPT.branch [
      | else-len-lt-MOST_KEPT-via-then-len-lt-MOST_KEPT+in_ok-insert+else-branch w ↦ λ before s.
          let few : length (map closing_of c.args.search.now.claims.items) < 64 = omega (arith, length-map c.args.search.now.claims.items closing_of) in
          subst (λ (found : Search). IsSearch c.args.facts.now c.args.width (before ++ c.args.from.now ∷ []) found.tried (map closing_of found.claims.items)) (sym w.search-is)
          (when_tried c.args.facts.now c.args.width before _ _ s c.args.from.now w.insert.new.self few
          (subst (λ b. IsNextTried (starts s.keeps.tried) c.args.from.now b w.insert.new.self) w.if-branch.false (w.in_ok-insert.ensures (starts s.keeps.tried) s.has)))
      | else-len-lt-MOST_KEPT-via-else-len-lt-MOST_KEPT w ↦ λ before s.
          subst (λ (found : Search). IsSearch c.args.facts.now c.args.width (before ++ c.args.from.now ∷ []) found.tried (map closing_of found.claims.items)) (sym w.search-is)
          (when_full c.args.facts.now c.args.width before _ _ s c.args.from.now (omega (arith, length-map c.args.search.now.claims.items closing_of)))
    ]
