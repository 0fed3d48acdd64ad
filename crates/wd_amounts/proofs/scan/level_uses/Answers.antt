use Rattle.std.proofs.Common.{map, arith}
use Rattle.std.proofs.lemmas.Grind.{common_steps}
use Rattle.wd_amounts.specs.Names.{level_uses}
use Rattle.wd_amounts.specs.Seen.{known_seen, use_seen}
use Rattle.wd_amounts.specs.Terms.{unit_of}
use Rattle.wd_amounts.proofs.ScanFacts.{level_uses_more}
use Rattle.wd_amounts.proofs.scan.level_uses.Goals as goal

pub loop-rest-preserved : goal.loop-rest-preserved
loop-rest-preserved c =
    let unit = unit_of (known_seen c.args.known.now) in
    let l = c.loop-rest in (
      level_uses_more unit c.args.level l.here c.scan_after-here.result l.rest.now c.first-item.result c.is_at.result c.current_operand-found.result
          (map use_seen l.uses.items) (map use_seen c.push_here.new.uses.items) (level_uses unit c.args.level c.args.tokens.now)
          c.in-len1-up.len_at_least c.first-item.is c.is_at.ensures c.current_operand-found.ensures c.scan_after-here.ensures.value c.in_ok-push_here.ensures l.invariant.0,
      grind (arith, common_steps, c.scan_after-here.ensures.within, l.invariant.1, c.in-len1-up.len_at_least),
    )
