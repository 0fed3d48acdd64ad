use Rattle.std.proofs.Common.{◌+◌, ◌-◌, length, take, drop, refl, ap, arith, length-drop}
use Rattle.std.proofs.lemmas.List.{take_rest}
use Rattle.std.specs.List.{list_any}
use Rattle.wd_lex.specs.Characters.{is_line_end}
use Rattle.wd_excuse.specs.Gaps.{HasGap}
use Rattle.wd_excuse.specs.Remarks.{seen}
use Rattle.wd_excuse.proofs.Walk.{above_before, above_now, gap_bytes, goes_on, says_here, there}
use Rattle.wd_excuse.proofs.remark.remark_above.Goals as goal

pub returns-in-Some-remark_in : goal.returns-in-Some-remark_in
returns-in-Some-remark_in c =
    let text = c.args.text.now in
    let at = c.loop-len.at in
    let len = c.in-Some.len in
    let h : HasGap (drop at text) len = there text _ at len (take_rest text at) c.in-Some.ensures.gap in
    says_here text c.args.is_first at c.loop-len.is_above len (take (at + len - at) (drop at text)) (seen c.in-Some-remark_in.remark) c.loop-len.invariant.silent h (gap_bytes (drop at text) len (at + len - at) h (omega arith)) c.in-Some-remark_in.ensures

pub loop-len-preserved-then-is_above : goal.loop-len-preserved-then-is_above
loop-len-preserved-then-is_above c =
    let text = c.args.text.now in
    let at = c.loop-len.at in
    let len = c.in-Some.len in
    let gap = take (at + len - at) (drop at text) in
    let h : HasGap (drop at text) len = there text _ at len (take_rest text at) c.in-Some.ensures.gap in
    record {
      silent = goes_on text c.args.is_first at c.loop-len.is_above len gap (at + len) c.loop-len.is_above c.loop-len.invariant.silent h (gap_bytes (drop at text) len (at + len - at) h (omega arith))
          c.in_default-remark_in.ensures refl (above_before c.loop-len.is_above (list_any is_line_end gap) c.if-is_above.true);
      within = omega (arith, c.in-Some.ensures.within.1, ap length (take_rest text at), length-drop at text, c.loop-len.invariant.within);
    }

pub loop-len-preserved : goal.loop-len-preserved
loop-len-preserved c =
    let text = c.args.text.now in
    let at = c.loop-len.at in
    let len = c.in-Some.len in
    let gap = take (at + len - at) (drop at text) in
    let h : HasGap (drop at text) len = there text _ at len (take_rest text at) c.in-Some.ensures.gap in
    record {
      silent = goes_on text c.args.is_first at c.loop-len.is_above len gap (at + len) c.ends_line-is_above.result c.loop-len.invariant.silent h (gap_bytes (drop at text) len (at + len - at) h (omega arith))
          c.in_default-remark_in.ensures refl (above_now c.loop-len.is_above (list_any is_line_end gap) c.ends_line-is_above.result c.if-is_above.false c.ends_line-is_above.ensures);
      within = omega (arith, c.in-Some.ensures.within.1, ap length (take_rest text at), length-drop at text, c.loop-len.invariant.within);
    }
